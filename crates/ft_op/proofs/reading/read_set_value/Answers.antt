use Rattle.std.proofs.Common.{sym, ◌∙◌, rules}
use Rattle.serde_json.specs.View.{view}
use Rattle.ft_op.specs.Reading.{set_value}
use Rattle.ft_op.proofs.ReadValues.{not_null}
use Rattle.ft_op.proofs.reading.read_set_value.Goals as goal

pub returns : goal.returns
unfolding set_value
returns c = record {
  ok = search rules;
  err = search rules;
  formed =
      let kept = c.in_ok-read_kept_value.ensures in
      (kept.kept, not_null (view c.args.value.now) c.in_ok-read_kept_value.field-0 kept.reads_back (sym c.is_null.ensures ∙ c.if-is_null.false));
}
