use Rattle.std.proofs.Common.{rules}
use Rattle.serde_json.specs.View.{view}
use Rattle.ft_op.proofs.ReadValues.{not_null}
use Rattle.ft_sumdoc.proofs.shown_reading.CellItemKeptItem.keep.Goals as goal

pub returns : goal.returns
returns c = record {
  ok = search rules;
  err = search rules;
  formed =
      let kept = c.in_ok-canonical.ensures in
      (kept.kept, not_null (view c.args.self.now.value.now) c.in_ok-canonical.field-0 kept.reads_back c.requires);
}
