use Rattle.std.proofs.Common.{sym, rules}
use Rattle.serde_json.specs.View.{view}
use Rattle.ft_op.specs.TextGrammar.{interval_add}
use Rattle.ft_op.proofs.ReadNumbers.{interval_ends-formed}
use Rattle.ft_op.proofs.interval_reading.read_interval_add.Goals as goal

pub returns : goal.returns
unfolding interval_add
returns c = record {
  ok = search rules;
  err = search rules;
  formed =
      (interval_ends-formed (view c.args.value.now) c.in_ok-read_ends.field-0 (sym c.in_ok-read_ends.ensures), c.in_ok-read_given_properties.ensures.formed);
}
