use Rattle.std.proofs.Common.{sym, rules}
use Rattle.serde_json.specs.View.{view}
use Rattle.ft_op.specs.TextGrammar.{interval_change}
use Rattle.ft_op.proofs.ReadNumbers.{new_ends-formed}
use Rattle.ft_op.proofs.interval_reading.read_interval_change.Goals as goal

pub returns : goal.returns
unfolding interval_change
returns c = record {
  ok = search rules;
  err = search rules;
  formed =
      (new_ends-formed (view c.args.value.now) c.in_ok-read_new_ends.field-0 (sym c.in_ok-read_new_ends.ensures), c.in_ok-read_given_properties.ensures.formed);
}
