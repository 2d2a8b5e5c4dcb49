use Rattle.std.proofs.Common.{sym, rules}
use Rattle.serde_json.specs.View.{view}
use Rattle.ft_op.specs.TextGrammar.{annotation}
use Rattle.ft_op.proofs.ReadNumbers.{range-is_range}
use Rattle.ft_op.proofs.text_reading.read_annotation.Goals as goal

pub returns : goal.returns
unfolding annotation
returns c = record {
  ok = search rules;
  err = search rules;
  formed = (
    range-is_range (view c.args.value.now) (c.in_ok-pos1.pos1, c.in_ok-pos1.pos2) (sym c.in_ok-pos1.ensures),
    c.in_ok-props.ensures.formed,
    c.in_ok-adjust.ensures.formed,
  );
}
