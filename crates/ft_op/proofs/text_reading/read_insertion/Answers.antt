use Rattle.std.proofs.Common.{sym, rules}
use Rattle.serde_json.specs.View.{view}
use Rattle.ft_json.specs.declared.fields.Field.TheVariants.{Pos1}
use Rattle.ft_op.specs.TextGrammar.{insertion}
use Rattle.ft_op.proofs.ReadNumbers.{count_field-is_count, segment-is_segment}
use Rattle.ft_op.proofs.text_reading.read_insertion.Goals as goal

pub returns : goal.returns
unfolding insertion
returns c = record {
  ok = search rules;
  err = search rules;
  formed = (
    count_field-is_count (view c.args.value.now) Pos1 c.in_ok-pos.pos (sym c.in_ok-pos.ensures),
    segment-is_segment (view c.in_ok-seg.seg.now) c.in_ok-read_segment.field-0 c.in_ok-read_segment.ensures.ok,
    c.in_ok-read_given_properties.ensures.formed,
  );
}
