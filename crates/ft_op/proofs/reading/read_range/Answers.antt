use Rattle.std.proofs.Common.{sym}
use Rattle.serde_json.specs.View.{view}
use Rattle.ft_json.specs.declared.fields.Field.TheVariants.{Pos1, Pos2}
use Rattle.ft_json.proofs.Counts.{count_field-below}
use Rattle.ft_op.proofs.reading.read_range.Goals as goal

pub reversed-requires : goal.reversed-requires
reversed-requires c = record {
  first = count_field-below (view c.args.value.now) Pos1 c.in_ok-pos1.pos1 (sym c.in_ok-pos1.ensures);
  second = count_field-below (view c.args.value.now) Pos2 c.in_ok-pos2.pos2 (sym c.in_ok-pos2.ensures);
}
