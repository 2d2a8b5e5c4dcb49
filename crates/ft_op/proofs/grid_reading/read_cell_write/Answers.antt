use Rattle.std.proofs.Common.{sym, rules}
use Rattle.serde_json.specs.View.{view}
use Rattle.ft_json.specs.declared.fields.Field.TheVariants.{Col, Row}
use Rattle.ft_op.specs.GridGrammar.{cell_write}
use Rattle.ft_op.proofs.ReadNumbers.{count_field-is_count}
use Rattle.ft_op.proofs.grid_reading.read_cell_write.Goals as goal

pub returns : goal.returns
unfolding cell_write
returns c = record {
  ok = search rules;
  err = search rules;
  formed =
      let d = view c.args.value.now in (
        count_field-is_count d Row c.in_ok-row.row (sym c.in_ok-row.ensures),
        count_field-is_count d Col c.in_ok-col.col (sym c.in_ok-col.ensures),
        c.in_ok-read_kept_value.ensures.kept,
      );
}
