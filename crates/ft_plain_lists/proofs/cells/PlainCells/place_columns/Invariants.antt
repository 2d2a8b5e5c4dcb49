use Rattle.std.proofs.Common.{◌≡◌, ◌≤◌, ◌++◌, drop, map}
use Rattle.ft_props.specs.Element.{ElementId}
use Rattle.ft_msg.specs.Content.{stage_view}
use Rattle.ft_plain_lists.specs.NamedLists.{listed}
use Rattle.ft_plain_lists.specs.PlacedCells.{placed_cells}
use Rattle.ft_plain_lists.specs.PlacedValues.{placed_value}
use Rattle.ft_plain_lists.proofs.cells.PlainCells.place_columns.Given as goal

-- the values of a row so far, and those in the rest of the columns, are all of the row
abbrev pub invariant-loop-col : goal.invariant-loop-col
invariant-loop-col l = record {
  counted : l.place ≤ l.col-index;
  all : (x : ElementId) → map placed_value (listed x l.rows.lists) ++ placed_cells l.self x l.place (stage_view l.stage (drop l.col-index l.cols))
      ≡ placed_cells l.self x 0 (stage_view l.stage l.cols);
}
