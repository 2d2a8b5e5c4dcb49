use Rattle.std.proofs.Common.{◌≡◌, ◌++◌, drop, filter, map}
use Rattle.ft_props.specs.Element.{ElementId, same_id}
use Rattle.ft_plain_lists.specs.NamedLists.{listed}
use Rattle.ft_plain_lists.specs.PlacedCells.{placed_at}
use Rattle.ft_plain_lists.specs.PlacedValues.{cell_behind, placed_value}
use Rattle.ft_plain_lists.proofs.cells.placed.place_column.Given as goal

-- the values of a row so far, and those among the rest, are the earlier ones with all of the column
abbrev pub invariant-loop-cell : goal.invariant-loop-cell
invariant-loop-cell l =
    (x : ElementId) → map placed_value (listed x l.rows.lists) ++ map (placed_at l.place) (filter (λ cell. same_id x cell.row) (map cell_behind (drop l.cell-index l.cells)))
    ≡ map placed_value (listed x l.initial.rows.lists) ++ map (placed_at l.place) (filter (λ cell. same_id x cell.row) (map cell_behind l.cells))
