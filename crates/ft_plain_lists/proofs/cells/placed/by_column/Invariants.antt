use Rattle.std.proofs.Common.{◌≡◌, ◌++◌, drop, filter, map}
use Rattle.ft_props.specs.Element.{ElementId, same_id}
use Rattle.ft_plain_lists.specs.NamedLists.{listed}
use Rattle.ft_plain_lists.specs.PlacedValues.{cell_behind}
use Rattle.ft_plain_lists.proofs.cells.placed.by_column.Given as goal

-- the cells of a column so far, and those among the rest, are all of the column
abbrev pub invariant-loop-cell : goal.invariant-loop-cell
invariant-loop-cell l =
    (x : ElementId) → map cell_behind (listed x l.columns.lists) ++ filter (λ cell. same_id x cell.col) (drop l.cell-index l.cells)
    ≡ filter (λ cell. same_id x cell.col) l.cells
