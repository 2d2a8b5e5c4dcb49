use Rattle.std.proofs.Common.{◌≡◌, ◌++◌, None, drop, map}
use Rattle.ft_plain_lists.specs.PlacedCells.{first_records}
use Rattle.ft_plain_lists.specs.PlacedValues.{placed_value}
use Rattle.ft_plain_lists.proofs.shown_grid.push_row.Given as goal

-- the cells so far, and those of the rest of the values, are all of the row
abbrev pub invariant-loop-placed : goal.invariant-loop-placed
invariant-loop-placed l =
    l.shown ++ first_records l.row l.last (map placed_value (drop l.placed-index l.values)) ≡ l.initial.shown ++ first_records l.row None (map placed_value l.values)
