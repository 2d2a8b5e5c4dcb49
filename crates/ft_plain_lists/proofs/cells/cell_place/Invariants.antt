use Rattle.std.proofs.Common.{◌≡◌, drop}
use Rattle.ft_op.specs.Cells.{is_cell}
use Rattle.ft_plain_lists.specs.Places.{found_place}
use Rattle.ft_plain_lists.proofs.PlacedItem.{place_from}
use Rattle.ft_plain_lists.proofs.cells.cell_place.Given as goal

-- the place in all is as many places on as were passed
abbrev pub invariant-loop-i : goal.invariant-loop-i
invariant-loop-i l = place_from l.i (found_place (is_cell l.row l.col) (drop l.i l.cells)) ≡ found_place (is_cell l.row l.col) l.cells
