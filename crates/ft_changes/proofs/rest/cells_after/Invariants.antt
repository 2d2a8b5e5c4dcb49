use Rattle.std.proofs.Common.{◌≡◌, ◌++◌}
use Rattle.ft_changes.specs.Rest.{moved_number}
use Rattle.ft_changes.specs.Shown.{moved_cells}
use Rattle.ft_changes.proofs.rest.cells_after.Given as goal

-- the cells so far have moved, and the rest completes the whole
abbrev pub invariant-loop-cell : goal.invariant-loop-cell
invariant-loop-cell l =
    l.moved ++ moved_cells l.target (moved_number l.shift) l.cell-iterator.rest.items ≡ moved_cells l.target (moved_number l.shift) l.fn.cells
