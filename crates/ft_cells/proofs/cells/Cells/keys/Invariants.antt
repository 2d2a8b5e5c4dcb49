use Rattle.std.proofs.Common.{◌≡◌, ◌++◌}
use Rattle.ft_cells.proofs.HeldKeys.{held_keys}
use Rattle.ft_cells.proofs.cells.Cells.keys.Given as goal

abbrev pub invariant-loop-place : goal.invariant-loop-place
invariant-loop-place l = l.keys.items ++ held_keys l.place-iterator ≡ held_keys l.initial.place-iterator
