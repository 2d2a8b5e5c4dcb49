use Rattle.std.proofs.Common.{◌≡◌, ◌++◌, map}
use Rattle.ft_matrix.specs.Seen.{cell_of}
use Rattle.ft_matrix.proofs.views.listed.Given as goal

abbrev pub invariant-loop-row : goal.invariant-loop-row
invariant-loop-row l = l.cells ++ map cell_of l.row-iterator ≡ map cell_of l.initial.row-iterator
