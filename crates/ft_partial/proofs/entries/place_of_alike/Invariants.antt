use Rattle.std.proofs.Common.{◌≤◌, length}
use Rattle.ft_partial.proofs.entries.place_of_alike.Given as goal

abbrev pub invariant-loop-j : goal.invariant-loop-j
invariant-loop-j l = l.j ≤ length l.entries

abbrev pub decreases-loop-j : goal.decreases-loop-j
decreases-loop-j l = l.j
