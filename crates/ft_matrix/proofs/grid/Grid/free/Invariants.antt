use Rattle.std.proofs.Common.{ℕ, Bool, length}
use Rattle.ft_matrix.specs.Compacted.{AreGone, FreesUnits}
use Rattle.ft_matrix.specs.Sides.{units_at}
use Rattle.ft_matrix.proofs.Freed.{IsPartly}
use Rattle.ft_matrix.proofs.grid.Grid.free.Given as goal

-- some runs are freed, and the others are to be
abbrev pub invariant-loop-run : goal.invariant-loop-run
invariant-loop-run l = record {
  gone : AreGone l.taken.items (units_at l.target l.self);
  freed : (done : ℕ → Bool) × (IsPartly done l.taken.items l.initial.taken.items × FreesUnits l.target done l.initial.self l.self);
}

abbrev pub decreases-loop-run : goal.decreases-loop-run
decreases-loop-run l = length l.taken.items
