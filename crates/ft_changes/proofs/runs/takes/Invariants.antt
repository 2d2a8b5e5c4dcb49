use Rattle.std.proofs.Common.{◌≡◌, ◌++◌, drop, map}
use Rattle.ft_changes.specs.Told.{taken_run}
use Rattle.ft_changes.proofs.runs.takes.Given as goal

-- the changes so far, and those of the rest, are all
abbrev pub invariant-loop-run : goal.invariant-loop-run
invariant-loop-run l = l.changes ++ map taken_run (drop l.run-index l.runs) ≡ map taken_run l.runs
