use Rattle.std.proofs.Common.{◌≡◌, ◌++◌, drop, map}
use Rattle.ft_changes.specs.Told.{taken_units}
use Rattle.ft_changes.proofs.runs.takes_of_units.Given as goal

-- the changes so far, and those of the rest, are all
abbrev pub invariant-loop-run : goal.invariant-loop-run
invariant-loop-run l = l.changes ++ map (taken_units l.target) (drop l.run-index l.runs) ≡ map (taken_units l.target) l.runs
