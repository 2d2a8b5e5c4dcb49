use Rattle.std.proofs.Common.{◌≡◌, ◌++◌, map}
use Rattle.ft_changes.specs.Told.{styled_run}
use Rattle.ft_changes.proofs.runs.styles.Given as goal

-- the changes so far, and those of the rest, are all
abbrev pub invariant-loop-run : goal.invariant-loop-run
invariant-loop-run l = l.changes ++ map styled_run l.run-iterator.rest.items ≡ map styled_run l.fn.runs.items
