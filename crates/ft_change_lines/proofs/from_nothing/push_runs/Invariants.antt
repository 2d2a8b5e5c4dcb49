use Rattle.std.proofs.Common.{◌≡◌, ◌++◌, drop, map}
use Rattle.ft_change_lines.specs.FromNothing.{style_of}
use Rattle.ft_change_lines.proofs.from_nothing.push_runs.Given as goal

-- the changes so far, and those of the rest, are all
abbrev pub invariant-loop-run : goal.invariant-loop-run
invariant-loop-run l = l.changes ++ map style_of (drop l.run-index l.runs) ≡ l.initial.changes ++ map style_of l.runs
