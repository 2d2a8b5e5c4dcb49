use Rattle.std.proofs.Common.{◌≡◌, ◌++◌, drop}
use Rattle.ft_msg.specs.SummaryOf.{unit_runs}
use Rattle.ft_plain_summary.specs.OpenRuns.{runs_behind}
use Rattle.ft_plain_summary.proofs.units.unit_runs.Given as goal

-- the runs so far, and those of the rest with the open one before them, are all
abbrev pub invariant-loop-e : goal.invariant-loop-e
invariant-loop-e l = l.runs ++ runs_behind l.last (drop l.e-index l.items) ≡ unit_runs l.items
