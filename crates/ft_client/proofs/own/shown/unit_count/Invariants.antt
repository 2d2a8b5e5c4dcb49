use Rattle.std.proofs.Common.{◌≡◌, ◌+◌, drop}
use Rattle.ft_sumdoc.specs.Runs.{unit_count}
use Rattle.ft_client.proofs.own.shown.unit_count.Given as goal

-- so many were counted, and then those ahead are all
abbrev pub invariant-loop-run : goal.invariant-loop-run
invariant-loop-run l = l.count + unit_count (drop l.run-index l.runs) ≡ unit_count l.runs
