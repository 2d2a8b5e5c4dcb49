use Rattle.std.proofs.Common.{◌≡◌, take, map}
use Rattle.ft_sumdoc.specs.Items.{run_of}
use Rattle.ft_sumdoc.specs.Runs.{kept_run}
use Rattle.ft_sumdoc.proofs.run_reading.keep_runs.Given as goal

-- what was passed is kept
abbrev pub invariant-loop-run : goal.invariant-loop-run
invariant-loop-run l = l.kept ≡ map kept_run (map run_of (take l.run-index l.runs))
