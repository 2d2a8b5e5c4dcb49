use Rattle.std.proofs.Common.{◌≡◌, ◌++◌, drop}
use Rattle.ft_props.specs.Steps.{lowered_runs}
use Rattle.ft_plain_lists.proofs.runs.lowered_runs.Given as goal

-- those that are lowered, and those of the rest, are all
abbrev pub invariant-loop-start : goal.invariant-loop-start
invariant-loop-start l = l.lowered.items ++ lowered_runs l.removed (drop l.start-index l.runs) ≡ lowered_runs 0 l.runs
