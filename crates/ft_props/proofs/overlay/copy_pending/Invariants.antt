use Rattle.std.proofs.Common.{◌≡◌, take}
use Rattle.ft_props.proofs.overlay.copy_pending.Given as goal

-- what was passed is copied
abbrev pub invariant-loop-stage : goal.invariant-loop-stage
invariant-loop-stage l = l.copy.items ≡ take l.stage-index l.pending
