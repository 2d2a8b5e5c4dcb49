use Rattle.std.proofs.Common.{◌≡◌, drop}
use Rattle.ft_props.specs.Steps.{put_stages}
use Rattle.ft_plain_lists.proofs.lists.pending.put_stages.Given as goal

-- the rest of the stages makes of the list what all made of the one at first
abbrev pub invariant-loop-stage : goal.invariant-loop-stage
invariant-loop-stage l = put_stages l.items l.rebuilt.items (drop l.stage-index l.stages) ≡ put_stages l.items l.initial.rebuilt.items l.stages
