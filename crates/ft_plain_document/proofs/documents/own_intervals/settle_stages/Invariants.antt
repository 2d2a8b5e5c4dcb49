use Rattle.std.proofs.Common.{◌≡◌, drop}
use Rattle.ft_op.specs.Stages.{shown_intervals}
use Rattle.ft_plain_document.proofs.documents.own_intervals.settle_stages.Given as goal

-- the rest of the stages makes of the intervals what all made of those at first
abbrev pub invariant-loop-stage : goal.invariant-loop-stage
invariant-loop-stage l = shown_intervals l.items l.shown (drop l.stage-index l.stages) ≡ shown_intervals l.items l.initial.shown l.stages
