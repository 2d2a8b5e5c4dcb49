use Rattle.std.proofs.Common.{◌≡◌, drop, map}
use Rattle.ft_op.specs.Stages.{Stage}
use Rattle.ft_changes.specs.Beside.{is_changed_by}
use Rattle.ft_plain.proofs.own.reading.is_changed_by_any.Given as goal

-- none of those so far does, so the others decide
abbrev pub invariant-loop-stage : goal.invariant-loop-stage
invariant-loop-stage l =
    is_changed_by (map (λ (t : Stage). t.sub_operation) (drop l.stage-index l.stages)) l.interval
    ≡ is_changed_by (map (λ (t : Stage). t.sub_operation) l.stages) l.interval
