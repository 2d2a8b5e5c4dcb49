use Rattle.std.proofs.Common.{◌≡◌, ◌++◌, drop, map}
use Rattle.ft_op.specs.Operation.{OnText}
use Rattle.ft_plain_document.specs.SubOperations.{sub_operation_of}
use Rattle.ft_plain_document.proofs.stages.text_group.Given as goal

-- the sub-operations so far, and those of the rest, are all
abbrev pub invariant-loop-op : goal.invariant-loop-op
invariant-loop-op l = map sub_operation_of l.ops.items ++ map (λ op. OnText op) (drop l.op-index l.group) ≡ map (λ op. OnText op) l.group
