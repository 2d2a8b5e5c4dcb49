use Rattle.std.proofs.Common.{◌≡◌, ◌++◌, length, map}
use Rattle.std.specs.Prelude.{flat_map}
use Rattle.ft_op.specs.Pieces.{base_op_of}
use Rattle.ft_plain_document.specs.SubOperations.{sub_operation_of}
use Rattle.ft_plain.proofs.resent.push_base_ops.Given as goal

-- the operations so far, and those of the rest, are all
abbrev pub invariant-loop-op : goal.invariant-loop-op
invariant-loop-op l = l.ops ++ flat_map base_op_of (map sub_operation_of l.rest.items) ≡ l.initial.ops ++ flat_map base_op_of (map sub_operation_of l.fn.rest.items)

abbrev pub decreases-loop-op : goal.decreases-loop-op
decreases-loop-op l = length l.rest.items
