use Rattle.std.proofs.Common.{◌≡◌, ◌++◌, take}
use Rattle.ft_matrix.specs.Resubmitted.{removal_ops}
use Rattle.ft_matrix.proofs.reconnection.push_removals.Given as goal

-- the removals among the pieces so far are added
abbrev pub invariant-loop-part : goal.invariant-loop-part
invariant-loop-part l = l.pieces.items ≡ l.initial.pieces.items ++ removal_ops l.target (take l.part-index l.part-items)
