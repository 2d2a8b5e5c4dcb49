use Rattle.std.proofs.Common.{◌≡◌, ℕ, ◌++◌, drop, map}
use Rattle.ft_op.specs.declared.operations.BaseOp.TheVariants.{Remove}
use Rattle.ft_op.specs.Operation.{OnText, SubOperation}
use Rattle.ft_plain_document.specs.SubOperations.{sub_operation_of}
use Rattle.ft_plain_document.proofs.documents.pieces.removals_of.Given as goal

-- the operations so far, and those of the rest of the runs, are all
abbrev pub invariant-loop-pos1 : goal.invariant-loop-pos1
invariant-loop-pos1 l =
    let f : ℕ × ℕ → SubOperation = λ r. OnText (Remove r.0 r.1) in
    map sub_operation_of l.ops.items ++ map f (drop l.pos1-index l.runs) ≡ map f l.runs
