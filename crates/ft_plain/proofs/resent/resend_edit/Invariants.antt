use Rattle.std.proofs.Common.{◌≡◌, ◌++◌, drop, map}
use Rattle.std.specs.Prelude.{flat_map}
use Rattle.ft_op.specs.Pieces.{pieces}
use Rattle.ft_msg.specs.Reconnection.{carried_stage}
use Rattle.ft_plain_document.specs.SubOperations.{sub_operation_of}
use Rattle.ft_plain.proofs.resent.resend_edit.Given as goal

-- the pieces and the stages so far, and those of the rest of the stages, are all
abbrev pub invariant-loop-stage : goal.invariant-loop-stage
invariant-loop-stage l =
    let rest = drop l.stage-index l.stages in
    record {
      pieces : map sub_operation_of l.pieces.items ++ flat_map (pieces l.doc) rest ≡ flat_map (pieces l.doc) l.stages;
      going : l.going ++ flat_map (carried_stage l.doc) rest ≡ flat_map (carried_stage l.doc) l.stages;
    }
