use Rattle.std.proofs.Common.{Option, ap, subst, sym}
use Rattle.std.specs.Prelude.{IfOk}
use Rattle.ft_op.specs.declared.operations.ChannelOp.{ChannelOp}
use Rattle.ft_seqr.specs.declared.refusals.Refusal.TheVariants.{Malformed}
use Rattle.ft_msg.specs.declared.faults.Cause.TheVariants.{UnknownWord}
use Rattle.ft_door.specs.Editors.{TellsStep, edit_event, edit_exceeds, edited_op}
use Rattle.ft_door.proofs.Editing.{refused-told}
use Rattle.ft_door.proofs.parts.Parts.take_event.Goals as goal

pub returns-in-Some : goal.returns-in-Some
returns-in-Some g c =
    subst (λ (o : Option ChannelOp). IfOk c.take_edit.result (λ told. TellsStep told c.args.self.now c.take_edit.new.self (λ x. edit_event x o) (λ x. edit_exceeds x o)))
    c.in-Some.ensures c.take_edit.ensures

pub returns-in-None : goal.returns-in-None
returns-in-None g c =
    refused-told (Malformed UnknownWord) c.args.self.now (λ x. edit_event x (edited_op c.args.event.now)) (λ x h. ap (edit_event x) (sym c.in-None.ensures))
