use Rattle.std.proofs.Common.{◌≡◌, Ok, Result, ◌∙◌, ap, rules, subst, sym}
use Rattle.std.specs.Prelude.{IfOk}
use Rattle.std.proofs.lemmas.Result.{IfErr-at_err, IfOk-at_ok}
use Rattle.ft_msg.specs.declared.faults.Cause.{Cause}
use Rattle.ft_seqr.specs.declared.events.Event.{Event}
use Rattle.ft_seqr.specs.declared.refusals.Refusal.TheVariants.{OutOfMemory}
use Rattle.ft_seqr.specs.EventGrammar.{event}
use Rattle.ft_seqr.specs.EventReader.{IsRefused}
use Rattle.ft_seqr.specs.Walk.{refuses}
use Rattle.ft_seqr.specs.WellFormedEvent.{IsWellFormedEvent}
use Rattle.ft_door.specs.Editors.{TellsStep, edit_line, edit_reading, edit_reading_exceeds}
use Rattle.ft_door.proofs.Editing.{refused-told}
use Rattle.ft_door.proofs.parts.Parts.take_read.Goals as goal

pub take_event-requires : goal.take_event-requires
take_event-requires g c = IfOk-at_ok IsWellFormedEvent c.in-Ok.is c.requires

pub returns-in-Ok : goal.returns-in-Ok
returns-in-Ok g c = λ line reads.
    subst (λ (r : Result Event Cause). IfOk c.take_event.result (λ told. TellsStep told c.args.self.now c.take_event.new.self (λ x. edit_reading x r) (λ x. edit_reading_exceeds x r)))
    (sym (IfOk-at_ok (λ (e : Event). event line ≡ Ok e) c.in-Ok.is reads.ok)) c.take_event.ensures

pub returns-in-Err : goal.returns-in-Err
returns-in-Err g c = λ line reads.
    let (cause, is, why) = IfErr-at_err (λ why. (why ≡ OutOfMemory → ⊥) → IsRefused line why) c.in-Err.is reads.err (search rules) in
    refused-told c.in-Err.refusal c.args.self.now (edit_line line) (λ x h. ap (edit_reading x) is ∙ ap (refuses x) (sym why))
