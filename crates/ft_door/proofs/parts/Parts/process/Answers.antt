use Rattle.std.proofs.Common.{Result, ◌∙◌, ap, rules, subst, sym}
use Rattle.std.specs.Prelude.{IfOk}
use Rattle.ft_msg.specs.declared.faults.Cause.{Cause}
use Rattle.ft_msg.specs.declared.messages.Message.{Message}
use Rattle.ft_seqr.specs.Walk.{refuses}
use Rattle.ft_door.specs.Editors.{TellsStep, message_reading, message_reading_exceeds, process_line}
use Rattle.ft_door.proofs.Editing.{refused-told}
use Rattle.ft_door.proofs.parts.Parts.process.Goals as goal

pub returns-in-Ok : goal.returns-in-Ok
returns-in-Ok g c =
    subst (λ (r : Result Message Cause). IfOk c.take_whole.result (λ told. TellsStep told c.args.self.now c.take_whole.new.self (λ x. message_reading x r)
    (λ x. message_reading_exceeds x r)))
    (sym c.in-Ok.ensures.reads.ok) c.take_whole.ensures

pub returns-in-Err : goal.returns-in-Err
returns-in-Err g c =
    let is = c.in-Err.ensures.reads.err (search rules) in
    refused-told c.of_cause.result c.args.self.now (process_line c.args.line.now) (λ x h. ap (message_reading x) is ∙ ap (refuses x) (sym c.of_cause.ensures))
