use Rattle.std.proofs.Common.{◌∙◌, sym}
use Rattle.std.proofs.lemmas.Result.{IfOk-weaker}
use Rattle.ft_door.specs.Editors.{message_exceeds, next_exceeds, take_message, take_next}
use Rattle.ft_door.proofs.Editing.{message-exceeds, message-is_next, message-next, message-refused, refused-told, step-same}
use Rattle.ft_door.proofs.parts.Parts.take_message.Goals as goal

pub returns-in-None : goal.returns-in-None
returns-in-None g c =
    let m = c.args.entry.now.msg in
    IfOk-weaker c.take_next.result _ _ (λ told t. step-same told c.args.self.now c.take_next.new.self (λ x. take_next x m) (λ x. take_message x m) (λ x. next_exceeds x m.body) (λ x. message_exceeds x m)
    (λ x h. message-next x m (sym c.in-None.is ∙ c.in_ok-refusal.ensures x h)) (λ x h. message-exceeds x m (sym c.in-None.is ∙ c.in_ok-refusal.ensures x h)) t)
    c.take_next.ensures

pub returns-in-Some : goal.returns-in-Some
returns-in-Some g c =
    let m = c.args.entry.now.msg in
    refused-told c.in-Some.why c.args.self.now (λ x. take_message x m) (λ x h. message-refused x m c.in-Some.why (sym c.in-Some.is ∙ c.in_ok-refusal.ensures x h))

pub take_next-requires-clause-next : goal.take_next-requires-clause-next
take_next-requires-clause-next g c =
    let (x, h) = c.requires.some in
    (x, h, message-is_next x c.args.entry.now.msg (sym c.in-None.is ∙ c.in_ok-refusal.ensures x h))
