use Rattle.std.proofs.Common.{◌∙◌, ap, sym}
use Rattle.ft_op.specs.Stages.{shown_intervals}
use Rattle.ft_plain_document.proofs.ShownStages.{shown-append}
use Rattle.ft_plain_document.proofs.documents.PlainDocument.settled_before.Goals as goal

pub returns : goal.returns
returns c =
    let i = c.self.inside in
    let before = c.args.before.now in
    let pending = c.args.pending.now in
    rw (← c.self.view_is)
    (c.in_ok-settle_stages.ensures
    ∙ ap (λ xs. shown_intervals xs c.in_ok-shown.shown before) c.as_slice.ensures.items
    ∙ ap (λ is. shown_intervals i.text.items is before) (c.in_ok-shown.ensures ∙ ap (λ d. shown_intervals d.text.items d.intervals pending) (sym c.self.view_is))
    ∙ sym (shown-append i.text.items i.intervals pending before))
