use Rattle.std.proofs.Common.{◌∙◌, ap, length}
use Rattle.ft_props.specs.Element.{seen}
use Rattle.ft_msg.specs.Content.{stage_view}
use Rattle.ft_changes.specs.Shown.{shown_element}
use Rattle.ft_plain.specs.Own.{PlainState}
use Rattle.ft_plain.proofs.CountedElements.{kept-count}
use Rattle.ft_plain.proofs.own.PlainOwn.shown_elements.Goals as goal

pub returns : goal.returns
returns c =
    let k = c.args.last in
    c.shown_count.ensures
    ∙ ap (λ xs. length (stage_view k xs)) c.text.ensures.items
    ∙ ap (λ (d : PlainState). length (stage_view k d.doc.text.items)) c.self.view_is
    ∙ kept-count (seen k) shown_element c.args.self.now.doc.text.items
