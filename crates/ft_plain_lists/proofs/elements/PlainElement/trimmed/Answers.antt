use Rattle.std.proofs.Common.{◌≡◌, Bool, true, false, cond, ◌∙◌, ap, refl}
use Rattle.std.proofs.lemmas.Result.{IfOk-weaker}
use Rattle.ft_base.specs.declared.stamps.Stamp.{Stamp}
use Rattle.ft_base.specs.declared.stamps.Stamp.TheVariants.{Acked}
use Rattle.ft_props.specs.Element.{ListElement}
use Rattle.ft_props.specs.Compaction.{is_insertion_at_or_below, trim_element, with_universal_insertion}
use Rattle.ft_plain_lists.proofs.elements.PlainElement.trimmed.Goals as goal

-- the element with this insertion
abbrev with_insertion : ListElement → Stamp → ListElement
with_insertion e ins = record e { ins = ins }

-- the universal insertion, or its own
chosen : (b : Bool) (e : ListElement) → with_insertion e (cond b (Acked 0 0) e.ins) ≡ cond b (with_universal_insertion e) e
chosen true e = refl
chosen false e = refl

pub returns : goal.returns
returns c =
    let e = c.args.self.now in
    let min = c.args.min in
    let own = ap (λ (x : ListElement). cond (is_insertion_at_or_below min x.ins) (Acked 0 0) x.ins) c.self.view_is in
    IfOk-weaker c.copy_with.result (λ copy. copy ≡ with_insertion e c.trimmed_insertion.result) (λ copy. copy ≡ trim_element min e)
    (λ copy same. same ∙ ap (with_insertion e) (c.trimmed_insertion.ensures ∙ own) ∙ chosen (is_insertion_at_or_below min e.ins) e)
    c.copy_with.ensures
