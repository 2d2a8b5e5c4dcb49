use Rattle.std.proofs.Common.{ℕ, List, ap, rules, not, nat_eq}
use Rattle.std.proofs.lemmas.Fn.{filter_same}
use Rattle.ft_props.specs.declared.properties.Changes.{Changes}
use Rattle.ft_props.specs.Element.{ListElement}
use Rattle.ft_plain_lists.specs.Contents.{content_of}
use Rattle.ft_plain_lists.proofs.elements.PlainElement.forget_changes.Goals as goal

-- the element with these pending changes
abbrev with_pending : ListElement → List (ℕ × Changes) → ListElement
with_pending e changes = record e { pending = changes }

pub returns : goal.returns
returns c =
    let e = c.self.inside in
    let before : ListElement = record {
      nth = e.nth;
      content = content_of e.content;
      ins = e.ins;
      dels = e.dels;
      removal_stage = e.removal_stage;
      by = e.by;
      props = e.props;
      pending = e.pending.items;
    } in
    rw (← c.self.view_is)
    (ap (with_pending before) (filter_same _ (λ p. not (nat_eq p.0 c.args.stage)) _ (λ x b f' k. search rules) e.pending.items _ c.retain.ensures.filtered))
