use Rattle.std.proofs.Common.{◌≡◌, ◌∙◌, ℕ, ◌+◌, List, ap, ap₂, sym, subst, drop, ◌∷◌, encode_utf8_all}
use Rattle.std.proofs.lemmas.List.{drop_all}
use Rattle.std.specs.List.{AllByRecursion}
use Rattle.serde_json.specs.Data.{Data, Members, object, no_members, put}
use Rattle.serde_json.specs.View.{members_view}
use Rattle.serde_json.proofs.Views.{view-Object}
use Rattle.ft_json.specs.Canonical.{IsCanonical, value_of}
use Rattle.ft_props.specs.Properties.{Characters, PropertyList, ValueBytes}
use Rattle.ft_op.specs.Representable.{KeysAreTexts}
use Rattle.ft_op.proofs.WrittenPairs.{put_pairs, put_all}
use Rattle.ft_sumdoc.proofs.ReadOptions.{at_item}
use Rattle.ft_seqr.proofs.answer_texts.props_value.Goals as goal

abbrev HasValues : PropertyList → Type 0
HasValues props = AllByRecursion (λ p. IsCanonical (value_of p.1)) props

-- one more pair is put
put_next : (xs rest here : PropertyList) (p : Characters × ValueBytes) (before after : Members) → here ≡ p ∷ rest
    → after ≡ put (encode_utf8_all p.0) (value_of p.1) before → put_pairs value_of here before ≡ put_pairs value_of xs no_members
    → put_pairs value_of rest after ≡ put_pairs value_of xs no_members
put_next xs rest here p before after at is h = ap (put_pairs value_of rest) is ∙ ap (λ (ps : PropertyList). put_pairs value_of ps before) (sym at) ∙ h

pub loop-key-preserved : goal.loop-key-preserved
loop-key-preserved c =
    let items : PropertyList = c.as_slice-key-items.result.now in
    let i = c.loop-key.key-index in
    let p : Characters × ValueBytes = c.loop-key-item.result in
    let at : drop i items ≡ p ∷ drop (i + 1) items = at_item items i p c.loop-key-test.true c.loop-key-item.is in
    let is = c.in_ok-put.ensures.ok ∙ ap₂ (λ (k : List ℕ) (d : Data). put k d (members_view c.loop-key.members.entries)) c.as_str.ensures.bytes c.in_ok-value_of.ensures.value in
    record {
      put = put_next items (drop (i + 1) items) (drop i items) p (members_view c.loop-key.members.entries) (members_view c.put.new.map.entries) at is c.loop-key.invariant.put;
      texts = λ h. c.loop-key.invariant.texts (subst (λ (ps : PropertyList). KeysAreTexts ps) (sym at) (c.as_str.ensures.is_text, h));
      canonical = λ h. c.loop-key.invariant.canonical (subst HasValues (sym at) (c.in_ok-value_of.ensures.canonical, h));
    }

pub returns-clause-value : goal.returns-clause-value
returns-clause-value c =
    let done = drop_all c.loop-key.key-index c.as_slice-key-items.result.now c.loop-key-test.false in
    let put = ap (λ ps. put_pairs value_of ps (members_view c.loop-key.members.entries)) (sym done) ∙ c.loop-key.invariant.put in
    view-Object c.loop-key.members
    ∙ ap object (
    put ∙ ap (λ ps. put_pairs value_of ps no_members) c.as_slice-key-items.ensures.value
    ∙ put_all value_of c.args.props.now c.as_slice-key-items.ensures.rising
    )

pub returns-clause-keyed : goal.returns-clause-keyed
returns-clause-keyed c =
    let done = drop_all c.loop-key.key-index c.as_slice-key-items.result.now c.loop-key-test.false in
    let texts = c.loop-key.invariant.texts (subst (λ (ps : PropertyList). KeysAreTexts ps) (sym done) tt) in
    (c.as_slice-key-items.ensures.rising, subst (λ (ps : PropertyList). KeysAreTexts ps) c.as_slice-key-items.ensures.value texts)

pub returns-clause-values : goal.returns-clause-values
returns-clause-values c =
    let done = drop_all c.loop-key.key-index c.as_slice-key-items.result.now c.loop-key-test.false in
    subst HasValues c.as_slice-key-items.ensures.value (c.loop-key.invariant.canonical (subst HasValues (sym done) tt))
