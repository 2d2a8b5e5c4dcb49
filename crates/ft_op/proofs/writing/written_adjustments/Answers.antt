use Rattle.std.proofs.Common.{◌≡◌, ◌∙◌, ℕ, ◌+◌, List, ◌∷◌, ap, ap₂, sym, subst, drop}
use Rattle.std.proofs.lemmas.List.{drop_all, drop_more}
use Rattle.serde_json.specs.Data.{Data, object, no_members, put}
use Rattle.serde_json.specs.View.{members_view}
use Rattle.serde_json.proofs.Views.{view-Object}
use Rattle.ft_props.specs.Properties.{Characters}
use Rattle.ft_props.specs.declared.properties.Adjust.{Adjust}
use Rattle.ft_op.specs.Representable.{KeysAreTexts}
use Rattle.ft_op.specs.Written.{written_adjustment}
use Rattle.ft_op.proofs.WrittenPairs.{put_pairs, put_all, put_next}
use Rattle.ft_op.proofs.writing.written_adjustments.Goals as goal

pub loop-key-preserved : goal.loop-key-preserved
loop-key-preserved c =
    let items : List (Characters × Adjust) = c.as_slice-key-items.result.now in
    let i = c.loop-key.key-index in
    let p : Characters × Adjust = c.loop-key-item.result in
    let at : drop i items ≡ p ∷ drop (i + 1) items =
    drop_more items i p c.loop-key-test.true ∙ ap (λ (q : Characters × Adjust). q ∷ drop (i + 1) items) (sym c.loop-key-item.is) in
    let members = members_view c.loop-key.members.entries in
    let is = c.in_ok-put.ensures.ok ∙ ap₂ (λ (k : List ℕ) (d : Data). put k d members) c.as_str.ensures.bytes c.in_ok-by.ensures in
    record {
      put = put_next written_adjustment items (drop (i + 1) items) (drop i items) p members (members_view c.put.new.map.entries) at is
          c.loop-key.invariant.put;
      texts = λ h. c.loop-key.invariant.texts (subst (λ (ps : List (Characters × Adjust)). KeysAreTexts ps) (sym at) (c.as_str.ensures.is_text, h));
    }

pub returns-clause-value : goal.returns-clause-value
returns-clause-value c =
    let done = drop_all c.loop-key.key-index c.as_slice-key-items.result.now c.loop-key-test.false in
    let put = ap (λ ps. put_pairs written_adjustment ps (members_view c.loop-key.members.entries)) (sym done) ∙ c.loop-key.invariant.put in
    view-Object c.loop-key.members
    ∙ ap object (
    put ∙ ap (λ ps. put_pairs written_adjustment ps no_members) c.as_slice-key-items.ensures.value
    ∙ put_all written_adjustment c.args.adjust.now c.as_slice-key-items.ensures.rising
    )

pub returns-clause-keyed : goal.returns-clause-keyed
returns-clause-keyed c =
    let done = drop_all c.loop-key.key-index c.as_slice-key-items.result.now c.loop-key-test.false in
    let texts = c.loop-key.invariant.texts (subst (λ (ps : List (Characters × Adjust)). KeysAreTexts ps) (sym done) tt) in
    (c.as_slice-key-items.ensures.rising, subst (λ (ps : List (Characters × Adjust)). KeysAreTexts ps) c.as_slice-key-items.ensures.value texts)
