use Rattle.std.proofs.Common.{◌≡◌, ℤ, pos, negsuc, ◌^◌, ◌∙◌, List, [], ◌∷◌, ◌++◌, SFits, w64, map, ap, ap₂, arith, rules, lt-ltb}
use Rattle.std.proofs.lemmas.Int.{to_z-of_z}
use Rattle.std.proofs.lemmas.List.{map-append}
use Rattle.std.proofs.lemmas.Result.{on_ok_weaker}
use Rattle.serde_json.specs.Data.{Data, array}
use Rattle.serde_json.specs.View.{items_of, view}
use Rattle.serde_json.specs.declared.value.Value.{Value}
use Rattle.ft_json.specs.Canonical.{IsCanonical}
use Rattle.ft_op.specs.Written.{written_number}
use Rattle.ft_seqr.proofs.CanonicalAnswers.{canonical_props}
use Rattle.ft_seqr.proofs.answer_texts.push_overlap.Goals as goal

-- one more value is pushed
pushed : (old new : List Value) (v : Value) (ds : List Data) (d : Data) → new ≡ old ++ v ∷ [] → map view old ≡ ds → view v ≡ d
    → map view new ≡ ds ++ d ∷ []
pushed old new v ds d e so_far is = ap (map view) e ∙ map-append view old (v ∷ []) ∙ ap₂ (λ (xs : List Data) x. xs ++ x ∷ []) so_far is

-- a number of 64 bits is written as a whole number
canonical_number : (z : ℤ) → SFits w64 z → IsCanonical (written_number z)
canonical_number (pos n) fits = lt-ltb n (2 ^ 64) (omega arith)
canonical_number (negsuc n) fits = lt-ltb n (2 ^ 63) (omega arith)

pub returns-clause-value : goal.returns-clause-value
returns-clause-value c =
    let ends = c.args.interval.now.ends in
    let first : SFits w64 ends.start = search rules in
    let last : SFits w64 ends.end = search rules in
    let id = pushed _ _ _ _ _ c.in_ok-push.ensures.items (ap (map view) c.requires) c.in_ok-text_value.ensures.value in
    let start = pushed _ _ _ _ _ c.in_ok-push-2.ensures.items id (c.from.ensures ∙ ap written_number (to_z-of_z w64 ends.start first)) in
    let end = pushed _ _ _ _ _ c.in_ok-push-3.ensures.items start (c.from-2.ensures ∙ ap written_number (to_z-of_z w64 ends.end last)) in
    on_ok_weaker c.push-4.result (λ e. ap (λ ds. array (items_of ds)) (pushed _ _ _ _ _ e end c.in_ok-props_value.ensures.value))
    c.push-4.ensures.items

pub returns-clause-canonical : goal.returns-clause-canonical
returns-clause-canonical c =
    let i = c.args.interval.now in
    let start = canonical_number i.ends.start (search rules) in
    let end = canonical_number i.ends.end (search rules) in
    let props = canonical_props i.props c.in_ok-props_value.ensures.keyed c.in_ok-props_value.ensures.values in
    on_ok_weaker c.push-4.result (λ _. (c.in_ok-text_value.ensures.canonical, (start, (end, (props, tt))))) c.push-4.ensures.items
