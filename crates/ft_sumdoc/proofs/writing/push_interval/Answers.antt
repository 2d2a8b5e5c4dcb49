use Rattle.std.proofs.Common.{◌∙◌, SFits, w64, map, ap, rules}
use Rattle.std.proofs.lemmas.Int.{to_z-of_z}
use Rattle.std.proofs.lemmas.Result.{on_ok_weaker}
use Rattle.serde_json.specs.Data.{array}
use Rattle.serde_json.specs.View.{items_of, view}
use Rattle.ft_op.specs.Written.{written_number}
use Rattle.ft_sumdoc.proofs.PushedValues.{pushed}
use Rattle.ft_sumdoc.proofs.writing.push_interval.Goals as goal

pub returns-clause-value : goal.returns-clause-value
returns-clause-value c =
    let ends = c.args.i.now.ends in
    let first : SFits w64 ends.start = search rules in
    let last : SFits w64 ends.end = search rules in
    let none = ap (map view) c.requires.empty in
    let label = pushed _ _ _ _ _ c.in_ok-push.ensures.items none c.in_ok-to_value.ensures.value in
    let id = pushed _ _ _ _ _ c.in_ok-push-2.ensures.items label c.in_ok-to_value-2.ensures.value in
    let start = pushed _ _ _ _ _ c.in_ok-push-3.ensures.items id (c.from.ensures ∙ ap written_number (to_z-of_z w64 ends.start first)) in
    let end = pushed _ _ _ _ _ c.in_ok-push-4.ensures.items start (c.from-2.ensures ∙ ap written_number (to_z-of_z w64 ends.end last)) in
    on_ok_weaker c.push-5.result (λ e. ap (λ ds. array (items_of ds)) (pushed _ _ _ _ _ e end c.in_ok-props_value.ensures.value))
    c.push-5.ensures.items

pub returns-clause-representable : goal.returns-clause-representable
returns-clause-representable c =
    on_ok_weaker c.push-5.result (λ _. (
      c.in_ok-to_value.ensures.representable,
      c.in_ok-to_value-2.ensures.representable,
      c.in_ok-props_value.ensures.keyed,
    ))
    c.push-5.ensures.items
