use Rattle.std.proofs.Common.{◌∙◌, [], ◌∷◌, refl, ap, ap₂}
use Rattle.std.specs.Prelude.{codes}
use Rattle.std.proofs.lemmas.Result.{on_ok_weaker}
use Rattle.serde_json.specs.Data.{object}
use Rattle.ft_op.specs.Written.{put_given}
use Rattle.ft_sumdoc.specs.Stamps.{unless_universal}
use Rattle.ft_sumdoc.specs.Written.{author_beside, given_characters, given_mark, given_marks, given_props, given_ref_type}
use Rattle.ft_sumdoc.proofs.PutFields.{put_in_order}
use Rattle.ft_sumdoc.proofs.writing.put_segment.Goals as goal

pub returns-clause-value : goal.returns-clause-value
returns-clause-value c =
    let seg = c.args.seg.now in
    let a = ap₂ (put_given (codes "a")) (ap given_mark c.author_beside.ensures) c.requires.empty in
    let i = ap₂ (put_given (codes "i")) (ap given_mark c.unless_universal.ensures) (c.in_ok-put_mark.ensures ∙ a) in
    let m = ap (put_given (codes "m") (given_ref_type seg.body)) (c.in_ok-put_mark-2.ensures ∙ i) in
    let p = ap (put_given (codes "p") (given_props seg.props)) (c.in_ok-put_ref_type.ensures ∙ m) in
    let r = ap (put_given (codes "r") (given_marks seg.dels)) (c.in_ok-put_props.ensures.value ∙ p) in
    let t = ap (put_given (codes "t") (given_characters seg.body)) (c.in_ok-put_removals.ensures ∙ r) in
    let ordered = put_in_order (
    (codes "a", given_mark (author_beside seg.ins seg.by)) ∷ (codes "i", given_mark (unless_universal seg.ins)) ∷
    (codes "m", given_ref_type seg.body)
    ∷ (codes "p", given_props seg.props) ∷ (codes "r", given_marks seg.dels) ∷ (codes "t", given_characters seg.body) ∷ []
    ) refl in
    on_ok_weaker c.put_characters.result (λ e. ap object (e ∙ t ∙ ordered)) c.put_characters.ensures.value

pub returns-clause-representable : goal.returns-clause-representable
returns-clause-representable c = on_ok_weaker c.put_characters.result (λ h. (h, c.in_ok-put_props.ensures.keyed))
    c.put_characters.ensures.representable
