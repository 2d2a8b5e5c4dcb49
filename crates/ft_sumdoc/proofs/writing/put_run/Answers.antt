use Rattle.std.proofs.Common.{◌∙◌, [], ◌∷◌, Some, refl, ap, ap₂}
use Rattle.std.specs.Prelude.{codes}
use Rattle.std.proofs.lemmas.Result.{on_ok_weaker}
use Rattle.serde_json.specs.Data.{object, put}
use Rattle.ft_op.specs.Written.{put_given, written_count}
use Rattle.ft_sumdoc.specs.Stamps.{unless_universal}
use Rattle.ft_sumdoc.specs.Written.{given_mark, given_marks}
use Rattle.ft_sumdoc.proofs.PutFields.{put_in_order}
use Rattle.ft_sumdoc.proofs.writing.put_run.Goals as goal

pub returns : goal.returns
returns c =
    let run = c.args.run.now in
    let i = ap₂ (put_given (codes "i")) (ap given_mark c.unless_universal.ensures) c.requires in
    let n = ap (put (codes "n") (written_count run.count)) (c.in_ok-put_mark.ensures ∙ i) in
    let r = ap (put_given (codes "r") (given_marks run.dels)) (c.in_ok-put_number.ensures ∙ n) in
    let ordered = put_in_order (
    (codes "i", given_mark (unless_universal run.ins)) ∷ (codes "n", Some (written_count run.count)) ∷ (codes "r", given_marks run.dels) ∷ []
    ) refl in
    on_ok_weaker c.put_removals.result (λ e. ap object (e ∙ r ∙ ordered)) c.put_removals.ensures
