use Rattle.std.proofs.Common.{◌∙◌, List, [], ◌∷◌, ℕ, Option, Some, ap, ap₂, codes, refl}
use Rattle.std.proofs.lemmas.Result.{on_ok_weaker}
use Rattle.serde_json.specs.Data.{Data, object, put}
use Rattle.ft_op.specs.Written.{written_count}
use Rattle.ft_op.proofs.WrittenFields.{canonical_fields}
use Rattle.ft_seqr.specs.AnswerTexts.{origin_name, origin_number}
use Rattle.ft_seqr.proofs.answer_texts.put_origin_run.Goals as goal

pub returns-clause-value : goal.returns-clause-value
returns-clause-value c =
    on_ok_weaker c.put_number-2.result
    (λ e. ap object (e ∙ ap (put (codes "start") (written_count c.args.run.now.start))
    (c.in_ok-put-2.ensures.ok ∙ ap₂ (put (codes "seq")) c.origin_number.ensures.value
    (c.in_ok-put_number.ensures.value ∙ ap (put (codes "end") (written_count c.args.run.now.end))
    (c.in_ok-put.ensures.ok ∙ ap₂ (put (codes "by")) c.in_ok-origin_name.ensures.value c.requires)))))
    c.put_number-2.ensures.value

pub returns-clause-canonical : goal.returns-clause-canonical
returns-clause-canonical c =
    let run = c.args.run.now in
    let fs : List (List ℕ × Option Data) =
    (codes "by", Some (origin_name c.args.names.now run.who))
    ∷ (codes "end", Some (written_count run.end))
    ∷ (codes "seq", Some (origin_number run.who))
    ∷ (codes "start", Some (written_count run.start))
    ∷ [] in
    on_ok_weaker c.put_number-2.result
    (λ e. canonical_fields fs refl (
      c.in_ok-origin_name.ensures.canonical,
      (
        c.put_number.ensures.canonical,
        (c.origin_number.ensures.canonical, (c.put_number-2.ensures.canonical, tt)),
      ),
    ))
    c.put_number-2.ensures.value
