use Rattle.std.proofs.Common.{◌∙◌, List, [], ◌∷◌, ℕ, Option, Some, ap, codes, refl}
use Rattle.std.proofs.lemmas.Result.{on_ok_weaker}
use Rattle.serde_json.specs.Data.{Data, object, put}
use Rattle.ft_op.specs.Written.{written_count, written_text}
use Rattle.ft_op.proofs.CanonicalOperations.{canonical_text}
use Rattle.ft_op.proofs.WrittenFields.{canonical_fields}
use Rattle.ft_seqr.proofs.answer_texts.put_author.Goals as goal

pub returns-clause-value : goal.returns-clause-value
returns-clause-value c =
    on_ok_weaker c.put_number.result
    (λ e. ap object (e ∙ ap (put (codes "count") (written_count c.args.count))
    (c.in_ok-put_text.ensures.value ∙ ap (put (codes "by") (written_text c.args.name.now)) c.requires)))
    c.put_number.ensures.value

pub returns-clause-canonical : goal.returns-clause-canonical
returns-clause-canonical c =
    let fs : List (List ℕ × Option Data) = (codes "by", Some (written_text c.args.name.now))
    ∷ (codes "count", Some (written_count c.args.count)) ∷ [] in
    on_ok_weaker c.put_number.result
    (λ e. canonical_fields fs refl (canonical_text c.args.name.now c.put_text.ensures.text, (c.put_number.ensures.canonical, tt)))
    c.put_number.ensures.value
