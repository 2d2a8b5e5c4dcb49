use Rattle.std.proofs.Common.{◌≡◌, ◌∙◌, List, [], ◌∷◌, ℕ, Option, Some, ap, ap₂, codes, refl, rules}
use Rattle.serde_json.specs.Data.{Data, boolean, null, object, put}
use Rattle.serde_json.specs.View.{view}
use Rattle.serde_json.specs.declared.value.Value.{Null, the_lemmas}
use Rattle.ft_op.specs.Written.{written_count}
use Rattle.ft_op.proofs.WrittenFields.{canonical_fields}
use Rattle.ft_seqr.proofs.answer_texts.put_nameless.Goals as goal

pub returns-clause-value : goal.returns-clause-value
returns-clause-value c =
    let none : view Null ≡ null = search (rules, the_lemmas) in
    ap object (c.in_ok-put-2.ensures.ok ∙ ap₂ (put (codes "pending")) c.from.ensures
    (c.in_ok-put_number.ensures.value ∙ ap (put (codes "count") (written_count c.args.count))
    (c.in_ok-put.ensures.ok ∙ ap₂ (put (codes "by")) none c.requires)))

pub returns-clause-canonical : goal.returns-clause-canonical
returns-clause-canonical c =
    let fs : List (List ℕ × Option Data) =
    (codes "by", Some null) ∷ (codes "count", Some (written_count c.args.count)) ∷ (codes "pending", Some (boolean c.args.pending)) ∷ [] in
    canonical_fields fs refl (tt, (c.put_number.ensures.canonical, (tt, tt)))
