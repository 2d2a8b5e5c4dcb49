use Rattle.std.proofs.Common.{◌≡◌, ◌∙◌, ℕ, [], ◌∷◌, ◌++◌, cond, map, sym, ap, subst}
use Rattle.std.proofs.lemmas.Bool.{ne_eqb}
use Rattle.std.proofs.lemmas.Result.{on_ok_weaker}
use Rattle.serde_json.specs.Written.{compact_text}
use Rattle.ft_json.specs.Canonical.{IsCanonical}
use Rattle.ft_props.specs.Properties.{Characters}
use Rattle.ft_seqr.specs.AnswerTexts.{counted_author, written_author}
use Rattle.ft_seqr.proofs.answer_texts.push_author.Goals as goal

pub compact-requires : goal.compact-requires
compact-requires c = subst IsCanonical (sym c.in_ok-value.ensures.value) c.in_ok-value.ensures.canonical

some : (name : Characters) (count : ℕ) → (count ≡ 0 → ⊥) → counted_author name count ≡ written_author name count ∷ []
some name count h = ap (λ b. cond b [] (written_author name count ∷ [])) (ne_eqb count 0 h)

pub returns : goal.returns
returns c =
    let old = c.args.texts.now.items in
    let text = c.in_ok-compact.ensures ∙ ap compact_text c.in_ok-value.ensures.value in
    let counted = some c.args.name.now c.args.count c.if-count-eq0.false in
    on_ok_weaker c.push.result (λ e. e ∙ ap (λ t. old ++ t ∷ []) text ∙ ap (λ ds. old ++ map compact_text ds) (sym counted)) c.push.ensures.items
