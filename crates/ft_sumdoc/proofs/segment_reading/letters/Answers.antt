use Rattle.std.proofs.Common.{◌≡◌, ◌∙◌, List, ℕ, [], ◌∷◌, length, Some, refl, sym, ap, chars, encode_utf8_all, arith}
use Rattle.std.proofs.lemmas.Bool.{eq-eqb, eqb-true, false≢true}
use Rattle.std.proofs.lemmas.Str.{chars-nil, encodes-chars}
use Rattle.ft_props.specs.Properties.{Characters}
use Rattle.ft_sumdoc.specs.declared.summary.Seg.TheVariants.{Chars}
use Rattle.ft_sumdoc.specs.Segments.{some_characters}
use Rattle.ft_sumdoc.proofs.segment_reading.letters.Goals as goal

some : (cs : Characters) → (cs ≡ [] → ⊥) → some_characters cs ≡ Some (Chars cs)
some [] h = absurd (h refl)
some (c ∷ cs) h = refl

nothing : (bs : List ℕ) → length bs ≡ 0 → bs ≡ []
nothing [] h = refl
nothing (b ∷ bs) h = absurd (omega arith)

pub returns-then-is_empty : goal.returns-then-is_empty
returns-then-is_empty c =
    let text = c.args.text.now in
    let none = nothing text (eqb-true (length text) 0 (sym c.is_empty.ensures ∙ c.if-is_empty.true)) in
    sym (ap some_characters (ap chars none ∙ chars-nil))

pub returns-else-is_empty : goal.returns-else-is_empty
returns-else-is_empty c =
    let text = c.args.text.now in
    sym (some (chars text) (λ none.
    let bytes = sym (encodes-chars text c.utf8.text) ∙ ap encode_utf8_all none in
    false≢true (sym c.if-is_empty.false ∙ c.is_empty.ensures ∙ eq-eqb (length text) 0 (ap length bytes))))
