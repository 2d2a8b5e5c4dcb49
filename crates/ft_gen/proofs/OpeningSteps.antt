-- The first event of what is still to come of the opening.
use Rattle.std.proofs.Common.{◌≡◌, ℕ, ◌+◌, ◌∷◌, ◌++◌, ap, ◌∙◌, subst}
use Rattle.ft_gen.specs.declared.opening.Opening.{Opening}
use Rattle.ft_gen.specs.declared.opening.Opening.TheVariants.{Start, Greet, Learn}
use Rattle.ft_gen.specs.Rounds.{connects, each, each_both, is_told}
use Rattle.ft_gen.specs.Generated.{starts}
use Rattle.ft_gen.specs.Opening.{IsOpening, greetings_from, grid_lessons_from, opening_to_come, rows_on, starts_from}
use Rattle.ft_gen.proofs.Numbering.{from-more}

pub starts-first : (count : ℕ) (o : Opening) (i : ℕ) → o ≡ Start i → IsOpening count o → opening_to_come count o ≡ starts i ∷ (connects i ∷ starts_from count (i + 1))
starts-first count o i e s =
    ap (opening_to_come count) e ∙ ap (λ is. each_both starts connects is ++ greetings_from count 1) (from-more count i (subst (IsOpening count) e s))

pub greetings-first : (count : ℕ) (o : Opening) (i : ℕ) → o ≡ Greet i → IsOpening count o → opening_to_come count o ≡ is_told i ∷ greetings_from count (i + 1)
greetings-first count o i e s =
    ap (opening_to_come count) e ∙ ap (λ is. each is_told is ++ rows_on count) (from-more count i (subst (IsOpening count) e s))

pub grid_lessons-first : (count : ℕ) (o : Opening) (i : ℕ) → o ≡ Learn i → IsOpening count o → opening_to_come count o ≡ is_told i ∷ grid_lessons_from count (i + 1)
grid_lessons-first count o i e s =
    ap (opening_to_come count) e ∙ ap (each is_told) (from-more count i (subst (IsOpening count) e s))
