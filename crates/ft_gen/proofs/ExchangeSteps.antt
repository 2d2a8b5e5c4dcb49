-- The first event of what is still to come once all clients have made their edits.
use Rattle.std.proofs.Common.{◌≡◌, ℕ, ◌+◌, ◌≤◌, Bool, true, false, not, eqb, nat_eq, List, ◌∷◌, ◌++◌, Option, Some, None, ap, ◌∙◌, refl, subst, arith}
use Rattle.std.specs.Option.{option_eq}
use Rattle.std.proofs.lemmas.Bool.Decides.{nat_tests}
use Rattle.ft_gen.specs.declared.exchange.Exchange.{Exchange}
use Rattle.ft_gen.specs.declared.exchange.Exchange.TheVariants.{Learn, Noop, LearnNoops, Compact}
use Rattle.ft_gen.specs.Rounds.{compaction, compacts, each, each_both, from, is_told, others, says_nothing, tickets}
use Rattle.ft_gen.specs.Exchange.{IsExchange, compacts_from, exchange_to_come, lessons_from, noop_lessons_from, noops_from}
use Rattle.ft_gen.proofs.Numbering.{from-more}

pub lessons-first : (count round : ℕ) (o : Exchange) (i : ℕ) → o ≡ Learn i → IsExchange count o → exchange_to_come count round o ≡ is_told i ∷ lessons_from count round (i + 1)
lessons-first count round o i e s =
    ap (exchange_to_come count round) e ∙ ap (λ is. each is_told is ++ compaction count round) (from-more count i (subst (IsExchange count) e s))

pub noops-first : (count round : ℕ) (o : Exchange) (i : ℕ) → o ≡ Noop i → IsExchange count o → exchange_to_come count round o ≡ says_nothing i ∷ (tickets i ∷ noops_from count (i + 1))
noops-first count round o i e s =
    ap (exchange_to_come count round) e ∙ ap (λ is. each_both says_nothing tickets is ++ noop_lessons_from count 1) (from-more count i (subst (IsExchange count) e s))

pub noop_lessons-first : (count round : ℕ) (o : Exchange) (i : ℕ) → o ≡ LearnNoops i → IsExchange count o → exchange_to_come count round o ≡ is_told i ∷ noop_lessons_from count (i + 1)
noop_lessons-first count round o i e s =
    ap (exchange_to_come count round) e ∙ ap (λ is. each is_told is ++ compacts_from count 1) (from-more count i (subst (IsExchange count) e s))

pub compacts-first : (count round : ℕ) (o : Exchange) (i : ℕ) → o ≡ Compact i → IsExchange count o → exchange_to_come count round o ≡ compacts i ∷ compacts_from count (i + 1)
compacts-first count round o i e s =
    ap (exchange_to_come count round) e ∙ ap (each compacts) (from-more count i (subst (IsExchange count) e s))

-- ---- the clients but the dropped one

skipped : (d i : ℕ) (is : List ℕ) (b : Bool) → nat_eq i d ≡ b → not (eqb d i) ≡ false → others (Some d) (i ∷ is) ≡ others (Some d) is
skipped d i is true e same = rw e
skipped d i is false e same = absurd (grind (arith, nat_tests))

skips : (d : Option ℕ) (i : ℕ) (is : List ℕ) → not (option_eq eqb d (Some i)) ≡ false → others d (i ∷ is) ≡ others d is
skips None i is same = absurd cc
skips (Some d) i is same = skipped d i is (nat_eq i d) refl same

pub others-skip : (d : Option ℕ) (count i : ℕ) → i ≤ count → not (option_eq eqb d (Some i)) ≡ false → others d (from count i) ≡ others d (from count (i + 1))
others-skip d count i h same = ap (others d) (from-more count i h) ∙ skips d i (from count (i + 1)) same

kept : (d i : ℕ) (is : List ℕ) (b : Bool) → nat_eq i d ≡ b → not (eqb d i) ≡ true → others (Some d) (i ∷ is) ≡ i ∷ others (Some d) is
kept d i is true e other = absurd (grind (arith, nat_tests))
kept d i is false e other = rw e

keeps : (d : Option ℕ) (i : ℕ) (is : List ℕ) → not (option_eq eqb d (Some i)) ≡ true → others d (i ∷ is) ≡ i ∷ others d is
keeps None i is other = refl
keeps (Some d) i is other = kept d i is (nat_eq i d) refl other

pub others-keep : (d : Option ℕ) (count i : ℕ) → i ≤ count → not (option_eq eqb d (Some i)) ≡ true → others d (from count i) ≡ i ∷ others d (from count (i + 1))
others-keep d count i h other = ap (others d) (from-more count i h) ∙ keeps d i (from count (i + 1)) other
