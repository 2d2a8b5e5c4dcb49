-- A leaf that was put in stands among the leaves.
use Rattle.std.proofs.Common.{◌≡◌, ℕ, ◌≤◌, List, [], ◌∷◌, Option, Some, None, ap, inl, inr, arith, eqb}
use Rattle.std.proofs.lemmas.Bool.{cases_eq, cond-true, cond-false, eq-eqb, ne_eqb}
use Rattle.ft_arena.proofs.IdLemmas.{same_refl, same_other}
use Rattle.ft_block.specs.Leaves.{IsLeafIn, IsPlaceIn, times_leaf, put_leaf_after, put_leaf}

module _ {L : Type 0} where
  put-after : (xs : List (ℕ × L)) (at : ℕ) (new : ℕ × L) → IsLeafIn xs at → IsLeafIn (put_leaf_after xs at new) new.0
  put-after [] at new h = absurd (omega arith)
  put-after (x ∷ xs) at new h = elim (cases_eq x.0 at) [
    | inl e ↦
        let put : put_leaf_after (x ∷ xs) at new ≡ x ∷ new ∷ put_leaf_after xs at new = cond-true (eqb x.0 at) _ _ (eq-eqb x.0 at e) in
        omega (arith, same_refl new.0, ap (λ (zs : List (ℕ × L)). times_leaf zs new.0) put)
    | inr d ↦
        let put : put_leaf_after (x ∷ xs) at new ≡ x ∷ put_leaf_after xs at new = cond-false (eqb x.0 at) _ _ (ne_eqb x.0 at d) in
        let rest : 1 ≤ times_leaf (put_leaf_after xs at new) new.0 = put-after xs at new (omega (arith, h, same_other x.0 at d)) in
        omega (arith, rest, ap (λ (zs : List (ℕ × L)). times_leaf zs new.0) put)
  ]

  pub put-in : (xs : List (ℕ × L)) (at : Option ℕ) (new : ℕ × L) → IsPlaceIn xs at → IsLeafIn (put_leaf xs at new) new.0
  put-in xs None new h = omega (arith, same_refl new.0)
  put-in xs (Some at) new h = put-after xs at new h
