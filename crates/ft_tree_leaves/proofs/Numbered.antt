-- The place of a seen element, and how many seen ones stand before a place, run by run.
use Rattle.std.proofs.Common.{◌≡◌, ℕ, zero, suc, ◌+◌, ◌≤◌, Bool, true, false, List, [], ◌∷◌, ◌++◌, map, length, take, Option, option_map, refl, ap, arith}
use Rattle.std.specs.List.{enumerate_from}
use Rattle.ft_base.specs.Scan.{at, len}

-- the place of the seen element with p seen ones before it, where n stand before the list
abbrev pub place_from : {A : Type 0} → (A → Bool) → ℕ → ℕ → List A → Option ℕ
place_from seen n p xs = option_map (λ x. x.0) (at (λ x. seen x.1) p (enumerate_from n xs))

module _ {A U : Type 0} (seen : A → Bool) (f : U → A) where
  -- how many seen ones stand before a place in a run
  pub taken_seen : ((u : U) → seen (f u) ≡ true) → (us : List U) (i : ℕ) (ys : List A) → i ≤ length us → len seen (take i (map f us ++ ys)) ≡ i
  taken_seen h us zero ys le = refl
  taken_seen h [] (suc i) ys le = absurd (omega arith)
  taken_seen h (u ∷ us) (suc i) ys le = let less : i ≤ length us = omega arith in grind (arith, h u, taken_seen h us i ys less)

  pub taken_unseen : ((u : U) → seen (f u) ≡ false) → (us : List U) (i : ℕ) (ys : List A) → i ≤ length us → len seen (take i (map f us ++ ys)) ≡ 0
  taken_unseen h us zero ys le = refl
  taken_unseen h [] (suc i) ys le = absurd (omega arith)
  taken_unseen h (u ∷ us) (suc i) ys le = let less : i ≤ length us = omega arith in grind (arith, h u, taken_unseen h us i ys less)

-- and before a place behind a list
pub taken_past : {A : Type 0} (seen : A → Bool) (xs ys : List A) (i j : ℕ) → i ≡ length xs + j
    → len seen (take i (xs ++ ys)) ≡ len seen xs + len seen (take j ys)
taken_past seen [] ys i j e = let same : i ≡ j = omega arith in omega (arith, ap (λ k. len seen (take k ys)) same)
taken_past seen (x ∷ xs) ys zero j e = absurd (omega arith)
taken_past seen (x ∷ xs) ys (suc i) j e = let less : i ≡ length xs + j = omega arith in grind (arith, taken_past seen xs ys i j less)
