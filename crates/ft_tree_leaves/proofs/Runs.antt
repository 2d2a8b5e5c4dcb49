-- How scans pass over a run of elements that are seen alike.
use Rattle.std.proofs.Common.{◌≡◌, ℕ, zero, suc, ◌+◌, ◌<◌, ◌≤◌, Bool, true, false, List, [], ◌∷◌, ◌++◌, map, length, refl, ◌∙◌, ap, arith}
use Rattle.std.specs.List.{prefix_len}
use Rattle.ft_base.specs.Scan.{len, one_more_if, place}

one_more_sum : (b : Bool) (m n k : ℕ) → k ≡ m + n → one_more_if b k ≡ one_more_if b m + n
one_more_sum true m n k e = omega arith
one_more_sum false m n k e = e

pub len-append : {A : Type 0} (seen : A → Bool) (xs ys : List A) → len seen (xs ++ ys) ≡ len seen xs + len seen ys
len-append seen [] ys = omega arith
len-append seen (x ∷ xs) ys = one_more_sum (seen x) (len seen xs) (len seen ys) (len seen (xs ++ ys)) (len-append seen xs ys)

module _ {A U : Type 0} (seen : A → Bool) (f : U → A) where
  pub len-seen : ((u : U) → seen (f u) ≡ true) → (us : List U) → len seen (map f us) ≡ length us
  len-seen h [] = refl
  len-seen h (u ∷ us) = grind (arith, h u, len-seen h us)

  pub len-unseen : ((u : U) → seen (f u) ≡ false) → (us : List U) → len seen (map f us) ≡ 0
  len-unseen h [] = refl
  len-unseen h (u ∷ us) = grind (arith, h u, len-unseen h us)

  -- a place behind a run that is seen
  pub place-past_seen : ((u : U) → seen (f u) ≡ true) → (us : List U) (n p : ℕ) (ys : List A) → n ≡ length us + p
      → place seen n (map f us ++ ys) ≡ length us + place seen p ys
  place-past_seen h [] n p ys e = let same : n ≡ p = omega arith in ap (λ k. place seen k ys) same ∙ omega arith
  place-past_seen h (u ∷ us) zero p ys e = absurd (omega arith)
  place-past_seen h (u ∷ us) (suc n) p ys e = let less : n ≡ length us + p = omega arith in grind (arith, h u, place-past_seen h us n p ys less)

  -- a place behind a run that isn't seen
  pub place-past_unseen : ((u : U) → seen (f u) ≡ false) → (us : List U) (p : ℕ) (ys : List A) → 0 < p
      → place seen p (map f us ++ ys) ≡ length us + place seen p ys
  place-past_unseen h [] p ys some = omega arith
  place-past_unseen h (u ∷ us) zero ys some = absurd (omega arith)
  place-past_unseen h (u ∷ us) (suc p) ys some = grind (arith, h u, place-past_unseen h us (suc p) ys some)

  -- a place within a run that is seen
  pub place-within : ((u : U) → seen (f u) ≡ true) → (us : List U) (p : ℕ) (ys : List A) → p ≤ length us → place seen p (map f us ++ ys) ≡ p
  place-within h [] zero ys le = refl
  place-within h [] (suc p) ys le = absurd (omega arith)
  place-within h (u ∷ us) zero ys le = refl
  place-within h (u ∷ us) (suc p) ys le = let less : p ≤ length us = omega arith in grind (arith, h u, place-within h us p ys less)

  -- a run that passes the test at the front
  pub prefix_len-past : ((u : U) → seen (f u) ≡ true) → (us : List U) (ys : List A) → prefix_len seen (map f us ++ ys) ≡ length us + prefix_len seen ys
  prefix_len-past h [] ys = omega arith
  prefix_len-past h (u ∷ us) ys = grind (arith, h u, prefix_len-past h us ys)

  -- a run that doesn't
  pub prefix_len-none : ((u : U) → seen (f u) ≡ false) → (us : List U) (ys : List A) → 0 < length us → prefix_len seen (map f us ++ ys) ≡ 0
  prefix_len-none h [] ys some = absurd (omega arith)
  prefix_len-none h (u ∷ us) ys some = grind (arith, h u)
