-- The place of an insertion among the shown elements, element by element.
use Rattle.std.proofs.Common.{◌≡◌, ℕ, zero, suc, ◌+◌, ◌-◌, ◌<◌, Bool, true, cond, List, [], ◌∷◌, sym, ◌∙◌, ap, arith, drop, get_or, length}
use Rattle.ft_base.specs.Scan.{one_more_if}
use Rattle.ft_changes.specs.ShownRuns.{place_of_insertion, shown_in_run}

later : {A : Type 0} (i : ℕ) (x : A) (xs : List A) → drop (suc i + 1) (x ∷ xs) ≡ drop (i + 1) xs
later i x xs = let same : suc i + 1 ≡ suc (i + 1) = omega arith in ap (λ n. drop n (x ∷ xs)) same

module _ {A : Type 0} (seen past shown : A → Bool) where
  pub shown-past : (i : ℕ) (d : A) (xs : List A) → i < length xs → past (get_or xs i d) ≡ true
      → place_of_insertion seen past shown 0 (drop i xs) ≡ one_more_if (shown (get_or xs i d)) (place_of_insertion seen past shown 0 (drop (i + 1) xs))
  shown-past i d [] h e = absurd (omega arith)
  shown-past zero d (x ∷ xs) h e = ap (λ b. cond b (one_more_if (shown x) (shown_in_run past shown xs)) 0) e
  shown-past (suc i) d (x ∷ xs) h e = shown-past i d xs (omega arith) e ∙ ap (λ ys. one_more_if (shown (get_or xs i d)) (shown_in_run past shown ys)) (sym (later i x xs))

  pub shown-step : (n i : ℕ) (d : A) (xs : List A) → 0 < n → i < length xs
      → place_of_insertion seen past shown n (drop i xs) ≡ one_more_if (shown (get_or xs i d)) (place_of_insertion seen past shown (cond (seen (get_or xs i d)) (n - 1) n) (drop (i + 1) xs))
  shown-step zero i d xs p h = absurd (omega arith)
  shown-step (suc n) i d [] p h = absurd (omega arith)
  shown-step (suc n) zero d (x ∷ xs) p h =
      let same : n ≡ suc n - 1 = omega arith in
      ap (λ m. one_more_if (shown x) (place_of_insertion seen past shown (cond (seen x) m (suc n)) xs)) same
  shown-step (suc n) (suc i) d (x ∷ xs) p h =
      shown-step (suc n) i d xs p (omega arith)
      ∙ ap (λ ys. one_more_if (shown (get_or xs i d)) (place_of_insertion seen past shown (cond (seen (get_or xs i d)) (suc n - 1) (suc n)) ys)) (sym (later i x xs))
