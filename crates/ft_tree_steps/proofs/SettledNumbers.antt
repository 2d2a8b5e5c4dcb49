-- The number of an element as it is settled: how many are seen before it, or that of the last one where none is seen from it on.
use Rattle.std.proofs.Common.{◌≡◌, ℕ, zero, suc, ◌+◌, ◌-◌, ◌<◌, ◌≤◌, ◌⊎◌, Bool, true, false, cond, min, nat_eq, List, [], ◌∷◌, length, take, Option, Some, None, option_map}
use Rattle.std.proofs.Common.{refl, sym, ap, ◌∙◌, inl, inr, arith}
use Rattle.std.specs.Option.{option_or}
use Rattle.std.proofs.lemmas.Bool.Decides.{nat_tests}
use Rattle.ft_base.specs.Scan.{len, one_more_if}
use Rattle.ft_tree_leaves.specs.Places.{seen_before, settled_number}
use Rattle.ft_tree_leaves.specs.Settling.{first_from, settled_from}
use Rattle.ft_tree_leaves.proofs.Settling.{settled_place-from}

-- this many, but fewer than all; none where there are none
abbrev pub number_within : ℕ → ℕ → Option ℕ
number_within count zero = None
number_within count (suc last) = Some (min count last)

more : (b : Bool) (m n : ℕ) → one_more_if b m + n ≡ m + one_more_if b n
more true m n = omega arith
more false m n = refl

module _ {A : Type 0} (ok : A → Bool) (number : ℕ → ℕ) where
  -- each place from n on has the number of the ok elements before it, where n stand before the list and m of these are ok
  abbrev AreNumbers : ℕ → ℕ → List A → Type 0
  AreNumbers n m xs = (j : ℕ) → n ≤ j → number j ≡ m + len ok (take (j - n) xs)

  numbers_next : (n m : ℕ) (x : A) (xs : List A) → AreNumbers n m (x ∷ xs) → AreNumbers (n + 1) (one_more_if (ok x) m) xs
  numbers_next n m x xs all j l =
      let step : j - n ≡ suc (j - (n + 1)) = omega (arith, l) in
      all j (omega (arith, l)) ∙ ap (λ k. m + len ok (take k (x ∷ xs))) step ∙ sym (more (ok x) m (len ok (take (j - (n + 1)) xs)))

  number_here : (n m : ℕ) (x : A) (xs : List A) → AreNumbers n m (x ∷ xs) → number n ≡ m
  number_here n m x xs all =
      let none : n - n ≡ zero = omega arith in
      all n (omega arith) ∙ ap (λ k. m + len ok (take k (x ∷ xs))) none ∙ omega arith

  -- no element is ok, or the first that is has the number of those before the list
  abbrev IsFirst : ℕ → ℕ → List A → Type 0
  IsFirst n m xs = ((first_from ok n xs ≡ None) × (len ok xs ≡ 0)) ⊎ ((j : ℕ) × (first_from ok n xs ≡ Some j) × (number j ≡ m) × (1 ≤ len ok xs))

  first_is : (n m : ℕ) (xs : List A) → AreNumbers n m xs → IsFirst n m xs
  first_is n m [] all = inl (refl, refl)
  first_is n m (x ∷ xs) all = by_test (ok x) refl (first_is (n + 1) (one_more_if (ok x) m) xs (numbers_next n m x xs all))
    where
      by_test : (b : Bool) → ok x ≡ b → IsFirst (n + 1) (one_more_if (ok x) m) xs → IsFirst n m (x ∷ xs)
      by_test true e rest = inr (
        n,
        ap (λ b. cond b (Some n) (first_from ok (n + 1) xs)) e,
        number_here n m x xs all,
        omega (arith, ap (λ b. one_more_if b (len ok xs)) e),
      )
      by_test false e rest = elim rest [
        | inl none ↦ inl (
          ap (λ b. cond b (Some n) (first_from ok (n + 1) xs)) e ∙ none.0,
          ap (λ b. one_more_if b (len ok xs)) e ∙ none.1,
        )
        | inr some ↦ inr (
          some.0,
          ap (λ b. cond b (Some n) (first_from ok (n + 1) xs)) e ∙ some.1,
          some.2 ∙ ap (λ b. one_more_if b m) e,
          omega (arith, some.3, ap (λ b. one_more_if b (len ok xs)) e),
        )
      ]

  settled_numbers : (k i n m : ℕ) (last : Option ℕ) (xs : List A) → i ≡ n + k → k < length xs → AreNumbers n m xs → ((j : ℕ) → last ≡ Some j → number j + 1 ≡ m)
      → (last ≡ None → m ≡ 0)
      → option_map number (settled_from ok i last n xs) ≡ number_within (number i) (m + len ok xs)
  settled_numbers k i n m last [] at within all is none = absurd (omega (arith, within))
  settled_numbers zero i n m last (x ∷ xs) at within all is none =
      let here : nat_eq n i ≡ true = grind (arith, nat_tests, at) in
      let own : number i ≡ m = ap number at ∙ ap number (let same : n + zero ≡ n = omega arith in same) ∙ number_here n m x xs all in
      ap (λ b. option_map number (cond b (option_or (first_from ok n (x ∷ xs)) last) (settled_from ok i (cond (ok x) (Some n) last) (n + 1) xs))) here
      ∙ by_first own (first_is n m (x ∷ xs) all)
    where
      by_last : (o : Option ℕ) → last ≡ o → number i ≡ m → len ok (x ∷ xs) ≡ 0 → option_map number o ≡ number_within (number i) (m + len ok (x ∷ xs))
      by_last None e own empty =
          let all_none : m + len ok (x ∷ xs) ≡ zero = omega (arith, none e, empty) in
          sym (ap (number_within (number i)) all_none)
      by_last (Some j) e own empty =
          let total : m + len ok (x ∷ xs) ≡ suc (number j) = omega (arith, is j e, empty) in
          let least : min (number i) (number j) ≡ number j = omega (arith, own, is j e) in
          sym (ap (number_within (number i)) total ∙ ap Some least)

      by_first : number i ≡ m → IsFirst n m (x ∷ xs) → option_map number (option_or (first_from ok n (x ∷ xs)) last) ≡ number_within (number i) (m + len ok (x ∷ xs))
      by_first own (inl nothing) = ap (λ o. option_map number (option_or o last)) nothing.0 ∙ by_last last refl own nothing.1
      by_first own (inr some) =
          let total : m + len ok (x ∷ xs) ≡ suc (m + len ok (x ∷ xs) - 1) = omega (arith, some.3) in
          let least : min (number i) (m + len ok (x ∷ xs) - 1) ≡ number some.0 = omega (arith, own, some.2, some.3) in
          ap (λ o. option_map number (option_or o last)) some.1 ∙ sym (ap (number_within (number i)) total ∙ ap Some least)
  settled_numbers (suc k) i n m last (x ∷ xs) at within all is none =
      let apart : nat_eq n i ≡ false = grind (arith, nat_tests, at) in
      ap (λ b. option_map number (cond b (option_or (first_from ok n (x ∷ xs)) last) (settled_from ok i (cond (ok x) (Some n) last) (n + 1) xs))) apart
      ∙ settled_numbers k i (n + 1) (one_more_if (ok x) m) (cond (ok x) (Some n) last) xs (omega (arith, at)) (omega (arith, within)) (numbers_next n m x xs all)
      (is_next (ok x) (number_here n m x xs all)) (none_next (ok x))
      ∙ ap (number_within (number i)) (more (ok x) m (len ok xs))
    where
      is_next : (b : Bool) → number n ≡ m → (j : ℕ) → cond b (Some n) last ≡ Some j → number j + 1 ≡ one_more_if b m
      is_next true here j e = let same : n ≡ j = (cc) in omega (arith, here, ap number same)
      is_next false here j e = is j e

      none_next : (b : Bool) → cond b (Some n) last ≡ None → one_more_if b m ≡ 0
      none_next true e = (cc)
      none_next false e = none e

module _ {A : Type 0} (ok : A → Bool) where
  pub settled_number-within : (xs : List A) (i : ℕ) → i < length xs → settled_number ok xs i ≡ number_within (seen_before ok xs i) (len ok xs)
  settled_number-within xs i within =
      let start = λ (j : ℕ) (l : 0 ≤ j). let same : j ≡ j - 0 = omega arith in let none : len ok (take (j - 0) xs) ≡ 0 + len ok (take (j - 0) xs) = omega arith in
      ap (λ k. len ok (take k xs)) same ∙ none in
      ap (option_map (seen_before ok xs)) (settled_place-from ok i xs)
      ∙ settled_numbers ok (seen_before ok xs) i i 0 0 None xs (omega arith) within start (λ j e. cc) (λ e. refl)
      ∙ ap (number_within (seen_before ok xs i)) (let whole : 0 + len ok xs ≡ len ok xs = omega arith in whole)
