-- Ends that are settled at a stage: they stand on an element that it sees, and stay there.
use Rattle.std.proofs.Common.{◌≡◌, ℕ, zero, suc, ◌+◌, ◌<◌, ◌≤◌, Bool, true, false, cond, nat_eq, List, [], ◌∷◌, length, Option, Some, None, is_some, option_map, option_and_then, refl, sym, ◌∙◌, ap, subst, arith}
use Rattle.std.specs.Option.{option_or}
use Rattle.std.proofs.lemmas.Bool.Decides.{nat_tests}
use Rattle.ft_base.specs.Scan.{len, one_more_if}
use Rattle.ft_block.specs.declared.leaves.LenView.TheVariants.{Stage}
use Rattle.ft_tree_leaves.specs.Elements.{TreeElement, seen_in}
use Rattle.ft_tree_leaves.specs.Places.{seen_before, settled_number, settled_place}
use Rattle.ft_tree_leaves.specs.Settling.{first_from, settled_from}
use Rattle.ft_tree_leaves.proofs.Settling.{settled_place-from}
use Rattle.ft_interval_store.specs.Numbers.{IsNumber}
use Rattle.ft_interval_store.specs.Shown.{settled_end}

module _ {A : Type 0} (ok : A → Bool) where
  -- whether an element that is ok stands at place i
  abbrev pub is_ok_at : ℕ → List A → Bool
  is_ok_at i [] = false
  is_ok_at zero (x ∷ xs) = ok x
  is_ok_at (suc i) (x ∷ xs) = is_ok_at i xs

  -- one that is ok stays
  stays_from : (j n : ℕ) (prev : Option ℕ) (xs : List A) → is_ok_at j xs ≡ true → settled_from ok (n + j) prev n xs ≡ Some (n + j)
  stays_from j n prev [] h = absurd cc
  stays_from zero n prev (x ∷ xs) h = grind (arith, nat_tests)
  stays_from (suc j) n prev (x ∷ xs) h =
      let here : nat_eq n (n + suc j) ≡ false = grind (arith, nat_tests) in
      let next : (n + 1) + j ≡ n + suc j = omega arith in
      let last : Option ℕ = cond (ok x) (Some n) prev in
      ap (λ b. cond b (option_or (first_from ok n (x ∷ xs)) prev) (settled_from ok (n + suc j) last (n + 1) xs)) here
      ∙ ap (λ i. settled_from ok i last (n + 1) xs) (sym next) ∙ stays_from j (n + 1) last xs h ∙ ap (λ i. Some i) next

  pub settled-stays : (i : ℕ) (xs : List A) → is_ok_at i xs ≡ true → settled_place ok xs i ≡ Some i
  settled-stays i xs h =
      let e : 0 + i ≡ i = omega arith in
      settled_place-from ok i xs ∙ ap (λ a. settled_from ok a None 0 xs) (sym e) ∙ stays_from i 0 None xs h ∙ ap (λ a. Some a) e

  first-ok : (zs : List A) (n j : ℕ) (xs : List A) → ((m : ℕ) → is_ok_at m xs ≡ is_ok_at (n + m) zs) → first_from ok n xs ≡ Some j → is_ok_at j zs ≡ true
  first-ok zs n j [] same h = absurd cc
  first-ok zs n j (x ∷ xs) same h =
      step (ok x) refl h (λ k. first-ok zs (n + 1) j xs (λ m. (let next : n + suc m ≡ (n + 1) + m = omega arith in same (suc m) ∙ ap (λ i. is_ok_at i zs) next)) k)
    where
      step : (b : Bool) → ok x ≡ b → cond b (Some n) (first_from ok (n + 1) xs) ≡ Some j → (first_from ok (n + 1) xs ≡ Some j → is_ok_at j zs ≡ true)
          → is_ok_at j zs ≡ true
      step true e k f =
          let here : n ≡ j = cc in
          let at : n + 0 ≡ j = omega (arith, here) in
          sym (ap (λ i. is_ok_at i zs) at) ∙ sym (same 0) ∙ e
      step false e k f = f k

  -- where an end settles, an element is ok
  ok_from : (zs : List A) (i n : ℕ) (prev : Option ℕ) (xs : List A) → ((p : ℕ) → prev ≡ Some p → is_ok_at p zs ≡ true)
      → ((m : ℕ) → is_ok_at m xs ≡ is_ok_at (n + m) zs) → (j : ℕ) → settled_from ok i prev n xs ≡ Some j → is_ok_at j zs ≡ true
  ok_from zs i n prev [] before same j h = absurd cc
  ok_from zs i n prev (x ∷ xs) before same j h =
      step (nat_eq n i) h
      (λ k. ok_from zs i (n + 1) (cond (ok x) (Some n) prev) xs (λ p e. last (ok x) refl p e)
      (λ m. (let next : n + suc m ≡ (n + 1) + m = omega arith in same (suc m) ∙ ap (λ a. is_ok_at a zs) next)) j k)
    where
      last : (b : Bool) → ok x ≡ b → (p : ℕ) → cond b (Some n) prev ≡ Some p → is_ok_at p zs ≡ true
      last true e p k =
          let here : n ≡ p = cc in
          let at : n + 0 ≡ p = omega (arith, here) in
          sym (ap (λ a. is_ok_at a zs) at) ∙ sym (same 0) ∙ e
      last false e p k = before p k

      either : (o : Option ℕ) → first_from ok n (x ∷ xs) ≡ o → option_or o prev ≡ Some j → is_ok_at j zs ≡ true
      either None e k = before j k
      either (Some q) e k = first-ok zs n j (x ∷ xs) same (e ∙ k)

      step : (b : Bool) → cond b (option_or (first_from ok n (x ∷ xs)) prev) (settled_from ok i (cond (ok x) (Some n) prev) (n + 1) xs) ≡ Some j
          → (settled_from ok i (cond (ok x) (Some n) prev) (n + 1) xs ≡ Some j → is_ok_at j zs ≡ true) → is_ok_at j zs ≡ true
      step true k f = either (first_from ok n (x ∷ xs)) refl k
      step false k f = f k

  pub settled-ok : (i j : ℕ) (xs : List A) → settled_place ok xs i ≡ Some j → is_ok_at j xs ≡ true
  settled-ok i j xs h = ok_from xs i 0 None xs (λ p e. absurd cc) (λ m. (let e : m ≡ 0 + m = omega arith in ap (λ a. is_ok_at a xs) e)) j (sym (settled_place-from ok i xs) ∙ h)

  -- where one is ok, a place in the list settles
  some-first : (n : ℕ) (xs : List A) → 1 ≤ len ok xs → is_some (first_from ok n xs) ≡ true
  some-first n [] h = absurd (omega arith)
  some-first n (x ∷ xs) h = step (ok x) h (some-first (n + 1) xs)
    where
      step : (b : Bool) → 1 ≤ one_more_if b (len ok xs) → (1 ≤ len ok xs → is_some (first_from ok (n + 1) xs) ≡ true)
          → is_some (cond b (Some n) (first_from ok (n + 1) xs)) ≡ true
      step true h f = refl
      step false h f = f h

  some-or : (o last : Option ℕ) → (is_some last ≡ false → is_some o ≡ true) → is_some (option_or o last) ≡ true
  some-or None None f = f refl
  some-or None (Some m) f = refl
  some-or (Some n) last f = refl

  some_from : (i n : ℕ) (last : Option ℕ) (xs : List A) → i < length xs → 1 ≤ one_more_if (is_some last) (len ok xs)
      → is_some (settled_from ok (n + i) last n xs) ≡ true
  some_from i n last [] l h = absurd (omega arith)
  some_from zero n last (x ∷ xs) l h =
      let here : nat_eq n (n + 0) ≡ true = grind (arith, nat_tests) in
      let next : Option ℕ = cond (ok x) (Some n) last in
      ap (λ b. is_some (cond b (option_or (first_from ok n (x ∷ xs)) last) (settled_from ok (n + 0) next (n + 1) xs))) here
      ∙ some-or (first_from ok n (x ∷ xs)) last (λ e. some-first n (x ∷ xs) (subst (λ b. 1 ≤ one_more_if b (len ok (x ∷ xs))) e h))
  some_from (suc i) n last (x ∷ xs) l h =
      let here : nat_eq n (n + suc i) ≡ false = grind (arith, nat_tests) in
      let behind : (n + 1) + i ≡ n + suc i = omega arith in
      let next : Option ℕ = cond (ok x) (Some n) last in
      ap (λ b. is_some (cond b (option_or (first_from ok n (x ∷ xs)) last) (settled_from ok (n + suc i) next (n + 1) xs))) here
      ∙ ap (λ j. is_some (settled_from ok j next (n + 1) xs)) (sym behind)
      ∙ some_from i (n + 1) next xs (omega (arith, l)) (more (ok x) h)
    where
      more : (b : Bool) → 1 ≤ one_more_if (is_some last) (one_more_if b (len ok xs))
          → 1 ≤ one_more_if (is_some (cond b (Some n) last)) (len ok xs)
      more true g = omega arith
      more false g = g

  pub settled-some : (i : ℕ) (xs : List A) → i < length xs → 1 ≤ len ok xs → is_some (settled_place ok xs i) ≡ true
  settled-some i xs l h =
      let e : 0 + i ≡ i = omega arith in
      ap (λ o. is_some o) (settled_place-from ok i xs) ∙ ap (λ a. is_some (settled_from ok a None 0 xs)) (sym e) ∙ some_from i 0 None xs l h

  -- so the number of a reference's element is none only where it is detached or nothing is seen
  pub number-some : (i : ℕ) (xs : List A) → i < length xs → 1 ≤ len ok xs → is_some (settled_number ok xs i) ≡ true
  number-some i xs l h = step (settled_place ok xs i) (settled-some i xs l h)
    where
      step : (o : Option ℕ) → is_some o ≡ true → is_some (option_map (seen_before ok xs) o) ≡ true
      step None e = cc
      step (Some j) e = refl

module _ {U : Type 0} (xs : List (TreeElement U)) (k : ℕ) where
  by_place : (o result : Option ℕ) (i : ℕ) → settled_place (seen_in (Stage k)) xs i ≡ o → result ≡ option_map (seen_before (seen_in (Stage k)) xs) o
      → IsNumber xs k o result
  by_place None result i e h = record { seen = refl; is = h }
  by_place (Some j) result i e h = record { seen = settled-stays (seen_in (Stage k)) j xs (settled-ok (seen_in (Stage k)) i j xs e); is = h }

  -- an end that is settled stays where it is
  pub settled-twice : (end : Option ℕ) → settled_end xs k (settled_end xs k end) ≡ settled_end xs k end
  settled-twice None = refl
  settled-twice (Some i) = by (settled_place (seen_in (Stage k)) xs i) refl
    where
      by : (o : Option ℕ) → settled_place (seen_in (Stage k)) xs i ≡ o → settled_end xs k o ≡ o
      by None e = refl
      by (Some j) e = settled-stays (seen_in (Stage k)) j xs (settled-ok (seen_in (Stage k)) i j xs e)

-- the end of a reference, settled at a stage, with its number there
pub settled-number : {U : Type 0} (xs : List (TreeElement U)) (k : ℕ) (end result : Option ℕ)
    → result ≡ option_and_then (settled_number (seen_in (Stage k)) xs) end → IsNumber xs k (settled_end xs k end) result
settled-number xs k None result h = record { seen = refl; is = h }
settled-number xs k (Some i) result h = by_place xs k (settled_place (seen_in (Stage k)) xs i) result i refl h
