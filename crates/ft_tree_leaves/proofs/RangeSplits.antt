-- A change of a range as one of the part of the list between its two places.
use Rattle.std.proofs.Common.{◌≡◌, ℕ, zero, suc, ◌+◌, ◌-◌, ◌<◌, ◌≤◌, Bool, true, false, cond, ◌&&◌, List, [], ◌∷◌, ◌++◌, map, take, drop, refl, ◌∙◌, ap, arith}
use Rattle.std.proofs.lemmas.Bool.Decides.{nat_tests}
use Rattle.ft_base.specs.Scan.{change_range, change_range_from, one_more_if, place, within}

-- f where the element is seen
abbrev pub where_seen : {A : Type 0} → (A → Bool) → (A → A) → A → A
where_seen seen f x = cond (seen x) (f x) x

within_before : (p q i : ℕ) → i < p → within p q i ≡ false
within_before p q i h = grind (arith, nat_tests)

within_inside : (p q i : ℕ) → p ≤ i → i < q → within p q i ≡ true
within_inside p q i h k = grind (arith, nat_tests)

within_behind : (p q i : ℕ) → q ≤ i → within p q i ≡ false
within_behind p q i h = grind (arith, nat_tests)

module _ {A : Type 0} (seen : A → Bool) (p q : ℕ) (f : A → A) where
  abbrev range : ℕ → List A → List A
  range i xs = change_range_from i seen p q f xs

  out_by : (b w : Bool) (x : A) (xs ys zs : List A) (i : ℕ) → w ≡ false → range (suc i) xs ≡ ys → range i xs ≡ zs
      → cond (b && w) (f x) x ∷ range (one_more_if b i) xs ≡ x ∷ cond b ys zs
  out_by true w x xs ys zs i out h k = ap (λ v. cond v (f x) x ∷ range (suc i) xs) out ∙ ap (λ us. x ∷ us) h
  out_by false w x xs ys zs i out h k = ap (λ us. x ∷ us) k

  same_both : (b : Bool) (xs : List A) → cond b xs xs ≡ xs
  same_both true xs = refl
  same_both false xs = refl

  -- nothing changes behind the range
  range-behind : (i : ℕ) (xs : List A) → q ≤ i → range i xs ≡ xs
  range-behind i [] h = refl
  range-behind i (x ∷ xs) h =
      out_by (seen x) (within p q i) x xs xs xs i (within_behind p q i h) (range-behind (suc i) xs (omega arith)) (range-behind i xs h)
      ∙ ap (λ us. x ∷ us) (same_both (seen x) xs)

  before : ℕ → List A → List A
  before n xs = take (place seen n xs) xs ++ range p (drop (place seen n xs) xs)

  before_both : (b : Bool) (n : ℕ) (xs : List A) → cond b (before n xs) (before (suc n) xs) ≡ before (cond b n (suc n)) xs
  before_both true n xs = refl
  before_both false n xs = refl

  range_before : (n i : ℕ) (xs : List A) → i + n ≡ p → range i xs ≡ before n xs
  unfolding before
  range_before zero i xs e = let same : i ≡ p = omega arith in ap (λ k. range k xs) same
  range_before (suc n) i [] e = refl
  range_before (suc n) i (x ∷ xs) e =
      out_by (seen x) (within p q i) x xs (before n xs) (before (suc n) xs) i (within_before p q i (omega arith))
      (range_before n (suc i) xs (omega arith)) (range_before (suc n) i xs e)
      ∙ ap (λ us. x ∷ us) (before_both (seen x) n xs)

  inside : ℕ → List A → List A
  inside n xs = map (where_seen seen f) (take (place seen n xs) xs) ++ drop (place seen n xs) xs

  inside_by : (b w : Bool) (n : ℕ) (x : A) (xs : List A) (i : ℕ) → w ≡ true → range (suc i) xs ≡ inside n xs → range i xs ≡ inside (suc n) xs
      → cond (b && w) (f x) x ∷ range (one_more_if b i) xs ≡ cond b (f x) x ∷ inside (cond b n (suc n)) xs
  inside_by true w n x xs i out h k = ap (λ v. cond v (f x) x ∷ range (suc i) xs) out ∙ ap (λ us. f x ∷ us) h
  inside_by false w n x xs i out h k = ap (λ us. x ∷ us) k

  range_inside : (n i : ℕ) (xs : List A) → i + n ≡ q → p ≤ i → range i xs ≡ inside n xs
  unfolding inside
  range_inside zero i xs e h = range-behind i xs (omega arith)
  range_inside (suc n) i [] e h = refl
  range_inside (suc n) i (x ∷ xs) e h =
      inside_by (seen x) (within p q i) n x xs i (within_inside p q i h (omega arith)) (range_inside n (suc i) xs (omega arith) (omega arith))
      (range_inside (suc n) i xs e h)

  pub change_range-split : p ≤ q → (xs : List A)
      → change_range seen p q f xs
      ≡ take (place seen p xs) xs ++
      (map (where_seen seen f) (take (place seen (q - p) (drop (place seen p xs) xs)) (drop (place seen p xs) xs)) ++ drop
      (place seen (q - p) (drop (place seen p xs) xs)) (drop (place seen p xs) xs))
  unfolding before inside
  change_range-split order xs =
      range_before p 0 xs (omega arith) ∙ ap (λ us. take (place seen p xs) xs ++ us) (range_inside (q - p) p (drop (place seen p xs) xs) (omega arith) (omega arith))
