-- Where the elements of a list stand after others were put in, or some were changed; of any content.
use Rattle.std.proofs.Common.{◌≡◌, ℕ, zero, suc, ◌+◌, ◌≤◌, Bool, true, false, cond, ◌&&◌, List, [], ◌∷◌, ◌++◌, refl, sym, ◌∙◌, ap, arith, length, drop, zero-add, map}
use Rattle.std.specs.List.{prefix_len}
use Rattle.std.proofs.lemmas.Bool.Decides.{nat_tests}
use Rattle.ft_base.specs.Scan.{change_range_from, len, one_more_if, place, put, put_past, rank, within}
use Rattle.ft_tree_leaves.specs.Places.{put_place, shifted_place}

later : (n m : ℕ) → suc n + m ≡ suc (n + m)
later n m = omega arith

append-step : (b : Bool) (n m r k : ℕ) → one_more_if b n ≡ 0 → (n ≡ 0 → m ≡ r + k) → cond b 0 (suc m) ≡ r + suc k
append-step true n m r k h rec = absurd (omega arith)
append-step false n m r k h rec = let e = rec h in omega arith

module _ {A : Type 0} where
  -- how many elements `put` passes before it puts new ones in, by recursion
  abbrev pub put_passes : (A → Bool) → (A → Bool) → ℕ → List A → ℕ
  put_passes seen past zero xs = prefix_len past xs
  put_passes seen past (suc p) [] = 0
  put_passes seen past (suc p) (x ∷ xs) = suc (put_passes seen past (cond (seen x) p (suc p)) xs)

  put_place-passes : (seen past : A → Bool) (p : ℕ) (xs : List A) → put_place seen past p xs ≡ put_passes seen past p xs
  put_place-passes seen past zero xs = zero-add (prefix_len past xs)
  put_place-passes seen past (suc p) [] = zero-add 0
  put_place-passes seen past (suc p) (x ∷ xs) =
      let n = place seen (cond (seen x) p (suc p)) xs in
      later n (prefix_len past (drop n xs)) ∙ ap suc (put_place-passes seen past (cond (seen x) p (suc p)) xs)

shift-suc : (i n j : ℕ) → shifted_place (suc i) n (suc j) ≡ suc (shifted_place i n j)
shift-suc i n j = grind (arith, nat_tests)

shift-first : (i n : ℕ) → shifted_place (suc i) n 0 ≡ 0
shift-first i n = grind (arith, nat_tests)

shift-all : (n j : ℕ) → shifted_place 0 n j ≡ j + n
shift-all n j = grind (arith, nat_tests)

-- one step past an element that isn't the one
past-step : (b : Bool) (n m i k r : ℕ) → 1 ≤ one_more_if b n → (1 ≤ n → m ≡ shifted_place i k r) → cond b 0 (suc m) ≡ shifted_place (suc i) k (cond b 0 (suc r))
past-step true n m i k r h rec = sym (shift-first i k)
past-step false n m i k r h rec = ap suc (rec h) ∙ sym (shift-suc i k r)

module _ {A : Type 0} (is : A → Bool) where
  rank-append : (new xs : List A) → len is new ≡ 0 → rank is (λ _. true) (new ++ xs) ≡ rank is (λ _. true) xs + length new
  rank-append [] xs h = omega arith
  rank-append (y ∷ new) xs h =
      append-step (is y) (len is new) (rank is (λ _. true) (new ++ xs)) (rank is (λ _. true) xs) (length new) h (λ g. rank-append new xs g)

  rank-past : (past : A → Bool) (new xs : List A) → len is new ≡ 0 → 1 ≤ len is xs
      → rank is (λ _. true) (put_past past new xs) ≡ shifted_place (prefix_len past xs) (length new) (rank is (λ _. true) xs)
  rank-past past new [] none some = absurd (omega arith)
  rank-past past new (x ∷ xs) none some = step (past x)
      (past-step (is x) (len is xs) (rank is (λ _. true) (put_past past new xs)) (prefix_len past xs) (length new) (rank is (λ _. true) xs) some
      (λ g. rank-past past new xs none g))
    where
      first : (n : ℕ) → 1 + n ≡ suc n
      first n = omega arith

      step : (b : Bool)
          → cond (is x) 0 (suc (rank is (λ _. true) (put_past past new xs)))
          ≡ shifted_place (suc (prefix_len past xs)) (length new) (cond (is x) 0 (suc (rank is (λ _. true) xs)))
          → rank is (λ _. true) (cond b (x ∷ put_past past new xs) (new ++ (x ∷ xs)))
          ≡ shifted_place (cond b (1 + prefix_len past xs) 0) (length new) (rank is (λ _. true) (x ∷ xs))
      step true h = h ∙ ap (λ n. shifted_place n (length new) (rank is (λ _. true) (x ∷ xs))) (sym (first (prefix_len past xs)))
      step false h = rank-append new (x ∷ xs) none ∙ sym (shift-all (length new) (rank is (λ _. true) (x ∷ xs)))

  rank-put-passes : (seen past : A → Bool) (p : ℕ) (new xs : List A) → len is new ≡ 0 → 1 ≤ len is xs
      → rank is (λ _. true) (put seen past p new xs) ≡ shifted_place (put_passes seen past p xs) (length new) (rank is (λ _. true) xs)
  rank-put-passes seen past zero new xs none some = rank-past past new xs none some
  rank-put-passes seen past (suc p) new [] none some = absurd (omega arith)
  rank-put-passes seen past (suc p) new (x ∷ xs) none some =
      let q = cond (seen x) p (suc p) in
      past-step (is x) (len is xs) (rank is (λ _. true) (put seen past q new xs)) (put_passes seen past q xs) (length new) (rank is (λ _. true) xs) some
      (λ g. rank-put-passes seen past q new xs none g)

  -- the one element that is meant keeps its place, or goes behind the new ones
  pub rank-put : (seen past : A → Bool) (p : ℕ) (new xs : List A) → len is new ≡ 0 → 1 ≤ len is xs
      → rank is (λ _. true) (put seen past p new xs) ≡ shifted_place (put_place seen past p xs) (length new) (rank is (λ _. true) xs)
  rank-put seen past p new xs none some =
      rank-put-passes seen past p new xs none some ∙ ap (λ i. shifted_place i (length new) (rank is (λ _. true) xs)) (sym (put_place-passes seen past p xs))

  choice-is : (f : A → A) → ((x : A) → is (f x) ≡ is x) → (b : Bool) (x : A) → is (cond b (f x) x) ≡ is x
  choice-is f h true x = h x
  choice-is f h false x = refl

  -- changes of elements that stay what they are
  pub rank-range : (seen : A → Bool) (f : A → A) → ((x : A) → is (f x) ≡ is x) → (i p q : ℕ) (xs : List A)
      → rank is (λ _. true) (change_range_from i seen p q f xs) ≡ rank is (λ _. true) xs
  rank-range seen f h i p q [] = refl
  rank-range seen f h i p q (x ∷ xs) =
      ap (λ b. cond b 0 (suc (rank is (λ _. true) (change_range_from (one_more_if (seen x) i) seen p q f xs)))) (choice-is f h (seen x && within p q i) x)
      ∙ ap (λ n. cond (is x) 0 (suc n)) (rank-range seen f h (one_more_if (seen x) i) p q xs)

pub rank-mapped : {A B : Type 0} (is : B → Bool) (is' : A → Bool) (f : A → B) → ((x : A) → is (f x) ≡ is' x) → (xs : List A)
    → rank is (λ _. true) (map f xs) ≡ rank is' (λ _. true) xs
rank-mapped is is' f h [] = refl
rank-mapped is is' f h (x ∷ xs) =
    ap (λ b. cond b 0 (suc (rank is (λ _. true) (map f xs)))) (h x) ∙ ap (λ n. cond (is' x) 0 (suc n)) (rank-mapped is is' f h xs)

-- the place where new elements are put doesn't depend on the list but on its tests
pub put_place-same : {A B : Type 0} (seen past : A → Bool) (seen' past' : B → Bool) (p : ℕ) (xs : List A) (ys : List B)
    → put_passes seen past p xs ≡ put_passes seen' past' p ys → put_place seen past p xs ≡ put_place seen' past' p ys
put_place-same seen past seen' past' p xs ys h = put_place-passes seen past p xs ∙ h ∙ sym (put_place-passes seen' past' p ys)
