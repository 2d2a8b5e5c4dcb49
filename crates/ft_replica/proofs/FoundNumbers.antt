-- A number is found among numbers that rise.
use Rattle.std.proofs.Common.{◌≡◌, ◌<◌, ◌≤◌, ◌||◌, ℕ, zero, suc, Bool, true, false, nat_eq, List, [], ◌∷◌, Result, Ok, Err, is_ok, length, nat_lt, refl, sym, arith, slice_index_or}
use Rattle.std.specs.List.{list_any}
use Rattle.std.specs.List.Sorted.{IsBinarySearchResult, IsNonDecreasingBy}
use Rattle.std.specs.Ordering.{nat_cmp}
use Rattle.std.proofs.lemmas.Bool.Decides.{nat_tests}
use Rattle.std.proofs.lemmas.List.Sorted.{searched}

or-right : (a b : Bool) → b ≡ true → a || b ≡ true
or-right true b h = refl
or-right false b h = h

there : (x : ℕ) (xs : List ℕ) (i : ℕ) → i < length xs → slice_index_or xs i 0 ≡ x → list_any (nat_eq x) xs ≡ true
there x [] i l e = absurd (omega (arith, l))
there x (y ∷ ys) zero l e = first e
  where
    first : y ≡ x → nat_eq x y || list_any (nat_eq x) ys ≡ true
    first f = grind (arith, nat_tests)
there x (y ∷ ys) (suc i) l e = or-right (nat_eq x y) (list_any (nat_eq x) ys) (there x ys i (omega (arith, l)) e)

absent : (x : ℕ) (xs : List ℕ) → ((k : ℕ) → k < length xs → slice_index_or xs k 0 ≡ x → ⊥) → list_any (nat_eq x) xs ≡ false
absent x [] h = refl
absent x (y ∷ ys) h = step (nat_eq x y) refl (absent x ys (λ k l e. h (suc k) (omega (arith, l)) e))
  where
    same : nat_eq x y ≡ true → y ≡ x
    same e = grind (arith, nat_tests)

    step : (b : Bool) → nat_eq x y ≡ b → list_any (nat_eq x) ys ≡ false → b || list_any (nat_eq x) ys ≡ false
    step true e ih = absurd (h 0 (omega arith) (same e))
    step false e ih = ih

pub found : (x : ℕ) (xs : List ℕ) (r : Result ℕ ℕ) → IsBinarySearchResult (λ y. nat_cmp y x) xs r → IsNonDecreasingBy (λ n. n) xs → is_ok r ≡ list_any (nat_eq x) xs
found x xs (Ok i) s up =
    let h = searched xs x (Ok i) s (λ i j l m. up i j 0 l m) in
    sym (there x xs i h.0 h.1)
found x xs (Err i) s up =
    let h = searched xs x (Err i) s (λ i j l m. up i j 0 l m) in
    sym (absent x xs (λ k l e. apart k (slice_index_or xs k 0) e (λ m. h.1 k m) (λ m. h.2 k m l)))
  where
    apart : (k n : ℕ) → n ≡ x → (k < i → n < x) → (i ≤ k → x < n) → ⊥
    apart k n e low high = absurd (either (nat_lt k i) refl)
      where
        either : (b : Bool) → nat_lt k i ≡ b → ⊥
        either true f = let l : k < i = grind (arith, nat_tests) in let m = low l in omega (arith, e, m)
        either false f = let l : i ≤ k = grind (arith, nat_tests) in let m = high l in omega (arith, e, m)
