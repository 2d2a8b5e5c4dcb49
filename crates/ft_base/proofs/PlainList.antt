-- The scans as a loop over a list does them.
use Rattle.std.proofs.Common.{◌≡◌, ℕ, zero, suc, ◌+◌, ◌-◌, ◌≤◌, ◌<◌, Bool, cond, List, [], ◌∷◌, drop, get_or, length, refl, sym, ◌∙◌, ap, arith, filter}
use Rattle.std.specs.Prelude.{count_by, insert}
use Rattle.std.proofs.lemmas.List.Sums.{length-filter}
use Rattle.ft_base.specs.Scan.{len, place, no_run, put}

pred_suc : {n : ℕ} → suc n - 1 ≡ n
pred_suc = omega arith

later : (i : ℕ) → suc i + 1 ≡ suc (i + 1)
later i = omega arith

-- one step of the search for a place
pub place-step : {A : Type 0} (seen : A → Bool) (n i : ℕ) (d : A) (xs : List A) → 0 < n → i < length xs
    → place seen n (drop i xs) ≡ suc (place seen (cond (seen (get_or xs i d)) (n - 1) n) (drop (i + 1) xs))
place-step seen zero i d xs p h = absurd (omega arith)
place-step seen (suc n) i d [] p h = absurd (omega arith)
place-step seen (suc n) zero d (x ∷ xs) p h = rw pred_suc refl
place-step seen (suc n) (suc i) d (x ∷ xs) p h = rw (later i) (place-step seen (suc n) i d xs p (omega arith))

pub place-le-length : {A : Type 0} (seen : A → Bool) (n : ℕ) (xs : List A) → place seen n xs ≤ length xs
place-le-length seen zero xs = omega arith
place-le-length seen (suc n) [] = omega arith
place-le-length seen (suc n) (x ∷ xs) = omega (arith, place-le-length seen (cond (seen x) n (suc n)) xs)

-- what is seen, one_more_if by a chain
pub length-filter_seen : {A : Type 0} (seen : A → Bool) (xs : List A) → length (filter seen xs) ≡ len seen xs
length-filter_seen seen [] = refl
length-filter_seen seen (x ∷ xs) = grind (arith, length-filter_seen seen xs)

pub count_by-seen : {A : Type 0} (seen : A → Bool) (xs : List A) → len seen xs ≡ count_by seen xs
count_by-seen seen xs = sym (length-filter_seen seen xs) ∙ length-filter seen xs

pub ruleset seen_counts = (count_by-seen)

-- an insertion as one at a computed place
pub put-place : {A : Type 0} (seen : A → Bool) (n : ℕ) (x : A) (xs : List A) → put seen no_run n (x ∷ []) xs ≡ insert xs (place seen n xs) x
put-place seen zero x [] = refl
put-place seen zero x (y ∷ ys) = refl
put-place seen (suc n) x [] = refl
put-place seen (suc n) x (y ∷ ys) = ap (λ zs. y ∷ zs) (put-place seen (cond (seen y) n (suc n)) x ys)
