-- An insertion as a loop over a list does it: at a computed place.
use Rattle.std.proofs.Common.{◌≡◌, ℕ, zero, suc, ◌+◌, Bool, cond, List, [], ◌∷◌, ◌++◌, take, drop, length, sym, ap, arith, append-nil, refl}
use Rattle.std.specs.List.{prefix_len}
use Rattle.ft_base.specs.Scan.{no_run, place, put, put_past}

-- new at place i
abbrev put_at : {A : Type 0} → ℕ → List A → List A → List A
put_at i new xs = take i xs ++ (new ++ drop i xs)

next : (n : ℕ) → 1 + n ≡ suc n
next n = omega arith

later : (m n : ℕ) → suc m + n ≡ suc (m + n)
later m n = omega arith

-- past a run at the front
put_past-place : {A : Type 0} (past : A → Bool) (new xs : List A) → put_past past new xs ≡ put_at (prefix_len past xs) new xs
put_past-place past new [] = sym (append-nil new)
put_past-place past new (x ∷ xs) = grind (arith, put_past-place past new xs, next (prefix_len past xs))

-- behind the p-th seen element and the run that follows it
pub put-place : {A : Type 0} (seen past : A → Bool) (p : ℕ) (new xs : List A)
    → put seen past p new xs ≡ put_at (place seen p xs + prefix_len past (drop (place seen p xs) xs)) new xs
put-place seen past zero new xs = grind (arith, put_past-place past new xs)
put-place seen past (suc p) new [] = sym (append-nil new)
put-place seen past (suc p) new (x ∷ xs) =
    let n : ℕ = place seen (cond (seen x) p (suc p)) xs in
    rw (later n (prefix_len past (drop n xs))) (ap (λ ys. x ∷ ys) (put-place seen past (cond (seen x) p (suc p)) new xs))

-- behind all
pub put-at_end : {A : Type 0} (new xs : List A) → put_at (length xs) new xs ≡ xs ++ new
put-at_end new [] = append-nil new
put-at_end new (x ∷ xs) = ap (λ ys. x ∷ ys) (put-at_end new xs)

-- directly behind the p-th seen element
pub put-behind : {A : Type 0} (seen : A → Bool) (p : ℕ) (new xs : List A) → put seen no_run p new xs ≡ put_at (place seen p xs) new xs
put-behind seen zero new [] = sym (append-nil new)
put-behind seen zero new (x ∷ xs) = refl
put-behind seen (suc p) new [] = sym (append-nil new)
put-behind seen (suc p) new (x ∷ xs) = ap (λ ys. x ∷ ys) (put-behind seen (cond (seen x) p (suc p)) new xs)
