-- Parts of runs of handles, and two runs in one.
use Rattle.std.specs.Prelude.{◌≡◌, ℕ, zero, suc, ◌+◌, ◌-◌, ◌<◌, ◌≤◌, IsTrue, ◌∷◌, ◌++◌, length, take, drop}
use Rattle.std.proofs.Common.{refl, ap, sym, ◌∙◌, arith}
use Rattle.std.proofs.lemmas.Bool.Decides.{nat_tests}
use Rattle.ft_perm.specs.Handles.{HandleRun, front_run, handles_of, joined_run, meets, numbers_from, rear_run}

pub length-numbers_from : (first n : ℕ) → length (numbers_from first n) ≡ n
length-numbers_from first zero = refl
length-numbers_from first (suc n) = ap (λ k. suc k) (length-numbers_from (first + 1) n)

take-numbers_from : (first n at : ℕ) → at ≤ n → take at (numbers_from first n) ≡ numbers_from first at
take-numbers_from first n zero h = refl
take-numbers_from first zero (suc at) h = absurd (omega arith)
take-numbers_from first (suc n) (suc at) h = ap (λ xs. first ∷ xs) (take-numbers_from (first + 1) n at (omega arith))

drop-numbers_from : (first n at i m : ℕ) → at + m ≡ n → i ≡ first + at → drop at (numbers_from first n) ≡ numbers_from i m
drop-numbers_from first n zero i m h e =
    let same : n ≡ m = omega arith in
    let here : first ≡ i = omega arith in
    ap (numbers_from first) same ∙ ap (λ k. numbers_from k m) here
drop-numbers_from first zero (suc at) i m h e = absurd (omega arith)
drop-numbers_from first (suc n) (suc at) i m h e = drop-numbers_from (first + 1) n at i m (omega arith) (omega arith)

pub append-numbers_from : (first m i n k : ℕ) → i ≡ first + m → k ≡ m + n → numbers_from first k ≡ numbers_from first m ++ numbers_from i n
append-numbers_from first zero i n k e h =
    let same : k ≡ n = omega arith in
    let here : first ≡ i = omega arith in
    ap (numbers_from first) same ∙ ap (λ j. numbers_from j n) here
append-numbers_from first (suc m) i n zero e h = absurd (omega arith)
append-numbers_from first (suc m) i n (suc k) e h = ap (λ xs. first ∷ xs) (append-numbers_from (first + 1) m i n k (omega arith) (omega arith))

pub front_units : (x : HandleRun) (at : ℕ) → 1 ≤ at → at < length (handles_of x) → handles_of (front_run x at) ≡ take at (handles_of x)
front_units x at low high = sym (take-numbers_from x.first x.count at (omega (arith, length-numbers_from x.first x.count)))

pub rear_units : (x : HandleRun) (at : ℕ) → 1 ≤ at → at < length (handles_of x) → handles_of (rear_run x at) ≡ drop at (handles_of x)
rear_units x at low high =
    sym (drop-numbers_from x.first x.count at (x.first + at) (x.count - at) (omega (arith, length-numbers_from x.first x.count)) (omega arith))

pub joined_units : (x y : HandleRun) → IsTrue (meets x y) → handles_of (joined_run x y) ≡ handles_of x ++ handles_of y
joined_units x y can = append-numbers_from x.first x.count y.first y.count (x.count + y.count) (grind (arith, nat_tests)) (omega arith)
