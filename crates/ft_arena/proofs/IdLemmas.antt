-- Lemmas on lists of node numbers.
use Rattle.std.proofs.Common.{◌≡◌, ◌≢◌, ℕ, zero, suc, ◌+◌, ◌<◌, ◌≤◌, List, [], ◌∷◌, ◌++◌, take, drop, length, insert, remove, slice_get, Option, Some, None, refl, sym}
use Rattle.std.proofs.Common.{ap, ◌∙◌, inl, inr, arith}
use Rattle.std.proofs.lemmas.Bool.{cases_eq, cases_lt}
use Rattle.std.proofs.lemmas.Grind.{common_steps}
use Rattle.std.proofs.lemmas.List.{take-append-drop, drop_more}
use Rattle.std.proofs.lemmas.Option.{slice_get_within, get_or_from_slice_get}
use Rattle.ft_arena.specs.Ids.{same, times, insert_after, put_after, without}

pub same_refl : (x : ℕ) → same x x ≡ 1
same_refl x = grind (arith, common_steps)

pub same_other : (x y : ℕ) → x ≢ y → same x y ≡ 0
same_other x y d = grind (arith, common_steps)

-- where at does not stand, nothing is put in
pub insert_after_none : (ys : List ℕ) (at new : ℕ) → times ys at ≡ 0 → insert_after ys at new ≡ ys
insert_after_none [] at new h = refl
insert_after_none (y ∷ ys) at new h = elim (cases_eq y at) [
  | inl e ↦ grind (arith, common_steps)
  | inr d ↦ grind (arith, common_steps, insert_after_none ys at new)
]

pub times-insert_after : (ys : List ℕ) (at new x : ℕ) → times ys at ≡ 1 → times (insert_after ys at new) x ≡ times ys x + same new x
times-insert_after [] at new x h = omega arith
times-insert_after (y ∷ ys) at new x h = elim (cases_eq y at) [
  | inl e ↦ grind (arith, common_steps, insert_after_none ys at new)
  | inr d ↦ grind (arith, common_steps, times-insert_after ys at new x)
]

pub times-without_same : (ys : List ℕ) (x : ℕ) → times (without ys x) x ≡ 0
times-without_same [] x = refl
times-without_same (y ∷ ys) x = elim (cases_eq y x) [
  | inl e ↦ grind (arith, common_steps, times-without_same ys x)
  | inr d ↦ grind (arith, common_steps, times-without_same ys x)
]

pub times-without_other : (ys : List ℕ) (x z : ℕ) → z ≢ x → times (without ys x) z ≡ times ys z
times-without_other [] x z d = refl
times-without_other (y ∷ ys) x z d = elim (cases_eq y x) [
  | inl e ↦ grind (arith, common_steps, times-without_other ys x z)
  | inr n ↦ grind (arith, common_steps, times-without_other ys x z)
]

-- how many numbers below n stand in the list
sum_times : List ℕ → ℕ → ℕ
sum_times ys zero = 0
sum_times ys (suc n) = times ys n + sum_times ys n

same_below : ℕ → ℕ → ℕ
same_below y zero = 0
same_below y (suc n) = same y n + same_below y n

same_below_past : (y n : ℕ) → n ≤ y → same_below y n ≡ 0
unfolding same_below
same_below_past y zero h = refl
same_below_past y (suc n) h = let d : y ≢ n = omega arith in omega (arith, same_other y n d, same_below_past y n (omega arith))

same_below_one : (y n : ℕ) → y < n → same_below y n ≡ 1
unfolding same_below
same_below_one y zero h = absurd (omega arith)
same_below_one y (suc n) h = elim (cases_eq y n) [
  | inl e ↦ let p : n ≤ y = omega arith in let s : same y n ≡ 1 = rw e (same_refl n) in omega (arith, same_below_past y n p, s)
  | inr d ↦ omega (arith, same_other y n d, same_below_one y n (omega arith))
]

sum_times-cons : (y : ℕ) (ys : List ℕ) (n : ℕ) → sum_times (y ∷ ys) n ≡ same_below y n + sum_times ys n
unfolding sum_times same_below
sum_times-cons y ys zero = refl
sum_times-cons y ys (suc n) = omega (arith, sum_times-cons y ys n)

sum_times_nil : (n : ℕ) → sum_times [] n ≡ 0
unfolding sum_times
sum_times_nil zero = refl
sum_times_nil (suc n) = omega (arith, sum_times_nil n)

sum_times_le : (ys : List ℕ) (n : ℕ) → ((x : ℕ) → times ys x ≤ 1) → sum_times ys n ≤ n
unfolding sum_times
sum_times_le ys zero h = omega arith
sum_times_le ys (suc n) h = omega (arith, h n, sum_times_le ys n h)

sum_times-length : (ys : List ℕ) (n : ℕ) → ((x : ℕ) → n ≤ x → times ys x ≡ 0) → length ys ≡ sum_times ys n
sum_times-length [] n h = sym (sum_times_nil n)
sum_times-length (y ∷ ys) n h =
    let below : y < n = elim (cases_lt y n) [ inl l ↦ l | inr g ↦ absurd (omega (arith, h y g, same_refl y)) ] in
    omega (arith, sum_times-cons y ys n, same_below_one y n below, sum_times-length ys n (λ x l. omega (arith, h x l)))

-- a list with no number twice and none from n on has at most n numbers
pub length_from_once : (ys : List ℕ) (n : ℕ) → ((x : ℕ) → times ys x ≤ 1) → ((x : ℕ) → n ≤ x → times ys x ≡ 0) → length ys ≤ n
length_from_once ys n once far = omega (arith, sum_times-length ys n far, sum_times_le ys n once)

-- the place is the front, or stands in the list
abbrev pub IsIn : List ℕ → Option ℕ → Type 0
IsIn ys None = Unit {0}
IsIn ys (Some at) = times ys at ≡ 1

pub times-put_after : (ys : List ℕ) (at : Option ℕ) (new x : ℕ) → IsIn ys at → times (put_after ys at new) x ≡ times ys x + same new x
times-put_after ys None new x h = omega arith
times-put_after ys (Some at) new x h = times-insert_after ys at new x h

pub times-append : (xs ys : List ℕ) (x : ℕ) → times (xs ++ ys) x ≡ times xs x + times ys x
times-append [] ys x = omega arith
times-append (z ∷ xs) ys x = omega (arith, times-append xs ys x)

pub times-insert : (ks : List ℕ) (at child x : ℕ) → times (insert ks at child) x ≡ times ks x + same child x
times-insert ks at child x =
    omega (arith, times-append (take at ks) (child ∷ drop at ks) x, times-append (take at ks) (drop at ks) x, ap (λ zs. times zs x) (take-append-drop at ks))

pub times-remove : (ks : List ℕ) (at child x : ℕ) → slice_get ks at ≡ Some child → times (remove ks at) x + same child x ≡ times ks x
times-remove ks at child x found =
    let l : at < length ks = slice_get_within ks at child found in
    let e : drop at ks ≡ child ∷ drop (at + 1) ks = drop_more ks at child l ∙ ap (λ z. z ∷ drop (at + 1) ks) (get_or_from_slice_get ks at child child found) in
    let n : suc at ≡ at + 1 = omega arith in
    let f : drop (suc at) ks ≡ drop (at + 1) ks = ap (λ n. drop n ks) n in
    omega (
      arith,
      times-append (take at ks) (drop (suc at) ks) x,
      times-append (take at ks) (drop at ks) x,
      ap (λ zs. times zs x) (take-append-drop at ks),
      ap
          (λ zs. times zs x) e,
      ap (λ zs. times zs x) f,
    )
