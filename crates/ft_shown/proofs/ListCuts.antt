-- Lists with items put in, taken out or changed, as cuts at places within them.
use Rattle.std.proofs.Common.{◌≡◌, ℕ, zero, suc, ◌+◌, ◌-◌, List, [], ◌∷◌, ◌++◌, refl, sym, ◌∙◌, ap, append-nil, arith, drop, length, map, min, take}
use Rattle.std.proofs.lemmas.List.{drop_min, length-drop, take_min}
use Rattle.ft_changes.specs.ShownRuns.{change_at, change_first, put_in, take_out, without_first}

drop-none : {A : Type 0} (n : ℕ) → drop {A = A} n [] ≡ []
drop-none zero = refl
drop-none (suc n) = refl

-- ---- at any place

put_in-cut : {A : Type 0} (p : ℕ) (new xs : List A) → put_in p new xs ≡ take p xs ++ (new ++ drop p xs)
put_in-cut zero new xs = refl
put_in-cut (suc p) new [] = sym (append-nil new)
put_in-cut (suc p) new (x ∷ xs) = ap (λ ys. x ∷ ys) (put_in-cut p new xs)

first-dropped : {A : Type 0} (n : ℕ) (xs : List A) → without_first n xs ≡ drop n xs
first-dropped zero xs = refl
first-dropped (suc n) [] = refl
first-dropped (suc n) (x ∷ xs) = first-dropped n xs

take_out-cut : {A : Type 0} (p n : ℕ) (xs : List A) → take_out p n xs ≡ take p xs ++ drop (p + n) xs
take_out-cut zero n xs =
    let e : n ≡ 0 + n = omega arith in
    first-dropped n xs ∙ ap (λ k. drop k xs) e
take_out-cut (suc p) n [] = sym (drop-none (suc p + n))
take_out-cut (suc p) n (x ∷ xs) =
    let e : suc (p + n) ≡ suc p + n = omega arith in
    ap (λ ys. x ∷ ys) (take_out-cut p n xs) ∙ ap (λ k. x ∷ (take p xs ++ drop k (x ∷ xs))) e

change_first-cut : {A : Type 0} (n : ℕ) (f : A → A) (xs : List A) → change_first n f xs ≡ map f (take n xs) ++ drop n xs
change_first-cut zero f xs = refl
change_first-cut (suc n) f [] = refl
change_first-cut (suc n) f (x ∷ xs) = ap (λ ys. f x ∷ ys) (change_first-cut n f xs)

change_at-cut : {A : Type 0} (p n : ℕ) (f : A → A) (xs : List A)
    → change_at p n f xs ≡ take p xs ++ (map f (take n (drop p xs)) ++ drop n (drop p xs))
change_at-cut zero n f xs = change_first-cut n f xs
change_at-cut (suc p) zero f [] = refl
change_at-cut (suc p) (suc n) f [] = refl
change_at-cut (suc p) n f (x ∷ xs) = ap (λ ys. x ∷ ys) (change_at-cut p n f xs)

-- ---- within the list

pub put_in-within : {A : Type 0} (p i : ℕ) (new xs : List A) → i ≡ min p (length xs) → put_in p new xs ≡ take i xs ++ (new ++ drop i xs)
put_in-within p i new xs e = rw (e, take_min, drop_min) (put_in-cut p new xs)

pub take_out-within : {A : Type 0} (p n i j : ℕ) (xs : List A) → i ≡ min p (length xs) → j ≡ min (p + n) (length xs)
    → take_out p n xs ≡ take i xs ++ drop j xs
take_out-within p n i j xs e d = rw (e, d, take_min, drop_min) (take_out-cut p n xs)

pub change_at-within : {A : Type 0} (p n i j : ℕ) (f : A → A) (xs : List A) → i ≡ min p (length xs) → j ≡ min (p + n) (length xs)
    → change_at p n f xs ≡ take i xs ++ (map f (take (j - i) (drop i xs)) ++ drop (j - i) (drop i xs))
change_at-within p n i j f xs e d =
    let front : take i xs ≡ take p xs = ap (λ k. take k xs) e ∙ take_min p xs in
    let rest : drop i xs ≡ drop p xs = ap (λ k. drop k xs) e ∙ drop_min p xs in
    let count : j - i ≡ min n (length (drop p xs)) = omega (arith, length-drop p xs) in
    rw (front, rest, count, take_min, drop_min) (change_at-cut p n f xs)
