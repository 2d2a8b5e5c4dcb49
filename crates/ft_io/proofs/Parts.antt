-- Parts of a list: a window that advances, and what a read puts into a buffer.
use Rattle.std.proofs.Common.{◌≡◌, ℕ, ◌+◌, ◌-◌, ◌≤◌, List, ◌++◌, length, take, drop, sym, ◌∙◌, ap, arith}
use Rattle.std.proofs.lemmas.List.{take-append-drop, take_at, drop-drop, drop-take, length-take-le}

-- the window from a place up to another, without its first n elements
pub drop-window : {A : Type 0} (n from to : ℕ) (xs : List A) → n ≤ to - from → take (to - (from + n)) (drop (from + n) xs) ≡ drop n (take (to - from) (drop from xs))
drop-window n from to xs le =
    let rest = to - (from + n) in
    let size : to - from ≡ n + rest = omega arith in
    rw size (sym (drop-take n rest (drop from xs) ∙ ap (take rest) (drop-drop n from xs)))

-- the first n elements, where the first n were written
pub take-written : {A : Type 0} (n : ℕ) (xs ys : List A) → n ≤ length xs → take n (take n xs ++ drop n ys) ≡ take n xs
take-written n xs ys le = take_at (take n xs) (drop n ys) n (length-take-le n xs le)

-- what is left after the first n elements of what is left
pub taken-drop : {A : Type 0} (n at : ℕ) (xs : List A) → drop at xs ≡ take n (drop at xs) ++ drop (at + n) xs
taken-drop n at xs = sym (ap (λ rest. take n (drop at xs) ++ rest) (sym (drop-drop n at xs)) ∙ take-append-drop n (drop at xs))
