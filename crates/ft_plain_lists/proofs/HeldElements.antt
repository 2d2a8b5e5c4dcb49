-- At most so many elements of a list are seen as it has.
use Rattle.std.proofs.Common.{ℕ, ◌+◌, ◌≤◌, Bool, true, false, List, [], ◌∷◌, length, arith}
use Rattle.ft_base.specs.Scan.{len, one_more_if}

one-more : (b : Bool) (seen n : ℕ) → seen ≤ n → one_more_if b seen ≤ n + 1
one-more true seen n h = grind (arith, h)
one-more false seen n h = grind (arith, h)

pub len-at-most-length : {A : Type 0} (seen : A → Bool) (xs : List A) → len seen xs ≤ length xs
len-at-most-length seen [] = grind arith
len-at-most-length seen (x ∷ xs) = grind (arith, one-more (seen x) (len seen xs) (length xs) (len-at-most-length seen xs))
