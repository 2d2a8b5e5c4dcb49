-- How many elements of a tree are seen.
use Rattle.std.proofs.Common.{ℕ, suc, ◌≤◌, Bool, true, false, List, [], ◌∷◌, arith, length}
use Rattle.ft_base.specs.Scan.{len, one_more_if}

-- those that pass a test are no more than all
len-most : {A : Type 0} (test : A → Bool) (xs : List A) → len test xs ≤ length xs
len-most test [] = omega arith
len-most test (x ∷ xs) = step (test x) (len-most test xs)
  where
    step : (b : Bool) → len test xs ≤ length xs → one_more_if b (len test xs) ≤ suc (length xs)
    step true l = omega arith
    step false l = omega arith

-- where elements are no more than were ever made, those that are seen can be numbered
pub few-seen : {A : Type 0} (test : A → Bool) (xs : List A) (made : ℕ) → length xs ≤ made → made ≤ 9007199254740991 → len test xs ≤ 9223372036854775807
few-seen test xs made fits small = let most = len-most test xs in omega (arith, most, fits, small)
