-- Tests of numbers.
use Rattle.std.proofs.Common.{◌≡◌, ℕ, ◌<◌, true, false, ◌&&◌, nat_eq, nat_le, refl, arith, ◌≤◌}
use Rattle.std.proofs.lemmas.Bool.Decides.{nat_tests}

pub own-least : (n : ℕ) → nat_le n n ≡ true
own-least n = grind (arith, nat_tests)

pub same_number : (j k : ℕ) → nat_eq j k ≡ true → j ≡ k
same_number j k h = grind (arith, nat_tests)

pub one-test : (q n : ℕ) → nat_le q n ≡ true → nat_le q n && true ≡ true
one-test q n h = rw h refl

pub below-other : (o b : ℕ) → o < b → nat_eq o b ≡ false
below-other o b l = grind (arith, nat_tests)

pub from_self : (n m : ℕ) → n ≤ m → nat_le n m ≡ true
from_self n m l = grind (arith, nat_tests)
