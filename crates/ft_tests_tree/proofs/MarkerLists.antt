-- The elements of each stage stand side by side.
use Rattle.std.proofs.Common.{◌≡◌, ℕ, zero, suc, nat_eq, nat_le, true, false, refl, arith}
use Rattle.std.proofs.lemmas.Bool.Decides.{nat_tests}
use Rattle.ft_rebase.specs.StageLists.{StandSideBySide}
use Rattle.ft_tests_tree.specs.Markers.{two_stages}

-- stages above both
one-below : (k : ℕ) → nat_le 1 (suc k) ≡ true
one-below k = grind (arith, nat_tests)

one-other : (k : ℕ) → nat_eq 1 (suc (suc k)) ≡ false
one-other k = grind (arith, nat_tests)

two-below : (k : ℕ) → nat_le 2 (suc (suc k)) ≡ true
two-below k = grind (arith, nat_tests)

two-other : (k : ℕ) → nat_eq 2 (suc (suc (suc k))) ≡ false
two-other k = grind (arith, nat_tests)

pub stages-side : StandSideBySide (λ e. e.stamps) two_stages
stages-side zero = refl
stages-side (suc zero) = refl
stages-side (suc (suc k)) = grind (arith, nat_tests, one-below (suc k), one-other (suc k), two-below k, two-other k)
