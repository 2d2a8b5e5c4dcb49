-- A vector stays proper where its tree stays and the handles of its elements stay in use.
use Rattle.std.proofs.Common.{◌≡◌, ℕ, ◌+◌, Bool, true, false, ◌&&◌, nat_eq, All, sym, subst, arith}
use Rattle.std.proofs.lemmas.Bool.Decides.{nat_tests}
use Rattle.ft_base.specs.Scan.{one_more_if}
use Rattle.ft_perm.specs.Handles.{HandleRun, in_run}
use Rattle.ft_perm.specs.Vectors.{IsProper, VectorState, in_use, vector_elements}

-- what was in use is in use after handles were taken off the free ones
pub used-taken : (b r : Bool) (old new : ℕ) → old ≡ new + one_more_if r 0 → (b && nat_eq old 0) ≡ true → (b && nat_eq new 0) ≡ true
used-taken true true old new e h = grind (arith, nat_tests)
used-taken true false old new e h = grind (arith, nat_tests)
used-taken false r old new e h = h

-- and after others were given back
pub used-given : (b r : Bool) (old new : ℕ) → new ≡ old + one_more_if r 0 → r ≡ false → (b && nat_eq old 0) ≡ true → (b && nat_eq new 0) ≡ true
used-given true false old new e other h = grind (arith, nat_tests)
used-given false false old new e other h = h
used-given b true old new e other h = (cc)

pub proper-taken : (old new : VectorState) → new.tree ≡ old.tree → ((h : ℕ) → in_use old h ≡ true → in_use new h ≡ true) → IsProper old → IsProper new
proper-taken old new tree keeps was =
    let whole : All (λ e. in_use new e.unit ≡ true) (vector_elements old.tree) = λ k d h. keeps _ (was.used k d h) in
    record {
      used = subst (λ t. All (λ e. in_use new e.unit ≡ true) (vector_elements t)) (sym tree) whole;
      once = λ handle. rw tree (was.once handle);
    }

pub proper-given : (old new : VectorState) (run : HandleRun) → new.tree ≡ old.tree
    → ((h : ℕ) → in_run h run ≡ false → in_use old h ≡ true → in_use new h ≡ true)
    → All (λ e. in_run e.unit run ≡ false) (vector_elements old.tree) → IsProper old → IsProper new
proper-given old new run tree keeps apart was =
    let whole : All (λ e. in_use new e.unit ≡ true) (vector_elements old.tree) = λ k d h. keeps _ (apart k d h) (was.used k d h) in
    record {
      used = subst (λ t. All (λ e. in_use new e.unit ≡ true) (vector_elements t)) (sym tree) whole;
      once = λ handle. rw tree (was.once handle);
    }
