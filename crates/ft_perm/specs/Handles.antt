-- Runs of handles.
use Rattle.std.specs.Prelude.{ℕ, zero, suc, ◌+◌, ◌-◌, Bool, ◌&&◌, nat_eq, nat_le, nat_lt, List, [], ◌∷◌}

-- so many handles from the first on
pub record HandleRun : Type 0 where
  pub first : ℕ
  pub count : ℕ

-- so many numbers from this one on
abbrev pub numbers_from : ℕ → ℕ → List ℕ
numbers_from first zero = []
numbers_from first (suc n) = first ∷ numbers_from (first + 1) n

-- the handles of a run
abbrev pub handles_of : HandleRun → List ℕ
handles_of x = numbers_from x.first x.count

-- whether the handle is one of the run's
abbrev pub in_run : ℕ → HandleRun → Bool
in_run handle x = nat_le x.first handle && nat_lt handle (x.first + x.count)

-- the first `at` of a run, and the others
abbrev pub front_run : HandleRun → ℕ → HandleRun
front_run x at = record { first = x.first; count = at }

abbrev pub rear_run : HandleRun → ℕ → HandleRun
rear_run x at = record { first = x.first + at; count = x.count - at }

-- whether the other run begins where this one ends
abbrev pub meets : HandleRun → HandleRun → Bool
meets x y = nat_eq y.first (x.first + x.count)

-- both in one
abbrev pub joined_run : HandleRun → HandleRun → HandleRun
joined_run x y = record { first = x.first; count = x.count + y.count }
