-- Runs of places, as they are made from the first place on.
use Rattle.std.specs.Prelude.{ℕ, ◌+◌, cond, nat_eq, List, [], ◌∷◌}

-- the runs with a place behind them: added to the last run, if that ends there, or else as a run of its own
abbrev pub with_place : List (ℕ × ℕ) → ℕ → List (ℕ × ℕ)
with_place [] p = (p, p + 1) ∷ []
with_place ((a, b) ∷ []) p = cond (nat_eq b p) ((a, p + 1) ∷ []) ((a, b) ∷ (p, p + 1) ∷ [])
with_place (r ∷ s ∷ runs) p = r ∷ with_place (s ∷ runs) p
