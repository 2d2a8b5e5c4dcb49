-- Runs as they are found from the front on, each part behind those before it.
use Rattle.std.specs.Prelude.{ℕ, ◌+◌, Bool, cond, ◌&&◌, nat_eq, List, [], ◌∷◌}
use Rattle.ft_changes.specs.ShownRuns.{ChangedRun, GoneRun}

-- the runs with n elements that go away at place p behind them: in the last run, if that stands there, or else in one of their own
abbrev pub with_gone_behind : List GoneRun → ℕ → ℕ → List GoneRun
with_gone_behind [] p n = record { place = p; count = n } ∷ []
with_gone_behind (run ∷ []) p n =
    cond (nat_eq run.place p) (record { place = run.place; count = run.count + n } ∷ []) (run ∷ record { place = p; count = n } ∷ [])
with_gone_behind (run ∷ next ∷ runs) p n = run ∷ with_gone_behind (next ∷ runs) p n

-- the runs with n elements at place p behind them that have these properties now: in the last run, if that ends there with the same
-- properties, or else in one of their own
abbrev pub with_changed_behind : {P : Type 0} → (P → P → Bool) → List (ChangedRun P) → ℕ → ℕ → P → List (ChangedRun P)
with_changed_behind same [] p n props = record { place = p; count = n; props = props } ∷ []
with_changed_behind same (run ∷ []) p n props =
    cond (nat_eq (run.place + run.count) p && same run.props props) (record { place = run.place; count = run.count + n; props = run.props } ∷ [])
    (run ∷ record { place = p; count = n; props = props } ∷ [])
with_changed_behind same (run ∷ next ∷ runs) p n props = run ∷ with_changed_behind same (next ∷ runs) p n props
