-- Runs of marked elements among the seen ones, as places from up to before.
use Rattle.std.specs.Prelude.{ℕ, ◌≤◌, ⊤, Bool, cond, ◌&&◌, nat_eq, List, [], ◌∷◌}
use Rattle.ft_base.specs.Scan.{one_more_if}
use Rattle.ft_props.specs.Steps.{extended_runs}

-- the maximal runs of marked elements among the seen ones, where i are seen before the list
abbrev pub marked_runs_from : {A : Type 0} → ℕ → (A → Bool) → (A → Bool) → List A → List (ℕ × ℕ)
marked_runs_from i seen is_marked [] = []
marked_runs_from i seen is_marked (e ∷ xs) =
    let runs = marked_runs_from (one_more_if (seen e) i) seen is_marked xs in
    cond (seen e && is_marked e) (extended_runs i runs) runs

-- the run with those behind it: joined to the first of them where that begins at its end
abbrev pub with_run : ℕ × ℕ → List (ℕ × ℕ) → List (ℕ × ℕ)
with_run (a, b) [] = (a, b) ∷ []
with_run (a, b) ((c, d) ∷ runs) = cond (nat_eq c b) ((a, d) ∷ runs) ((a, b) ∷ (c, d) ∷ runs)

-- the same of runs, of which the last one may be joined
abbrev pub continued : List (ℕ × ℕ) → List (ℕ × ℕ) → List (ℕ × ℕ)
continued [] more = more
continued (r ∷ []) more = with_run r more
continued (r ∷ s ∷ runs) more = r ∷ continued (s ∷ runs) more

-- the runs begin at `low` or behind it, and each behind the end of the one before it
abbrev pub RunsRise : ℕ → List (ℕ × ℕ) → Type 0
RunsRise low [] = ⊤
RunsRise low ((a, b) ∷ runs) = (low ≤ a) × (a ≤ b) × RunsRise b runs
