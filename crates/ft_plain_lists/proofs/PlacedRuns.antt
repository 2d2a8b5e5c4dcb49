-- Runs of marked elements as a loop from the first element on makes them.
use Rattle.std.proofs.Common.{◌≡◌, ℕ, ◌+◌, Bool, true, false, cond, ◌&&◌, nat_eq, List, [], ◌∷◌, ◌++◌, refl, sym, ◌∙◌, ap, arith}
use Rattle.std.proofs.lemmas.Bool.Decides.{nat_tests}
use Rattle.ft_base.specs.Scan.{one_more_if}
use Rattle.ft_props.specs.Element.{ListElement}
use Rattle.ft_props.specs.Steps.{extended_runs, marked_runs_from}
use Rattle.ft_plain_lists.specs.PlacedRuns.{with_place}

-- the places of the marked elements among the seen ones, where i are seen before the list
abbrev pub marked_places : ℕ → (ListElement → Bool) → (ListElement → Bool) → List ListElement → List ℕ
marked_places i seen is_marked [] = []
marked_places i seen is_marked (e ∷ xs) =
    let places = marked_places (one_more_if (seen e) i) seen is_marked xs in
    cond (seen e && is_marked e) (i ∷ places) places

-- the runs of places, from the last one on
abbrev runs_of : List ℕ → List (ℕ × ℕ)
runs_of [] = []
runs_of (p ∷ ps) = extended_runs p (runs_of ps)

-- the runs with places behind them, from the first one on
abbrev pub with_places : List (ℕ × ℕ) → List ℕ → List (ℕ × ℕ)
with_places runs [] = runs
with_places runs (p ∷ ps) = with_places (with_place runs p) ps

same-test : (m n : ℕ) → nat_eq m n ≡ nat_eq n m
same-test m n = grind (arith, nat_tests)

before-or-not : (b : Bool) (i : ℕ) (ps : List ℕ) → cond b (extended_runs i (runs_of ps)) (runs_of ps) ≡ runs_of (cond b (i ∷ ps) ps)
before-or-not true i ps = refl
before-or-not false i ps = refl

runs-of_places : (i : ℕ) (seen is_marked : ListElement → Bool) (xs : List ListElement) → marked_runs_from i seen is_marked xs ≡ runs_of (marked_places i seen is_marked xs)
runs-of_places i seen is_marked [] = refl
runs-of_places i seen is_marked (e ∷ xs) =
    let i' : ℕ = one_more_if (seen e) i in
    ap (λ (runs : List (ℕ × ℕ)). cond (seen e && is_marked e) (extended_runs i runs) runs) (runs-of_places i' seen is_marked xs)
    ∙ before-or-not (seen e && is_marked e) i (marked_places i' seen is_marked xs)

-- a place before the runs and one behind them
place-both : (q : ℕ) (runs : List (ℕ × ℕ)) (p : ℕ) → extended_runs q (with_place runs p) ≡ with_place (extended_runs q runs) p
place-both q [] p = grind (arith, same-test p (q + 1))
place-both q ((a, b) ∷ []) p = grind arith
place-both q ((a, b) ∷ s ∷ runs) p = grind arith

place-before : (q : ℕ) (runs : List (ℕ × ℕ)) (ps : List ℕ) → extended_runs q (with_places runs ps) ≡ with_places (extended_runs q runs) ps
place-before q runs [] = refl
place-before q runs (p ∷ ps) = place-before q (with_place runs p) ps ∙ ap (λ rs. with_places rs ps) (place-both q runs p)

runs-both_ways : (ps : List ℕ) → runs_of ps ≡ with_places [] ps
runs-both_ways [] = refl
runs-both_ways (p ∷ ps) = ap (extended_runs p) (runs-both_ways ps) ∙ place-before p [] ps

-- the runs are those that the places make one after another
pub marked_runs-placed : (i : ℕ) (seen is_marked : ListElement → Bool) (xs : List ListElement)
    → marked_runs_from i seen is_marked xs ≡ with_places [] (marked_places i seen is_marked xs)
marked_runs-placed i seen is_marked xs = runs-of_places i seen is_marked xs ∙ runs-both_ways (marked_places i seen is_marked xs)

-- a place behind runs and a last one: in the last run, or in one of its own
abbrev last_or_new : List (ℕ × ℕ) → ℕ → ℕ → ℕ → Bool → List (ℕ × ℕ)
last_or_new runs a b p joins = cond joins (runs ++ ((a, p + 1) ∷ [])) ((runs ++ ((a, b) ∷ [])) ++ ((p, p + 1) ∷ []))

with_place-last : (runs : List (ℕ × ℕ)) (a b p : ℕ) → with_place (runs ++ ((a, b) ∷ [])) p ≡ last_or_new runs a b p (nat_eq b p)
with_place-last [] a b p = refl
with_place-last (r ∷ []) a b p = grind arith
with_place-last (r ∷ s ∷ runs) a b p = grind (arith, with_place-last (s ∷ runs) a b p)

differs : (m n : ℕ) → (m ≡ n → ⊥) → nat_eq m n ≡ false
differs m n h = grind (arith, nat_tests)

-- a place at the end of the last run, and one apart from it
pub with_place-joined : (runs old new : List (ℕ × ℕ)) (a b p : ℕ) → old ≡ runs ++ ((a, b) ∷ []) → b ≡ p → new ≡ runs ++ ((a, p + 1) ∷ []) → new ≡ with_place old p
with_place-joined runs old new a b p before ends made =
    let joins : nat_eq b p ≡ true = grind (arith, nat_tests) in
    made ∙ sym (ap (λ rs. with_place rs p) before ∙ with_place-last runs a b p ∙ ap (last_or_new runs a b p) joins)

pub with_place-apart : (runs old new : List (ℕ × ℕ)) (a b p : ℕ) → old ≡ runs ++ ((a, b) ∷ []) → (b ≡ p → ⊥) → new ≡ (runs ++ ((a, b) ∷ [])) ++ ((p, p + 1) ∷ [])
    → new ≡ with_place old p
with_place-apart runs old new a b p before apart made =
    made ∙ sym (ap (λ rs. with_place rs p) before ∙ with_place-last runs a b p ∙ ap (last_or_new runs a b p) (differs b p apart))
