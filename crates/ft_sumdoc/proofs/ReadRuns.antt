-- Written runs are read back.
use Rattle.std.proofs.Common.{◌≡◌, ℕ, ◌+◌, ◌^◌, ◌≤◌, true, List, [], ◌∷◌, map, Option, Some, None, codes, refl, ap, ap₂, arith, nat_le, leb-true, lt-ltb}
use Rattle.std.specs.Prelude.{IsTrue}
use Rattle.std.specs.List.{AllByRecursion, list_all}
use Rattle.serde_json.specs.Data.{Data, array}
use Rattle.ft_base.proofs.Booleans.{both}
use Rattle.ft_json.specs.Fields.{field_name}
use Rattle.ft_json.specs.declared.fields.Field.TheVariants.{RunLength}
use Rattle.ft_op.specs.WellFormed.{is_count}
use Rattle.ft_op.specs.Written.{written_count, written_items}
use Rattle.ft_op.proofs.ReadFields.{count_written, field_is, items_written}
use Rattle.ft_sumdoc.specs.declared.summary.Mark.{Mark}
use Rattle.ft_sumdoc.specs.declared.summary.RunRec.{RunRec}
use Rattle.ft_sumdoc.specs.Runs.{GivenRun, given_units, kept_run, run_form, runs_form, unit_count, unremoved_units}
use Rattle.ft_sumdoc.specs.Segments.{unless_removed}
use Rattle.ft_sumdoc.specs.Stamps.{Bounds, are_good_stamps, unless_universal}
use Rattle.ft_sumdoc.specs.Summary.{run_stamps}
use Rattle.ft_sumdoc.specs.Valid.{AreRuns, are_stamps, is_run}
use Rattle.ft_sumdoc.specs.Written.{given_mark, given_marks, written_unit_run}
use Rattle.ft_sumdoc.proofs.ReadForms.{each_of_back}
use Rattle.ft_sumdoc.proofs.ReadStamps.{AreCounts, AreGood, good_run_stamps, insertion_back, stamps_back, stamps_counts, stamps_of}

-- the fields of a run
abbrev pub run_fields : RunRec → List (List ℕ × Option Data)
run_fields run = (codes "i", given_mark (unless_universal run.ins)) ∷ (codes "n", Some (written_count run.count)) ∷ (codes "r", given_marks run.dels) ∷ []

-- what a written run gives
abbrev pub given_run : RunRec → GivenRun
given_run run = record { units = run.count; stamps = stamps_of None run.ins run.dels }

-- a valid run of at most 2^52 units
pub record IsSoundRun (b : Bounds) (run : RunRec) : Type 0 where
  pub valid : is_run b run ≡ true
  pub units : run.count ≤ 2 ^ 52

run_back : (b : Bounds) → AreCounts b → (run : RunRec) → IsSoundRun b run → run_form (written_unit_run run) ≡ Some (given_run run)
unfolding field_name
run_back b c run h =
    let fs = run_fields run in
    let parts = both (nat_le 1 run.count) (are_stamps b run.ins run.dels) h.valid in
    let counts = stamps_counts b run.ins run.dels c parts.1 in
    let small : IsTrue (is_count run.count) = lt-ltb run.count (2 ^ 53) (omega (arith, h.units)) in
    rw (
      field_is fs RunLength (Some (written_count run.count)) refl,
      count_written run.count small,
      stamps_back None (unless_universal run.ins) run.dels fs refl refl counts.0 counts.1,
      parts.0,
    )

sound_from : (b : Bounds) (runs : List RunRec) → list_all (is_run b) runs ≡ true → unit_count runs ≤ 2 ^ 52 → AllByRecursion (IsSoundRun b) runs
sound_from b [] h k = tt
sound_from b (run ∷ runs) h k =
    let parts = both (is_run b run) (list_all (is_run b) runs) h in
    (record { valid = parts.0; units = omega (arith, k) }, sound_from b runs parts.1 (omega (arith, k)))

pub sound_runs : (b : Bounds) (runs : List RunRec) → AreRuns b runs → AllByRecursion (IsSoundRun b) runs
sound_runs b runs h = sound_from b runs h.each (leb-true (unit_count runs) (2 ^ 52) h.units)

units_same : (runs : List RunRec) → given_units (map given_run runs) ≡ unit_count runs
units_same [] = refl
units_same (run ∷ runs) = ap (λ n. run.count + n) (units_same runs)

pub runs_back : (b : Bounds) → AreCounts b → (runs : List RunRec) → AreRuns b runs → runs_form (array (written_items written_unit_run runs)) ≡ Some (map given_run runs)
runs_back b c runs h =
    rw (items_written written_unit_run runs, each_of_back run_form written_unit_run given_run (IsSoundRun b) (run_back b c) runs (sound_runs b runs h), units_same runs, h.units)

pub kept_runs_back : (runs : List RunRec) → map kept_run (map given_run runs) ≡ runs
kept_runs_back [] = refl
kept_runs_back (run ∷ runs) = ap₂ (λ (first : RunRec) (rest : List RunRec). first ∷ rest) (rw (insertion_back run.ins)) (kept_runs_back runs)

good_run : (b : Bounds) (run : RunRec) → IsSoundRun b run → are_good_stamps b (given_run run).stamps ≡ true
good_run b run h = good_run_stamps b run.ins run.dels (both (nat_le 1 run.count) (are_stamps b run.ins run.dels) h.valid).1

good_runs_from : (b : Bounds) (runs : List RunRec) → AllByRecursion (IsSoundRun b) runs → AreGood b (run_stamps (map given_run runs))
good_runs_from b [] h = tt
good_runs_from b (run ∷ runs) h = (good_run b run h.0, good_runs_from b runs h.1)

pub good_runs : (b : Bounds) (runs : List RunRec) → AreRuns b runs → AreGood b (run_stamps (map given_run runs))
good_runs b runs h = good_runs_from b runs (sound_runs b runs h)

pub unless_removed-most : (dels : List Mark) (n : ℕ) → unless_removed dels n ≤ n
unless_removed-most [] n = omega arith
unless_removed-most (m ∷ ms) n = omega arith

pub unremoved-most : (runs : List RunRec) → unremoved_units runs ≤ unit_count runs
unremoved-most [] = omega arith
unremoved-most (run ∷ runs) = omega (arith, unless_removed-most run.dels run.count, unremoved-most runs)
