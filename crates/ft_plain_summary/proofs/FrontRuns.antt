-- Runs of units that are made from the front are those that are made from the back.
use Rattle.std.proofs.Common.{◌≡◌, ◌+◌, Bool, true, false, cond, List, [], ◌∷◌, ◌++◌, Option, Some, None, map, refl, sym, ◌∙◌, ap, append_assoc, arith}
use Rattle.std.proofs.Math.Path.{ap₂}
use Rattle.ft_sumdoc.specs.declared.summary.Mark.{Mark}
use Rattle.ft_sumdoc.specs.declared.summary.RunRec.{RunRec}
use Rattle.ft_sumdoc.specs.WellFormed.{same_stamps}
use Rattle.ft_props.specs.Element.{ListElement}
use Rattle.ft_msg.specs.JoinedRuns.{with_run}
use Rattle.ft_marks.specs.Marks.{mark_of}
use Rattle.ft_msg.specs.SummaryOf.{unit_runs}
use Rattle.ft_msg.proofs.JoinedRuns.{extended-with, run-alike, run_of, with_run-apart, with_run-joined}
use Rattle.ft_plain_summary.specs.OpenRuns.{ended_runs, open_run, runs_behind}

-- the next unit goes into the open run or ends it
with_run-next : (run : RunRec) (ins : Mark) (dels : List Mark) (runs : List RunRec)
    → with_run run (with_run (run_of 1 ins dels) runs) ≡ ended_runs (Some run) ins dels ++ with_run (open_run (Some run) ins dels) runs
with_run-next run ins dels runs = step (same_stamps run.ins run.dels ins dels) refl
  where
    step : (t : Bool) → same_stamps run.ins run.dels ins dels ≡ t
        → with_run run (with_run (run_of 1 ins dels) runs)
        ≡ cond t [] (run ∷ []) ++ with_run (cond t (run_of (run.count + 1) ins dels) (run_of 1 ins dels)) runs
    step true h =
        ap (λ r. with_run r (with_run (run_of 1 ins dels) runs)) (run-alike run ins dels h)
        ∙ with_run-joined run.count 1 ins dels runs
        ∙ ap (λ n. with_run (run_of n ins dels) runs) (omega arith)
    step false h = with_run-apart run (run_of 1 ins dels) runs h

-- one unit more
pub runs_behind-next : (last : Option RunRec) (x : ListElement) (xs : List ListElement)
    → runs_behind last (x ∷ xs) ≡ ended_runs last (mark_of x.ins) (map mark_of x.dels) ++ runs_behind (Some (open_run last (mark_of x.ins) (map mark_of x.dels))) xs
runs_behind-next None x xs = extended-with (mark_of x.ins) (map mark_of x.dels) (unit_runs xs)
runs_behind-next (Some run) x xs =
    ap (with_run run) (extended-with (mark_of x.ins) (map mark_of x.dels) (unit_runs xs)) ∙ with_run-next run (mark_of x.ins) (map mark_of x.dels) (unit_runs xs)

-- the runs so far, after one unit more
pub runs_behind-with : (last : Option RunRec) (x : ListElement) (xs rest : List ListElement) (run : RunRec) (old new all : List RunRec)
    → rest ≡ x ∷ xs → new ≡ old ++ ended_runs last (mark_of x.ins) (map mark_of x.dels) → run ≡ open_run last (mark_of x.ins) (map mark_of x.dels)
    → old ++ runs_behind last rest ≡ all → new ++ runs_behind (Some run) xs ≡ all
runs_behind-with last x xs rest run old new all front ended opened so_far =
    let ins = mark_of x.ins in
    let dels = map mark_of x.dels in
    ap₂ (λ ys r. ys ++ runs_behind (Some r) xs) ended opened
    ∙ append_assoc old (ended_runs last ins dels) (runs_behind (Some (open_run last ins dels)) xs)
    ∙ ap (λ ys. old ++ ys) (sym (runs_behind-next last x xs))
    ∙ ap (λ r. old ++ runs_behind last r) (sym front) ∙ so_far
