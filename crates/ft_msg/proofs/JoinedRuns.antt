-- A run of units before others: two with equal stamps are one, two with others stay apart.
use Rattle.std.proofs.Common.{◌≡◌, ℕ, ◌+◌, Bool, true, false, cond, List, [], ◌∷◌, refl, sym, ◌∙◌, ap, arith}
use Rattle.ft_sumdoc.specs.declared.summary.Mark.{Mark}
use Rattle.ft_sumdoc.specs.declared.summary.RunRec.{RunRec}
use Rattle.ft_sumdoc.specs.WellFormed.{same_stamps}
use Rattle.ft_msg.specs.JoinedRuns.{with_run}
use Rattle.ft_msg.specs.SummaryOf.{extended_unit_runs}
use Rattle.ft_marks.proofs.SameStamps.{same_mark-Decides, same_marks-Decides, stamps_are_same}

-- so many units with these stamps
abbrev pub run_of : ℕ → Mark → List Mark → RunRec
run_of n ins dels = record { count = n; ins = ins; dels = dels }

-- a unit before runs is a run of one
pub extended-with : (ins : Mark) (dels : List Mark) (runs : List RunRec) → extended_unit_runs ins dels runs ≡ with_run (run_of 1 ins dels) runs
extended-with ins dels [] = refl
extended-with ins dels (run ∷ runs) = refl

itself : (ins : Mark) (dels : List Mark) → same_stamps ins dels ins dels ≡ true
itself ins dels = rw ((same_mark-Decides ins ins).1 refl, (same_marks-Decides dels dels).1 refl) refl

-- two runs side by side with equal stamps are one
pub with_run-joined : (a b : ℕ) (ins : Mark) (dels : List Mark) (rest : List RunRec)
    → with_run (run_of a ins dels) (with_run (run_of b ins dels) rest) ≡ with_run (run_of (b + a) ins dels) rest
with_run-joined a b ins dels [] = ap (λ t. cond t (run_of (b + a) ins dels ∷ []) (run_of a ins dels ∷ run_of b ins dels ∷ [])) (itself ins dels)
with_run-joined a b ins dels (s ∷ runs) = step (same_stamps ins dels s.ins s.dels) refl
  where
    step : (t : Bool) → same_stamps ins dels s.ins s.dels ≡ t
        → with_run (run_of a ins dels) (cond t (record s { count = s.count + b } ∷ runs) (run_of b ins dels ∷ s ∷ runs))
        ≡ cond t (record s { count = s.count + (b + a) } ∷ runs) (run_of (b + a) ins dels ∷ s ∷ runs)
    step true h =
        let sum : s.count + b + a ≡ s.count + (b + a) = omega arith in
        ap (λ t. cond t (record s { count = s.count + b + a } ∷ runs) (run_of a ins dels ∷ record s { count = s.count + b } ∷ runs)) h
        ∙ ap (λ n. record s { count = n } ∷ runs) sum
    step false h = ap (λ t. cond t (run_of (b + a) ins dels ∷ s ∷ runs) (run_of a ins dels ∷ run_of b ins dels ∷ s ∷ runs)) (itself ins dels)

-- the first run has the stamps of the one that was put before
record BeginsWith (r : RunRec) (all : List RunRec) : Type 0 where
  head : RunRec
  tail : List RunRec
  is : all ≡ head ∷ tail
  ins : head.ins ≡ r.ins
  dels : head.dels ≡ r.dels

begins : (r : RunRec) (rest : List RunRec) → BeginsWith r (with_run r rest)
begins r [] = record { head = r; tail = []; is = refl; ins = refl; dels = refl }
begins r (s ∷ runs) = step (same_stamps r.ins r.dels s.ins s.dels) refl
  where
    step : (t : Bool) → same_stamps r.ins r.dels s.ins s.dels ≡ t → BeginsWith r (cond t (record s { count = s.count + r.count } ∷ runs) (r ∷ s ∷ runs))
    step true h =
        let p = stamps_are_same r.ins s.ins r.dels s.dels h in
        record { head = record s { count = s.count + r.count }; tail = runs; is = refl; ins = sym p.0; dels = sym p.1 }
    step false h = record { head = r; tail = s ∷ runs; is = refl; ins = refl; dels = refl }

-- two runs side by side with other stamps stay apart
pub with_run-apart : (r s : RunRec) (rest : List RunRec) → same_stamps r.ins r.dels s.ins s.dels ≡ false → with_run r (with_run s rest) ≡ r ∷ with_run s rest
with_run-apart r s rest h =
    let b = begins s rest in
    let differs : same_stamps r.ins r.dels b.head.ins b.head.dels ≡ false =
    ap (λ i. same_stamps r.ins r.dels i b.head.dels) b.ins ∙ ap (λ d. same_stamps r.ins r.dels s.ins d) b.dels ∙ h in
    ap (with_run r) b.is ∙ ap (λ t. cond t (record b.head { count = b.head.count + r.count } ∷ b.tail) (r ∷ b.head ∷ b.tail)) differs ∙ ap (λ rs. r ∷ rs) (sym b.is)

-- a run that a run with equal stamps is put before has these stamps
pub run-alike : (run : RunRec) (ins : Mark) (dels : List Mark) → same_stamps run.ins run.dels ins dels ≡ true → run ≡ run_of run.count ins dels
run-alike run ins dels h =
    let same = stamps_are_same run.ins ins run.dels dels h in
    ap (λ i. run_of run.count i run.dels) same.0 ∙ ap (λ d. run_of run.count ins d) same.1
