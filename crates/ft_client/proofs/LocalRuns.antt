-- A client's own sub-operations, one after another: what they leave as it was, which stages they make, and how many rows and
-- columns come in.
use Rattle.std.proofs.Common.{◌≡◌, ℕ, zero, suc, ◌+◌, ◌-◌, Bool, true, false, cond, nat_le, List, [], ◌∷◌, ◌++◌, Option, Some, None, Result, Ok, Err, refl, sym, ◌∙◌, ap, subst, length, map, replicate, arith}
use Rattle.std.specs.List.{list_all}
use Rattle.ft_base.specs.declared.stamps.Stamp.TheVariants.{Local}
use Rattle.ft_base.specs.Scan.{at, len, no_run}
use Rattle.ft_base.proofs.Booleans.{both}
use Rattle.ft_op.specs.declared.operations.BaseOp.TheVariants.{Insert, Remove, Annotate}
use Rattle.ft_op.specs.declared.operations.CellOp.{CellOp}
use Rattle.ft_op.specs.declared.operations.CellOp.TheVariants.{SpliceIn, SpliceOut, Set}
use Rattle.ft_op.specs.declared.operations.Target.TheVariants.{Rows, Cols}
use Rattle.ft_op.specs.Document.{Document, elements_at_given_ends, ends_of, given_ends_fit}
use Rattle.ft_op.specs.Intervals.{NamedElements, no_elements}
use Rattle.ft_op.specs.Operation.{OnGrid, OnIntervals, OnText, SubOperation}
use Rattle.ft_op.specs.Stages.{Stage, shown_intervals}
use Rattle.ft_props.specs.Element.{ElementContent, GridUnit, ListElement, is_pending, new_elements, seen, with_pending_removal}
use Rattle.ft_props.specs.Steps.{Sequence, after_local_insertion, after_local_mark}
use Rattle.ft_msg.specs.declared.faults.EditFault.{EditFault}
use Rattle.ft_msg.specs.Answers.{count_held}
use Rattle.ft_msg.specs.Client.{EditResult, id_fault, if_in_range, local_grid, local_set, local_sub_operation, local_sub_operations, unless_fault}
use Rattle.ft_laws_agreement.proofs.AgreedStage.{len-put-add}
use Rattle.ft_laws_agreement.proofs.RangesOfLists.{len-range}
use Rattle.ft_laws_agreement.specs.Sequencing.{is_grid_stage}
use Rattle.ft_string.specs.Holds.{is_on_text}
use Rattle.ft_client.specs.declared.stages.OwnStage.{OwnStage}
use Rattle.ft_client.specs.declared.stages.Part.{Part}
use Rattle.ft_client.specs.Parts.{own_stage, part_of, stages_from, units_by, units_of, units_of_one}

-- ---- the run

-- sub-operations from stage k on, each taken after those before it, make of the document another one, with these stages
pub data LocalRun : ℕ → Document → List Stage → List SubOperation → Document → List Stage → Type 0 where
  done : {k : ℕ} {doc : Document} {stages : List Stage} → LocalRun k doc stages [] doc []
  more : {k : ℕ} {doc d e : Document} {stages ts : List Stage} {o : SubOperation} {os : List SubOperation} {a : NamedElements}
      → local_sub_operation doc stages k o ≡ Ok (d, a) → LocalRun (k + 1) d (stages ++ (record { stage = k; sub_operation = o; names = a } ∷ [])) os e ts
      → LocalRun k doc stages (o ∷ os) e (record { stage = k; sub_operation = o; names = a } ∷ ts)

abbrev Steps : Type 0
Steps = Result (Document × List Stage) EditFault

abbrev here_of : ℕ → SubOperation → NamedElements → Stage
here_of k o a = record { stage = k; sub_operation = o; names = a }

abbrev rest_of : Stage → Steps → Steps
rest_of t r = elim r as (λ _. Steps) [ Err fault ↦ Err fault | Ok rest ↦ Ok (rest.0, t ∷ rest.1) ]

abbrev IsRun : ℕ → Document → List Stage → List SubOperation → Document × List Stage → Type 0
IsRun k doc stages os r = LocalRun k doc stages os r.0 r.1

abbrev Goes : ℕ → List Stage → SubOperation → List SubOperation → Type 0
Goes k stages o os = (d : Document) (a : NamedElements) (r : Document × List Stage) → local_sub_operations d (stages ++ (here_of k o a ∷ [])) (k + 1) os ≡ Ok r
    → IsRun (k + 1) d (stages ++ (here_of k o a ∷ [])) os r

same-run : (k : ℕ) (doc : Document) (stages : List Stage) (os : List SubOperation) (r q : Document × List Stage) → (let x : Steps = Ok r in x ≡ Ok q) → IsRun k doc stages os r → IsRun k doc stages os q
same-run k doc stages os r q e h =
    let same : r ≡ q = (cc) in
    subst (IsRun k doc stages os) same h

second : (k : ℕ) (doc : Document) (stages : List Stage) (o : SubOperation) (os : List SubOperation) (q : Document × List Stage)
    (d : Document) (a : NamedElements)
    → local_sub_operation doc stages k o ≡ Ok (d, a) → Goes k stages o os → (r : Steps) → local_sub_operations d (stages ++ (here_of k o a ∷ [])) (k + 1) os ≡ r
    → rest_of (here_of k o a) r ≡ Ok q → IsRun k doc stages (o ∷ os) q
second k doc stages o os q d a f ih (Err fault) g h = (cc)
second k doc stages o os q d a f ih (Ok r) g h = same-run k doc stages (o ∷ os) (r.0, here_of k o a ∷ r.1) q h (more f (ih d a r g))

first : (k : ℕ) (doc : Document) (stages : List Stage) (o : SubOperation) (os : List SubOperation) (q : Document × List Stage) (r : EditResult)
    → local_sub_operation doc stages k o ≡ r → Goes k stages o os
    → elim r as (λ _. Steps) [
      | Err fault ↦ Err fault
      | Ok taken ↦ rest_of (here_of k o taken.1) (local_sub_operations taken.0 (stages ++ (here_of k o taken.1 ∷ [])) (k + 1) os)
    ] ≡ Ok q → IsRun k doc stages (o ∷ os) q
first k doc stages o os q (Err fault) f ih h = (cc)
first k doc stages o os q (Ok r) f ih h = second k doc stages o os q r.0 r.1 f ih (local_sub_operations r.0 (stages ++ (here_of k o r.1 ∷ [])) (k + 1) os) refl h

run-of : (k : ℕ) (doc : Document) (stages : List Stage) (os : List SubOperation) (q : Document × List Stage)
    → local_sub_operations doc stages k os ≡ Ok q → IsRun k doc stages os q
run-of k doc stages [] q h = same-run k doc stages [] (doc, []) q h done
run-of k doc stages (o ∷ os) q h =
    first k doc stages o os q (local_sub_operation doc stages k o) refl (λ d a r g. run-of (k + 1) d (stages ++ (here_of k o a ∷ [])) os r g) h

pub local-run : (k : ℕ) (doc : Document) (stages : List Stage) (os : List SubOperation) (e : Document) (ts : List Stage)
    → local_sub_operations doc stages k os ≡ Ok (e, ts) → LocalRun k doc stages os e ts
local-run k doc stages os e ts h = run-of k doc stages os (e, ts) h

-- ---- one step

-- what a step that went well made of the document
abbrev IfTaken : (Document → Type 0) → EditResult → Type 0
IfTaken P (Err fault) = Unit {0}
IfTaken P (Ok r) = P r.0

taken-is : (P : Document → Type 0) (r : EditResult) (d : Document) (a : NamedElements) → IfTaken P r → r ≡ Ok (d, a) → P d
taken-is P (Err fault) d a h e = (cc)
taken-is P (Ok r) d a h e =
    let same : r.0 ≡ d = (cc) in
    subst P same h

in-range : (P : Document → Type 0) (p n : ℕ) (d : Document) → P d → IfTaken P (if_in_range p n d)
in-range P p n d h = step (nat_le p n)
  where
    step : (b : Bool) → IfTaken P (cond b (Ok (d, no_elements)) (Err (EditFault.OutOfRange n)))
    step true = h
    step false = tt

-- a step on the text leaves all else
abbrev pub LeavesTable : Document → Document → Type 0
LeavesTable doc d = d ≡ record doc { text = d.text }

text-leaves : (k : ℕ) (doc : Document) (stages : List Stage) (o : SubOperation) → is_on_text o ≡ true
    → IfTaken (LeavesTable doc) (local_sub_operation doc stages k o)
text-leaves k doc stages (OnText (Insert p seg props)) h = in-range (LeavesTable doc) p _ _ refl
text-leaves k doc stages (OnText (Remove p q)) h = in-range (LeavesTable doc) q _ _ refl
text-leaves k doc stages (OnText (Annotate p q changes)) h = in-range (LeavesTable doc) q _ _ refl
text-leaves k doc stages (OnIntervals op) h = step (id_fault (shown_intervals doc.text.items doc.intervals stages) op)
    (given_ends_fit (len (seen (k - 1)) doc.text.items) (ends_of op))
  where
    step : (f : Option EditFault) (b : Bool) → IfTaken (LeavesTable doc) (unless_fault f (cond b (Ok (doc, elements_at_given_ends (seen (k - 1)) doc.text.items (ends_of op))) (Err (EditFault.OutOfRange (len (seen (k - 1)) doc.text.items)))))
    step (Some fault) b = tt
    step None true = refl
    step None false = tt
text-leaves k doc stages (OnGrid op) h = (cc)

-- a step on the table leaves all but rows and columns
abbrev pub LeavesText : Document → Document → Type 0
LeavesText doc d = d ≡ record doc { rows = d.rows; cols = d.cols }

grid-leaves : (k : ℕ) (doc : Document) (op : CellOp) → IfTaken (LeavesText doc) (local_grid doc k op)
grid-leaves k doc (SpliceIn Rows p count) = in-range (LeavesText doc) p _ _ refl
grid-leaves k doc (SpliceIn Cols p count) = in-range (LeavesText doc) p _ _ refl
grid-leaves k doc (SpliceOut Rows p q) = in-range (LeavesText doc) q _ _ refl
grid-leaves k doc (SpliceOut Cols p q) = in-range (LeavesText doc) q _ _ refl
grid-leaves k doc (Set i j value) = step (at (seen (k - 1)) i doc.rows.items) (at (seen (k - 1)) j doc.cols.items)
  where
    step : (o p : Option ListElement) → IfTaken (LeavesText doc) (local_set doc k o p)
    step (Some x) (Some y) = refl
    step (Some x) None = tt
    step None p = tt

-- rows and columns come in as the operation says, pending ones counted
abbrev CountsIn : Document → ℕ → ℕ → Document → Type 0
CountsIn doc rows cols d = (count_held d.rows ≡ count_held doc.rows + rows) × (count_held d.cols ≡ count_held doc.cols + cols)

no-more : (n : ℕ) → n ≡ n + 0
no-more n = omega arith

new-pending : (k n : ℕ) (bs : List ElementContent) → len is_pending (new_elements n (Local k) [] None [] bs) ≡ length bs
new-pending k n [] = refl
new-pending k n (b ∷ bs) = ap suc (new-pending k (n + 1) bs)

units-length : (count : ℕ) → length (replicate count GridUnit) ≡ count
units-length zero = refl
units-length (suc count) = ap suc (units-length count)

inserted-count : (k p count : ℕ) (list : Sequence) → count_held (after_local_insertion k p [] (replicate count GridUnit) list) ≡ count_held list + count
inserted-count k p count list =
    sums list.made _ _ _ _ (len-put-add is_pending (seen (k - 1)) no_run p (new_elements 0 (Local k) [] None [] (replicate count GridUnit)) list.items)
    (new-pending k 0 (replicate count GridUnit) ∙ units-length count)
  where
    sums : (m a b c n : ℕ) → a ≡ b + c → b ≡ n → m + a ≡ m + c + n
    sums m a b c n f g = omega arith

removed-count : (k p q : ℕ) (list : Sequence) → count_held (after_local_mark k p q (with_pending_removal k) list) ≡ count_held list + 0
removed-count k p q list = ap (λ n. list.made + n) (len-range is_pending (seen (k - 1)) (with_pending_removal k) (λ e. refl) p q 0 list.items) ∙ no-more (count_held list)

grid-counts : (k : ℕ) (doc : Document) (op : CellOp) → IfTaken (CountsIn doc (units_by Rows op) (units_by Cols op)) (local_grid doc k op)
grid-counts k doc (SpliceIn Rows p count) = in-range (CountsIn doc count 0) p _ _ (inserted-count k p count doc.rows, no-more (count_held doc.cols))
grid-counts k doc (SpliceIn Cols p count) = in-range (CountsIn doc 0 count) p _ _ (no-more (count_held doc.rows), inserted-count k p count doc.cols)
grid-counts k doc (SpliceOut Rows p q) = in-range (CountsIn doc 0 0) q _ _ (removed-count k p q doc.rows, no-more (count_held doc.cols))
grid-counts k doc (SpliceOut Cols p q) = in-range (CountsIn doc 0 0) q _ _ (no-more (count_held doc.rows), removed-count k p q doc.cols)
grid-counts k doc (Set i j value) = step (at (seen (k - 1)) i doc.rows.items) (at (seen (k - 1)) j doc.cols.items)
  where
    step : (o p : Option ListElement) → IfTaken (CountsIn doc 0 0) (local_set doc k o p)
    step (Some x) (Some y) = (no-more (count_held doc.rows), no-more (count_held doc.cols))
    step (Some x) None = tt
    step None p = tt

-- ---- all steps

pub record RunsOnText (k : ℕ) (doc e : Document) (ts : List Stage) : Type 0 where
  pub leaves : LeavesTable doc e
  pub stages : list_all (λ t. is_on_text t.sub_operation) ts ≡ true

pub text-run : {k : ℕ} {doc e : Document} {stages ts : List Stage} {os : List SubOperation} → list_all is_on_text os ≡ true → LocalRun k doc stages os e ts
    → RunsOnText k doc e ts
text-run h done = record { leaves = refl; stages = refl }
text-run {k} {doc} {e} {stages} h (more {d = d} {o = o} {os = os} {a = a} f run) =
    let p = both (is_on_text o) (list_all is_on_text os) h in
    let one = taken-is (LeavesTable doc) (local_sub_operation doc stages k o) d a (text-leaves k doc stages o p.0) f in
    let rest = text-run p.1 run in
    record { leaves = rest.leaves ∙ ap (λ (c : Document). record c { text = e.text }) one; stages = rw (p.0, rest.stages) refl }

pub record RunsOnGrid (k : ℕ) (doc e : Document) (os : List SubOperation) (ts : List Stage) : Type 0 where
  pub leaves : LeavesText doc e
  pub stages : list_all is_grid_stage ts ≡ true
  pub rows : count_held e.rows ≡ count_held doc.rows + units_of Rows os
  pub cols : count_held e.cols ≡ count_held doc.cols + units_of Cols os

added : (a b c m n : ℕ) → b ≡ a + m → c ≡ b + n → c ≡ a + (m + n)
added a b c m n f g = omega arith

pub grid-run : (ops : List CellOp) {k : ℕ} {doc e : Document} {stages ts : List Stage} {os : List SubOperation}
    → os ≡ map (λ op. OnGrid op) ops → LocalRun k doc stages os e ts
    → RunsOnGrid k doc e os ts
grid-run ops {doc = doc} h done = record { leaves = refl; stages = refl; rows = no-more (count_held doc.rows); cols = no-more (count_held doc.cols) }
grid-run [] h (more f run) = (cc)
grid-run (op ∷ ops) {k} {doc} {e} {stages} h (more {d = d} {o = o} {os = os} {a = a} f run) =
    let first : o ≡ OnGrid op = (cc) in
    let others : os ≡ map (λ op. OnGrid op) ops = (cc) in
    let taken : local_grid doc k op ≡ Ok (d, a) = ap (local_sub_operation doc stages k) (sym first) ∙ f in
    let one = taken-is (LeavesText doc) (local_grid doc k op) d a (grid-leaves k doc op) taken in
    let counts = taken-is (CountsIn doc (units_by Rows op) (units_by Cols op)) (local_grid doc k op) d a (grid-counts k doc op) taken in
    let rest = grid-run ops others run in
    record {
      leaves = rest.leaves ∙ ap (λ (c : Document). record c { rows = e.rows; cols = e.cols }) one;
      stages = rw (first, rest.stages) refl;
      rows = added _ _ _ _ _ counts.0 rest.rows ∙ ap (λ n. count_held doc.rows + (n + units_of Rows os)) (ap (units_of_one Rows) (sym first));
      cols = added _ _ _ _ _ counts.1 rest.cols ∙ ap (λ n. count_held doc.cols + (n + units_of Cols os)) (ap (units_of_one Cols) (sym first));
    }

-- ---- the numbers of the stages

-- each sub-operation is on that part
abbrev pub AreOn : Part → List SubOperation → Type 0
AreOn part [] = Unit {0}
AreOn part (o ∷ os) = (part_of o ≡ part) × AreOn part os

pub run-stages : {k : ℕ} {doc e : Document} {stages ts : List Stage} {os : List SubOperation} (part : Part) → AreOn part os → LocalRun k doc stages os e ts
    → map own_stage ts ≡ stages_from k (length ts) part
run-stages part h done = refl
run-stages {k} {e = e} part h (more {ts = ts} {o = o} f run) =
    ap (λ (x : Part). (let s : OwnStage = record { stage = k; part = x } in s) ∷ map own_stage ts) h.0
    ∙ ap (λ us. (let s : OwnStage = record { stage = k; part = part } in s) ∷ us) (run-stages part h.1 run)
