-- An edit is refused for an id or a position alone.
use Rattle.std.proofs.Common.{◌≡◌, ℕ, ◌+◌, ◌-◌, Bool, true, false, cond, nat_le, List, [], ◌∷◌, ◌++◌, Option, Some, None, Result, Ok, Err, refl, subst}
use Rattle.ft_op.specs.declared.operations.BaseOp.{BaseOp}
use Rattle.ft_op.specs.declared.operations.BaseOp.TheVariants.{Insert, Remove, Annotate}
use Rattle.ft_op.specs.declared.operations.CellOp.{CellOp}
use Rattle.ft_op.specs.declared.operations.CellOp.TheVariants.{SpliceIn, SpliceOut, Set}
use Rattle.ft_op.specs.declared.operations.TextOp.{TextOp}
use Rattle.ft_op.specs.declared.operations.TextOp.TheVariants.{One, Group, IntervalAdd, IntervalChange, IntervalDelete}
use Rattle.ft_msg.specs.declared.faults.EditFault.{EditFault}
use Rattle.ft_msg.specs.declared.faults.EditFault.TheVariants.{IdInUse, NoSuchInterval, OutOfRange}
use Rattle.ft_base.specs.Scan.{at, len}
use Rattle.ft_props.specs.Element.{ListElement, seen}
use Rattle.ft_op.specs.Document.{Document, ends_of, given_ends_fit}
use Rattle.ft_op.specs.Intervals.{Interval, has_interval}
use Rattle.ft_op.specs.Operation.{OnGrid, OnIntervals, OnText, SubOperation}
use Rattle.ft_op.specs.Stages.{Stage, shown_intervals}
use Rattle.ft_msg.specs.Answers.{Refusal, edit_fault_kind}
use Rattle.ft_msg.specs.Client.{EditResult, id_fault, if_in_range, local_grid}
use Rattle.ft_msg.specs.Client.{local_interval, local_set, local_sub_operation, local_sub_operations, local_text, unless_fault}

-- what fails is a refusal
abbrev OnlyRefuses : {A : Type 0} → Result A EditFault → Type 0
OnlyRefuses (Ok a) = Unit {0}
OnlyRefuses (Err fault) = edit_fault_kind fault ≡ Refusal

-- a fault, if there is one, is a refusal
abbrev OnlyRefusal : Option EditFault → Type 0
OnlyRefusal None = Unit {0}
OnlyRefusal (Some fault) = edit_fault_kind fault ≡ Refusal

chosen : {A : Type 0} (b : Bool) (a : A) (n : ℕ) → OnlyRefuses (cond b (Ok a) (Err (OutOfRange n)))
chosen true a n = tt
chosen false a n = refl

in-range : (p n : ℕ) (doc : Document) → OnlyRefuses (if_in_range p n doc)
in-range p n doc = chosen (nat_le p n) _ n

text-refuses : (doc : Document) (k : ℕ) (op : BaseOp) → OnlyRefuses (local_text doc k op)
text-refuses doc k (Insert p seg props) = in-range p _ _
text-refuses doc k (Remove p q) = in-range q _ _
text-refuses doc k (Annotate p q changes) = in-range q _ _

in-use : (b : Bool) → OnlyRefusal (cond b (Some IdInUse) None)
in-use true = refl
in-use false = tt

not-there : (b : Bool) → OnlyRefusal (cond b None (Some NoSuchInterval))
not-there true = tt
not-there false = refl

id-refuses : (is : List Interval) (op : TextOp) → OnlyRefusal (id_fault is op)
id-refuses is (One op) = tt
id-refuses is (Group ops) = tt
id-refuses is (IntervalAdd label id ends props) = in-use (has_interval label id is)
id-refuses is (IntervalChange label id ends props) = not-there (has_interval label id is)
id-refuses is (IntervalDelete label id) = not-there (has_interval label id is)

unless-refuses : (fault : Option EditFault) (taken : EditResult) → OnlyRefusal fault → OnlyRefuses taken → OnlyRefuses (unless_fault fault taken)
unless-refuses None taken h k = k
unless-refuses (Some fault) taken h k = h

interval-refuses : (doc : Document) (stages : List Stage) (k : ℕ) (op : TextOp) → OnlyRefuses (local_interval doc stages k op)
interval-refuses doc stages k op =
    unless-refuses (id_fault (shown_intervals doc.text.items doc.intervals stages) op) _ (id-refuses (shown_intervals doc.text.items doc.intervals stages) op)
    (chosen (given_ends_fit (len (seen (k - 1)) doc.text.items) (ends_of op)) _ (len (seen (k - 1)) doc.text.items))

set-refuses : (doc : Document) (k : ℕ) (row col : Option ListElement) → OnlyRefuses (local_set doc k row col)
set-refuses doc k None col = refl
set-refuses doc k (Some row) None = refl
set-refuses doc k (Some row) (Some col) = tt

grid-refuses : (doc : Document) (k : ℕ) (op : CellOp) → OnlyRefuses (local_grid doc k op)
grid-refuses doc k (SpliceIn target p count) = in-range p _ _
grid-refuses doc k (SpliceOut target p q) = in-range q _ _
grid-refuses doc k (Set i j value) = set-refuses doc k (at (seen (k - 1)) i doc.rows.items) (at (seen (k - 1)) j doc.cols.items)

one-refuses : (doc : Document) (stages : List Stage) (k : ℕ) (op : SubOperation) → OnlyRefuses (local_sub_operation doc stages k op)
one-refuses doc stages k (OnText op) = text-refuses doc k op
one-refuses doc stages k (OnIntervals op) = interval-refuses doc stages k op
one-refuses doc stages k (OnGrid op) = grid-refuses doc k op

first-refuses : (here : Stage) (rest : Result (Document × List Stage) EditFault) → OnlyRefuses rest
    → OnlyRefuses (elim rest as (λ _. Result (Document × List Stage) EditFault) [ Err fault ↦ Err fault | Ok taken ↦ Ok (taken.0, here ∷ taken.1) ])
first-refuses here (Ok taken) h = tt
first-refuses here (Err fault) h = h

all-refuse : (doc : Document) (stages : List Stage) (k : ℕ) (ops : List SubOperation) → OnlyRefuses (local_sub_operations doc stages k ops)
all-refuse doc stages k [] = tt
all-refuse doc stages k (op ∷ ops) = go (local_sub_operation doc stages k op) (one-refuses doc stages k op) (λ d ss. all-refuse d ss (k + 1) ops)
  where
    go : (r : EditResult) → OnlyRefuses r → ((d : Document) (ss : List Stage) → OnlyRefuses (local_sub_operations d ss (k + 1) ops))
        → OnlyRefuses (elim r as (λ _. Result (Document × List Stage) EditFault) [
          | Err fault ↦ Err fault
          | Ok taken ↦
              let here : Stage = record { stage = k; sub_operation = op; names = taken.1 } in
              elim (local_sub_operations taken.0 (stages ++ (here ∷ [])) (k + 1) ops) [ Err fault ↦ Err fault | Ok rest ↦ Ok (rest.0, here ∷ rest.1) ]
        ])
    go (Err fault) h rest = h
    go (Ok taken) h rest =
        let here : Stage = record { stage = k; sub_operation = op; names = taken.1 } in
        first-refuses here (local_sub_operations taken.0 (stages ++ (here ∷ [])) (k + 1) ops) (rest taken.0 (stages ++ (here ∷ [])))

-- the fault of a refused edit is a refusal
pub steps-refusal : (doc : Document) (stages : List Stage) (k : ℕ) (ops : List SubOperation) (fault : EditFault) → local_sub_operations doc stages k ops ≡ Err fault
    → edit_fault_kind fault ≡ Refusal
steps-refusal doc stages k ops fault h = let P : Result (Document × List Stage) EditFault → Type 0 = λ r. OnlyRefuses r in subst P h (all-refuse doc stages k ops)
