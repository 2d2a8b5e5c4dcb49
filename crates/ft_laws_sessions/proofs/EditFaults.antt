-- An edit is refused for an id or a place alone.
use Rattle.std.proofs.Common.{◌≡◌, ℕ, ◌+◌, ◌-◌, Bool, true, false, cond, nat_le, List, [], ◌∷◌, ◌++◌, Option, Some, None, Result, Ok, Err, refl, ap, sym, ◌∙◌}
use Rattle.ft_base.specs.Scan.{at, len}
use Rattle.ft_op.specs.declared.operations.BaseOp.{BaseOp}
use Rattle.ft_op.specs.declared.operations.BaseOp.TheVariants.{Insert, Remove, Annotate}
use Rattle.ft_op.specs.declared.operations.CellOp.{CellOp}
use Rattle.ft_op.specs.declared.operations.CellOp.TheVariants.{SpliceIn, SpliceOut, Set}
use Rattle.ft_op.specs.declared.operations.ChannelOp.{ChannelOp}
use Rattle.ft_op.specs.declared.operations.TextOp.{TextOp}
use Rattle.ft_op.specs.declared.operations.TextOp.TheVariants.{One, Group, IntervalAdd, IntervalChange, IntervalDelete}
use Rattle.ft_msg.specs.declared.faults.EditFault.{EditFault}
use Rattle.ft_msg.specs.declared.faults.EditFault.TheVariants.{IdInUse, NoSuchInterval, OutOfRange, OutOfMemory, Stopped}
use Rattle.ft_props.specs.Element.{ListElement, seen}
use Rattle.ft_op.specs.Operation.{OnGrid, OnIntervals, OnText, SubOperation, sub_operations}
use Rattle.ft_op.specs.Intervals.{Interval, has_interval}
use Rattle.ft_op.specs.Document.{Document, elements_at_given_ends, ends_of, given_ends_fit, rows_or_cols}
use Rattle.ft_op.specs.Stages.{Stage, shown_intervals}
use Rattle.ft_msg.specs.Client.{EditResult, NaiveClient, after_edit, id_fault, local_edit, local_grid, local_interval, local_set, local_sub_operation, local_sub_operations, local_text, stages_of, unless_fault}

-- whether the fault is of an id or a place
abbrev pub is_edit_fault : EditFault → Bool
is_edit_fault IdInUse = true
is_edit_fault NoSuchInterval = true
is_edit_fault (OutOfRange n) = true
is_edit_fault OutOfMemory = false
is_edit_fault (Stopped seq) = false

-- the fault of a result, if it has one, is
abbrev IsFault : {A : Type 0} → Result A EditFault → Type 0
IsFault (Ok x) = Unit {0}
IsFault (Err fault) = is_edit_fault fault ≡ true

choice : {A : Type 0} (b : Bool) (x : A) (fault : EditFault) → is_edit_fault fault ≡ true → IsFault (cond b (Ok x) (Err fault))
choice true x fault h = tt
choice false x fault h = h

text-fault : (doc : Document) (k : ℕ) (op : BaseOp) → IsFault (local_text doc k op)
text-fault doc k (Insert p seg props) = choice (nat_le p (len (seen (k - 1)) doc.text.items)) _ (OutOfRange (len (seen (k - 1)) doc.text.items)) refl
text-fault doc k (Remove p q) = choice (nat_le q (len (seen (k - 1)) doc.text.items)) _ (OutOfRange (len (seen (k - 1)) doc.text.items)) refl
text-fault doc k (Annotate p q changes) = choice (nat_le q (len (seen (k - 1)) doc.text.items)) _ (OutOfRange (len (seen (k - 1)) doc.text.items)) refl

-- the fault that is given is one
abbrev IsIdFault : Option EditFault → Type 0
IsIdFault None = Unit {0}
IsIdFault (Some fault) = is_edit_fault fault ≡ true

unless-is : (o : Option EditFault) (r : EditResult) → IsIdFault o → IsFault r → IsFault (unless_fault o r)
unless-is None r h g = g
unless-is (Some fault) r h g = h

in-use : (b : Bool) → IsIdFault (cond b (Some IdInUse) None)
in-use true = refl
in-use false = tt

not-there : (b : Bool) → IsIdFault (cond b None (Some NoSuchInterval))
not-there true = tt
not-there false = refl

id-fault : (is : List Interval) (op : TextOp) → IsIdFault (id_fault is op)
id-fault is (IntervalAdd label id ends props) = in-use (has_interval label id is)
id-fault is (IntervalChange label id ends props) = not-there (has_interval label id is)
id-fault is (IntervalDelete label id) = not-there (has_interval label id is)
id-fault is (One op) = tt
id-fault is (Group ops) = tt

interval-fault : (doc : Document) (stages : List Stage) (k : ℕ) (op : TextOp) → IsFault (local_interval doc stages k op)
interval-fault doc stages k op =
    let n = len (seen (k - 1)) doc.text.items in
    unless-is (id_fault (shown_intervals doc.text.items doc.intervals stages) op) _ (id-fault (shown_intervals doc.text.items doc.intervals stages) op)
    (choice (given_ends_fit n (ends_of op)) (doc, elements_at_given_ends (seen (k - 1)) doc.text.items (ends_of op)) (OutOfRange n) refl)

set-fault : (doc : Document) (k : ℕ) (row col : Option ListElement) → IsFault (local_set doc k row col)
set-fault doc k (Some row) (Some col) = tt
set-fault doc k None col = refl
set-fault doc k (Some row) None = refl

grid-fault : (doc : Document) (k : ℕ) (op : CellOp) → IsFault (local_grid doc k op)
grid-fault doc k (SpliceIn target p count) = choice (nat_le p (len (seen (k - 1)) (rows_or_cols target doc).items)) _
    (OutOfRange (len (seen (k - 1)) (rows_or_cols target doc).items)) refl
grid-fault doc k (SpliceOut target p q) = choice (nat_le q (len (seen (k - 1)) (rows_or_cols target doc).items)) _
    (OutOfRange (len (seen (k - 1)) (rows_or_cols target doc).items)) refl
grid-fault doc k (Set i j value) = set-fault doc k (at (seen (k - 1)) i doc.rows.items) (at (seen (k - 1)) j doc.cols.items)

one-fault : (doc : Document) (stages : List Stage) (k : ℕ) (o : SubOperation) → IsFault (local_sub_operation doc stages k o)
one-fault doc stages k (OnText op) = text-fault doc k op
one-fault doc stages k (OnIntervals op) = interval-fault doc stages k op
one-fault doc stages k (OnGrid op) = grid-fault doc k op

abbrev with_first : Stage → Result (Document × List Stage) EditFault → Result (Document × List Stage) EditFault
with_first here (Err fault) = Err fault
with_first here (Ok rest) = Ok (rest.0, here ∷ rest.1)

first-is : (here : Stage) (r : Result (Document × List Stage) EditFault) → IsFault r → IsFault (with_first here r)
first-is here (Err fault) h = h
first-is here (Ok rest) h = tt

abbrev after_first : List Stage → ℕ → SubOperation → List SubOperation → EditResult → Result (Document × List Stage) EditFault
after_first stages k o os (Err fault) = Err fault
after_first stages k o os (Ok taken) =
    with_first (record { stage = k; sub_operation = o; names = taken.1 }) (local_sub_operations taken.0
    (stages ++ (record { stage = k; sub_operation = o; names = taken.1 } ∷ [])) (k + 1) os)

all-fault : (os : List SubOperation) (doc : Document) (stages : List Stage) (k : ℕ) → IsFault (local_sub_operations doc stages k os)
all-fault [] doc stages k = tt
all-fault (o ∷ os) doc stages k = by (λ d ss. all-fault os d ss (k + 1)) (local_sub_operation doc stages k o) (one-fault doc stages k o)
  where
    by : ((d : Document) (ss : List Stage) → IsFault (local_sub_operations d ss (k + 1) os)) → (r : EditResult) → IsFault r → IsFault (after_first stages k o os r)
    by ih (Err fault) h = h
    by ih (Ok taken) h =
        let here : Stage = record { stage = k; sub_operation = o; names = taken.1 } in
        first-is here (local_sub_operations taken.0 (stages ++ (here ∷ [])) (k + 1) os) (ih taken.0 (stages ++ (here ∷ [])))

abbrev edited : NaiveClient → ChannelOp → Result (Document × List Stage) EditFault → Result NaiveClient EditFault
edited x op (Err fault) = Err fault
edited x op (Ok taken) = Ok (after_edit op taken.0 taken.1 x)

pub edit-fault : (x : NaiveClient) (op : ChannelOp) (fault : EditFault) → local_edit x op ≡ Err fault → is_edit_fault fault ≡ true
edit-fault x op fault h = by (local_sub_operations x.doc (stages_of x) (x.last_stage + 1) (sub_operations op))
    (all-fault (sub_operations op) x.doc (stages_of x) (x.last_stage + 1)) h
  where
    by : (r : Result (Document × List Stage) EditFault) → IsFault r → edited x op r ≡ Err fault → is_edit_fault fault ≡ true
    by (Err other) g e = let same : other ≡ fault = (cc) in ap is_edit_fault (sym same) ∙ g
    by (Ok taken) g e = (cc)
