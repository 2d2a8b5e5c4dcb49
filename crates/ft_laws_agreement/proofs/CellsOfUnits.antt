-- In a document of messages alone each cell is of a row and of a column that were sequenced.
use Rattle.std.proofs.Common.{◌≡◌, ℕ, zero, suc, ◌+◌, ◌≤◌, Bool, true, false, cond, not, nat_le, nat_lt, List, [], ◌∷◌, Option, Some, None, filter, length, replicate, refl, arith}
use Rattle.std.specs.List.{list_all}
use Rattle.std.proofs.lemmas.Bool.Decides.{nat_tests}
use Rattle.ft_base.proofs.Booleans.{both}
use Rattle.ft_base.specs.declared.stamps.Stamp.{Stamp}
use Rattle.ft_base.specs.declared.stamps.Stamp.TheVariants.{Acked, Local}
use Rattle.ft_base.specs.Scan.{at, len}
use Rattle.ft_base.specs.Visibility.{is_acked}
use Rattle.ft_op.specs.declared.operations.BaseOp.{BaseOp}
use Rattle.ft_op.specs.declared.operations.BaseOp.TheVariants.{Insert, Remove, Annotate}
use Rattle.ft_op.specs.declared.operations.CellOp.{CellOp}
use Rattle.ft_op.specs.declared.operations.CellOp.TheVariants.{SpliceIn, SpliceOut, Set}
use Rattle.ft_op.specs.declared.operations.Target.TheVariants.{Rows, Cols}
use Rattle.ft_op.specs.declared.operations.TextOp.{TextOp}
use Rattle.ft_msg.specs.declared.messages.Entry.{Entry}
use Rattle.ft_msg.specs.declared.messages.Body.{Body}
use Rattle.ft_msg.specs.declared.messages.Body.TheVariants.{Nothing, Op, Elsewhere}
use Rattle.ft_props.specs.Properties.{ValueBytes}
use Rattle.ft_props.specs.Element.{ElementId, SequencedId, PendingId, GridUnit, ListElement, id, id_of_stamp, is_sequenced, seen_by}
use Rattle.ft_op.specs.Operation.{OnGrid, OnIntervals, OnText, SubOperation, sub_operations}
use Rattle.ft_op.specs.Intervals.{after_interval_operation}
use Rattle.ft_op.specs.Cells.{Cell, is_cell, is_null, put_cell, write_cell}
use Rattle.ft_op.specs.Document.{Document, cell_effect, effect, effects, elements_at_given_ends, empty, ends_of, given_ends_fit, grid_effect, interval_effect, text_effect, with_skip, with_slid_ends}
use Rattle.ft_msg.specs.Agreed.{agreed, body_effect, reference_number, take_entries, take_entry}
use Rattle.ft_laws_agreement.specs.Trimming.{IsConsistent, is_numbered_below}
use Rattle.ft_laws_agreement.specs.Sequencing.{is_cell_below, is_name_below}
use Rattle.ft_laws_agreement.proofs.ConsistentDocument.{agreed-consistent, effect-consistent, take_entry-consistent}
use Rattle.ft_laws_agreement.proofs.OwnNames.{all-weaker}

-- each cell is of such units
abbrev pub AreCellsOfUnits : Document → Type 0
AreCellsOfUnits doc = list_all (is_cell_below doc.rows.made doc.cols.made) doc.cells ≡ true

either-way : (b : Bool) (A B : Document) → AreCellsOfUnits A → AreCellsOfUnits B → AreCellsOfUnits (cond b A B)
either-way true A B h g = h
either-way false A B h g = g

more-names : (m n : ℕ) (a : ElementId) → m ≤ n → is_name_below m a ≡ true → is_name_below n a ≡ true
more-names m n (SequencedId i) l h = grind (arith, nat_tests)
more-names m n (PendingId k i) l h = h

more-units : (r s c d : ℕ) → r ≤ s → c ≤ d → (cell : Cell) → is_cell_below r c cell ≡ true → is_cell_below s d cell ≡ true
more-units r s c d l k cell h =
    let p = both (is_name_below r cell.row) (is_name_below c cell.col) h in
    rw (more-names r s cell.row l p.0, more-names c d cell.col k p.1) refl

-- ---- a write

all-put_cell : (test : Cell → Bool) (cell : Cell) (cells : List Cell) → test cell ≡ true → list_all test cells ≡ true → list_all test (put_cell cell cells) ≡ true
all-put_cell test cell [] h g = rw h refl
all-put_cell test cell (other ∷ cells) h g = grind (arith, all-put_cell test cell cells)

all-filter : (test keep : Cell → Bool) (cells : List Cell) → list_all test cells ≡ true → list_all test (filter keep cells) ≡ true
all-filter test keep [] h = refl
all-filter test keep (cell ∷ cells) h = grind (arith, all-filter test keep cells)

all-write : (test : Cell → Bool) (cell : Cell) (cells : List Cell) → test cell ≡ true → list_all test cells ≡ true → list_all test (write_cell cell cells) ≡ true
all-write test cell cells h g = either (is_null cell.value)
  where
    either : (b : Bool) → list_all test (cond b (filter (λ other. not (is_cell cell.row cell.col other)) cells) (put_cell cell cells)) ≡ true
    either true = all-filter test (λ other. not (is_cell cell.row cell.col other)) cells g
    either false = all-put_cell test cell cells h g

-- an element is named below n, if there is one
abbrev is_unit_below : ℕ → Option ListElement → Bool
is_unit_below n None = true
is_unit_below n (Some e) = is_name_below n (id e)

numbered-name : (n : ℕ) (e : ListElement) → is_numbered_below n e ≡ true → is_name_below n (id e) ≡ true
numbered-name n e h = let p = both (is_sequenced e) (nat_lt e.nth n) h in stamp e.ins p.0 p.1
  where
    stamp : (t : Stamp) → is_acked t ≡ true → nat_lt e.nth n ≡ true → is_name_below n (id_of_stamp t e.nth) ≡ true
    stamp (Acked s c) a g = g
    stamp (Local j) a g = (cc)

at-below : (n : ℕ) (test : ListElement → Bool) (i : ℕ) (xs : List ListElement) → list_all (is_numbered_below n) xs ≡ true → is_unit_below n (at test i xs) ≡ true
at-below n test i [] h = refl
at-below n test zero (e ∷ xs) h =
    let p = both (is_numbered_below n e) (list_all (is_numbered_below n) xs) h in
    step (test e) p.0 (at-below n test zero xs p.1)
  where
    step : (b : Bool) → is_numbered_below n e ≡ true → is_unit_below n (at test zero xs) ≡ true → is_unit_below n (cond b (Some e) (at test zero xs)) ≡ true
    step true f g = numbered-name n e f
    step false f g = g
at-below n test (suc i) (e ∷ xs) h = at-below n test (cond (test e) i (suc i)) xs (both (is_numbered_below n e) (list_all (is_numbered_below n) xs) h).1

cell-units : (doc : Document) (row col : Option ListElement) (value : ValueBytes) → is_unit_below doc.rows.made row ≡ true → is_unit_below doc.cols.made col
    ≡ true → AreCellsOfUnits doc → AreCellsOfUnits (cell_effect doc row col value)
cell-units doc (Some row) (Some col) value r c h = all-write (is_cell_below doc.rows.made doc.cols.made) (record { row = id row; col = id col; value = value })
    doc.cells (rw (r, c) refl) h
cell-units doc None col value r c h = h
cell-units doc (Some row) None value r c h = h

-- ---- each sub-operation

text-units : (doc : Document) (s c r : ℕ) (op : BaseOp) → AreCellsOfUnits doc → AreCellsOfUnits (text_effect doc s c r op)
text-units doc s c r (Insert p seg props) h = either-way (nat_le p (len (seen_by r c) doc.text.items)) _ (with_skip doc) h h
text-units doc s c r (Remove p q) h = either-way (nat_le q (len (seen_by r c) doc.text.items)) _ (with_skip doc) h h
text-units doc s c r (Annotate p q changes) h = either-way (nat_le q (len (seen_by r c) doc.text.items)) _ (with_skip doc) h h

grid-units : (doc : Document) (s c r : ℕ) (op : CellOp) → IsConsistent doc → AreCellsOfUnits doc → AreCellsOfUnits (grid_effect doc s c r op)
grid-units doc s c r (SpliceIn Rows p count) k h =
    either-way (nat_le p (len (seen_by r c) doc.rows.items)) _ (with_skip doc)
    (all-weaker (is_cell_below doc.rows.made doc.cols.made) (is_cell_below (doc.rows.made + length (replicate count GridUnit)) doc.cols.made)
    (more-units doc.rows.made (doc.rows.made + length (replicate count GridUnit)) doc.cols.made doc.cols.made (omega arith) (omega arith)) doc.cells h) h
grid-units doc s c r (SpliceIn Cols p count) k h =
    either-way (nat_le p (len (seen_by r c) doc.cols.items)) _ (with_skip doc)
    (all-weaker (is_cell_below doc.rows.made doc.cols.made) (is_cell_below doc.rows.made (doc.cols.made + length (replicate count GridUnit)))
    (more-units doc.rows.made doc.rows.made doc.cols.made (doc.cols.made + length (replicate count GridUnit)) (omega arith) (omega arith)) doc.cells h) h
grid-units doc s c r (SpliceOut Rows p q) k h = either-way (nat_le q (len (seen_by r c) doc.rows.items)) _ (with_skip doc) h h
grid-units doc s c r (SpliceOut Cols p q) k h = either-way (nat_le q (len (seen_by r c) doc.cols.items)) _ (with_skip doc) h h
grid-units doc s c r (Set i j value) k h =
    cell-units doc (at (seen_by r c) i doc.rows.items) (at (seen_by r c) j doc.cols.items) value
    (at-below doc.rows.made (seen_by r c) i doc.rows.items k.rows.below) (at-below doc.cols.made (seen_by r c) j doc.cols.items k.cols.below) h

interval-units : (doc : Document) (c r : ℕ) (op : TextOp) → AreCellsOfUnits doc → AreCellsOfUnits (interval_effect doc c r op)
interval-units doc c r op h =
    either-way (given_ends_fit (len (seen_by r c) doc.text.items) (ends_of op))
    (with_slid_ends (record doc { intervals = after_interval_operation op (elements_at_given_ends (seen_by r c) doc.text.items (ends_of op)) doc.intervals })) (with_skip doc) h h

effect-units : (doc : Document) (s c r : ℕ) (o : SubOperation) → IsConsistent doc → AreCellsOfUnits doc → AreCellsOfUnits (effect doc s c r o)
effect-units doc s c r (OnText op) k h = text-units doc s c r op h
effect-units doc s c r (OnIntervals op) k h = interval-units doc c r op h
effect-units doc s c r (OnGrid op) k h = grid-units doc s c r op k h

effects-units : (doc : Document) (s c r : ℕ) (os : List SubOperation) → IsConsistent doc → AreCellsOfUnits doc → AreCellsOfUnits (effects doc s c r os)
effects-units doc s c r [] k h = h
effects-units doc s c r (o ∷ os) k h = effects-units (effect doc s c r o) s c r os (effect-consistent doc s c r o k) (effect-units doc s c r o k h)

body-units : (doc : Document) (s c r : ℕ) (body : Body) → IsConsistent doc → AreCellsOfUnits doc → AreCellsOfUnits (body_effect doc s c r body)
body-units doc s c r Nothing k h = h
body-units doc s c r (Op op) k h = effects-units doc s c r (sub_operations op) k h
body-units doc s c r (Elsewhere address) k h = h

pub entries-units : (doc : Document) (entries : List Entry) → IsConsistent doc → AreCellsOfUnits doc → AreCellsOfUnits (take_entries doc entries)
entries-units doc [] k h = h
entries-units doc (entry ∷ entries) k h =
    entries-units (take_entry doc entry) entries (take_entry-consistent doc entry k)
    (body-units doc entry.msg.seq entry.origin (reference_number entry.msg.ref_seq) entry.msg.body k h)

pub agreed-units : (entries : List Entry) → AreCellsOfUnits (agreed entries)
agreed-units entries = entries-units empty entries (agreed-consistent []) refl
