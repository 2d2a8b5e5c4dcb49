-- What is told leads from what was shown to what is shown.
use Rattle.std.specs.Prelude.{◌≡◌, ℕ, Bool, true, false, ◌&&◌, nat_eq, List, [], ◌∷◌, ◌++◌, Option, Some, Ok, filter}
use Rattle.std.specs.List.{list_any}
use Rattle.ft_base.specs.Scan.{at, rank}
use Rattle.ft_props.specs.Element.{ElementId, ListElement, has_id, id, seen, seen_by}
use Rattle.ft_op.specs.declared.operations.CellOp.TheVariants.{Set}
use Rattle.ft_op.specs.Document.{Document, effect}
use Rattle.ft_sumdoc.specs.declared.summary.CellRec.{CellRec}
use Rattle.ft_op.specs.declared.operations.ChannelOp.{ChannelOp}
use Rattle.ft_op.specs.Operation.{OnGrid, OnIntervals, SubOperation, sub_operations}
use Rattle.ft_msg.specs.declared.messages.Body.{Body}
use Rattle.ft_msg.specs.declared.messages.Body.TheVariants.{Op}
use Rattle.ft_msg.specs.declared.messages.Entry.{Entry}
use Rattle.ft_msg.specs.Agreed.{reference_number, take_entry}
use Rattle.ft_msg.specs.Client.{NaiveClient, local_edit, stages_of}
use Rattle.ft_msg.specs.Content.{content}
use Rattle.ft_msg.specs.ClientSteps.{has_fitting_body}
use Rattle.ft_msg.specs.Compacted.{IsCompacted}
use Rattle.ft_msg.specs.Indexed.{indexed_client}
use Rattle.ft_msg.specs.Process.{after_entry, is_op, is_own, is_own_join, process}
use Rattle.ft_msg.specs.Reached.{IsReached}
use Rattle.ft_changes.specs.Beside.{entry_moves_ends_alike, is_changed_around, is_changed_by}
use Rattle.ft_changes.specs.Shown.{ShownContent, after_changes, as_view, shown_content}
use Rattle.ft_changes.specs.Told.{told_cells, told_edit, told_edit_lists, told_intervals, told_lists, told_of_entry}

-- what is kept as elements is the view
abbrev pub ShownIsContent : Type 0
ShownIsContent = (x : NaiveClient) → as_view (shown_content x) ≡ content x

-- what an editor shows once it has applied what it is told of the lists, before cells and intervals
abbrev pub after_lists : NaiveClient → Entry → ShownContent
after_lists x entry = after_changes (shown_content x) (told_lists x entry)

-- an editor that applies what it is told shows the view
abbrev pub ToldLeadsOn : Type 0
ToldLeadsOn =
    (x y : NaiveClient) (entry : Entry) → IsReached x → process x entry ≡ Ok y
    → after_changes (shown_content x) (told_of_entry x entry) ≡ shown_content y

-- but for cells and intervals the changes of the lists lead there
pub record ListsLead (x y : NaiveClient) (entry : Entry) : Type 0 where
  pub elements : (after_lists x entry).elements ≡ (shown_content y).elements
  pub rows : (after_lists x entry).rows ≡ (shown_content y).rows
  pub cols : (after_lists x entry).cols ≡ (shown_content y).cols

abbrev pub ToldListsLead : Type 0
ToldListsLead = (x y : NaiveClient) (entry : Entry) → IsReached x → process x entry ≡ Ok y → ListsLead x y entry

-- and so it is with an edit of the client's own
abbrev pub ToldEditLeadsOn : Type 0
ToldEditLeadsOn =
    (x y : NaiveClient) (op : ChannelOp) → IsReached x → local_edit x op ≡ Ok y
    → after_changes (shown_content x) (told_edit x y op) ≡ shown_content y

-- a client that shows what x shows, before the entry and after it, and takes the same messages for its own: what a replica keeps
pub record ShowsInPlaceOf (kept x : NaiveClient) (entry : Entry) : Type 0 where
  pub shown : shown_content kept ≡ shown_content x
  pub after : shown_content (after_entry kept entry) ≡ shown_content (after_entry x entry)
  pub link : kept.link ≡ x.link
  pub conns : kept.conns ≡ x.conns

-- what is told by such a client leads on too
abbrev pub ToldInPlaceOf : Type 0
ToldInPlaceOf =
    (kept x y : NaiveClient) (entry : Entry) → IsReached x → ShowsInPlaceOf kept x entry → process x entry ≡ Ok y
    → after_changes (shown_content x) (told_of_entry kept entry) ≡ shown_content y

-- a client that keeps another but for what compaction takes away shows the same, if its view is the same
abbrev pub KeptIsShown : Type 0
KeptIsShown = (kept x : NaiveClient) → IsCompacted kept x → content kept ≡ content x → shown_content kept ≡ shown_content x

-- so it is with what is told by a client that keeps x but for what compaction takes away, as a replica does
abbrev pub KeptTells : Type 0
KeptTells =
    (kept x y : NaiveClient) (entry : Entry) → IsReached x → IsCompacted kept x → has_fitting_body entry ≡ true → process x entry ≡ Ok y
    → after_changes (shown_content x) (told_of_entry kept entry) ≡ shown_content y

-- what is told of an edit, by a client that keeps x and is z after it
abbrev pub KeptTellsEdits : Type 0
KeptTellsEdits =
    (kept x y z : NaiveClient) (op : ChannelOp) → IsReached x → IsCompacted kept x → local_edit x op ≡ Ok y → local_edit kept op ≡ Ok z
    → after_changes (shown_content x) (told_edit kept z op) ≡ shown_content y

-- clients that are one but for the names of their elements show the same elements too, if their views are the same
abbrev pub NamelessIsShown : Type 0
NamelessIsShown = (p q : NaiveClient) → indexed_client p ≡ indexed_client q → content p ≡ content q → shown_content p ≡ shown_content q

-- a client tells nothing of its own join
abbrev pub OwnJoinTellsNothing : Type 0
OwnJoinTellsNothing =
    (x : NaiveClient) (entry : Entry) → IsReached x → is_own_join x.link entry.msg.kind entry.origin ≡ true → told_of_entry x entry ≡ []

-- an acknowledgement moves no interval: as its own message comes back, a client shows each where it was
abbrev pub AckMovesNoInterval : Type 0
AckMovesNoInterval =
    (x y : NaiveClient) (entry : Entry) → IsReached x → has_fitting_body entry ≡ true → process x entry ≡ Ok y
    → is_op entry.msg.body && is_own x entry ≡ true → (shown_content y).intervals ≡ (shown_content x).intervals

-- so it tells nothing of it
abbrev pub AckTellsNothing : Type 0
AckTellsNothing =
    (x y : NaiveClient) (entry : Entry) → IsReached x → has_fitting_body entry ≡ true → process x entry ≡ Ok y
    → is_op entry.msg.body && is_own x entry ≡ true → told_of_entry x entry ≡ []

-- nor does one that keeps x but for what compaction takes away, of its own join and of its own messages
abbrev pub KeptJoinTellsNothing : Type 0
KeptJoinTellsNothing =
    (kept x y : NaiveClient) (entry : Entry) → IsReached x → IsCompacted kept x → has_fitting_body entry ≡ true → process x entry ≡ Ok y
    → is_own_join kept.link entry.msg.kind entry.origin ≡ true → told_of_entry kept entry ≡ []

abbrev pub KeptAckTellsNothing : Type 0
KeptAckTellsNothing =
    (kept x y : NaiveClient) (entry : Entry) → IsReached x → IsCompacted kept x → has_fitting_body entry ≡ true → process x entry ≡ Ok y
    → is_op entry.msg.body && is_own kept entry ≡ true → told_of_entry kept entry ≡ []

-- a client that keeps x but for what compaction takes away tells just what x tells
abbrev pub KeptTellsTheSame : Type 0
KeptTellsTheSame =
    (kept x y : NaiveClient) (entry : Entry) → IsReached x → IsCompacted kept x → has_fitting_body entry ≡ true → process x entry ≡ Ok y
    → told_of_entry kept entry ≡ told_of_entry x entry

-- whether a sub-operation sets a cell
abbrev pub sets_cell : SubOperation → Bool
sets_cell (OnGrid (Set i j value)) = true
sets_cell _ = false

-- whether it is one of the intervals
abbrev pub changes_intervals : SubOperation → Bool
changes_intervals (OnIntervals op) = true
changes_intervals _ = false

-- whether it is one of the table
abbrev pub changes_table : SubOperation → Bool
changes_table (OnGrid op) = true
changes_table _ = false

-- whether a message has such a sub-operation
abbrev pub has_sub_operation : (SubOperation → Bool) → Body → Bool
has_sub_operation test (Op op) = list_any test (sub_operations op)
has_sub_operation test _ = false

-- of a message that sets no cell none is told: the changes of the lists lead to the cells that are shown after it
abbrev pub UnsetCellsTellNothing : Type 0
UnsetCellsTellNothing =
    (x y : NaiveClient) (entry : Entry) → IsReached x → has_fitting_body entry ≡ true → process x entry ≡ Ok y
    → has_sub_operation sets_cell entry.msg.body ≡ false → told_cells (after_lists x entry).cells (shown_content y).cells ≡ []

-- where nothing is pending, and the message has no interval operation, no interval is told
abbrev pub QuietIntervals : Type 0
QuietIntervals =
    (x y : NaiveClient) (entry : Entry) → IsReached x → has_fitting_body entry ≡ true → process x entry ≡ Ok y → stages_of x ≡ []
    → has_sub_operation changes_intervals entry.msg.body ≡ false → told_intervals (after_lists x entry).intervals (shown_content y).intervals ≡ []

-- so it is with a client that keeps x but for what compaction takes away
abbrev pub KeptUnsetCellsTellNothing : Type 0
KeptUnsetCellsTellNothing =
    (kept x y : NaiveClient) (entry : Entry) → IsReached x → IsCompacted kept x → has_fitting_body entry ≡ true → process x entry ≡ Ok y
    → has_sub_operation sets_cell entry.msg.body ≡ false
    → told_cells (after_lists kept entry).cells (shown_content (after_entry kept entry)).cells ≡ []

abbrev pub KeptQuietIntervals : Type 0
KeptQuietIntervals =
    (kept x y : NaiveClient) (entry : Entry) → IsReached x → IsCompacted kept x → has_fitting_body entry ≡ true → process x entry ≡ Ok y
    → stages_of kept ≡ []
    → has_sub_operation changes_intervals entry.msg.body ≡ false
    → told_intervals (after_lists kept entry).intervals (shown_content (after_entry kept entry)).intervals ≡ []

-- the names of a row and a column, where both are there
abbrev pub units_at : Option ListElement → Option ListElement → List (ElementId × ElementId)
units_at (Some row) (Some col) = (id row, id col) ∷ []
units_at _ _ = []

-- the row and the column whose cell a sub-operation sets
abbrev pub set_units_of : Document → ℕ → ℕ → SubOperation → List (ElementId × ElementId)
set_units_of doc c r (OnGrid (Set i j value)) = units_at (at (seen_by r c) i doc.rows.items) (at (seen_by r c) j doc.cols.items)
set_units_of doc c r _ = []

-- those of sub-operations in order
abbrev pub set_units : Document → ℕ → ℕ → ℕ → List SubOperation → List (ElementId × ElementId)
set_units doc s c r [] = []
set_units doc s c r (o ∷ os) = set_units_of doc c r o ++ set_units (effect doc s c r o) s c r os

-- those of another client's message
abbrev pub units_set_by : Document → ℕ → ℕ → ℕ → Body → List (ElementId × ElementId)
units_set_by doc s c r (Op op) = set_units doc s c r (sub_operations op)
units_set_by doc s c r _ = []

-- whether the cell stands at the places where such a row and such a column are shown at stage k
abbrev pub is_at_units : ℕ → Document → List (ElementId × ElementId) → CellRec → Bool
is_at_units k doc units cell =
    list_any (λ u. nat_eq cell.row (rank (has_id u.0) (seen k) doc.rows.items) && nat_eq cell.col (rank (has_id u.1) (seen k) doc.cols.items)) units

-- whether another client's message sets the cell that stands there after it
abbrev pub is_set_by : NaiveClient → Entry → CellRec → Bool
is_set_by x entry cell =
    let units = units_set_by x.doc entry.msg.seq entry.origin (reference_number entry.msg.ref_seq) entry.msg.body in
    is_at_units x.last_stage (take_entry x.doc entry) units cell

-- of cells only those can be told that the message sets: it is enough to compare these
abbrev pub CellsToldAreSet : Type 0
CellsToldAreSet =
    (x y : NaiveClient) (entry : Entry) → IsReached x → has_fitting_body entry ≡ true → process x entry ≡ Ok y
    → told_cells (after_lists x entry).cells (shown_content y).cells
    ≡ told_cells (filter (is_set_by x entry) (after_lists x entry).cells) (filter (is_set_by x entry) (shown_content y).cells)

-- what an editor shows once it has applied what it is told of the lists by an edit, before cells and intervals
abbrev pub after_edit_lists : NaiveClient → ChannelOp → ShownContent
after_edit_lists x op = after_changes (shown_content x) (told_edit_lists x op)

-- an edit without an operation of the table tells no cell
abbrev pub EditsLeaveCells : Type 0
EditsLeaveCells =
    (x y : NaiveClient) (op : ChannelOp) → IsReached x → local_edit x op ≡ Ok y → list_any changes_table (sub_operations op) ≡ false
    → told_cells (after_edit_lists x op).cells (shown_content y).cells ≡ []

-- so it is with a client that keeps x but for what compaction takes away, and is z after the edit
abbrev pub KeptEditsLeaveCells : Type 0
KeptEditsLeaveCells =
    (kept x z : NaiveClient) (op : ChannelOp) → IsReached x → IsCompacted kept x → local_edit kept op ≡ Ok z
    → list_any changes_table (sub_operations op) ≡ false → told_cells (after_edit_lists kept op).cells (shown_content z).cells ≡ []

-- of intervals only those can be told by an edit that it adds, changes or deletes: it is enough to compare these
abbrev pub EditsTellTheirIntervals : Type 0
EditsTellTheirIntervals =
    (x y : NaiveClient) (op : ChannelOp) → IsReached x → local_edit x op ≡ Ok y
    → told_intervals (after_edit_lists x op).intervals (shown_content y).intervals
    ≡ told_intervals (filter (is_changed_by (sub_operations op)) (after_edit_lists x op).intervals) (filter (is_changed_by (sub_operations op)) (shown_content y).intervals)

abbrev pub KeptEditsTellTheirIntervals : Type 0
KeptEditsTellTheirIntervals =
    (kept x z : NaiveClient) (op : ChannelOp) → IsReached x → IsCompacted kept x → local_edit kept op ≡ Ok z
    → told_intervals (after_edit_lists kept op).intervals (shown_content z).intervals
    ≡ told_intervals (filter (is_changed_by (sub_operations op)) (after_edit_lists kept op).intervals) (filter (is_changed_by (sub_operations op)) (shown_content z).intervals)

-- and by a message that moves the ends as it moves the lists only those that it or a pending stage adds, changes or deletes
abbrev pub MessagesTellTheirIntervals : Type 0
MessagesTellTheirIntervals =
    (x y : NaiveClient) (entry : Entry) → IsReached x → has_fitting_body entry ≡ true → process x entry ≡ Ok y → entry_moves_ends_alike x entry ≡ true
    → told_intervals (after_lists x entry).intervals (shown_content y).intervals
    ≡ told_intervals (filter (is_changed_around x entry) (after_lists x entry).intervals) (filter (is_changed_around x entry) (shown_content y).intervals)

abbrev pub KeptMessagesTellTheirIntervals : Type 0
KeptMessagesTellTheirIntervals =
    (kept x y : NaiveClient) (entry : Entry) → IsReached x → IsCompacted kept x → has_fitting_body entry ≡ true → process x entry ≡ Ok y
    → entry_moves_ends_alike kept entry ≡ true
    → told_intervals (after_lists kept entry).intervals (shown_content (after_entry kept entry)).intervals
    ≡ told_intervals (filter (is_changed_around kept entry) (after_lists kept entry).intervals) (filter (is_changed_around kept entry) (shown_content (after_entry kept entry)).intervals)
