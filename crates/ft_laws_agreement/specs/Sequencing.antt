-- What a client shows beside what the log shows once the client's pending operations are sequenced next.
use Rattle.std.specs.Prelude.{◌≡◌, ℕ, Bool, true, false, not, ◌&&◌, ◌||◌, nat_eq, nat_le, nat_lt, List, [], ◌∷◌, Option, Some, None, filter, replicate, take}
use Rattle.std.specs.List.{list_all, list_any}
use Rattle.ft_base.specs.declared.stamps.Stamp.{Stamp}
use Rattle.ft_base.specs.declared.stamps.Stamp.TheVariants.{Acked, Local}
use Rattle.ft_op.specs.declared.operations.BaseOp.{BaseOp}
use Rattle.ft_op.specs.declared.operations.BaseOp.TheVariants.{Annotate, Insert, Remove}
use Rattle.ft_op.specs.declared.operations.CellOp.{CellOp}
use Rattle.ft_op.specs.declared.operations.CellOp.TheVariants.{Set, SpliceIn, SpliceOut}
use Rattle.ft_op.specs.declared.operations.TextOp.{TextOp}
use Rattle.ft_op.specs.declared.operations.TextOp.TheVariants.{Group, One}
use Rattle.ft_op.specs.declared.operations.Target.{Target}
use Rattle.ft_op.specs.declared.operations.Target.TheVariants.{Rows, Cols}
use Rattle.ft_msg.specs.declared.messages.Entry.{Entry}
use Rattle.ft_props.specs.Overlay.{StagesRise}
use Rattle.ft_props.specs.Properties.{PropertyList, apply}
use Rattle.ft_props.specs.Element.{ElementContent, ElementId, GridUnit, ListElement, PendingId, SequencedId, has_id}
use Rattle.ft_props.specs.Steps.{Sequence, is_inserted_by}
use Rattle.ft_op.specs.Operation.{OnGrid, OnIntervals, OnText, SubOperation, segment_contents}
use Rattle.ft_op.specs.Cells.{Cell}
use Rattle.ft_op.specs.Document.{Document, rows_or_cols, sequenced_part}
use Rattle.ft_op.specs.Intervals.{NamedElements}
use Rattle.ft_op.specs.Same.{same_target}
use Rattle.ft_op.specs.Stages.{Stage}
use Rattle.ft_msg.specs.Agreed.{agreed}
use Rattle.ft_msg.specs.Applied.{applied}
use Rattle.ft_msg.specs.Client.{NaiveClient, PendingEdit, stages_of}
use Rattle.ft_msg.specs.Content.{content}
use Rattle.ft_laws_agreement.specs.Reconnecting.{IsInPlace, IsOrderly, StagesRiseTo, inserts_text, is_stage_of, removes_text, writes_known_units}
use Rattle.ft_laws_agreement.specs.Trimming.{has_ends_on}

-- a fact of each element
abbrev pub Each : {A : Type 0} → (A → Type 0) → List A → Type 0
Each R [] = Unit {0}
Each R (x ∷ xs) = R x × Each R xs

-- whether the sub-operation changes properties of the text
abbrev pub annotates_text : SubOperation → Bool
annotates_text (OnText (Annotate p q changes)) = true
annotates_text _ = false

-- whether the stamp is pending, or has a number up to n
abbrev pub is_known_stamp : ℕ → Stamp → Bool
is_known_stamp n (Acked s c) = nat_le s n
is_known_stamp n (Local k) = true

-- whether all stamps of the element are
abbrev pub is_known : ℕ → ListElement → Bool
is_known n e = is_known_stamp n e.ins && list_all (is_known_stamp n) e.dels

-- whether there are no stamps
abbrev pub has_none : List Stamp → Bool
has_none [] = true
has_none (s ∷ dels) = false

-- whether a pending removal, if there is one, is of a stage after k
abbrev pub is_removed_after : ℕ → Option ℕ → Bool
is_removed_after k None = true
is_removed_after k (Some j) = nat_lt k j

-- whether what else is pending on a pending element is of later stages, and no removal of it is sequenced
abbrev pub is_marked_later : ListElement → Bool
is_marked_later e = elim e.ins [
  | Acked s c ↦ true
  | Local k ↦ has_none e.dels && is_removed_after k e.removal_stage && list_all (λ q. nat_lt k q.0) e.pending
]

-- no sub-operation
abbrev pub no_kind : SubOperation → Bool
no_kind o = false

-- whether the sub-operation puts units into the rows, or into the columns
abbrev pub inserts_in : Target → SubOperation → Bool
inserts_in target (OnGrid (SpliceIn to p count)) = same_target target to && not (nat_eq count 0)
inserts_in target _ = false

-- whether it removes units of them
abbrev pub removes_in : Target → SubOperation → Bool
removes_in target (OnGrid (SpliceOut to p q)) = same_target target to
removes_in target _ = false

-- a list whose pending elements can be sequenced next: they are in place, what is pending on an element is of stages after
-- its own, pending changes rise by stage, and each sequenced stamp has a number up to n
pub record IsReadyList (inserts removes annotates : SubOperation → Bool) (n : ℕ) (stages : List Stage) (list : Sequence) : Type 0 where
  pub place : IsInPlace inserts removes stages list
  pub later : list_all is_marked_later list.items ≡ true
  pub changes : list_all (λ e. list_all (λ q. is_stage_of annotates stages q.0) e.pending) list.items ≡ true
  pub rising : Each (λ e. StagesRise e.pending) list.items
  pub known : list_all (is_known n) list.items ≡ true

-- the elements of an insertion, in order
abbrev pub IsBlockOf : PropertyList → List ElementContent → List ListElement → Type 0
IsBlockOf props [] [] = Unit {0}
IsBlockOf props (c ∷ cs) (e ∷ es) = (e.content ≡ c) × (e.props ≡ props) × IsBlockOf props cs es
IsBlockOf props _ _ = false ≡ true

-- whether no element is named, or two that are in the list
abbrev pub are_ends_in : List ListElement → Option ElementId → Option ElementId → Bool
are_ends_in xs None None = true
are_ends_in xs (Some x) (Some y) = list_any (has_id x) xs && list_any (has_id y) xs
are_ends_in xs _ _ = false

-- the elements of a stage of the text are as it put them in, and its changes are its own
abbrev pub IsTypedText : ℕ → List ListElement → BaseOp → Type 0
IsTypedText k xs (Insert p seg props) = IsBlockOf (apply [] props) (segment_contents seg) (filter (is_inserted_by k) xs)
IsTypedText k xs (Remove p q) = Unit {0}
IsTypedText k xs (Annotate p q changes) = Each (λ e. Each (λ m. nat_eq m.0 k ≡ true → m.1 ≡ changes) e.pending) xs

-- and so for the grid
abbrev pub IsTypedGrid : ℕ → Document → CellOp → Type 0
IsTypedGrid k doc (SpliceIn target p count) = IsBlockOf [] (replicate count GridUnit) (filter (is_inserted_by k) (rows_or_cols target doc).items)
IsTypedGrid k doc (SpliceOut target p q) = Unit {0}
IsTypedGrid k doc (Set i j value) = Unit {0}

-- a stage and its elements are as it was typed
abbrev pub IsTyped : ℕ → Document → NamedElements → SubOperation → Type 0
IsTyped k doc names (OnText op) = IsTypedText k doc.text.items op
IsTyped k doc names (OnIntervals op) = are_ends_in doc.text.items names.first names.second ≡ true
IsTyped k doc names (OnGrid op) = IsTypedGrid k doc op

-- whether the name is that of a sequenced element with a number below n
abbrev pub is_name_below : ℕ → ElementId → Bool
is_name_below n (SequencedId i) = nat_lt i n
is_name_below n (PendingId k i) = false

-- whether the cell is of such a row and such a column
abbrev pub is_cell_below : ℕ → ℕ → Cell → Bool
is_cell_below rows cols c = is_name_below rows c.row && is_name_below cols c.col

-- whether a stage is of the text
abbrev pub is_text_stage : Stage → Bool
is_text_stage t = elim t.sub_operation [ OnText op ↦ true | _ ↦ false ]

-- whether it is of the grid
abbrev pub is_grid_stage : Stage → Bool
is_grid_stage t = elim t.sub_operation [ OnGrid op ↦ true | _ ↦ false ]

-- whether the operation is one of the intervals
abbrev pub is_interval_operation : TextOp → Bool
is_interval_operation (One op) = false
is_interval_operation (Group ops) = false
is_interval_operation _ = true

-- whether there is one stage, of the intervals
abbrev pub is_interval_edit : List Stage → Bool
is_interval_edit (t ∷ []) = elim t.sub_operation [ OnIntervals op ↦ is_interval_operation op | _ ↦ false ]
is_interval_edit _ = false

-- whether the stages of an edit are those of one operation
abbrev pub is_one_operation : PendingEdit → Bool
is_one_operation e = list_all is_text_stage e.stages || list_all is_grid_stage e.stages || is_interval_edit e.stages

-- a client whose pending edits can be sequenced next
pub record IsReady (x : NaiveClient) : Type 0 where
  pub stages : StagesRiseTo 0 (stages_of x) x.last_stage
  pub text : IsReadyList inserts_text removes_text annotates_text x.doc.number (stages_of x) x.doc.text
  pub rows : IsReadyList (inserts_in Rows) (removes_in Rows) no_kind x.doc.number (stages_of x) x.doc.rows
  pub cols : IsReadyList (inserts_in Cols) (removes_in Cols) no_kind x.doc.number (stages_of x) x.doc.cols
  pub ends : list_all (has_ends_on x.doc.text.items) x.doc.intervals ≡ true
  pub typed : Each (λ t. IsTyped t.stage x.doc t.names t.sub_operation) (stages_of x)
  pub writes : list_all (writes_known_units x.doc.rows.items x.doc.cols.items) (stages_of x) ≡ true
  pub cells : list_all (is_cell_below x.doc.rows.made x.doc.cols.made) x.doc.cells ≡ true
  pub edits : list_all is_one_operation x.pending ≡ true

-- such a client is also in order for a reconnection
abbrev pub ReadyIsOrderly : Type 0
ReadyIsOrderly = (x : NaiveClient) → IsReady x → IsOrderly x

-- such a client, whose document without what is pending is that of the messages which it processed, shows what the log
-- will show once its pending operations are sequenced next
abbrev pub PendingIsOnTop : Type 0
PendingIsOnTop =
    (x : NaiveClient) (log : List Entry) (conn : ℕ) → IsReady x → sequenced_part x.doc ≡ agreed (take x.doc.number log) → content x ≡ applied x log conn
