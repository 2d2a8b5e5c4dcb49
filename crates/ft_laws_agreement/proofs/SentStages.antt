-- A pending stage as its message tells it: the sub-operations that stand for it, and what they do to each part of a document.
use Rattle.std.specs.Prelude.{◌≡◌, ℕ, ◌+◌, suc, Bool, true, false, cond, not, List, [], ◌∷◌, Option, Some, None, length, map, replicate, option_map}
use Rattle.ft_base.specs.declared.stamps.Stamp.{Stamp}
use Rattle.ft_base.specs.declared.stamps.Stamp.TheVariants.{Acked}
use Rattle.ft_props.specs.declared.properties.Changes.{Changes}
use Rattle.ft_op.specs.declared.operations.Seg.{Seg}
use Rattle.ft_op.specs.declared.operations.BaseOp.TheVariants.{Insert, Remove, Annotate}
use Rattle.ft_op.specs.declared.operations.Ends.{Ends}
use Rattle.ft_op.specs.declared.operations.CellOp.TheVariants.{SpliceIn, SpliceOut, Set}
use Rattle.ft_op.specs.declared.operations.TextOp.{TextOp}
use Rattle.ft_op.specs.declared.operations.Target.{Target}
use Rattle.ft_op.specs.declared.operations.Target.TheVariants.{Rows, Cols}
use Rattle.ft_base.specs.Scan.{at, len}
use Rattle.ft_props.specs.Properties.{PropertySet, ValueBytes, apply}
use Rattle.ft_props.specs.Element.{ElementId, GridUnit, ListElement, id}
use Rattle.ft_props.specs.Steps.{Sequence}
use Rattle.ft_props.proofs.AcknowledgedInsertion.{expects, list_up_to}
use Rattle.ft_op.specs.Operation.{OnGrid, OnIntervals, OnText, SubOperation, segment_contents}
use Rattle.ft_op.specs.Intervals.{Interval, NamedElements, after_interval_operation}
use Rattle.ft_op.specs.Cells.{Cell}
use Rattle.ft_op.specs.Document.{Document, elements_at_given_ends, ends_of, given_ends_fit, rows_or_cols, with_slid_ends}
use Rattle.ft_op.specs.Stages.{intervals_after_stage}
use Rattle.ft_msg.specs.Acknowledgement.{cells_after_stage, made_before, write_named_cell}
use Rattle.ft_laws_agreement.proofs.StageEdits.{StageEdit, PutIn, TakenOut, Annotated, IsStanding, after_sequenced}

-- an insertion into the text; removals of ranges of the text, one after another; annotations of such ranges; an interval
-- operation; the same two for rows or columns; a cell write
pub data SentStage : Type 0 where
  TextPut : ℕ → Seg → PropertySet → SentStage
  TextTaken : List (ℕ × ℕ) → SentStage
  TextAnnotated : List (ℕ × ℕ) → Changes → SentStage
  IntervalsChanged : TextOp → SentStage
  UnitsPut : Target → ℕ → ℕ → SentStage
  UnitsTaken : Target → List (ℕ × ℕ) → SentStage
  CellWritten : ℕ → ℕ → ValueBytes → SentStage

-- its sub-operations in the message
abbrev pub told_as : SentStage → List SubOperation
told_as (TextPut p seg props) = OnText (Insert p seg props) ∷ []
told_as (TextTaken ranges) = map (λ r. OnText (Remove r.0 r.1)) ranges
told_as (TextAnnotated ranges changes) = map (λ r. OnText (Annotate r.0 r.1 changes)) ranges
told_as (IntervalsChanged op) = OnIntervals op ∷ []
told_as (UnitsPut target p count) = OnGrid (SpliceIn target p count) ∷ []
told_as (UnitsTaken target ranges) = map (λ r. OnGrid (SpliceOut target r.0 r.1)) ranges
told_as (CellWritten i j value) = OnGrid (Set i j value) ∷ []

-- what it does to the text
abbrev pub text_edit : SentStage → StageEdit
text_edit (TextPut p seg props) = PutIn p (apply [] props) (segment_contents seg)
text_edit (TextTaken ranges) = TakenOut ranges
text_edit (TextAnnotated ranges changes) = Annotated ranges changes
text_edit _ = TakenOut []

-- what it does to the rows
abbrev pub rows_edit : SentStage → StageEdit
rows_edit (UnitsPut Rows p count) = PutIn p [] (replicate count GridUnit)
rows_edit (UnitsTaken Rows ranges) = TakenOut ranges
rows_edit _ = TakenOut []

-- what it does to the columns
abbrev pub cols_edit : SentStage → StageEdit
cols_edit (UnitsPut Cols p count) = PutIn p [] (replicate count GridUnit)
cols_edit (UnitsTaken Cols ranges) = TakenOut ranges
cols_edit _ = TakenOut []

-- what it does to the intervals, where it names these elements
abbrev pub intervals_after_sent : SentStage → NamedElements → List Interval → List Interval
intervals_after_sent (IntervalsChanged op) names is = after_interval_operation op names is
intervals_after_sent _ names is = is

-- what it does to the cells, where it names these units
abbrev pub cells_after_sent : SentStage → NamedElements → List Cell → List Cell
cells_after_sent (CellWritten i j value) names cells = write_named_cell names.first names.second value cells
cells_after_sent _ names cells = cells

-- how many elements were ever sequenced in the list into which it inserts
abbrev pub made_before_sent : Document → SentStage → ℕ
made_before_sent doc (TextPut p seg props) = doc.text.made
made_before_sent doc (TextTaken ranges) = doc.text.made
made_before_sent doc (TextAnnotated ranges changes) = doc.text.made
made_before_sent doc (UnitsPut target p count) = (rows_or_cols target doc).made
made_before_sent doc _ = 0

-- whether ends are given
abbrev pub are_given : Option Ends → Bool
are_given None = false
are_given (Some ends) = true

-- the sub-operation at these positions: a place or the first of two, the second, the ranges, and the interval operation
abbrev pub placed : ℕ → ℕ → List (ℕ × ℕ) → TextOp → SubOperation → SentStage
placed p q ranges other (OnText (Insert i seg props)) = TextPut p seg props
placed p q ranges other (OnText (Remove i j)) = TextTaken ranges
placed p q ranges other (OnText (Annotate i j changes)) = TextAnnotated ranges changes
placed p q ranges other (OnIntervals op) = IntervalsChanged other
placed p q ranges other (OnGrid (SpliceIn target i count)) = UnitsPut target p count
placed p q ranges other (OnGrid (SpliceOut target i j)) = UnitsTaken target ranges
placed p q ranges other (OnGrid (Set i j value)) = CellWritten p q value

-- whether the two interval operations give ends alike, where the first is one
abbrev pub ends_alike : SubOperation → TextOp → Bool
ends_alike (OnIntervals op) other = cond (are_given (ends_of op)) (are_given (ends_of other)) (not (are_given (ends_of other)))
ends_alike _ other = true

-- it is the sub-operation at some positions
pub record IsPlaced (sub_operation : SubOperation) (sent : SentStage) : Type 0 where
  pub first : ℕ
  pub second : ℕ
  pub ranges : List (ℕ × ℕ)
  pub other : TextOp
  pub alike : ends_alike sub_operation other ≡ true
  pub made : sent ≡ placed first second ranges other sub_operation

-- the message tells the sub-operation of a stage: it is the same at other positions, both do the same to intervals and
-- cells, and number new elements alike
pub record Tells (sub_operation : SubOperation) (sent : SentStage) : Type 0 where
  pub place : IsPlaced sub_operation sent
  pub intervals : (names : NamedElements) (is : List Interval) → intervals_after_stage sub_operation names is ≡ intervals_after_sent sent names is
  pub cells : (names : NamedElements) (cells : List Cell) → cells_after_stage sub_operation names cells ≡ cells_after_sent sent names cells
  pub made : (doc : Document) → made_before doc sub_operation ≡ made_before_sent doc sent

-- the number of the next element after an edit
abbrev pub made_after : StageEdit → ℕ → ℕ
made_after (PutIn p props items) n = n + length items
made_after (TakenOut ranges) n = n
made_after (Annotated ranges changes) n = n

-- a list after an edit that is sequenced under number s by connection c with reference number r
abbrev pub list_after : ℕ → ℕ → ℕ → Option Stamp → StageEdit → Sequence → Sequence
list_after s c r by edit list = record { items = after_sequenced s c r list.made by edit list.items; made = made_after edit list.made }

-- a document after a stage that is sequenced, where it names these elements
abbrev pub document_after : ℕ → ℕ → ℕ → SentStage → NamedElements → Document → Document
document_after s c r sent names doc = with_slid_ends (record doc {
  text = list_after s c r (Some (Acked s c)) (text_edit sent) doc.text;
  rows = list_after s c r None (rows_edit sent) doc.rows;
  cols = list_after s c r None (cols_edit sent) doc.cols;
  intervals = intervals_after_sent sent names doc.intervals;
  cells = cells_after_sent sent names doc.cells;
})

-- both are one name
abbrev pub IsOneName : Option ElementId → Option ElementId → Type 0
IsOneName (Some a) (Some b) = a ≡ b
IsOneName _ _ = ⊥

-- the elements that a stage names, by a test, in the lists of a document
abbrev pub NamesBy : (ListElement → Bool) → List ListElement → List ListElement → List ListElement → SentStage → NamedElements → Type 0
NamesBy test text rows cols (IntervalsChanged op) names = (given_ends_fit (len test text) (ends_of op) ≡ true) × (elements_at_given_ends test text (ends_of op) ≡ names)
NamesBy test text rows cols (CellWritten i j value) names = IsOneName (option_map id (at test i rows)) names.first × IsOneName (option_map id (at test j cols)) names.second
NamesBy test text rows cols _ names = Unit {0}

-- what is known of the stage k + 1 of a document, whose message has reference number r and connection c
pub record StageStands (k r c : ℕ) (sent : SentStage) (names : NamedElements) (doc : Document) : Type 0 where
  pub text : IsStanding k r c (text_edit sent) doc.text.items
  pub rows : IsStanding k r c (rows_edit sent) doc.rows.items
  pub cols : IsStanding k r c (cols_edit sent) doc.cols.items
  pub named : NamesBy (expects r c (suc (suc k))) (list_up_to k doc.text.items) (list_up_to k doc.rows.items) (list_up_to k doc.cols.items) sent names
