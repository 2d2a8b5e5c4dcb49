-- The acknowledgement of a client's own message: its oldest pending edit becomes sequenced, stage by stage. Positions
-- aren't searched again.
use Rattle.std.specs.Prelude.{ℕ, List, [], ◌∷◌, Option, Some, None, map}
use Rattle.ft_msg.specs.declared.messages.Entry.{Entry}
use Rattle.ft_op.specs.declared.operations.CellOp.TheVariants.{SpliceIn, Set}
use Rattle.ft_base.specs.Scan.{at}
use Rattle.ft_props.specs.Properties.{ValueBytes}
use Rattle.ft_props.specs.Element.{ElementId}
use Rattle.ft_props.specs.Steps.{acked_id, acked_list}
use Rattle.ft_op.specs.Operation.{OnGrid, OnIntervals, OnText, SubOperation}
use Rattle.ft_op.specs.Intervals.{NamedElements}
use Rattle.ft_op.specs.Cells.{Cell, write_cell}
use Rattle.ft_op.specs.Document.{Document, rows_or_cols, with_slid_ends}
use Rattle.ft_op.specs.Stages.{Stage, intervals_after_stage}
use Rattle.ft_msg.specs.Agreed.{with_numbers}
use Rattle.ft_msg.specs.Client.{NaiveClient, PendingEdit}

-- how many elements were ever sequenced in the list into which a sub-operation inserts
abbrev pub made_before : Document → SubOperation → ℕ
made_before doc (OnText op) = doc.text.made
made_before doc (OnIntervals op) = 0
made_before doc (OnGrid (SpliceIn target p count)) = (rows_or_cols target doc).made
made_before doc (OnGrid _) = 0

-- a named element under a renaming
abbrev pub renamed : (ElementId → ElementId) → Option ElementId → Option ElementId
renamed f None = None
renamed f (Some x) = Some (f x)

-- both named elements under a renaming
abbrev pub renamed_names : (ElementId → ElementId) → NamedElements → NamedElements
renamed_names f at = record { first = renamed f at.first; second = renamed f at.second }

-- a stage with the elements that it names renamed
abbrev pub renamed_stage : (ElementId → ElementId) → Stage → Stage
renamed_stage f t = record t { names = renamed_names f t.names }

-- the cells after a write to the cell of two named units
abbrev pub write_named_cell : Option ElementId → Option ElementId → ValueBytes → List Cell → List Cell
write_named_cell (Some row) (Some col) value cells = write_cell (record { row = row; col = col; value = value }) cells
write_named_cell _ _ value cells = cells

-- the cells after the cell write of a stage, if it is one
abbrev pub cells_after_stage : SubOperation → NamedElements → List Cell → List Cell
cells_after_stage (OnGrid (Set i j value)) names cells = write_named_cell names.first names.second value cells
cells_after_stage _ names cells = cells

-- the document after one stage is acknowledged: its elements, removals and changes, then its interval operation or cell
-- write, then the slide of the intervals' ends
abbrev pub ack_stage : ℕ → ℕ → (ElementId → ElementId) → Stage → Document → Document
ack_stage s c rename t doc =
    let names = renamed_names rename t.names in
    with_slid_ends (record doc {
      text = acked_list t.stage s c doc.text;
      rows = acked_list t.stage s c doc.rows;
      cols = acked_list t.stage s c doc.cols;
      intervals = intervals_after_stage t.sub_operation names doc.intervals;
      cells = cells_after_stage t.sub_operation names doc.cells;
    })

-- the document after the stages of an edit one after another, with the renaming of their elements, which later stages
-- may name
abbrev pub ack_stages : ℕ → ℕ → (ElementId → ElementId) → List Stage → Document → Document × (ElementId → ElementId)
ack_stages s c rename [] doc = (doc, rename)
ack_stages s c rename (t ∷ stages) doc =
    ack_stages s c (λ x. acked_id t.stage (made_before doc t.sub_operation) (rename x)) stages (ack_stage s c rename t doc)

-- an edit with the elements that it names renamed
abbrev pub renamed_edit : (ElementId → ElementId) → PendingEdit → PendingEdit
renamed_edit f e = record e { stages = map (renamed_stage f) e.stages }

-- the client whose oldest pending edit is acknowledged under number s of connection c
abbrev pub acknowledge : ℕ → ℕ → NaiveClient → NaiveClient
acknowledge s c x = elim x.pending [
  | [] ↦ x
  | edit ∷ edits ↦
      let acked = ack_stages s c (λ i. i) edit.stages x.doc in
      record x { doc = acked.0; pending = map (renamed_edit acked.1) edits }
]

-- the client after its own message
abbrev pub after_own_message : NaiveClient → Entry → NaiveClient
after_own_message x entry = let y = acknowledge entry.msg.seq entry.origin x in record y { doc = with_numbers entry y.doc }
