-- The document, and the effect of each sub-operation on it under number s of connection c with reference number r. On a
-- document of messages alone an insertion meets no pending run, so this one effect serves the agreed document and a
-- client's.
use Rattle.std.specs.Prelude.{ℕ, ◌+◌, Bool, true, cond, nat_le, List, [], ◌∷◌, Option, Some, None, replicate}
use Rattle.ft_base.specs.declared.stamps.Stamp.TheVariants.{Acked}
use Rattle.ft_op.specs.declared.operations.Ends.{Ends}
use Rattle.ft_op.specs.declared.operations.BaseOp.{BaseOp}
use Rattle.ft_op.specs.declared.operations.BaseOp.TheVariants.{Insert, Remove, Annotate}
use Rattle.ft_op.specs.declared.operations.CellOp.{CellOp}
use Rattle.ft_op.specs.declared.operations.CellOp.TheVariants.{SpliceIn, SpliceOut, Set}
use Rattle.ft_op.specs.declared.operations.Target.{Target}
use Rattle.ft_op.specs.declared.operations.Target.TheVariants.{Rows, Cols}
use Rattle.ft_op.specs.declared.operations.TextOp.{TextOp}
use Rattle.ft_op.specs.declared.operations.TextOp.TheVariants.{IntervalAdd, IntervalChange}
use Rattle.ft_base.specs.Scan.{at, change_range, len}
use Rattle.ft_props.specs.Properties.{ValueBytes, apply}
use Rattle.ft_props.specs.Element.{GridUnit, ListElement, with_annotation, id, seen_by}
use Rattle.ft_props.specs.Steps.{Sequence, after_insertion, empty_list, sequenced_list, after_removal}
use Rattle.ft_op.specs.Operation.{OnGrid, OnIntervals, OnText, SubOperation, segment_contents, sub_operations}
use Rattle.ft_op.specs.Intervals.{Interval, NamedElements, elements_at_ends, ends_fit, after_interval_operation, no_elements, slide_ends}
use Rattle.ft_op.specs.Cells.{Cell, write_cell}

-- a document: the text, the rows, the columns, the intervals, the cells, how many sub-operations were skipped, how many
-- messages were for others, the last number and the last minimum
pub record Document : Type 0 where
  pub text : Sequence
  pub rows : Sequence
  pub cols : Sequence
  pub intervals : List Interval
  pub cells : List Cell
  pub skipped : ℕ
  pub other : ℕ
  pub number : ℕ
  pub minimum : ℕ

-- the document at number 0
abbrev pub empty : Document
empty = record { text = empty_list; rows = empty_list; cols = empty_list; intervals = []; cells = []; skipped = 0; other = 0; number = 0; minimum = 0 }

-- the document after a sub-operation that is out of range
abbrev pub with_skip : Document → Document
with_skip doc = record doc { skipped = doc.skipped + 1 }

-- the document with each end of an interval slid
abbrev pub with_slid_ends : Document → Document
with_slid_ends doc = record doc { intervals = slide_ends doc.text.items doc.intervals }

-- the list that a splice is for
abbrev pub rows_or_cols : Target → Document → Sequence
rows_or_cols Rows doc = doc.rows
rows_or_cols Cols doc = doc.cols

-- the document with this list in place of the one that a splice is for
abbrev pub with_rows_or_cols : Target → Document → Sequence → Document
with_rows_or_cols Rows doc list = record doc { rows = list }
with_rows_or_cols Cols doc list = record doc { cols = list }

-- the document after an insertion, a removal or an annotation of the text
abbrev pub text_effect : Document → ℕ → ℕ → ℕ → BaseOp → Document
text_effect doc s c r (Insert p seg props) =
    cond (nat_le p (len (seen_by r c) doc.text.items))
    (record doc { text = after_insertion s c r p (Some (Acked s c)) (apply [] props) (segment_contents seg) doc.text })
    (with_skip doc)
text_effect doc s c r (Remove p q) =
    cond (nat_le q (len (seen_by r c) doc.text.items))
    (with_slid_ends (record doc { text = after_removal s c r p q doc.text }))
    (with_skip doc)
text_effect doc s c r (Annotate p q changes) =
    cond (nat_le q (len (seen_by r c) doc.text.items))
    (record doc { text = record { items = change_range (seen_by r c) p q (with_annotation changes) doc.text.items; made = doc.text.made } })
    (with_skip doc)

-- the ends that an interval operation gives, if it gives some
abbrev pub ends_of : TextOp → Option Ends
ends_of (IntervalAdd label id ends props) = Some ends
ends_of (IntervalChange label id ends props) = ends
ends_of _ = None

-- whether the ends fit among n elements, if any are given
abbrev pub given_ends_fit : ℕ → Option Ends → Bool
given_ends_fit n None = true
given_ends_fit n (Some ends) = ends_fit n ends

-- the elements at the ends, if any are given
abbrev pub elements_at_given_ends : (ListElement → Bool) → List ListElement → Option Ends → NamedElements
elements_at_given_ends test xs None = no_elements
elements_at_given_ends test xs (Some ends) = elements_at_ends test xs ends

-- the document after an interval operation; the range is tested before the id
abbrev pub interval_effect : Document → ℕ → ℕ → TextOp → Document
interval_effect doc c r op =
    cond (given_ends_fit (len (seen_by r c) doc.text.items) (ends_of op))
    (with_slid_ends (record doc { intervals = after_interval_operation op (elements_at_given_ends (seen_by r c) doc.text.items (ends_of op)) doc.intervals }))
    (with_skip doc)

-- the document after a write to the cell of these two units, skipped where one isn't there
abbrev pub cell_effect : Document → Option ListElement → Option ListElement → ValueBytes → Document
cell_effect doc (Some row) (Some col) value = record doc { cells = write_cell (record { row = id row; col = id col; value = value }) doc.cells }
cell_effect doc _ _ value = with_skip doc

-- the document after a splice or a cell write
abbrev pub grid_effect : Document → ℕ → ℕ → ℕ → CellOp → Document
grid_effect doc s c r (SpliceIn target p count) =
    let list = rows_or_cols target doc in
    cond (nat_le p (len (seen_by r c) list.items))
    (with_rows_or_cols target doc (after_insertion s c r p None [] (replicate count GridUnit) list))
    (with_skip doc)
grid_effect doc s c r (SpliceOut target p q) =
    let list = rows_or_cols target doc in
    cond (nat_le q (len (seen_by r c) list.items))
    (with_rows_or_cols target doc (after_removal s c r p q list))
    (with_skip doc)
grid_effect doc s c r (Set i j value) =
    cell_effect doc (at (seen_by r c) i doc.rows.items) (at (seen_by r c) j doc.cols.items) value

-- the document after a sub-operation
abbrev pub effect : Document → ℕ → ℕ → ℕ → SubOperation → Document
effect doc s c r (OnText op) = text_effect doc s c r op
effect doc s c r (OnIntervals op) = interval_effect doc c r op
effect doc s c r (OnGrid op) = grid_effect doc s c r op

-- the document after sub-operations in order
abbrev pub effects : Document → ℕ → ℕ → ℕ → List SubOperation → Document
effects doc s c r [] = doc
effects doc s c r (sub_operation ∷ sub_operations) = effects (effect doc s c r sub_operation) s c r sub_operations

-- the document without pending elements, removals and changes
abbrev pub sequenced_part : Document → Document
sequenced_part doc = record doc { text = sequenced_list doc.text; rows = sequenced_list doc.rows; cols = sequenced_list doc.cols }
