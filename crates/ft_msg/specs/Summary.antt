-- The document that a summary gives, and what of a document goes into its summary.
use Rattle.std.specs.Prelude.{◌≡◌, ℕ, ◌+◌, not, ◌&&◌, List, [], ◌∷◌, ◌++◌, Option, Some, None, map, filter, length, replicate}
use Rattle.ft_sumdoc.specs.declared.summary.Seg.{Seg}
use Rattle.ft_sumdoc.specs.declared.summary.Seg.TheVariants.{Chars, Marker}
use Rattle.ft_sumdoc.specs.declared.summary.SegRec.{SegRec}
use Rattle.ft_sumdoc.specs.declared.summary.RunRec.{RunRec}
use Rattle.ft_sumdoc.specs.declared.summary.IntervalRec.{IntervalRec}
use Rattle.ft_sumdoc.specs.declared.summary.CellRec.{CellRec}
use Rattle.ft_sumdoc.specs.declared.summary.SumDoc.{SumDoc}
use Rattle.ft_base.specs.Scan.{at}
use Rattle.ft_props.specs.Element.{GridUnit, Character, ListElement, ElementContent, MarkerOf, has_sequenced_removal, id, new_elements, is_unremoved}
use Rattle.ft_props.specs.Compaction.{trim_list}
use Rattle.ft_props.specs.Steps.{Sequence}
use Rattle.ft_op.specs.Intervals.{Interval, element_at_end}
use Rattle.ft_op.specs.Cells.{Cell, is_null}
use Rattle.ft_op.specs.Document.{Document}
use Rattle.ft_marks.specs.Marks.{stamp_of}
use Rattle.ft_msg.specs.Indexed.{indexed}

-- the contents of the elements of a summary's segment
abbrev pub segment_bodies : Seg → List ElementContent
segment_bodies (Chars text) = map (λ c. Character c) text
segment_bodies (Marker ref_type) = MarkerOf ref_type ∷ []

-- the elements of segments, numbered from n on
abbrev pub segment_items : ℕ → List SegRec → List ListElement
segment_items n [] = []
segment_items n (seg ∷ segs) =
    let new = segment_bodies seg.body in
    new_elements n (stamp_of seg.ins) (map stamp_of seg.dels) (Some (stamp_of seg.by)) seg.props new ++ segment_items (n + length new) segs

-- the units of runs, numbered from n on
abbrev pub run_items : ℕ → List RunRec → List ListElement
run_items n [] = []
run_items n (run ∷ runs) = new_elements n (stamp_of run.ins) (map stamp_of run.dels) None [] (replicate run.count GridUnit) ++ run_items (n + run.count) runs

-- a list of sequenced elements that were numbered from 0
abbrev pub list_of : List ListElement → Sequence
list_of items = record { items = items; made = length items }

-- an interval on the unremoved elements at its numbers
abbrev pub interval_of : List ListElement → IntervalRec → Interval
interval_of xs i = record { label = i.label; id = i.id; start = element_at_end is_unremoved xs i.ends.start; end = element_at_end is_unremoved xs i.ends.end; props = i.props }

-- the cell of two units, where both are there
abbrev pub cell_at : Option ListElement → Option ListElement → CellRec → List Cell
cell_at (Some row) (Some col) c = record { row = id row; col = id col; value = c.value } ∷ []
cell_at _ _ c = []

-- the cells on the unremoved rows and columns at their numbers
abbrev pub cells_of : List ListElement → List ListElement → List CellRec → List Cell
cells_of rows cols [] = []
cells_of rows cols (c ∷ cs) = cell_at (at is_unremoved c.row rows) (at is_unremoved c.col cols) c ++ cells_of rows cols cs

-- the document that a summary gives
abbrev pub doc_of : SumDoc → Document
doc_of sum =
    let text = segment_items 0 sum.text in
    let rows = run_items 0 sum.rows in
    let cols = run_items 0 sum.cols in
    record {
      text = list_of text;
      rows = list_of rows;
      cols = list_of cols;
      intervals = map (interval_of text) sum.intervals;
      cells = cells_of rows cols sum.cells;
      skipped = sum.skipped;
      other = sum.other;
      number = sum.seq;
      minimum = sum.min;
    }

-- a document as a summary keeps it: without collectable elements and cells of removed rows and columns, its old
-- insertions as the universal one
abbrev pub trim : Document → Document
trim doc = record doc {
  text = trim_list doc.minimum doc.text;
  rows = trim_list doc.minimum doc.rows;
  cols = trim_list doc.minimum doc.cols;
  cells = filter (λ c. not (is_null c.value) && not (has_sequenced_removal doc.rows.items c.row) && not (has_sequenced_removal doc.cols.items c.col)) doc.cells;
}

-- the summary gives the document as a summary keeps it, but for the names of elements
abbrev pub GivesDocument : SumDoc → Document → Type 0
GivesDocument sum doc = indexed (doc_of sum) ≡ indexed (trim doc)
