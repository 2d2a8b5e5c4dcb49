-- What an editor keeps: the shown elements of the text with their properties, the intervals, the numbers of rows and columns, and the
-- cells; and what a change makes of it.
use Rattle.std.specs.Prelude.{ℕ, zero, suc, ◌+◌, ◌-◌, cond, nat_le, nat_lt, List, [], ◌∷◌, ◌++◌, Option, Some, None, length, map, ℤ, pos, negsuc}
use Rattle.std.specs.Ordering.{nat_cmp, ordering_then}
use Rattle.std.specs.declared.cmp.Ordering.{Ordering}
use Rattle.ft_base.specs.Scan.{len, retain_map}
use Rattle.ft_props.specs.Properties.{Characters, PropertyList, put_rising, remove_rising, shown_props, text_cmp}
use Rattle.ft_props.specs.Element.{ElementContent, ListElement, seen}
use Rattle.ft_op.specs.declared.operations.Target.{Target}
use Rattle.ft_op.specs.declared.operations.Target.TheVariants.{Rows, Cols}
use Rattle.ft_op.specs.Operation.{segment_contents}
use Rattle.ft_sumdoc.specs.declared.summary.CellRec.{CellRec}
use Rattle.ft_sumdoc.specs.declared.summary.IntervalRec.{IntervalRec}
use Rattle.ft_msg.specs.declared.views.Run.{Run}
use Rattle.ft_msg.specs.declared.views.Spot.{Spot}
use Rattle.ft_msg.specs.Client.{NaiveClient}
use Rattle.ft_msg.specs.Content.{ViewContent, content, content_characters, content_markers, extended_property_runs}
use Rattle.ft_changes.specs.declared.changes.ViewChange.{ViewChange}
use Rattle.ft_changes.specs.declared.changes.ViewChange.TheVariants.{Put, Take, Style, PutUnits, TakeUnits, SetCell, ClearCell, SetInterval, DropInterval}
use Rattle.ft_changes.specs.ShownRuns.{put_in, take_out, change_at}

-- ---- what is shown

-- an element as it is shown
pub record ShownElement : Type 0 where
  pub content : ElementContent
  pub props : PropertyList

-- its properties, with the pending changes on top of the acknowledged ones
abbrev pub shown_properties : ListElement → PropertyList
shown_properties e = shown_props e.props e.pending

abbrev pub shown_element : ListElement → ShownElement
shown_element e = record { content = e.content; props = shown_properties e }

-- the elements that are shown at stage k
abbrev pub shown_elements : ℕ → List ListElement → List ShownElement
shown_elements k xs = retain_map (seen k) shown_element xs

-- new elements with these contents and properties
abbrev pub styled_elements : PropertyList → List ElementContent → List ShownElement
styled_elements props [] = []
styled_elements props (b ∷ bs) = record { content = b; props = props } ∷ styled_elements props bs

-- the element with these properties in place of its own
abbrev pub restyled : PropertyList → ShownElement → ShownElement
restyled props e = record { content = e.content; props = props }

-- all that is shown
pub record ShownContent : Type 0 where
  pub elements : List ShownElement
  pub intervals : List IntervalRec
  pub rows : ℕ
  pub cols : ℕ
  pub cells : List CellRec

-- what a client shows
abbrev pub shown_content : NaiveClient → ShownContent
shown_content x =
    let view = content x in
    record {
      elements = shown_elements x.last_stage x.doc.text.items;
      intervals = view.intervals;
      rows = len (seen x.last_stage) x.doc.rows.items;
      cols = len (seen x.last_stage) x.doc.cols.items;
      cells = view.cells;
    }

-- the characters of shown elements
abbrev pub shown_characters : List ShownElement → List ℕ
shown_characters [] = []
shown_characters (e ∷ es) = content_characters e.content ++ shown_characters es

-- their markers, from place i on
abbrev pub shown_markers : ℕ → List ShownElement → List Spot
shown_markers i [] = []
shown_markers i (e ∷ es) = content_markers i e.content ++ shown_markers (i + 1) es

-- their runs of properties, from place i on
abbrev pub shown_runs : ℕ → List ShownElement → List Run
shown_runs i [] = []
shown_runs i (e ∷ es) = extended_property_runs i e.props (shown_runs (i + 1) es)

-- what is shown, as a view has it
abbrev pub as_view : ShownContent → ViewContent
as_view s = record {
  text = shown_characters s.elements;
  markers = shown_markers 0 s.elements;
  runs = shown_runs 0 s.elements;
  intervals = s.intervals;
  rows = s.rows;
  cols = s.cols;
  cells = s.cells;
}

-- ---- ends of intervals, and numbers of rows and columns

-- an end after n elements went in at place p
abbrev pub end_after_put : ℕ → ℕ → ℤ → ℤ
end_after_put p n (pos k) = pos (cond (nat_le p k) (k + n) k)
end_after_put p n (negsuc k) = negsuc k

-- the last place of n, if there is one
abbrev pub last_place : ℕ → ℤ
last_place zero = negsuc 0
last_place (suc n) = pos n

-- an end after n elements went away from place p on, where `left` are left: on one of them it goes to the next one, else to the
-- last one, else it is detached
abbrev pub end_after_take : ℕ → ℕ → ℕ → ℤ → ℤ
end_after_take p n left (pos k) =
    cond (nat_lt k p) (pos k) (cond (nat_le (p + n) k) (pos (k - n)) (cond (nat_lt p left) (pos p) (last_place left)))
end_after_take p n left (negsuc k) = negsuc k

-- an interval with f of its ends
abbrev pub with_moved_ends : (ℤ → ℤ) → IntervalRec → IntervalRec
with_moved_ends f i = record i { ends = record { start = f i.ends.start; end = f i.ends.end } }

-- a number of a row or a column after n went in at place p
abbrev pub number_after_put : ℕ → ℕ → ℕ → Option ℕ
number_after_put p n k = Some (cond (nat_le p k) (k + n) k)

-- after n went away from place p on: none where it is one of them
abbrev pub number_after_take : ℕ → ℕ → ℕ → Option ℕ
number_after_take p n k = cond (nat_lt k p) (Some k) (cond (nat_le (p + n) k) (Some (k - n)) None)

-- a cell with this number of its row or of its column, if there is one
abbrev pub at_number : Target → Option ℕ → CellRec → List CellRec
at_number target None cell = []
at_number Rows (Some i) cell = record cell { row = i } ∷ []
at_number Cols (Some j) cell = record cell { col = j } ∷ []

-- the number of the cell's row, or of its column
abbrev pub number_in : Target → CellRec → ℕ
number_in Rows cell = cell.row
number_in Cols cell = cell.col

-- the cells after f of the numbers of their rows, or of their columns
abbrev pub moved_cells : Target → (ℕ → Option ℕ) → List CellRec → List CellRec
moved_cells target f [] = []
moved_cells target f (cell ∷ cells) = at_number target (f (number_in target cell)) cell ++ moved_cells target f cells

-- ---- the order of intervals and of cells

abbrev pub interval_order : IntervalRec → IntervalRec → Ordering
interval_order a b = ordering_then (text_cmp a.label b.label) (text_cmp a.id b.id)

abbrev pub cell_order : CellRec → CellRec → Ordering
cell_order a b = ordering_then (nat_cmp a.row b.row) (nat_cmp a.col b.col)

-- an interval of that label and id
abbrev pub interval_of_name : Characters → Characters → IntervalRec
interval_of_name label id = record { label = label; id = id; ends = record { start = negsuc 0; end = negsuc 0 }; props = [] }

-- a cell at that place
abbrev pub cell_at_place : ℕ → ℕ → CellRec
cell_at_place i j = record { row = i; col = j; value = [] }

-- ---- changes

-- with f of the number of rows, or of columns, and g of the cells
abbrev pub with_moved_units : Target → (ℕ → ℕ) → List CellRec → ShownContent → ShownContent
with_moved_units Rows f cells s = record s { rows = f s.rows; cells = cells }
with_moved_units Cols f cells s = record s { cols = f s.cols; cells = cells }

-- what is shown after a change
abbrev pub after_change : ShownContent → ViewChange → ShownContent
after_change s (Put p seg props) =
    let n = length (segment_contents seg) in
    record s {
      elements = put_in p (styled_elements props (segment_contents seg)) s.elements;
      intervals = map (with_moved_ends (end_after_put p n)) s.intervals;
    }
after_change s (Take p n) =
    let left = take_out p n s.elements in
    record s { elements = left; intervals = map (with_moved_ends (end_after_take p n (length left))) s.intervals }
after_change s (Style p n props) = record s { elements = change_at p n (restyled props) s.elements }
after_change s (PutUnits target p n) = with_moved_units target (λ k. k + n) (moved_cells target (number_after_put p n) s.cells) s
after_change s (TakeUnits target p n) = with_moved_units target (λ k. k - n) (moved_cells target (number_after_take p n) s.cells) s
after_change s (SetCell i j value) = record s { cells = put_rising cell_order (record { row = i; col = j; value = value }) s.cells }
after_change s (ClearCell i j) = record s { cells = remove_rising cell_order (cell_at_place i j) s.cells }
after_change s (SetInterval interval) = record s { intervals = put_rising interval_order interval s.intervals }
after_change s (DropInterval label id) = record s { intervals = remove_rising interval_order (interval_of_name label id) s.intervals }

-- what is shown after changes in order
abbrev pub after_changes : ShownContent → List ViewChange → ShownContent
after_changes s [] = s
after_changes s (c ∷ cs) = after_changes (after_change s c) cs
