-- What a client shows: the view of its last stage, with its pending changes and writes on top of the acknowledged ones.
use Rattle.std.specs.Prelude.{ℕ, ◌+◌, cond, ◌&&◌, nat_eq, List, [], ◌∷◌, ◌++◌, Option, Some, None, map, filter, length, flat_map}
use Rattle.ft_msg.specs.declared.views.Spot.{Spot}
use Rattle.ft_msg.specs.declared.views.Run.{Run}
use Rattle.ft_sumdoc.specs.declared.summary.IntervalRec.{IntervalRec}
use Rattle.ft_sumdoc.specs.declared.summary.CellRec.{CellRec}
use Rattle.ft_sumdoc.specs.WellFormed.{same_props}
use Rattle.ft_op.specs.declared.operations.CellOp.TheVariants.{Set}
use Rattle.ft_props.specs.Properties.{PropertyList, ValueBytes, shown_props}
use Rattle.ft_props.specs.Element.{Character, ListElement, ElementId, ElementContent, MarkerOf, id, is_named_by, seen}
use Rattle.ft_op.specs.Operation.{OnGrid}
use Rattle.ft_op.specs.Intervals.{Interval}
use Rattle.ft_op.specs.Cells.{Cell, cell_value, is_null}
use Rattle.ft_op.specs.Document.{Document}
use Rattle.ft_op.specs.Stages.{Stage, shown_intervals}
use Rattle.ft_msg.specs.Client.{NaiveClient, client_over, stages_of}
use Rattle.ft_props.specs.Slide.{end_number}

-- what is shown: characters, markers, runs of properties, intervals, how many rows and columns, and cells
pub record ViewContent : Type 0 where
  pub text : List ℕ
  pub markers : List Spot
  pub runs : List Run
  pub intervals : List IntervalRec
  pub rows : ℕ
  pub cols : ℕ
  pub cells : List CellRec

-- the elements seen at stage k
abbrev pub stage_view : ℕ → List ListElement → List ListElement
stage_view k xs = filter (seen k) xs

-- the character, if it is one
abbrev pub content_characters : ElementContent → List ℕ
content_characters (Character c) = c ∷ []
content_characters _ = []

-- the characters of elements, without the markers
abbrev pub text_characters : List ListElement → List ℕ
text_characters xs = flat_map (λ e. content_characters e.content) xs

-- the marker with its place i, if it is one
abbrev pub content_markers : ℕ → ElementContent → List Spot
content_markers i (MarkerOf ref_type) = record { pos = i; ref_type = ref_type } ∷ []
content_markers i _ = []

-- the markers of elements with their places, from place i on
abbrev pub markers_from : ℕ → List ListElement → List Spot
markers_from i [] = []
markers_from i (e ∷ xs) = content_markers i e.content ++ markers_from (i + 1) xs

-- runs of properties with the element at place i before them: joined to the first run where that begins next to it with
-- equal properties; an element without properties is in no run
abbrev pub extended_property_runs : ℕ → PropertyList → List Run → List Run
extended_property_runs i [] runs = runs
extended_property_runs i (p ∷ ps) [] = record { start = i; end = i + 1; props = p ∷ ps } ∷ []
extended_property_runs i (p ∷ ps) (run ∷ runs) =
    cond (nat_eq run.start (i + 1) && same_props run.props (p ∷ ps))
    (record run { start = i } ∷ runs)
    (record { start = i; end = i + 1; props = p ∷ ps } ∷ run ∷ runs)

-- the maximal runs of elements with equal properties that aren't empty, from place i on
abbrev pub property_runs_from : ℕ → List ListElement → List Run
property_runs_from i [] = []
property_runs_from i (e ∷ xs) = extended_property_runs i (shown_props e.props e.pending) (property_runs_from (i + 1) xs)

-- an interval as it is shown, its ends as places in the view of stage k
abbrev pub interval_record : ℕ → List ListElement → Interval → IntervalRec
interval_record k xs i =
    record { label = i.label; id = i.id; ends = record { start = end_number k xs i.start; end = end_number k xs i.end }; props = i.props }

-- the value, unless it is null
abbrev pub value_unless_null : ValueBytes → Option ValueBytes
value_unless_null v = cond (is_null v) None (Some v)

-- the value of a cell after the write of a stage, if it is one to that cell
abbrev pub cell_after_stage : ElementId → ElementId → Stage → Option ValueBytes → Option ValueBytes
cell_after_stage row col t v = elim t.sub_operation [
  | OnGrid op ↦ elim op [ Set i j value ↦ cond (is_named_by row t.names.first && is_named_by col t.names.second) (value_unless_null value) v | _ ↦ v ]
  | _ ↦ v
]

-- the value of a cell after all pending stages
abbrev pub shown_cell_value : ElementId → ElementId → Option ValueBytes → List Stage → Option ValueBytes
shown_cell_value row col v [] = v
shown_cell_value row col v (t ∷ stages) = shown_cell_value row col (cell_after_stage row col t v) stages

-- the cell at row i and column j as it is shown, if it has a value
abbrev pub cell_record : ℕ → ℕ → Option ValueBytes → List CellRec
cell_record i j None = []
cell_record i j (Some v) = record { row = i; col = j; value = v } ∷ []

-- the shown cells of a row, from column j on
abbrev pub row_cells : List Cell → List Stage → ℕ → ElementId → ℕ → List ListElement → List CellRec
row_cells cells stages i row j [] = []
row_cells cells stages i row j (col ∷ cols) =
    cell_record i j (shown_cell_value row (id col) (cell_value row (id col) cells) stages) ++ row_cells cells stages i row (j + 1) cols

-- the shown cells of rows, from row i on
abbrev pub all_cells : List Cell → List Stage → List ListElement → ℕ → List ListElement → List CellRec
all_cells cells stages cols i [] = []
all_cells cells stages cols i (row ∷ rows) = row_cells cells stages i (id row) 0 cols ++ all_cells cells stages cols (i + 1) rows

-- what a client shows
abbrev pub content : NaiveClient → ViewContent
content x =
    let k = x.last_stage in
    let doc = x.doc in
    let stages = stages_of x in
    let text = stage_view k doc.text.items in
    let cols = stage_view k doc.cols.items in
    let rows = stage_view k doc.rows.items in
    record {
      text = text_characters text;
      markers = markers_from 0 text;
      runs = property_runs_from 0 text;
      intervals = map (interval_record k doc.text.items) (shown_intervals doc.text.items doc.intervals stages);
      rows = length rows;
      cols = length cols;
      cells = all_cells doc.cells stages cols 0 rows;
    }

-- what is shown of a document of messages alone: what a client over it shows that has nothing pending
abbrev pub shown : Document → ViewContent
shown doc = content (client_over doc)
