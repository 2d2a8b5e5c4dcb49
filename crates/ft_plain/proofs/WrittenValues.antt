-- What is shown of the cells with pending writes on top is what is shown of the cells after those writes.
use Rattle.std.proofs.Common.{◌≡◌, ℕ, ◌+◌, Bool, true, false, cond, ◌&&◌, List, [], ◌∷◌, ◌++◌, Option, Some, None, refl, ◌∙◌, ap}
use Rattle.ft_op.specs.declared.operations.CellOp.TheVariants.{SpliceIn, SpliceOut, Set}
use Rattle.ft_props.specs.Element.{ElementId, ListElement, id, is_named_by, same_id}
use Rattle.ft_props.specs.Properties.{ValueBytes}
use Rattle.ft_op.specs.Cells.{Cell, cell_value}
use Rattle.ft_op.specs.Intervals.{NamedElements}
use Rattle.ft_op.specs.Operation.{OnGrid, OnIntervals, OnText, SubOperation}
use Rattle.ft_op.specs.Stages.{Stage}
use Rattle.ft_msg.specs.Acknowledgement.{cells_after_stage, write_named_cell}
use Rattle.ft_msg.specs.Content.{all_cells, cell_after_stage, cell_record, row_cells, shown_cell_value, value_unless_null}
use Rattle.ft_laws_agreement.proofs.CellValues.{value-write}
use Rattle.ft_plain_document.specs.WrittenCells.{cells_after_stages}

-- ---- stages

unnamed : (b : Bool) (v w : Option ValueBytes) → v ≡ cond (b && false) w v
unnamed true v w = refl
unnamed false v w = refl

module _ (row col : ElementId) (cells : List Cell) where
  written : (names : NamedElements) (value : ValueBytes)
      → cell_value row col (write_named_cell names.first names.second value cells)
      ≡ cond (is_named_by row names.first && is_named_by col names.second) (value_unless_null value) (cell_value row col cells)
  written names value = by_names names.first names.second
    where
      by_names : (a b : Option ElementId) → cell_value row col (write_named_cell a b value cells) ≡ cond (is_named_by row a && is_named_by col b)
          (value_unless_null value) (cell_value row col cells)
      by_names (Some a) (Some b) = value-write row col (record { row = a; col = b; value = value }) cells
      by_names (Some a) None = unnamed (same_id row a) (cell_value row col cells) (value_unless_null value)
      by_names None b = refl

  value-stage : (k : ℕ) (op : SubOperation) (names : NamedElements)
      → cell_value row col (cells_after_stage op names cells) ≡ cell_after_stage row col (record { stage = k; sub_operation = op; names = names }) (cell_value row col cells)
  value-stage k (OnText op) names = refl
  value-stage k (OnIntervals op) names = refl
  value-stage k (OnGrid (SpliceIn target p count)) names = refl
  value-stage k (OnGrid (SpliceOut target p q)) names = refl
  value-stage k (OnGrid (Set i j value)) names = written names value

value-stages : (row col : ElementId) (cells : List Cell) (stages : List Stage) → cell_value row col (cells_after_stages cells stages) ≡ shown_cell_value row col
    (cell_value row col cells) stages
value-stages row col cells [] = refl
value-stages row col cells (t ∷ stages) =
    value-stages row col (cells_after_stage t.sub_operation t.names cells) stages
    ∙ ap (λ v. shown_cell_value row col v stages) (value-stage row col cells t.stage t.sub_operation t.names)

row-written : (cells : List Cell) (stages : List Stage) (i : ℕ) (row : ElementId) (j : ℕ) (cols : List ListElement)
    → row_cells (cells_after_stages cells stages) [] i row j cols ≡ row_cells cells stages i row j cols
row-written cells stages i row j [] = refl
row-written cells stages i row j (col ∷ cols) =
    ap (λ v. cell_record i j v ++ row_cells (cells_after_stages cells stages) [] i row (j + 1) cols) (value-stages row (id col) cells stages)
    ∙ ap (λ rest. cell_record i j (shown_cell_value row (id col) (cell_value row (id col) cells) stages) ++ rest) (row-written cells stages i row (j + 1) cols)

-- the cells that are shown
pub all-written : (cells : List Cell) (stages : List Stage) (cols : List ListElement) (i : ℕ) (rows : List ListElement)
    → all_cells (cells_after_stages cells stages) [] cols i rows ≡ all_cells cells stages cols i rows
all-written cells stages cols i [] = refl
all-written cells stages cols i (row ∷ rows) =
    ap (λ first. first ++ all_cells (cells_after_stages cells stages) [] cols (i + 1) rows) (row-written cells stages i (id row) 0 cols)
    ∙ ap (λ rest. row_cells cells stages i (id row) 0 cols ++ rest) (all-written cells stages cols (i + 1) rows)
