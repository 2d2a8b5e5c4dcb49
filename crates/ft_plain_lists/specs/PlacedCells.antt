-- The values of a row with the places of their columns among the shown ones.
use Rattle.std.specs.Prelude.{ℕ, ◌+◌, Bool, false, cond, nat_eq, List, [], ◌∷◌, ◌++◌, Option, Some, None, filter, map}
use Rattle.ft_props.specs.Element.{ElementId, ListElement, id}
use Rattle.ft_props.specs.Properties.{ValueBytes}
use Rattle.ft_op.specs.Cells.{Cell, is_cell}
use Rattle.ft_sumdoc.specs.declared.summary.CellRec.{CellRec}

-- the value of the cell with this place
abbrev pub placed_at : ℕ → Cell → ℕ × ValueBytes
placed_at j cell = (j, cell.value)

-- the values of a row, from column j on; of cells at one place all
abbrev pub placed_cells : List Cell → ElementId → ℕ → List ListElement → List (ℕ × ValueBytes)
placed_cells cells row j [] = []
placed_cells cells row j (col ∷ cols) = map (placed_at j) (filter (is_cell row (id col)) cells) ++ placed_cells cells row (j + 1) cols

-- whether this was the last place
abbrev pub is_last : Option ℕ → ℕ → Bool
is_last None j = false
is_last (Some k) j = nat_eq k j

-- the first value at each place, as cells of row i, where `last` was the last place
abbrev pub first_records : ℕ → Option ℕ → List (ℕ × ValueBytes) → List CellRec
first_records i last [] = []
first_records i last (v ∷ vs) = cond (is_last last v.0) [] (record { row = i; col = v.0; value = v.1 } ∷ []) ++ first_records i (Some v.0) vs
