-- The cells that have a value. A cell belongs to a row unit and a column unit, not to their numbers. They stand in the
-- order of their first write, which no view shows.
use Rattle.std.specs.Prelude.{Bool, cond, not, ◌&&◌, List, [], ◌∷◌, Option, filter, find, option_map, codes, bytes_eq}
use Rattle.ft_props.specs.Properties.{ValueBytes}
use Rattle.ft_props.specs.Element.{ElementId, same_id}

-- a cell: its row, its column, its value
pub record Cell : Type 0 where
  pub row : ElementId
  pub col : ElementId
  pub value : ValueBytes

-- whether the value is null
abbrev pub is_null : ValueBytes → Bool
is_null value = bytes_eq value (codes "null")

-- whether it is the cell of that row and column
abbrev pub is_cell : ElementId → ElementId → Cell → Bool
is_cell row col cell = same_id row cell.row && same_id col cell.col

-- the cells with this one in place of the one of its row and column, or behind all
abbrev pub put_cell : Cell → List Cell → List Cell
put_cell cell [] = cell ∷ []
put_cell cell (other ∷ cells) = cond (is_cell cell.row cell.col other) (cell ∷ cells) (other ∷ put_cell cell cells)

-- the cells after a write; null takes the cell out
abbrev pub write_cell : Cell → List Cell → List Cell
write_cell cell cells = cond (is_null cell.value) (filter (λ other. not (is_cell cell.row cell.col other)) cells) (put_cell cell cells)

-- the value of a cell, if it has one
abbrev pub cell_value : ElementId → ElementId → List Cell → Option ValueBytes
cell_value row col cells = option_map (λ cell. cell.value) (find (is_cell row col) cells)
