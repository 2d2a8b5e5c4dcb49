-- Cells by the handles of their row and column: what a cell holds, and what each call makes of the cells. Whoever asks for a
-- cell asks by `cell_at`.
use Rattle.std.specs.Prelude.{ℕ, ◌+◌, Bool, cond, not, ◌&&◌, nat_eq, nat_le, nat_lt, List, [], ◌∷◌, ◌++◌, Option, Some, None, is_some, filter, codes, bytes_eq}
use Rattle.std.specs.BTreeMap.{is_at}
use Rattle.std.specs.Map.{lookup}
use Rattle.std.specs.Option.{option_or, option_and_then}
use Rattle.std.specs.List.{list_any}
use Rattle.std.specs.Ordering.{nat_cmp, ordering_then}
use Rattle.std.specs.declared.cmp.Ordering.{Ordering}
use Rattle.ft_cells.specs.declared.cells.CellKey.{CellKey}
use Rattle.ft_cells.specs.declared.crossings.Crossing.{Crossing}

-- what a cell holds: its acknowledged value, if it has one, and the values of its pending writes with their stages
pub record CellState : Type 0 where
  pub acked : Option (List ℕ)
  pub pending : List (ℕ × List ℕ)

-- no value, and nothing pending
abbrev pub empty_cell : CellState
empty_cell = record { acked = None; pending = [] }

-- the cells that are kept, each with its place, by rising row and column
abbrev pub CellList : Type 0
CellList = List (Crossing × CellState)

-- what the cell of each row and each column holds
abbrev pub CellTable : Type 0
CellTable = ℕ → ℕ → CellState

-- the place at which line i is crossed by line j
abbrev pub crossing : ℕ → ℕ → Crossing
crossing i j = record { line = i; across = j }

-- by line, and then by the line across
abbrev pub crossing_cmp : Crossing → Crossing → Ordering
crossing_cmp x y = ordering_then (nat_cmp x.line y.line) (nat_cmp x.across y.across)

-- what is held, where nothing is kept an empty cell
abbrev pub cell_in : Option CellState → CellState
cell_in (Some cell) = cell
cell_in None = empty_cell

-- what the cell of this row and this column holds
abbrev pub cell_at : CellList → CellTable
cell_at cells row col = cell_in (lookup (is_at (crossing_cmp (crossing row col))) cells)

-- the values that a cell had and has on top of one another, of which the last one counts
abbrev pub last_value : Option (List ℕ) → List (ℕ × List ℕ) → Option (List ℕ)
last_value value [] = value
last_value value (w ∷ ws) = last_value (Some w.1) ws

-- the value, but none where it is null
abbrev pub unless_null : List ℕ → Option (List ℕ)
unless_null value = cond (bytes_eq value (codes "null")) None (Some value)

-- the last pending value, else the acknowledged one; none where there is neither, or it is null
abbrev pub shown_value : CellState → Option (List ℕ)
shown_value cell = option_and_then unless_null (last_value cell.acked cell.pending)

-- whether there is an acknowledged or a pending value, null or not
abbrev pub holds_value : CellState → Bool
holds_value cell = is_some (last_value cell.acked cell.pending)

-- whether a write of stage k is pending
abbrev pub has_write : ℕ → CellState → Bool
has_write k cell = list_any (λ w. nat_eq w.0 k) cell.pending

-- after the acknowledged value was set
abbrev pub with_acked : List ℕ → CellState → CellState
with_acked value cell = record cell { acked = Some value }

-- after a pending write of stage k
abbrev pub with_write : ℕ → List ℕ → CellState → CellState
with_write k value cell = record cell { pending = cell.pending ++ (k, value) ∷ [] }

-- after the write of stage k was taken out, if there is one
abbrev pub without_write : ℕ → CellState → CellState
without_write k cell = record cell { pending = filter (λ w. not (nat_eq w.0 k)) cell.pending }

-- after the write of stage k was acknowledged, if there is one
abbrev pub acked_write : ℕ → CellState → CellState
acked_write k cell = record (without_write k cell) { acked = option_or (lookup (λ j. nat_eq j k) cell.pending) cell.acked }

-- f of what the cell of this row and this column holds; each other cell stays
abbrev pub changed_cell : ℕ → ℕ → (CellState → CellState) → CellTable → ℕ → ℕ → CellState
changed_cell row col f table r c = cond (nat_eq r row && nat_eq c col) (f (table r c)) (table r c)

-- the cells of this row are empty; each other cell stays
abbrev pub cleared_row : ℕ → CellTable → ℕ → ℕ → CellState
cleared_row row table r c = cond (nat_eq r row) empty_cell (table r c)

-- the cells of this column are empty; each other cell stays
abbrev pub cleared_col : ℕ → CellTable → ℕ → ℕ → CellState
cleared_col col table r c = cond (nat_eq c col) empty_cell (table r c)

-- whether the line is one of these: `count` lines from the first one on
abbrev pub is_among : ℕ → ℕ → ℕ → Bool
is_among first count line = nat_le first line && nat_lt line (first + count)

-- the cells of these rows are empty; each other cell stays
abbrev pub cleared_rows : ℕ → ℕ → CellTable → ℕ → ℕ → CellState
cleared_rows first count table r c = cond (is_among first count r) empty_cell (table r c)

-- the cells of these columns are empty; each other cell stays
abbrev pub cleared_cols : ℕ → ℕ → CellTable → ℕ → ℕ → CellState
cleared_cols first count table r c = cond (is_among first count c) empty_cell (table r c)

-- by row, and then by column
abbrev pub key_cmp : CellKey → CellKey → Ordering
key_cmp x y = ordering_then (nat_cmp x.row y.row) (nat_cmp x.col y.col)

-- whether the key names this row and this column
abbrev pub is_key : ℕ → ℕ → CellKey → Bool
is_key row col key = nat_eq key.row row && nat_eq key.col col
