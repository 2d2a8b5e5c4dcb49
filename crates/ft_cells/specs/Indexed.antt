-- How the cells are kept: in order of row and then of column, beside them their places in order of column and then of row,
-- and the place of each pending write by its stage. The writes of a cell stand by rising stage.
use Rattle.std.specs.Prelude.{◌≡◌, ℕ, ◌<◌, Bool, true, false, List, [], ◌∷◌, Some, ⊤}
use Rattle.std.specs.List.{AllByRecursion}
use Rattle.std.specs.BTreeMap as tree
use Rattle.std.specs.BTreeMap.{BTreeMap}
use Rattle.std.specs.BTreeSet as set
use Rattle.std.specs.BTreeSet.{BTreeSet}
use Rattle.std.specs.Ordering.{nat_cmp}
use Rattle.ft_cells.specs.declared.crossings.Crossing.{Crossing}
use Rattle.ft_cells.specs.CellTables.{CellState, CellTable, cell_at, crossing, crossing_cmp, empty_cell, has_write}

-- what the cell of each row and each column holds
abbrev pub table_of : BTreeMap Crossing CellState → CellTable
table_of cells = cell_at cells.entries

-- whether the place is there
abbrev pub has_place : BTreeSet Crossing → ℕ → ℕ → Bool
has_place places i j = set.contains crossing_cmp places (crossing i j)

-- each cell that isn't empty has its place by column
abbrev pub IsColumned : CellTable → BTreeSet Crossing → Type 0
IsColumned table columns = (row col : ℕ) → has_place columns col row ≡ false → table row col ≡ empty_cell

-- each cell that isn't empty has its place by column, and each pending write has its place by stage
pub record IsIndexed (table : CellTable) (columns : BTreeSet Crossing) (stages : BTreeMap ℕ Crossing) : Type 0 where
  pub columned : IsColumned table columns
  pub staged : (row col k : ℕ) → has_write k (table row col) ≡ true → tree.get nat_cmp stages k ≡ Some (crossing row col)

-- the stages of the writes rise
abbrev pub AreRising : List (ℕ × List ℕ) → Type 0
AreRising [] = ⊤
AreRising (w ∷ ws) = AllByRecursion (λ v. w.0 < v.0) ws × AreRising ws
