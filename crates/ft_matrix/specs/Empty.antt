-- A grid at the start. No public clause cites this module.
use Rattle.std.specs.Prelude.{◌≡◌, ℕ, [], true}
use Rattle.ft_op.specs.Document.{empty}
use Rattle.ft_cells.specs.CellTables.{cell_at, empty_cell}
use Rattle.ft_matrix.specs.declared.grid.Grid.{Grid}
use Rattle.ft_matrix.specs.GridStates.{grid_state}
use Rattle.ft_matrix.specs.HoldsGrid.{HoldsGrid}
use Rattle.ft_matrix.specs.Sound.{IsSound}
use Rattle.ft_matrix.specs.Units.{units_of}

-- no rows, no columns, no cells, nothing pending
pub record IsEmptyGrid (g : Grid) : Type 0 where
  pub sound : IsSound g
  pub holds : HoldsGrid (grid_state g 0 true) empty []
  pub floor : g.rows.tree.floor ≡ 0
  pub units : (units_of g.rows ≡ []) × (units_of g.cols ≡ [])
  pub cells : (row col : ℕ) → cell_at g.cells row col ≡ empty_cell
  pub stages : g.stages.items ≡ []
