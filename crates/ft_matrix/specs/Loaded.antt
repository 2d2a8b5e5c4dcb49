-- What a summary makes of a grid. No public clause cites this module.
use Rattle.std.specs.Prelude.{◌≡◌, ℕ, ◌++◌, cond, is_some, true, List, [], ◌∷◌, None, Option, Some, length, map, slice_get}
use Rattle.ft_base.specs.declared.elements.Element.{Element as ElementStamps}
use Rattle.ft_block.specs.declared.leaves.LenView.TheVariants.{Stage}
use Rattle.ft_tree_leaves.specs.Elements.{elements_with}
use Rattle.ft_msg.specs.Summary.{doc_of, run_items}
use Rattle.ft_marks.specs.Marks.{marked_stamps}
use Rattle.ft_perm.specs.Handles.{HandleRun, handles_of}
use Rattle.ft_perm.specs.Vectors.{VectorState, seen_handles}
use Rattle.ft_props.specs.Element.{nameless}
use Rattle.ft_props.specs.Properties.{ValueBytes}
use Rattle.ft_cells.specs.CellTables.{CellList, CellState, CellTable, cell_at, changed_cell, shown_value, with_acked}
use Rattle.ft_sumdoc.specs.declared.summary.CellRec.{CellRec}
use Rattle.ft_sumdoc.specs.declared.summary.RunRec.{RunRec}
use Rattle.ft_sumdoc.specs.declared.summary.SumDoc.{SumDoc}
use Rattle.ft_matrix.specs.declared.grid.Grid.{Grid}
use Rattle.ft_matrix.specs.GridStates.{grid_state}
use Rattle.ft_matrix.specs.HoldsGrid.{HoldsGrid}
use Rattle.ft_matrix.specs.Sound.{IsSound, no_properties}
use Rattle.ft_matrix.specs.Units.{shown_units, units_of}

-- the stamps of the units of a run
abbrev pub run_stamps : RunRec → ElementStamps
run_stamps run = marked_stamps run.ins run.dels

-- the units of a run are put at the end
pub record LoadsRun (run : RunRec) (old new : VectorState) : Type 0 where
  pub handles : HandleRun
  pub count : handles.count ≡ run.count
  pub units : units_of new ≡ units_of old ++ elements_with (run_stamps run) None no_properties (handles_of handles)
  pub floor : new.tree.floor ≡ old.tree.floor

-- the units are those of the runs, so many
pub record LoadsUnits (runs : List RunRec) (count : ℕ) (old new : VectorState) : Type 0 where
  pub units : shown_units new ≡ map nameless (run_items 0 runs)
  pub made : count ≡ length (run_items 0 runs)
  pub floor : new.tree.floor ≡ old.tree.floor

-- a cell with this value, unless it has one
abbrev pub given_value : ValueBytes → CellState → CellState
given_value value cell = cond (is_some (shown_value cell)) cell (with_acked value cell)

-- the cells with this value in the cell of two handles, if both are there and it has none
abbrev pub loaded_cell : Option ℕ → Option ℕ → ValueBytes → CellTable → ℕ → ℕ → CellState
loaded_cell (Some row) (Some col) value table r c = changed_cell row col (given_value value) table r c
loaded_cell _ _ value table r c = table r c

-- a cell of a summary is written, where these handles are unremoved
abbrev pub LoadsCell : List ℕ → List ℕ → CellRec → CellList → CellList → Type 0
LoadsCell rows cols cell old new = (r c : ℕ) → cell_at new r c ≡ loaded_cell (slice_get rows cell.row) (slice_get cols cell.col) cell.value (cell_at old) r c

-- after cells were written one after another
abbrev pub loaded_cells : List ℕ → List ℕ → List CellRec → CellTable → CellTable
loaded_cells rows cols [] table = table
loaded_cells rows cols (cell ∷ cells) table = loaded_cells rows cols cells (loaded_cell (slice_get rows cell.row) (slice_get cols cell.col) cell.value table)

-- all cells of a summary are
pub record LoadsCells (cells : List CellRec) (old new : Grid) : Type 0 where
  pub table : (r c : ℕ) → cell_at new.cells r c ≡ loaded_cells (seen_handles (Stage 0) old.rows.tree) (seen_handles (Stage 0) old.cols.tree) cells (cell_at old.cells) r c
  pub rest : new ≡ record old { cells = new.cells }

-- the grid is that of a summary, with nothing pending
pub record LoadsGrid (sum : SumDoc) (g : Grid) : Type 0 where
  pub sound : IsSound g
  pub holds : HoldsGrid (grid_state g 0 true) (doc_of sum) []
  pub floor : g.rows.tree.floor ≡ 0
