-- What contracts see of a `SharedMatrix`: rows and columns without names and handles, cells and pending stages by places.
use Rattle.std.specs.Prelude.{ℕ, Bool, List, map}
use Rattle.ft_sumdoc.specs.declared.summary.CellRec.{CellRec}
use Rattle.ft_op.specs.declared.operations.Target.{Target}
use Rattle.ft_op.specs.declared.operations.Target.TheVariants.{Rows, Cols}
use Rattle.ft_props.specs.Element.{NamelessElement}
use Rattle.ft_op.specs.Operation.{OnGrid}
use Rattle.ft_msg.specs.Indexed.{IndexedStage}
use Rattle.ft_perm.specs.Handles.{HandleRun}
use Rattle.ft_perm.specs.Vectors.{VectorState}
use Rattle.ft_tree.specs.State.{TreeState}
use Rattle.ft_matrix.specs.declared.grid.Grid.{Grid}
use Rattle.ft_matrix.specs.declared.stages.GridStage.{GridStage}
use Rattle.ft_matrix.specs.Units.{place_of_handle, placed_cells, shown_units, unit_value, units_of}

-- the rows and the columns, removed ones included; how many of each were ever sequenced; the acknowledged cells by places in
-- these lists; the pending stages of the grid; the floor; how deep a search in the rows and in the columns goes; the greatest
-- stage given since the last normalising, 0 where none was; whether it may still be used: after OutOfMemory in a call that changes
-- it, it may not, for good; and the trees of rows and columns, which tell the node of each leaf
pub record GridState : Type 0 where
  pub rows : List NamelessElement
  pub cols : List NamelessElement
  pub rows_made : ℕ
  pub cols_made : ℕ
  pub cells : List CellRec
  pub stages : List IndexedStage
  pub floor : ℕ
  pub rows_depth : ℕ
  pub cols_depth : ℕ
  pub given : ℕ
  pub usable : Bool
  pub rows_tree : TreeState HandleRun
  pub cols_tree : TreeState HandleRun

-- how deep a search goes in the list that a splice is for
abbrev pub depth_of : Target → GridState → ℕ
depth_of Rows s = s.rows_depth
depth_of Cols s = s.cols_depth

-- a pending stage with the places of the units that it names
abbrev pub shown_stage : VectorState → VectorState → GridStage → IndexedStage
shown_stage rows cols t = record {
  stage = t.stage;
  sub_operation = OnGrid t.op;
  places = record { first = place_of_handle rows t.row; second = place_of_handle cols t.col };
}

-- what is seen of a grid
abbrev pub grid_state : Grid → ℕ → Bool → GridState
grid_state g given usable = record {
  rows = shown_units g.rows;
  cols = shown_units g.cols;
  rows_made = g.rows_made;
  cols_made = g.cols_made;
  cells = placed_cells (unit_value g.cells) (units_of g.cols) 0 (units_of g.rows);
  stages = map (shown_stage g.rows g.cols) g.stages.items;
  floor = g.rows.tree.floor;
  rows_depth = g.rows.tree.depth;
  cols_depth = g.cols.tree.depth;
  given = given;
  usable = usable;
  rows_tree = g.rows.tree;
  cols_tree = g.cols.tree;
}
