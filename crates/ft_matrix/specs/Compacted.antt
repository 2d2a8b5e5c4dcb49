-- What compaction makes of the handles and the cells of a grid. No public clause cites this module.
use Rattle.std.specs.Prelude.{◌≡◌, ◌≤◌, ℕ, Bool, true, false, cond, not, ◌&&◌, nat_eq, All, List, map}
use Rattle.std.specs.List.{AllByRecursion, list_any}
use Rattle.ft_base.specs.Scan.{len}
use Rattle.ft_tree_leaves.specs.Elements.{TreeElement}
use Rattle.ft_op.specs.declared.operations.Target.{Target}
use Rattle.ft_op.specs.declared.operations.Target.TheVariants.{Rows, Cols}
use Rattle.ft_op.specs.Document.{Document}
use Rattle.ft_op.specs.Stages.{Stage}
use Rattle.ft_cells.specs.CellTables.{cell_at, empty_cell}
use Rattle.ft_perm.specs.Handles.{HandleRun, in_run}
use Rattle.ft_perm.specs.Vectors.{IsProper, VectorState, in_use, times_held}
use Rattle.ft_zamboni.specs.Scours.{Writes, is_collectable, staying}
use Rattle.ft_matrix.specs.declared.grid.Grid.{Grid}
use Rattle.ft_matrix.specs.Applied.{Holds}
use Rattle.ft_matrix.specs.Conditions.{HoldsKept}
use Rattle.ft_matrix.specs.GridStates.{grid_state}
use Rattle.ft_matrix.specs.Sides.{units_at, with_units_at}
use Rattle.ft_matrix.specs.Sound.{IsSound}
use Rattle.ft_matrix.specs.Units.{units_of}

-- whether one of the runs has the handle
abbrev pub is_in_runs : List HandleRun → ℕ → Bool
is_in_runs runs h = list_any (in_run h) runs

-- a vector of which units are taken out, each marked with whether it goes: only such go as were removed at or below the floor, the
-- others are written again, and the runs have just the handles of those that go
pub record ScoursUnits (raised : ℕ) (runs : List HandleRun) (old new : VectorState) : Type 0 where
  pub marked : List (Bool × TreeElement ℕ)
  pub all : map (λ m. m.1) marked ≡ units_of old
  pub may : AllByRecursion (λ m. m.0 ≡ true → is_collectable raised m.1.stamps ≡ true) marked
  pub written : Writes raised (units_of new) (staying marked)
  pub taken : (h : ℕ) → times_held h runs ≡ len (λ m. m.0 && nat_eq m.1.unit h) marked
  pub used : (h : ℕ) → in_use new h ≡ in_use old h
  pub floor : new.tree.floor ≡ raised

-- the runs are of handles in use, none twice, of which no unit has one
pub record AreGone (runs : List HandleRun) (v : VectorState) : Type 0 where
  pub used : (h : ℕ) → is_in_runs runs h ≡ true → in_use v h ≡ true
  pub once : (h : ℕ) → times_held h runs ≤ 1
  pub gone : All (λ e. is_in_runs runs e.unit ≡ false) (units_of v)
  pub proper : IsProper v

-- the handle of the row, or that of the column
abbrev pub line_of : Target → ℕ → ℕ → ℕ
line_of Rows r c = r
line_of Cols r c = c

-- the rows or columns of a run have no cells
pub record ClearsRun (target : Target) (run : HandleRun) (old new : Grid) : Type 0 where
  pub cells : (r c : ℕ) → cell_at new.cells r c ≡ cond (in_run (line_of target r c) run) empty_cell (cell_at old.cells r c)
  pub rest : new ≡ record old { cells = new.cells }

-- rows or columns of these handles have no cells, and the handles are free
pub record FreesUnits (target : Target) (gone : ℕ → Bool) (old new : Grid) : Type 0 where
  pub cells : (r c : ℕ) → cell_at new.cells r c ≡ cond (gone (line_of target r c)) empty_cell (cell_at old.cells r c)
  pub used : (h : ℕ) → in_use (units_at target new) h ≡ (in_use (units_at target old) h && not (gone h))
  pub tree : (units_at target new).tree ≡ (units_at target old).tree
  pub next : (units_at target new).next ≡ (units_at target old).next
  pub proper : IsProper (units_at target new)
  pub rest : new ≡ record (with_units_at target old (units_at target new)) { cells = new.cells }

-- the floor is raised, and of the rows and columns that were removed at or below it some are taken out
pub record CompactsGrid (raised : ℕ) (old new : Grid) : Type 0 where
  pub sound : IsSound new
  pub floor : new.rows.tree.floor ≡ raised
  pub kept : (last : ℕ) (doc : Document) (stages : List Stage) → Holds last old doc stages → HoldsKept raised (grid_state new 0 true) doc stages
