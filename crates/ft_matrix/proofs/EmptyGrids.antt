-- A grid with nothing in it is sound, and holds the empty document.
use Rattle.std.proofs.Common.{◌≡◌, ◌≤◌, ℕ, true, nat_eq, [], None, sym, ◌∙◌, ap, subst, map, arith}
use Rattle.std.specs.List.{AllByRecursion}
use Rattle.std.proofs.lemmas.List.Elements.{All-from_recursion}
use Rattle.ft_base.specs.Scan.{len}
use Rattle.ft_tree_leaves.specs.Elements.{TreeElement}
use Rattle.ft_tree_leaves.specs.References.{reference_at}
use Rattle.ft_tree.specs.State.{TreeState}
use Rattle.ft_perm.specs.Handles.{HandleRun}
use Rattle.ft_perm.specs.Vectors.{VectorState, in_use, vector_elements}
use Rattle.ft_cells.specs.CellTables.{CellState, cell_at, empty_cell}
use Rattle.ft_matrix.specs.declared.grid.Grid.{Grid}
use Rattle.ft_matrix.specs.Empty.{IsEmptyGrid}
use Rattle.ft_matrix.specs.GridStates.{shown_stage}
use Rattle.ft_matrix.specs.Sound.{IsSound, IsSoundVector, IsStaged, StagesRise, no_properties, writes_to}
use Rattle.ft_matrix.proofs.PendingStages.{no-units}
use Rattle.ft_matrix.specs.Units.{placed_cells, shown_unit, unit_value, units_of}

abbrev pub empty_tree : TreeState HandleRun
empty_tree = record { leaves = []; refs = []; floor = 0; sweep = None; made = 0; depth = 0; usable = true }

pub empty-vector : (v : VectorState) → v.tree ≡ empty_tree → v.next ≡ 0 → IsSoundVector v
empty-vector v t n = record {
  usable = ap (λ (x : TreeState HandleRun). x.usable) t;
  refs = λ r. ap (λ (x : TreeState HandleRun). reference_at x.refs r) t;
  proper = record {
    used = All-from_recursion (λ (e : TreeElement ℕ). in_use v e.unit ≡ true) (units_of v) (subst (AllByRecursion (λ (e : TreeElement ℕ). in_use v e.unit ≡ true)) (sym none) tt);
    once = λ h. subst (λ es. len (λ (e : TreeElement ℕ). nat_eq e.unit h) es ≤ 1) (sym none) (omega arith);
  };
  fresh = let m : v.tree.made ≡ 0 = ap (λ (x : TreeState HandleRun). x.made) t in omega arith;
  plain = All-from_recursion (λ (e : TreeElement ℕ). e.overlay ≡ no_properties) (units_of v)
      (subst (AllByRecursion (λ (e : TreeElement ℕ). e.overlay ≡ no_properties)) (sym none) tt);
  staged = All-from_recursion IsStaged (units_of v) (subst (AllByRecursion IsStaged) (sym none) tt);
}
  where
    none : units_of v ≡ []
    none = ap (λ x. vector_elements x) t

pub empty-grid : (g : Grid) → g.rows.tree ≡ empty_tree → g.rows.next ≡ 0 → g.cols.tree ≡ empty_tree → g.cols.next ≡ 0
    → ((r c : ℕ) → cell_at g.cells r c ≡ empty_cell) → g.stages.items ≡ [] → IsSound g
empty-grid g a b c d e f = record {
  rows = empty-vector g.rows a b;
  cols = empty-vector g.cols c d;
  floors = ap (λ (x : TreeState HandleRun). x.floor) c ∙ sym (ap (λ (x : TreeState HandleRun). x.floor) a);
  held = record { rows = λ r k n. e r k; cols = λ r k n. e r k };
  writes = λ r k. ap (λ (cell : CellState). cell.pending) (e r k) ∙ ap (writes_to r k) (sym f);
  rise = subst (StagesRise 0) (sym f) tt;
  pending_rows = no-units g.stages.items (units_of g.rows) (ap (λ x. vector_elements x) a);
  pending_cols = no-units g.stages.items (units_of g.cols) (ap (λ x. vector_elements x) c);
}

pub is-empty : (g : Grid) → g.rows.tree ≡ empty_tree → g.rows.next ≡ 0 → g.cols.tree ≡ empty_tree → g.cols.next ≡ 0
    → ((r c : ℕ) → cell_at g.cells r c ≡ empty_cell) → g.stages.items ≡ [] → g.rows_made ≡ 0 → g.cols_made ≡ 0 → IsEmptyGrid g
is-empty g a b c d e f m n = record {
  sound = empty-grid g a b c d e f;
  holds = record {
    rows = sym (ap (map shown_unit) rows);
    cols = sym (ap (map shown_unit) cols);
    rows_made = sym m;
    cols_made = sym n;
    cells = sym (ap (λ us. placed_cells (unit_value g.cells) (units_of g.cols) 0 us) rows);
    stages = sym (ap (map (shown_stage g.rows g.cols)) f);
  };
  floor = ap (λ (x : TreeState HandleRun). x.floor) a;
  units = (rows, cols);
  cells = e;
  stages = f;
}
  where
    rows : units_of g.rows ≡ []
    rows = ap (λ x. vector_elements x) a

    cols : units_of g.cols ≡ []
    cols = ap (λ x. vector_elements x) c
