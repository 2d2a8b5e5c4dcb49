-- A grid whose rows or columns are changed.
use Rattle.std.proofs.Common.{◌≡◌, ℕ, ◌+◌, Bool, false, true, ◌||◌, List, [], ◌∷◌, ◌++◌, refl, sym, ◌∙◌, ap, subst, arith}
use Rattle.ft_base.specs.declared.stamps.Stamp.{Stamp}
use Rattle.ft_block.specs.declared.leaves.LenView.{LenView}
use Rattle.ft_op.specs.declared.operations.CellOp.TheVariants.{SpliceIn}
use Rattle.ft_op.specs.declared.operations.Target.{Target}
use Rattle.ft_op.specs.declared.operations.Target.TheVariants.{Rows, Cols}
use Rattle.ft_op.specs.Document.{Document, with_rows_or_cols}
use Rattle.ft_props.specs.Steps.{Sequence}
use Rattle.ft_tree_leaves.specs.Elements.{TreeElement}
use Rattle.ft_cells.specs.CellTables.{CellList}
use Rattle.ft_perm.specs.Handles.{in_run}
use Rattle.ft_perm.specs.Vectors.{VectorState, in_use}
use Rattle.ft_matrix.specs.declared.grid.Grid.{Grid}
use Rattle.ft_matrix.specs.declared.stages.GridStage.{GridStage}
use Rattle.ft_matrix.specs.GridStates.{depth_of, grid_state}
use Rattle.ft_matrix.specs.Sides.{units_at, with_more_made, with_units_at}
use Rattle.ft_matrix.specs.Sound.{ArePending, IsSound, IsSoundVector}
use Rattle.ft_matrix.specs.Units.{units_of}
use Rattle.ft_matrix.specs.Splices.{Inserts, Removes}

pub same-side : (target : Target) (g : Grid) → with_units_at target g (units_at target g) ≡ g
same-side Rows g = refl
same-side Cols g = refl

pub at-side : (target : Target) (g : Grid) (v : VectorState) → units_at target (with_units_at target g v) ≡ v
at-side Rows g v = refl
at-side Cols g v = refl

pub side-stages : (target : Target) (g : Grid) (v : VectorState) → (with_units_at target g v).stages.items ≡ g.stages.items
side-stages Rows g v = refl
side-stages Cols g v = refl

pub side-cells : (target : Target) (g : Grid) (v : VectorState) → (with_units_at target g v).cells ≡ g.cells
side-cells Rows g v = refl
side-cells Cols g v = refl

-- other cells are nothing to them
pub side-rest : (target : Target) (g : Grid) (cells : CellList) → units_at target (record g { cells = cells }) ≡ units_at target g
side-rest Rows g cells = refl
side-rest Cols g cells = refl

pub side-again : (target : Target) (g mid : Grid) (v : VectorState) → mid ≡ record g { cells = mid.cells }
    → with_units_at target mid v ≡ record (with_units_at target g v) { cells = mid.cells }
side-again Rows g mid v e = ap (λ (x : Grid). record x { rows = v }) e
side-again Cols g mid v e = ap (λ (x : Grid). record x { cols = v }) e

-- what is behind the stages of the changed grid is behind those of the grid
pub behind-side : (target : Target) (g : Grid) (v : VectorState) (us : List GridStage) (u : GridStage)
    → us ≡ (with_units_at target g v).stages.items ++ (u ∷ [])
    → us ≡ g.stages.items ++ (u ∷ [])
behind-side target g v us u e = e ∙ ap (λ ts. ts ++ (u ∷ [])) (side-stages target g v)

pub side-depth : (target : Target) (g : Grid) → (units_at target g).tree.depth ≡ depth_of target (grid_state g 0 true)
side-depth Rows g = refl
side-depth Cols g = refl

pub same-target : (t u : Target) (p n q m : ℕ) → SpliceIn t p n ≡ SpliceIn u q m → t ≡ u
same-target t u p n q m e = (cc)

plus-zero : (n : ℕ) → n ≡ n + 0
plus-zero n = omega arith

pub side-skipped : (target : Target) (doc : Document) (list : Sequence) → (with_rows_or_cols target doc list).skipped ≡ doc.skipped + 0
side-skipped Rows doc list = plus-zero doc.skipped
side-skipped Cols doc list = plus-zero doc.skipped

-- what a step says of the rows or of the columns as they were lent, with its answer
pub over : {A : Type 0} (P : A → Bool → Type 0) {a b : A} {x y : Bool} → a ≡ b → x ≡ y → P a x → P b y
over {A} P {a} {b} {x} {y} e f h = subst (P b) f (subst (λ u. P u x) e h)

-- ---- soundness

pub same-sound : (target : Target) (g : Grid) (v : VectorState) → v ≡ units_at target g → IsSound g → IsSound (with_units_at target g v)
same-sound target g v e s = subst IsSound (sym (ap (with_units_at target g) e ∙ same-side target g)) s

used-before : (old new : VectorState) (h : ℕ) (b : Bool) → in_use new h ≡ (in_use old h || b) → in_use new h ≡ false → in_use old h ≡ false
used-before old new h b e n = step (in_use old h) b (sym e ∙ n)
  where
    step : (a c : Bool) → (a || c) ≡ false → a ≡ false
    step true c g = (cc)
    step false c g = refl

pub puts-used : (view : LenView) (past : TreeElement ℕ → Bool) (ins : Stamp) (p count : ℕ) (old new : VectorState)
    → Inserts view past ins p count old new true → (h : ℕ)
    → in_use new h ≡ false → in_use old h ≡ false
puts-used view past ins p count old new i h n = used-before old new h (in_run h i.1.run) (i.1.used h) n

pub marks-used : (view : LenView) (removal : Stamp) (p q : ℕ) (old new : VectorState) → Removes view removal p q old new true → (h : ℕ)
    → in_use new h ≡ false → in_use old h ≡ false
marks-used view removal p q old new i h n = sym (i.1.used h) ∙ n

pub sound-at : (target : Target) (g : Grid) → IsSound g → IsSoundVector (units_at target g)
sound-at Rows g s = s.rows
sound-at Cols g s = s.cols

pub pending-at : (target : Target) (g : Grid) → IsSound g → ArePending g.stages.items (units_of (units_at target g))
pending-at Rows g s = s.pending_rows
pending-at Cols g s = s.pending_cols

pub floor-at : (target : Target) (g : Grid) → IsSound g → (units_at target g).tree.floor ≡ g.rows.tree.floor
floor-at Rows g s = refl
floor-at Cols g s = s.floors

pub side-sound : (target : Target) (g : Grid) (v : VectorState) → IsSound g → IsSoundVector v
    → ((h : ℕ) → in_use v h ≡ false → in_use (units_at target g) h ≡ false)
    → v.tree.floor ≡ (units_at target g).tree.floor → ArePending g.stages.items (units_of v) → IsSound (with_units_at target g v)
side-sound Rows g v s sv u f p = record {
  rows = sv;
  cols = s.cols;
  floors = s.floors ∙ sym f;
  held = record { rows = λ r c n. s.held.rows r c (u r n); cols = λ r c n. s.held.cols r c n };
  writes = λ r c. s.writes r c;
  rise = s.rise;
  pending_rows = p;
  pending_cols = s.pending_cols;
}
side-sound Cols g v s sv u f p = record {
  rows = s.rows;
  cols = sv;
  floors = f ∙ s.floors;
  held = record { rows = λ r c n. s.held.rows r c n; cols = λ r c n. s.held.cols r c (u c n) };
  writes = λ r c. s.writes r c;
  rise = s.rise;
  pending_rows = s.pending_rows;
  pending_cols = p;
}

pub made-sound : (target : Target) (n : ℕ) (g : Grid) → IsSound g → IsSound (with_more_made target n g)
made-sound Rows n g s = record { rows = s.rows; cols = s.cols; floors = s.floors; held = s.held; writes = s.writes; rise = s.rise; pending_rows = s.pending_rows; pending_cols = s.pending_cols }
made-sound Cols n g s = record { rows = s.rows; cols = s.cols; floors = s.floors; held = s.held; writes = s.writes; rise = s.rise; pending_rows = s.pending_rows; pending_cols = s.pending_cols }

pub side-floor : (target : Target) (g : Grid) (v : VectorState) → v.tree.floor ≡ (units_at target g).tree.floor
    → (with_units_at target g v).rows.tree.floor ≡ g.rows.tree.floor
side-floor Rows g v f = f
side-floor Cols g v f = refl

pub made-floor : (target : Target) (n : ℕ) (g : Grid) → (with_more_made target n g).rows.tree.floor ≡ g.rows.tree.floor
made-floor Rows n g = refl
made-floor Cols n g = refl
