-- How the shown rows and columns change with operations on them, by the units of a grid. No public clause cites this module.
use Rattle.std.specs.Prelude.{◌≡◌, ℕ, suc, cond, not, ◌&&◌, nat_eq, nat_le, List, [], ◌∷◌, map, true}
use Rattle.std.specs.List.{list_all}
use Rattle.ft_base.specs.declared.elements.Perspective.{Perspective}
use Rattle.ft_base.specs.Scan.{len}
use Rattle.ft_block.specs.declared.leaves.LenView.{LenView}
use Rattle.ft_block.specs.declared.leaves.LenView.TheVariants.{At}
use Rattle.ft_block.specs.Leaves.{last_stage}
use Rattle.ft_changes.specs.declared.changes.ViewChange.{ViewChange}
use Rattle.ft_changes.specs.declared.changes.ViewChange.TheVariants.{PutUnits}
use Rattle.ft_changes.specs.ShownRuns.{gone_runs, place_of_insertion}
use Rattle.ft_changes.specs.Told.{taken_units}
use Rattle.ft_laws_names.specs.GridFacts.{is_unit_below}
use Rattle.ft_op.specs.declared.operations.CellOp.{CellOp}
use Rattle.ft_op.specs.declared.operations.CellOp.TheVariants.{SpliceIn, SpliceOut, Set}
use Rattle.ft_op.specs.declared.operations.Target.{Target}
use Rattle.ft_op.specs.Document.{Document}
use Rattle.ft_props.specs.Element.{nameless}
use Rattle.ft_tree_leaves.specs.Elements.{TreeElement, is_pending, seen_in}
use Rattle.ft_matrix.specs.declared.grid.Grid.{Grid}
use Rattle.ft_matrix.specs.Sides.{units_at}
use Rattle.ft_matrix.specs.Units.{units_of}

-- ---- one operation

-- new units by the perspective, where what is pending is shown
abbrev pub told_insertion : Perspective → Target → ℕ → ℕ → List (TreeElement ℕ) → List ViewChange
told_insertion at target p count xs =
    cond (nat_le p (len (seen_in (At at)) xs) && not (nat_eq count 0))
    (PutUnits target (place_of_insertion (seen_in (At at)) is_pending (seen_in last_stage) p xs) count ∷ [])
    []

-- the removal of units by the view
abbrev pub told_removal : LenView → Target → ℕ → ℕ → List (TreeElement ℕ) → List ViewChange
told_removal view target p q xs =
    cond (nat_le q (len (seen_in view) xs)) (map (taken_units target) (gone_runs (seen_in view) (seen_in last_stage) p q xs)) []

-- an operation of a message of another client
abbrev pub told_of_op : Perspective → CellOp → Grid → List ViewChange
told_of_op at (SpliceIn target p count) g = told_insertion at target p count (units_of (units_at target g))
told_of_op at (SpliceOut target p q) g = told_removal (At at) target p q (units_of (units_at target g))
told_of_op at (Set i j value) g = []

-- an operation of the client's own
abbrev pub told_of_own : CellOp → Grid → List ViewChange
told_of_own (SpliceIn target p count) g = cond (nat_eq count 0) [] (PutUnits target p count ∷ [])
told_of_own (SpliceOut target p q) g = told_removal last_stage target p q (units_of (units_at target g))
told_of_own (Set i j value) g = []

-- ---- what is pending

-- what is pending on rows and columns is of stages up to the last
pub record HasStagesTo (last : ℕ) (doc : Document) : Type 0 where
  pub rows : list_all (λ e. is_unit_below (suc last) (nameless e)) doc.rows.items ≡ true
  pub cols : list_all (λ e. is_unit_below (suc last) (nameless e)) doc.cols.items ≡ true
