-- What a grid keeps while it may be used. No public clause cites this module.
use Rattle.std.specs.Prelude.{◌≡◌, ◌<◌, ◌≤◌, ℕ, Bool, true, false, cond, not, ◌&&◌, nat_eq, nat_le, All, IsTrue, List, [], ◌∷◌, Option, Some, None, flat_map}
use Rattle.std.specs.List.{AllByRecursion, list_any}
use Rattle.ft_base.specs.declared.stamps.Stamp.{Stamp}
use Rattle.ft_base.specs.declared.stamps.Stamp.TheVariants.{Acked, Local}
use Rattle.ft_base.specs.Visibility.{is_of_stage}
use Rattle.ft_tree_leaves.specs.Elements.{TreeElement}
use Rattle.ft_op.specs.declared.operations.CellOp.TheVariants.{Set, SpliceIn}
use Rattle.ft_props.specs.Overlay.{OverlayState}
use Rattle.ft_props.specs.Properties.{ValueBytes}
use Rattle.ft_tree_leaves.specs.References.{reference_at}
use Rattle.ft_perm.specs.Vectors.{IsProper, VectorState, in_use}
use Rattle.ft_cells.specs.CellTables.{CellList, cell_at, empty_cell}
use Rattle.ft_matrix.specs.declared.grid.Grid.{Grid}
use Rattle.ft_matrix.specs.declared.stages.GridStage.{GridStage}
use Rattle.ft_matrix.specs.Units.{units_of}

-- no properties, and no pending changes
abbrev pub no_properties : OverlayState
no_properties = record { acked = []; pending = [] }

-- the insertion isn't of stage 0, which no edit has
abbrev pub IsStaged : TreeElement ℕ → Type 0
IsStaged e = is_of_stage 0 e.stamps.ins ≡ false

-- a vector that may be used, without references and properties, whose handles are proper; there were no more fresh handles than
-- elements; no unit is of stage 0
pub record IsSoundVector (v : VectorState) : Type 0 where
  pub usable : IsTrue v.tree.usable
  pub refs : (r : ℕ) → reference_at v.tree.refs r ≡ None
  pub proper : IsProper v
  pub fresh : v.next ≤ v.tree.made
  pub plain : All (λ e. e.overlay ≡ no_properties) (units_of v)
  pub staged : All IsStaged (units_of v)

-- whether it is this handle, if one is given
abbrev pub is_handle : ℕ → Option ℕ → Bool
is_handle h None = false
is_handle h (Some x) = nat_eq h x

-- what the stage writes to the cell of two handles, with its number
abbrev pub write_of : ℕ → ℕ → GridStage → List (ℕ × ValueBytes)
write_of row col t = elim t.op [
  | Set i j value ↦ cond (is_handle row t.row && is_handle col t.col) ((t.stage, value) ∷ []) []
  | _ ↦ []
]

-- what the stages write to it
abbrev pub writes_to : ℕ → ℕ → List GridStage → List (ℕ × ValueBytes)
writes_to row col stages = flat_map (write_of row col) stages

-- the numbers of the stages rise, all above low
abbrev pub StagesRise : ℕ → List GridStage → Type 0
StagesRise low [] = Unit {0}
StagesRise low (t ∷ stages) = (low < t.stage) × StagesRise t.stage stages

-- ---- pending units

-- whether the insertion is pending, of stage k or of a later one
abbrev pub is_from : ℕ → Stamp → Bool
is_from k (Acked s c) = false
is_from k (Local j) = nat_le k j

-- pending units of stage k and of later ones, and behind those none of stage k
abbrev pub goes_on : ℕ → List (TreeElement ℕ) → Bool
goes_on k [] = true
goes_on k (e ∷ es) = cond (is_from k e.stamps.ins) (goes_on k es) (not (list_any (λ d. is_of_stage k d.stamps.ins) es))

-- such units stand behind one with this insertion, if it is pending
abbrev pub GoesOn : Stamp → List (TreeElement ℕ) → Type 0
GoesOn (Acked s c) es = Unit {0}
GoesOn (Local k) es = goes_on k es ≡ true

-- between two units of one pending stage only pending units of this and of higher stages stand
abbrev pub StandTogether : List (TreeElement ℕ) → Type 0
StandTogether [] = Unit {0}
StandTogether (e ∷ es) = GoesOn e.stamps.ins es × StandTogether es

-- whether the stage puts units in
abbrev pub puts_units : GridStage → Bool
puts_units t = elim t.op [ SpliceIn target p count ↦ not (nat_eq count 0) | _ ↦ false ]

-- the insertion is sequenced, or of one of these stages that puts units in
abbrev pub IsOfStages : List GridStage → Stamp → Type 0
IsOfStages stages (Acked s c) = Unit {0}
IsOfStages stages (Local k) = list_any (λ t. nat_eq t.stage k && puts_units t) stages ≡ true

-- the pending units are of these stages, and those of each stand together
pub record ArePending (stages : List GridStage) (es : List (TreeElement ℕ)) : Type 0 where
  pub together : StandTogether es
  pub own : AllByRecursion (λ e. IsOfStages stages e.stamps.ins) es

-- ---- the grid

-- a handle that isn't in use has no cell
pub record HoldsCells (v w : VectorState) (cells : CellList) : Type 0 where
  pub rows : (row col : ℕ) → in_use v row ≡ false → cell_at cells row col ≡ empty_cell
  pub cols : (row col : ℕ) → in_use w col ≡ false → cell_at cells row col ≡ empty_cell

-- a grid: two sound vectors with one floor, cells of handles in use alone, and just the pending writes and the pending units of its
-- stages
pub record IsSound (g : Grid) : Type 0 where
  pub rows : IsSoundVector g.rows
  pub cols : IsSoundVector g.cols
  pub floors : g.cols.tree.floor ≡ g.rows.tree.floor
  pub held : HoldsCells g.rows g.cols g.cells
  pub writes : (row col : ℕ) → (cell_at g.cells row col).pending ≡ writes_to row col g.stages.items
  pub rise : StagesRise 0 g.stages.items
  pub pending_rows : ArePending g.stages.items (units_of g.rows)
  pub pending_cols : ArePending g.stages.items (units_of g.cols)
