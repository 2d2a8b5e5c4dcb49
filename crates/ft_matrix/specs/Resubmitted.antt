-- What is sent again of a pending stage of the grid, told by the units of rows and columns. No public clause cites this module.
use Rattle.std.specs.Prelude.{◌≡◌, ℕ, ◌+◌, ◌-◌, ◌++◌, Bool, true, false, cond, remove, ◌&&◌, nat_eq, nat_le, nat_lt, List, [], ◌∷◌, Option, Some, None, flat_map, map, option_and_then, slice_get}
use Rattle.std.specs.List.{AllByRecursion, list_all, list_any}
use Rattle.std.specs.Option.{option_map}
use Rattle.ft_base.specs.Scan.{rank}
use Rattle.ft_block.specs.declared.leaves.LenView.TheVariants.{Stage}
use Rattle.ft_op.specs.declared.operations.CellOp.{CellOp}
use Rattle.ft_op.specs.declared.operations.CellOp.TheVariants.{SpliceIn, SpliceOut, Set}
use Rattle.ft_op.specs.declared.operations.ChannelOp.TheVariants.{Grid as OfGrid}
use Rattle.ft_op.specs.declared.operations.GridOp.{GridOp}
use Rattle.ft_op.specs.declared.operations.Target.{Target}
use Rattle.ft_op.specs.declared.operations.Target.TheVariants.{Rows, Cols}
use Rattle.ft_op.specs.Document.{Document}
use Rattle.ft_op.specs.Pieces.{op_of, pieces}
use Rattle.ft_op.specs.Stages.{Stage as Named}
use Rattle.ft_msg.specs.Reconnection.{carried_stage}
use Rattle.ft_props.specs.Properties.{ValueBytes}
use Rattle.ft_props.specs.Steps.{lowered_runs}
use Rattle.ft_tree_leaves.specs.Elements.{TreeElement, seen_in}
use Rattle.ft_rebase.specs.Pieces.{is_inserted_by, marked_runs}
use Rattle.ft_rebase.specs.declared.marks.PendingMark.TheVariants.{Removal}
use Rattle.ft_rebase.specs.declared.pieces.Piece.{Piece}
use Rattle.ft_rebase.specs.declared.pieces.Piece.TheVariants.{Insert, Remove}
use Rattle.ft_laws_agreement.specs.Sequencing.{is_grid_stage}
use Rattle.ft_cells.specs.CellTables.{cell_at, without_write}
use Rattle.ft_matrix.specs.declared.grid.Grid.{Grid}
use Rattle.ft_matrix.specs.declared.stages.GridStage.{GridStage}
use Rattle.ft_matrix.specs.Applied.{Holds}
use Rattle.ft_matrix.specs.GridStates.{grid_state}
use Rattle.ft_matrix.specs.HoldsGrid.{HoldsGrid}
use Rattle.ft_matrix.specs.Sound.{IsSound, writes_to}
use Rattle.ft_matrix.specs.Units.{has_handle, units_of}

-- how many units seen at the stage before stand left of the first one of stage k, or are seen at all where it has none
abbrev pub put_position : ℕ → List (TreeElement ℕ) → ℕ
put_position k es = rank (is_inserted_by k) (seen_in (Stage (k - 1))) es

-- an insertion where the units of stage k stand, unless it is one of nothing
abbrev pub insertion_of : ℕ → Target → ℕ → List (TreeElement ℕ) → List CellOp
insertion_of k target count es = cond (nat_eq count 0) [] (SpliceIn target (put_position k es) count ∷ [])

-- a removal of each run that stage k marks as removed, with positions as after the earlier ones
abbrev pub removals_of : ℕ → Target → List (TreeElement ℕ) → List CellOp
removals_of k target es = map (λ r. SpliceOut target r.0 r.1) (lowered_runs 0 (marked_runs k Removal es))

-- where a piece inserts, if it does
abbrev pub inserted_at : Piece → Option ℕ
inserted_at (Insert pos) = Some pos
inserted_at _ = None

-- where the first of pieces inserts, if it does
abbrev pub first_insertion : List Piece → Option ℕ
first_insertion parts = option_and_then inserted_at (slice_get parts 0)

-- the removals among pieces
abbrev pub removal_op : Target → Piece → List CellOp
removal_op target (Remove pos1 pos2) = SpliceOut target pos1 pos2 ∷ []
removal_op target _ = []

abbrev pub removal_ops : Target → List Piece → List CellOp
removal_ops target parts = flat_map (removal_op target) parts

-- whether the unit of the handle is seen at stage k, if one is given
abbrev pub is_seen_at : ℕ → Option ℕ → List (TreeElement ℕ) → Bool
is_seen_at k None es = false
is_seen_at k (Some h) es = list_any (λ e. has_handle h e && seen_in (Stage k) e) es

-- its place at stage k
abbrev pub place_seen : ℕ → Option ℕ → List (TreeElement ℕ) → ℕ
place_seen k None es = 0
place_seen k (Some h) es = rank (has_handle h) (seen_in (Stage k)) es

-- the place at the stage before of a unit that is seen there and at stage k
abbrev pub place_before : ℕ → Option ℕ → List (TreeElement ℕ) → Option ℕ
place_before k handle es = cond (is_seen_at k handle es && is_seen_at (k - 1) handle es) (Some (place_seen (k - 1) handle es)) None

-- a cell write at two places, if both are there
abbrev pub write_at : ValueBytes → Option ℕ → Option ℕ → List CellOp
write_at value (Some row) (Some col) = Set row col value ∷ []
write_at value _ _ = []

-- the pieces of a stage
abbrev pub stage_pieces : List (TreeElement ℕ) → List (TreeElement ℕ) → GridStage → List CellOp
stage_pieces rows cols t = elim t.op [
  | SpliceIn target p count ↦ insertion_of t.stage target count (elim target as (λ _. List (TreeElement ℕ)) [ Rows ↦ rows | Cols ↦ cols ])
  | SpliceOut target p q ↦ removals_of t.stage target (elim target as (λ _. List (TreeElement ℕ)) [ Rows ↦ rows | Cols ↦ cols ])
  | Set i j value ↦ write_at value (place_before t.stage t.row rows) (place_before t.stage t.col cols)
]

-- whether the number is one of so many from the first on
abbrev pub is_due : ℕ → ℕ → ℕ → Bool
is_due first count k = nat_le first k && nat_lt k (first + count)

-- the stage, if it has a piece
abbrev pub kept_stage : List (TreeElement ℕ) → List (TreeElement ℕ) → GridStage → List GridStage
kept_stage rows cols t = elim (stage_pieces rows cols t) [ [] ↦ [] | _ ∷ _ ↦ t ∷ [] ]

-- the stages without those that are due and have no piece
abbrev pub stages_after : ℕ → ℕ → List (TreeElement ℕ) → List (TreeElement ℕ) → List GridStage → List GridStage
stages_after first count rows cols ts = flat_map (λ t. cond (is_due first count t.stage) (kept_stage rows cols t) (t ∷ [])) ts

-- the pieces of those that are due
abbrev pub due_pieces : ℕ → ℕ → List (TreeElement ℕ) → List (TreeElement ℕ) → List GridStage → List CellOp
due_pieces first count rows cols ts = flat_map (λ t. cond (is_due first count t.stage) (stage_pieces rows cols t) []) ts

-- whether there is a stage, and its number is due
abbrev pub is_due_at : ℕ → ℕ → Option GridStage → Bool
is_due_at first count None = false
is_due_at first count (Some t) = is_due first count t.stage

-- whether there is one
abbrev pub has_any : List CellOp → Bool
has_any [] = false
has_any (op ∷ ops) = true

-- the stage at place i is taken out, with its cell write
pub record DropsStage (i : ℕ) (t : GridStage) (old new : Grid) : Type 0 where
  pub stages : new.stages.items ≡ remove old.stages.items i
  pub cells : (r c : ℕ) → cell_at new.cells r c ≡ without_write t.stage (cell_at old.cells r c)
  pub rest : new ≡ record old { stages = new.stages; cells = new.cells }

-- the stage at place i is sent again, or taken out where it has no piece; the next one stands at a place then
pub record ResubmitsOne (i : ℕ) (t : GridStage) (old new : Grid) (ops more : List CellOp) (next : ℕ) : Type 0 where
  pub sent : more ≡ ops ++ stage_pieces (units_of old.rows) (units_of old.cols) t
  pub stays : has_any (stage_pieces (units_of old.rows) (units_of old.cols) t) ≡ true → (new ≡ old) × (next ≡ i + 1)
  pub drops : has_any (stage_pieces (units_of old.rows) (units_of old.cols) t) ≡ false → DropsStage i t old new × (next ≡ i)

-- the stages that are due are sent again as these pieces; those without one are gone, with their cell writes
pub record Resubmits (first count : ℕ) (old new : Grid) (ops : List CellOp) : Type 0 where
  pub stages : new.stages.items ≡ stages_after first count (units_of old.rows) (units_of old.cols) old.stages.items
  pub sent : ops ≡ due_pieces first count (units_of old.rows) (units_of old.cols) old.stages.items
  pub cells : (r c : ℕ) → cell_at new.cells r c ≡ record (cell_at old.cells r c) { pending = writes_to r c new.stages.items }
  pub rest : new ≡ record old { stages = new.stages; cells = new.cells }

-- of these stages just those in the middle are due
pub record AreDue (first count : ℕ) (before mine rest : List Named) : Type 0 where
  pub front : AllByRecursion (λ t. is_due first count t.stage ≡ false) before
  pub due : AllByRecursion (λ t. is_due first count t.stage ≡ true) mine
  pub behind : AllByRecursion (λ t. is_due first count t.stage ≡ false) rest

-- an edit is sent again as this operation, where any of it is left, and those of its stages of which nothing is left are gone
pub record SendsAgain (first count : ℕ) (old new : Grid) (op : Option GridOp) : Type 0 where
  pub sound : IsSound new
  pub floor : new.rows.tree.floor ≡ old.rows.tree.floor
  pub answer : (last : ℕ) (doc : Document) (before mine rest : List Named) → Holds last old doc (before ++ (mine ++ rest))
      → AreDue first count before mine rest → list_all is_grid_stage mine ≡ true → option_map OfGrid op ≡ op_of (flat_map (pieces doc) mine)
  pub holds : (last : ℕ) (doc : Document) (before mine rest : List Named) → Holds last old doc (before ++ (mine ++ rest))
      → AreDue first count before mine rest → HoldsGrid (grid_state new 0 true) doc (before ++ (flat_map (carried_stage doc) mine ++ rest))
