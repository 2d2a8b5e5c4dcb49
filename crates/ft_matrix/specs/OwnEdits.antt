-- What a client's own operations make of a grid. No public clause cites this module.
use Rattle.std.specs.Prelude.{◌≡◌, ℕ, ◌+◌, ◌-◌, cond, nat_le, nat_lt, List, [], ◌∷◌, ◌++◌, Option, Some, None, Result, Ok, Err, length, map, true}
use Rattle.ft_base.specs.Scan.{len}
use Rattle.ft_block.specs.Leaves.{last_stage}
use Rattle.ft_op.specs.declared.operations.CellOp.{CellOp}
use Rattle.ft_op.specs.declared.operations.CellOp.TheVariants.{SpliceIn, SpliceOut, Set}
use Rattle.ft_op.specs.declared.operations.Target.TheVariants.{Rows, Cols}
use Rattle.ft_msg.specs.declared.faults.EditFault.{EditFault}
use Rattle.ft_msg.specs.declared.faults.EditFault.TheVariants.{OutOfRange}
use Rattle.ft_op.specs.Operation.{OnGrid, SubOperation}
use Rattle.ft_op.specs.Intervals.{NamedElements}
use Rattle.ft_op.specs.Document.{Document}
use Rattle.ft_op.specs.Stages.{Stage}
use Rattle.ft_msg.specs.Client.{local_grid, local_sub_operations}
use Rattle.ft_tree_leaves.specs.Elements.{seen_in}
use Rattle.ft_perm.specs.Vectors.{VectorState}
use Rattle.ft_props.specs.Properties.{ValueBytes}
use Rattle.ft_matrix.specs.declared.grid.Grid.{Grid}
use Rattle.ft_matrix.specs.declared.stages.GridStage.{GridStage}
use Rattle.ft_matrix.specs.Applied.{Holds}
use Rattle.ft_matrix.specs.GridStates.{grid_state}
use Rattle.ft_matrix.specs.HoldsGrid.{HoldsGrid}
use Rattle.ft_matrix.specs.Units.{units_of}

-- the stage of an operation of the grid
abbrev pub stage_of : ℕ → CellOp → NamedElements → Stage
stage_of k op names = record { stage = k; sub_operation = OnGrid op; names = names }

-- the stage of a write to a cell, where its row and its column have these handles
abbrev pub write_stage : ℕ → ℕ → ℕ → ValueBytes → ℕ → ℕ → GridStage
write_stage k i j value row col = record { stage = k; op = Set i j value; row = Some row; col = Some col }

-- the grid took an operation as stage k, the one above the last, and holds what that makes of the document
pub record TakesStage (last k : ℕ) (g : Grid) (doc : Document) (stages : List Stage) (op : CellOp) : Type 0 where
  pub later : Document
  pub names : NamedElements
  pub is : local_grid doc k op ≡ Ok (later, names)
  pub now : Holds (last + 1) g later (stages ++ stage_of k op names ∷ [])

-- it took the operation, or the operation is refused with the length of the list concerned, and then nothing changed
abbrev pub EditsOne : ℕ → ℕ → Document → List Stage → CellOp → Grid → Grid → Option ℕ → Type 0
EditsOne last k doc stages op old new None = TakesStage last k new doc stages op
EditsOne last k doc stages op old new (Some n) = (local_grid doc k op ≡ Err (OutOfRange n)) × (new ≡ old)

-- it took sub-operations as the stages from k on
pub record TakesStages (last k : ℕ) (g : Grid) (doc : Document) (stages : List Stage) (ops : List SubOperation) : Type 0 where
  pub later : Document
  pub taken : List Stage
  pub is : local_sub_operations doc stages k ops ≡ Ok (later, taken)
  pub count : length taken ≡ length ops
  pub holds : HoldsGrid (grid_state g 0 true) later (stages ++ taken)

-- it took them, or they are refused with the length of the list concerned, and then nothing changed
abbrev pub EditsAll : ℕ → ℕ → Document → List Stage → List SubOperation → Grid → Grid → Option ℕ → Type 0
EditsAll last k doc stages ops old new None = TakesStages last k new doc stages ops
EditsAll last k doc stages ops old new (Some n) = (local_sub_operations doc stages k ops ≡ Err (OutOfRange n)) × (new ≡ old)

-- these stages, and then those of a result
abbrev pub behind : List Stage → Result (Document × List Stage) EditFault → Result (Document × List Stage) EditFault
behind stages (Ok made) = Ok (made.0, stages ++ made.1)
behind stages (Err fault) = Err fault

-- it took the first of some operations, i of them, and the rest makes behind their stages what all make
pub record TakesSome (last k i : ℕ) (g : Grid) (doc : Document) (stages : List Stage) (all rest : List CellOp) : Type 0 where
  pub between : Document
  pub taken : List Stage
  pub count : length taken ≡ i
  pub now : Holds (last + i) g between (stages ++ taken)
  pub same : behind taken (local_sub_operations between (stages ++ taken) (k + i) (map (λ op. OnGrid op) rest))
      ≡ local_sub_operations doc stages k (map (λ op. OnGrid op) all)

-- how many rows and columns are seen after an operation where so many were before, or the length of the list concerned where
-- it is out of range
abbrev pub lengths_after : ℕ → ℕ → CellOp → Result (ℕ × ℕ) ℕ
lengths_after r c (SpliceIn Rows p count) = cond (nat_le p r) (Ok (r + count, c)) (Err r)
lengths_after r c (SpliceIn Cols p count) = cond (nat_le p c) (Ok (r, c + count)) (Err c)
lengths_after r c (SpliceOut Rows p q) = cond (nat_le q r) (Ok (r - (q - p), c)) (Err r)
lengths_after r c (SpliceOut Cols p q) = cond (nat_le q c) (Ok (r, c - (q - p))) (Err c)
lengths_after r c (Set i j value) = cond (nat_lt i r) (cond (nat_lt j c) (Ok (r, c)) (Err c)) (Err r)

-- the length with which the first operation that is out of range is refused
abbrev pub refusal : ℕ → ℕ → List CellOp → Option ℕ
refusal r c [] = None
refusal r c (op ∷ ops) = elim (lengths_after r c op) [ Err n ↦ Some n | Ok lengths ↦ refusal lengths.0 lengths.1 ops ]

-- how many units are seen with all that is pending
abbrev pub seen_units : VectorState → ℕ
seen_units v = len (seen_in last_stage) (units_of v)

-- how many rows and columns of a grid are seen after an operation that it took, or the length with which it is refused
abbrev pub counts_after : Grid → Option ℕ → Result (ℕ × ℕ) ℕ
counts_after g None = Ok (seen_units g.rows, seen_units g.cols)
counts_after g (Some n) = Err n

-- what an operation makes of the numbers of rows and columns seen, or with what it is refused, is told by these numbers
abbrev pub Counts : CellOp → Grid → Grid → Option ℕ → Type 0
Counts op old new refused = lengths_after (seen_units old.rows) (seen_units old.cols) op ≡ counts_after new refused
