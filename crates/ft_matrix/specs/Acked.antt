-- What the acknowledgement of a pending stage makes of a grid. No public clause cites this module.
use Rattle.std.specs.Prelude.{◌≡◌, ◌<◌, ◌≤◌, ℕ, ◌+◌, true, cond, nat_eq, List, [], ◌∷◌, ◌++◌, Option, Some, None, map}
use Rattle.std.specs.List.{AllByRecursion}
use Rattle.ft_op.specs.declared.operations.CellOp.{CellOp}
use Rattle.ft_op.specs.declared.operations.CellOp.TheVariants.{SpliceIn}
use Rattle.ft_op.specs.declared.operations.Target.TheVariants.{Rows, Cols}
use Rattle.ft_props.specs.Element.{ElementId}
use Rattle.ft_op.specs.Document.{Document}
use Rattle.ft_op.specs.Stages.{Stage}
use Rattle.ft_msg.specs.Acknowledgement.{ack_stages, renamed_stage}
use Rattle.ft_cells.specs.CellTables.{acked_write, cell_at}
use Rattle.ft_perm.specs.Handles.{numbers_from}
use Rattle.ft_laws_names.specs.GridFacts.{AreCounted, IsCounted}
use Rattle.ft_matrix.specs.declared.grid.Grid.{Grid}
use Rattle.ft_matrix.specs.declared.stages.GridStage.{GridStage}
use Rattle.ft_matrix.specs.Applied.{Holds}
use Rattle.ft_matrix.specs.Conditions.{AreOldest, HasItsMarks}
use Rattle.ft_matrix.specs.GridStates.{grid_state}
use Rattle.ft_matrix.specs.HoldsGrid.{HoldsGrid}
use Rattle.ft_matrix.specs.Sound.{IsSound}
use Rattle.ft_matrix.specs.Splices.{AcksUnits}

-- the stages without the first, if that has this number
abbrev pub after_stage : ℕ → List GridStage → List GridStage
after_stage k [] = []
after_stage k (t ∷ stages) = cond (nat_eq t.stage k) stages (t ∷ stages)

-- the first stage, if it has this number
abbrev pub acked_stage : ℕ → List GridStage → Option GridStage
acked_stage k [] = None
acked_stage k (t ∷ stages) = cond (nat_eq t.stage k) (Some t) None

-- how many rows an operation puts in
abbrev pub rows_put : CellOp → ℕ
rows_put (SpliceIn Rows p count) = count
rows_put _ = 0

-- how many columns an operation puts in
abbrev pub cols_put : CellOp → ℕ
cols_put (SpliceIn Cols p count) = count
cols_put _ = 0

-- how many rows a stage puts in, if there is one
abbrev pub rows_put_by : Option GridStage → ℕ
rows_put_by None = 0
rows_put_by (Some t) = rows_put t.op

-- how many columns it puts in
abbrev pub cols_put_by : Option GridStage → ℕ
cols_put_by None = 0
cols_put_by (Some t) = cols_put t.op

-- the units that an operation puts in are counted
pub record CountsUnits (op : CellOp) (old new : Grid) : Type 0 where
  pub rows_made : new.rows_made ≡ old.rows_made + rows_put op
  pub cols_made : new.cols_made ≡ old.cols_made + cols_put op
  pub rest : new ≡ record old { rows_made = new.rows_made; cols_made = new.cols_made }

-- the stage is sequenced: its units and marks, its cell write, and how many units were made
pub record AcksStage (k s c : ℕ) (old new : Grid) : Type 0 where
  pub rows : AcksUnits k s c old.rows new.rows
  pub cols : AcksUnits k s c old.cols new.cols
  pub cells : (row col : ℕ) → cell_at new.cells row col ≡ acked_write k (cell_at old.cells row col)
  pub stages : new.stages.items ≡ after_stage k old.stages.items
  pub rows_made : new.rows_made ≡ old.rows_made + rows_put_by (acked_stage k old.stages.items)
  pub cols_made : new.cols_made ≡ old.cols_made + cols_put_by (acked_stage k old.stages.items)

-- the first stages of an edit are sequenced, where these of it are left: what they make of the document so far is what all make
-- of the one at first
pub record AcksSome (last s c : ℕ) (g : Grid) (doc : Document) (acked left rest : List Stage) : Type 0 where
  pub between : Document
  pub rename : ElementId → ElementId
  pub now : Holds last g between (map (renamed_stage rename) (left ++ rest))
  pub same : ack_stages s c rename left between ≡ ack_stages s c (λ i. i) acked doc
  pub counted : AllByRecursion (λ t. IsCounted between t.stage t.sub_operation) left

-- the numbers below k were taken: these stages of the edit are left, all from k on up to before `end`
pub record AcksWithin (last s c : ℕ) (g : Grid) (doc : Document) (acked rest : List Stage) (k end : ℕ) : Type 0 where
  pub left : List Stage
  pub some : AcksSome last s c g doc acked left rest
  pub marks : HasItsMarks (left ++ rest) some.between
  pub from : AllByRecursion (λ t. k ≤ t.stage) left
  pub below : AllByRecursion (λ t. t.stage < end) left
  pub behind : AllByRecursion (λ t. end ≤ t.stage) rest

-- all stages of an edit are
pub record AcksStages (first count s c : ℕ) (old new : Grid) : Type 0 where
  pub sound : IsSound new
  pub floor : new.rows.tree.floor ≡ old.rows.tree.floor
  pub acked : (last : ℕ) (doc : Document) (acked rest : List Stage) → Holds last old doc (acked ++ rest)
      → map (λ t. t.stage) acked ≡ numbers_from first count → AreCounted doc acked
      → HoldsGrid (grid_state new 0 true) (ack_stages s c (λ i. i) acked doc).0 (map (renamed_stage (ack_stages s c (λ i. i) acked doc).1) rest)
  pub within : (last : ℕ) (doc : Document) (acked rest : List Stage) → Holds last old doc (acked ++ rest) → AreOldest first (first + count) acked rest
      → HasItsMarks (acked ++ rest) doc → AreCounted doc acked
      → HoldsGrid (grid_state new 0 true) (ack_stages s c (λ i. i) acked doc).0 (map (renamed_stage (ack_stages s c (λ i. i) acked doc).1) rest)
