-- What an operation of a message makes of a grid. No public clause cites this module.
use Rattle.std.specs.Prelude.{◌≡◌, ℕ, ◌+◌, Bool, not, List, map, true}
use Rattle.ft_base.specs.Scan.{one_more_if}
use Rattle.ft_op.specs.declared.operations.CellOp.{CellOp}
use Rattle.ft_op.specs.Operation.{OnGrid}
use Rattle.ft_op.specs.Document.{Document, effects}
use Rattle.ft_op.specs.Stages.{Stage}
use Rattle.ft_laws_names.specs.WellNamed.{AreWellNamed}
use Rattle.ft_matrix.specs.declared.grid.Grid.{Grid}
use Rattle.ft_matrix.specs.GridStates.{grid_state}
use Rattle.ft_matrix.specs.HoldsGrid.{HoldsGrid}

-- the grid holds the part of a document whose names fit
pub record Holds (last : ℕ) (g : Grid) (doc : Document) (stages : List Stage) : Type 0 where
  pub named : AreWellNamed last doc stages
  pub holds : HoldsGrid (grid_state g 0 true) doc stages

-- after so many skipped sub-operations it holds the part of the later document
pub record Passes (last : ℕ) (g : Grid) (doc later : Document) (stages : List Stage) (count : ℕ) : Type 0 where
  pub now : Holds last g later stages
  pub skipped : later.skipped ≡ doc.skipped + count

-- one more is skipped where an operation isn't taken
abbrev pub skips : Bool → ℕ
skips taken = one_more_if (not taken) 0

-- some of the operations are done, and the rest makes of the document so far what all make of the one at first
pub record PassesSome (last s c r : ℕ) (g : Grid) (all rest : List CellOp) (doc : Document) (stages : List Stage) (count : ℕ) : Type 0 where
  pub between : Document
  pub passes : Passes last g doc between stages count
  pub same : effects between s c r (map (λ op. OnGrid op) rest) ≡ effects doc s c r (map (λ op. OnGrid op) all)
