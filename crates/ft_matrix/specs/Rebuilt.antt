-- What a reconnection makes of rows and columns. No public clause cites this module.
use Rattle.std.specs.Prelude.{◌≡◌, ℕ, List, true}
use Rattle.ft_op.specs.Document.{Document}
use Rattle.ft_op.specs.Stages.{Stage}
use Rattle.ft_msg.specs.Reconnection.{rebuilt_document}
use Rattle.ft_named.specs.Nodes.{KeepsNodes}
use Rattle.ft_rebase.specs.Normalised.{rebuilt_list}
use Rattle.ft_rebase.specs.StageLists.{StagesUpTo}
use Rattle.ft_perm.specs.Vectors.{VectorState, in_use}
use Rattle.ft_matrix.specs.declared.grid.Grid.{Grid}
use Rattle.ft_matrix.specs.Applied.{Holds}
use Rattle.ft_matrix.specs.Conditions.{AreItsStages}
use Rattle.ft_matrix.specs.GridStates.{grid_state}
use Rattle.ft_matrix.specs.HoldsGrid.{HoldsGrid}
use Rattle.ft_matrix.specs.Sound.{IsSound}
use Rattle.ft_matrix.specs.Units.{units_of}

-- the pending units of a vector are put in afresh
pub record RebuildsUnits (old new : VectorState) : Type 0 where
  pub units : (last : ℕ) → StagesUpTo (λ e. e.stamps) last (units_of old) → units_of new ≡ rebuilt_list last (units_of old)
  pub used : (h : ℕ) → in_use new h ≡ in_use old h
  pub floor : new.tree.floor ≡ old.tree.floor
  pub nodes : KeepsNodes old.tree.leaves new.tree.leaves

-- those of rows and of columns are
pub record RebuildsGrid (old new : Grid) : Type 0 where
  pub sound : IsSound new
  pub floor : new.rows.tree.floor ≡ old.rows.tree.floor
  pub rebuilt : (last : ℕ) (doc : Document) (stages : List Stage) (numbers : List ℕ) → Holds last old doc stages → AreItsStages last numbers doc
      → HoldsGrid (grid_state new 0 true) (rebuilt_document numbers doc) stages
  pub rows_nodes : KeepsNodes old.rows.tree.leaves new.rows.tree.leaves
  pub cols_nodes : KeepsNodes old.cols.tree.leaves new.cols.tree.leaves
