-- What the calls of a shared table ask of it holds of the table of each client.
use Rattle.std.specs.Prelude.{◌<◌, ℕ}
use Rattle.ft_op.specs.Document.{Document}
use Rattle.ft_msg.specs.Client.{NaiveClient, floor, stages_of}
use Rattle.ft_laws_compaction.specs.Keeping.{IsMadeOrKept}
use Rattle.ft_laws_names.specs.GridFacts.{AreCounted}
use Rattle.ft_laws_names.specs.WellNamed.{IsWellNamed}
use Rattle.ft_matrix.specs.Conditions.{AreFreeUnits, IsAboveAll}
use Rattle.ft_matrix.specs.GridStates.{GridState}
use Rattle.ft_matrix.specs.HoldsGrid.{HoldsGrid}

-- names fit, and splices are counted; stages above the last one are above all that is pending; what was removed at or below the floor
-- may be taken out
pub record MeetsConditions (p : NaiveClient) (s : GridState) : Type 0 where
  pub named : IsWellNamed p
  pub counted : AreCounted p.doc (stages_of p)
  pub above : (k : ℕ) → p.last_stage < k → IsAboveAll k s
  pub free : AreFreeUnits (floor p) s

-- so it is in the table of each client that its steps made, or that keeps one which they made
abbrev pub ClientGridsMeetConditions : Type 0
ClientGridsMeetConditions = (start : Document) (p : NaiveClient) (s : GridState) → IsMadeOrKept start p → HoldsGrid s p.doc (stages_of p) → MeetsConditions p s
