use Rattle.std.proofs.Common.{◌≡◌, ◌++◌, ℕ, List, drop, map}
use Rattle.ft_op.specs.Document.{Document}
use Rattle.ft_op.specs.Stages.{Stage}
use Rattle.ft_laws_names.specs.GridFacts.{AreCounted}
use Rattle.ft_laws_names.specs.WellNamed.{AreWellNamed}
use Rattle.ft_matrix.specs.Conditions.{KeepsRest}
use Rattle.ft_matrix.specs.HoldsGrid.{HoldsGrid}
use Rattle.ft_client.specs.Acks.{AcksSome}
use Rattle.ft_client.specs.Parts.{own_stage}
use Rattle.ft_client.proofs.own.acks.ack_each.Given as goal

-- the first stages are sequenced, and the rest makes of the document so far what all make of the one at first
abbrev pub invariant-loop-stage : goal.invariant-loop-stage
invariant-loop-stage l = record {
  keeps : KeepsRest l.initial.table l.table;
  acked : (last : ℕ) (doc : Document) (mine rest : List Stage) → map own_stage mine ≡ l.own → AreWellNamed last doc (mine ++ rest) → AreCounted doc mine
      → HoldsGrid l.initial.table doc (mine ++ rest) → AcksSome last l.seq l.conn l.table doc mine (drop l.stage-index mine) rest;
}
