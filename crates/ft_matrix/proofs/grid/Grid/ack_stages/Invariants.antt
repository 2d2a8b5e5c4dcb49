use Rattle.std.proofs.Common.{◌≡◌, ◌+◌, ◌≤◌, ◌++◌, ℕ, All, List, drop, map}
use Rattle.ft_op.specs.Document.{Document}
use Rattle.ft_op.specs.Stages.{Stage}
use Rattle.ft_perm.specs.Handles.{numbers_from}
use Rattle.ft_laws_names.specs.GridFacts.{AreCounted}
use Rattle.ft_matrix.specs.Acked.{AcksSome, AcksWithin}
use Rattle.ft_matrix.specs.Applied.{Holds}
use Rattle.ft_matrix.specs.Conditions.{AreOldest, HasItsMarks}
use Rattle.ft_matrix.specs.Sound.{IsSound}
use Rattle.ft_matrix.proofs.grid.Grid.ack_stages.Given as goal

-- the first stages are sequenced, and the rest makes of the document so far what all make of the one at first
abbrev pub invariant-loop-i : goal.invariant-loop-i
invariant-loop-i l = record {
  sound : IsSound l.self;
  lowest : All (λ t. l.first + l.i ≤ t.stage) l.self.stages.items;
  floor : l.self.rows.tree.floor ≡ l.initial.self.rows.tree.floor;
  acked : (last : ℕ) (doc : Document) (acked rest : List Stage) → Holds last l.initial.self doc (acked ++ rest)
      → map (λ t. t.stage) acked ≡ numbers_from l.first l.count → AreCounted doc acked
      → AcksSome last l.seq l.conn l.self doc acked (drop l.i acked) rest;
  within : (last : ℕ) (doc : Document) (acked rest : List Stage) → Holds last l.initial.self doc (acked ++ rest)
      → AreOldest l.first (l.first + l.count) acked rest → HasItsMarks (acked ++ rest) doc → AreCounted doc acked
      → AcksWithin last l.seq l.conn l.self doc acked rest (l.first + l.i) (l.first + l.count);
}
