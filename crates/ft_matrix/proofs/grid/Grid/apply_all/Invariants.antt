use Rattle.std.proofs.Common.{◌≡◌, ◌<◌, ◌^◌, ℕ, List, drop}
use Rattle.std.specs.List.{AllByRecursion}
use Rattle.ft_op.specs.Document.{Document}
use Rattle.ft_op.specs.Stages.{Stage}
use Rattle.ft_op.specs.WellFormed.{IsWellFormedCell}
use Rattle.ft_matrix.specs.Sound.{IsSound}
use Rattle.ft_matrix.specs.Applied.{Holds, PassesSome}
use Rattle.ft_matrix.specs.Told.{HasStagesTo}
use Rattle.ft_matrix.proofs.ToldUnits.{HearsSome}
use Rattle.ft_matrix.proofs.grid.Grid.apply_all.Given as goal

-- the rest of the operations makes of the document so far what all make of the one at first, and the listener hears the rest of what
-- is told of all
abbrev pub invariant-loop-op : goal.invariant-loop-op
invariant-loop-op g l = record {
  sound : IsSound l.self;
  floor : l.self.rows.tree.floor ≡ l.initial.self.rows.tree.floor;
  formed : AllByRecursion IsWellFormedCell (drop l.op-index l.ops);
  applied : (last : ℕ) (doc : Document) (stages : List Stage) → Holds last l.initial.self doc stages
      → PassesSome last l.seq l.at.c l.at.r l.self l.ops (drop l.op-index l.ops) doc stages l.skipped;
  told : (last : ℕ) (doc : Document) (stages : List Stage) → last < 2 ^ 64 → Holds last l.initial.self doc stages → HasStagesTo last doc
      → HearsSome last l.seq l.at l.self l.initial.listener l.listener l.ops (drop l.op-index l.ops) doc stages;
}
