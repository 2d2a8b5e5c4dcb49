use Rattle.std.proofs.Common.{◌≡◌, ◌+◌, ◌≤◌, ℕ, List, None, drop, true}
use Rattle.std.specs.List.{AllByRecursion}
use Rattle.ft_op.specs.Document.{Document}
use Rattle.ft_op.specs.Stages.{Stage}
use Rattle.ft_op.specs.WellFormed.{IsWellFormedCell}
use Rattle.ft_matrix.specs.Applied.{Holds}
use Rattle.ft_matrix.specs.Conditions.{IsAboveAll}
use Rattle.ft_matrix.specs.GridStates.{grid_state}
use Rattle.ft_matrix.specs.OwnEdits.{TakesSome, refusal, seen_units}
use Rattle.ft_matrix.specs.Sound.{IsSound}
use Rattle.ft_matrix.proofs.ToldUnits.{HearsStages}
use Rattle.ft_matrix.proofs.grid.Grid.edit_all.Given as goal

-- the first operations are taken, and the rest, of which none is out of range, makes behind their stages what all make; and
-- the listener hears the rest of what is told of all
abbrev pub invariant-loop-op : goal.invariant-loop-op
invariant-loop-op g l = record {
  sound : IsSound l.self;
  floor : l.self.rows.tree.floor ≡ l.initial.self.rows.tree.floor;
  formed : AllByRecursion IsWellFormedCell (drop l.op-index l.ops);
  some : 1 ≤ l.stage;
  above : IsAboveAll l.stage (grid_state l.self 0 true);
  within : refusal (seen_units l.self.rows) (seen_units l.self.cols) (drop l.op-index l.ops) ≡ None;
  stage : l.stage ≡ l.first + l.op-index;
  edited : (last : ℕ) (doc : Document) (stages : List Stage) → l.first ≡ last + 1 → Holds last l.initial.self doc stages
      → TakesSome last l.first l.op-index l.self doc stages l.ops (drop l.op-index l.ops);
  told : (last : ℕ) (doc : Document) (stages : List Stage) → l.first ≡ last + 1 → Holds last l.initial.self doc stages
      → HearsStages last l.first l.op-index l.self l.initial.listener l.listener l.ops (drop l.op-index l.ops) doc stages;
}
