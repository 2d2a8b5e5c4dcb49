use Rattle.std.proofs.Common.{◌≡◌, drop}
use Rattle.std.specs.List.{AllByRecursion}
use Rattle.ft_op.specs.WellFormed.{IsWellFormedCell}
use Rattle.ft_matrix.specs.OwnEdits.{refusal}
use Rattle.ft_matrix.proofs.grid.Grid.refusal.Given as goal

-- the rest of the operations is refused as all are from the lengths at first
abbrev pub invariant-loop-op : goal.invariant-loop-op
invariant-loop-op l = record {
  formed : AllByRecursion IsWellFormedCell (drop l.op-index l.ops);
  same : refusal l.rows l.cols (drop l.op-index l.ops) ≡ refusal l.initial.rows l.initial.cols l.ops;
}
