use Rattle.std.proofs.Common.{◌↔◌, drop}
use Rattle.std.specs.List.{AllByRecursion}
use Rattle.ft_op.specs.WellFormed.{IsWellFormedCell}
use Rattle.ft_op.proofs.well_formed.are_well_formed_cells.Given as goal

-- the members that are left decide
abbrev pub invariant-loop-op : goal.invariant-loop-op
invariant-loop-op l = AllByRecursion IsWellFormedCell (drop l.op-index l.ops) ↔ AllByRecursion IsWellFormedCell l.ops
