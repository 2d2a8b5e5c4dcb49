use Rattle.std.proofs.Common.{IsTrue, drop}
use Rattle.std.specs.List.{AllByRecursion}
use Rattle.ft_op.specs.WellFormed.{IsWellFormedBase}
use Rattle.ft_tests_string.specs.Playing.{Carries}
use Rattle.ft_tests_string.proofs.hearing.hear_all.Given as goal

abbrev pub invariant-loop-op : goal.invariant-loop-op
invariant-loop-op g l = record {
  usable : IsTrue l.tree.usable;
  carries : Carries l.fn.tree l.tree;
  formed : AllByRecursion IsWellFormedBase (drop l.op-index l.ops);
}
