use Rattle.std.proofs.Common.{◌≡◌, true, drop, map}
use Rattle.ft_block.specs.Leaves.{ids}
use Rattle.ft_tree_leaves.specs.References.{KeepsReferences}
use Rattle.ft_rebase.specs.Normalised.{carried_by, carried_leaf}
use Rattle.ft_rebase.proofs.CarriedStages.{change_each}
use Rattle.ft_tree.specs.State.{KeepsRest}
use Rattle.ft_rebase.proofs.normalisation.carry_stage.Given as goal

-- after the leaves that are left are carried too, all are
abbrev pub invariant-loop-leaf : goal.invariant-loop-leaf
invariant-loop-leaf g l = record {
  leaves : change_each carried_leaf (drop l.leaf-index l.leaf-items) l.tree.leaves ≡ map (carried_by l.stage) l.fn.tree.leaves;
  nodes : ids l.tree.leaves ≡ ids l.fn.tree.leaves;
  refs : KeepsReferences l.fn.tree.refs l.tree.refs;
  rest : KeepsRest l.fn.tree l.tree;
  made : l.tree.made ≡ l.fn.tree.made;
  usable : l.tree.usable ≡ true;
}
