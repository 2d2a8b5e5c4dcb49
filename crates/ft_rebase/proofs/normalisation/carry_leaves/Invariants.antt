use Rattle.std.proofs.Common.{◌≡◌, ℕ, true, map}
use Rattle.ft_tree_leaves.specs.References.{KeepsReferences}
use Rattle.ft_rebase.specs.Normalised.{carried_by, carried_pair}
use Rattle.ft_rebase.proofs.CarriedStages.{stages_left}
use Rattle.ft_rebase.proofs.NextStages.{IsBelow}
use Rattle.ft_tree.specs.State.{KeepsRest}
use Rattle.ft_rebase.proofs.normalisation.carry_leaves.Given as goal

-- the leaves are still to become the same, and no stage below the next one changes any of them
abbrev pub invariant-loop-next : goal.invariant-loop-next
invariant-loop-next g l = record {
  leaves : map carried_pair l.tree.leaves ≡ map carried_pair l.fn.tree.leaves;
  done : (j : ℕ) → IsBelow j l.next → map (carried_by j) l.tree.leaves ≡ l.tree.leaves;
  refs : KeepsReferences l.fn.tree.refs l.tree.refs;
  rest : KeepsRest l.fn.tree l.tree;
  made : l.tree.made ≡ l.fn.tree.made;
  usable : l.tree.usable ≡ true;
}

abbrev pub decreases-loop-next : goal.decreases-loop-next
decreases-loop-next g l = stages_left l.next
