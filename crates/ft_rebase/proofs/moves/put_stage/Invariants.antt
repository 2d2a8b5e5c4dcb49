use Rattle.std.proofs.Common.{◌≡◌, true, vec_len}
use Rattle.ft_rebase.specs.Moves.{leaf_stamps}
use Rattle.ft_rebase.specs.StageLists.{inserted_by}
use Rattle.ft_rebase.proofs.StageMoves.{MovesBlock}
use Rattle.ft_rebase.specs.Spots.{KeepsSpots}
use Rattle.ft_tree.specs.State.{KeepsRest}
use Rattle.ft_rebase.proofs.moves.put_stage.Given as goal

-- the leaves behind those that are left were moved
abbrev pub invariant-loop-leaf : goal.invariant-loop-leaf
invariant-loop-leaf g l = record {
  moved : MovesBlock (inserted_by leaf_stamps l.stage) l.fn.tree.leaves l.at l.leaves.items l.tree.leaves;
  refs : KeepsSpots g.C.Content.units l.fn.tree l.tree;
  rest : KeepsRest l.fn.tree l.tree;
  made : l.tree.made ≡ l.fn.tree.made;
  usable : l.tree.usable ≡ true;
}

abbrev pub decreases-loop-leaf : goal.decreases-loop-leaf
decreases-loop-leaf g l = vec_len l.leaves
