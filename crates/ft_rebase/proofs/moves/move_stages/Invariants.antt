use Rattle.std.proofs.Common.{◌≡◌, true, drop}
use Rattle.ft_rebase.proofs.AllStages.{MovesLeft}
use Rattle.ft_rebase.specs.Spots.{KeepsSpots}
use Rattle.ft_tree.specs.State.{KeepsRest}
use Rattle.ft_rebase.proofs.moves.move_stages.Given as goal

-- the moves so far were made, and the others are left
abbrev pub invariant-loop-next : goal.invariant-loop-next
invariant-loop-next g l = record {
  left : MovesLeft g.C.Content.units l.fn.tree.leaves (drop l.next-index l.next-items) l.tree.leaves;
  refs : KeepsSpots g.C.Content.units l.fn.tree l.tree;
  rest : KeepsRest l.fn.tree l.tree;
  made : l.tree.made ≡ l.fn.tree.made;
  usable : l.tree.usable ≡ true;
}
