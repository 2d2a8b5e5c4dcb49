use Rattle.std.proofs.Common.{length}
use Rattle.ft_tree_blocks.specs.Walks.{from_place}
use Rattle.ft_text.proofs.ShownLeaves.{ShowsSoFar}
use Rattle.ft_text.proofs.shown.show_all.Given as goal

abbrev pub invariant-loop-next : goal.invariant-loop-next
invariant-loop-next l = ShowsSoFar l.tree.leaves l.next l.shown

abbrev pub decreases-loop-next : goal.decreases-loop-next
decreases-loop-next l = length (from_place l.tree.leaves l.next)
