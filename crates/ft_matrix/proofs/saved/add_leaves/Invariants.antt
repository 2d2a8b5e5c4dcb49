use Rattle.std.proofs.Common.{length}
use Rattle.ft_tree_blocks.specs.Walks.{from_place}
use Rattle.ft_matrix.proofs.SavedRuns.{SavesSoFar}
use Rattle.ft_matrix.proofs.saved.add_leaves.Given as goal

abbrev pub invariant-loop-next : goal.invariant-loop-next
invariant-loop-next l = SavesSoFar l.min l.tree.leaves l.next l.runs.items

abbrev pub decreases-loop-next : goal.decreases-loop-next
decreases-loop-next l = length (from_place l.tree.leaves l.next)
