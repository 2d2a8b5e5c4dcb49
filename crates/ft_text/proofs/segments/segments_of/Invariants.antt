use Rattle.std.proofs.Common.{length}
use Rattle.ft_tree_blocks.specs.Walks.{from_place}
use Rattle.ft_text.proofs.SavedLeaves.{AtLeaf}
use Rattle.ft_text.proofs.segments.segments_of.Given as goal

abbrev pub invariant-loop-next : goal.invariant-loop-next
invariant-loop-next l = AtLeaf l.min l.tree.leaves l.next l.segments

abbrev pub decreases-loop-next : goal.decreases-loop-next
decreases-loop-next l = length (from_place l.tree.leaves l.next)
