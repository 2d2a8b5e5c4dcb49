use Rattle.std.proofs.Common.{length, refl}
use Rattle.ft_tree_blocks.specs.Walks.{from_place}
use Rattle.ft_text.specs.Shows.{leaf_origins, origins_in}
use Rattle.ft_named.proofs.LeafWalks.{Walks}
use Rattle.ft_text.proofs.ShownElements.{origins-step}
use Rattle.ft_text.proofs.shown.origins_of.Given as goal

abbrev pub invariant-loop-next : goal.invariant-loop-next
invariant-loop-next l = Walks origins_in leaf_origins refl origins-step l.tree.leaves l.next l.origins

abbrev pub decreases-loop-next : goal.decreases-loop-next
decreases-loop-next l = length (from_place l.tree.leaves l.next)
