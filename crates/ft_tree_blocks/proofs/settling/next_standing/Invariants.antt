use Rattle.ft_block.specs.Leaves.{IsPlaceIn}
use Rattle.ft_tree_leaves.specs.Settling.{stands}
use Rattle.ft_tree_blocks.specs.Skips.{Skips}
use Rattle.ft_tree_blocks.specs.Walks.{from_place}
use Rattle.std.proofs.Common.{length}
use Rattle.ft_tree_blocks.proofs.settling.next_standing.Given as goal

-- none that was passed will do
abbrev pub invariant-loop-at : goal.invariant-loop-at
invariant-loop-at g l = record {
  skips : Skips g.C.Content.units g.C.Content.by (stands l.test) l.blocks.leaves l.fn.from l.at;
  live : IsPlaceIn l.blocks.leaves l.at;
}

abbrev pub decreases-loop-at : goal.decreases-loop-at
decreases-loop-at g l = length (from_place l.blocks.leaves l.at)
