use Rattle.std.proofs.Common.{◌≡◌, length}
use Rattle.ft_block.specs.Leaves.{IsPlaceIn}
use Rattle.ft_tree_leaves.specs.Edits.{up_to_place}
use Rattle.ft_tree_leaves.specs.LeafLists.{elements}
use Rattle.ft_tree_leaves.specs.Settling.{stands}
use Rattle.ft_tree_blocks.specs.LastStanding.{last_from}
use Rattle.ft_tree_blocks.proofs.settling.last_standing.Given as goal

-- the last one of the rest is that of all
abbrev pub invariant-loop-at : goal.invariant-loop-at
invariant-loop-at g l = record {
  last : last_from (stands l.test) 0 (elements g.C.Content.units g.C.Content.by (up_to_place l.blocks.leaves l.at))
      ≡ last_from (stands l.test) 0 (elements g.C.Content.units g.C.Content.by (up_to_place l.blocks.leaves l.fn.from));
  live : IsPlaceIn l.blocks.leaves l.at;
}

abbrev pub decreases-loop-at : goal.decreases-loop-at
decreases-loop-at g l = length (up_to_place l.blocks.leaves l.at)
