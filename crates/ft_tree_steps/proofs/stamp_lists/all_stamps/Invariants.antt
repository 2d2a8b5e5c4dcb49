use Rattle.std.proofs.Common.{◌≡◌, ◌++◌, length, map}
use Rattle.ft_block.specs.Leaves.{IsPlaceIn}
use Rattle.ft_tree_leaves.specs.LeafLists.{elements}
use Rattle.ft_tree_blocks.specs.Walks.{from_place}
use Rattle.ft_tree_steps.proofs.stamp_lists.all_stamps.Given as goal

-- the stamps so far, and those of the rest, are all
abbrev pub invariant-loop-at : goal.invariant-loop-at
invariant-loop-at g l = record {
  stamps : l.items.items ++ map (λ e. e.stamps) (elements g.C.Content.units g.C.Content.by (from_place l.blocks.leaves l.at))
      ≡ map (λ e. e.stamps) (elements g.C.Content.units g.C.Content.by l.blocks.leaves);
  live : IsPlaceIn l.blocks.leaves l.at;
}

abbrev pub decreases-loop-at : goal.decreases-loop-at
decreases-loop-at g l = length (from_place l.blocks.leaves l.at)
