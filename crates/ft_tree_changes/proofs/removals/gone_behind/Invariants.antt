use Rattle.std.proofs.Common.{◌≡◌, ◌+◌, ◌≤◌, [], length}
use Rattle.ft_block.specs.Leaves.{IsPlaceIn}
use Rattle.ft_tree_leaves.specs.Elements.{seen_in}
use Rattle.ft_tree_leaves.specs.LeafLists.{elements}
use Rattle.ft_tree_blocks.specs.Walks.{from_place}
use Rattle.ft_changes.proofs.RunsInOrder.{gone_places, with_all_gone}
use Rattle.ft_tree_changes.proofs.LeafWalks.{held_from}
use Rattle.ft_tree_changes.proofs.removals.gone_behind.Given as goal

-- the runs so far, with the places of the rest behind them, are those of all places
abbrev pub invariant-loop-next : goal.invariant-loop-next
invariant-loop-next g l =
    let us = g.C.Content.units in
    let by = g.C.Content.by in
    let xs = l.tree.leaves in
    record {
      live : IsPlaceIn xs l.next;
      seen : l.place + length (held_from us by xs l.next) ≤ length (elements us by xs);
      shown : l.left + length (held_from us by xs l.next) ≤ length (elements us by xs);
      all : with_all_gone l.runs.items (gone_places l.place l.left (seen_in l.view) (seen_in l.shown) l.p l.q (held_from us by xs l.next))
          ≡ with_all_gone [] (gone_places 0 0 (seen_in l.view) (seen_in l.shown) l.p l.q (elements us by xs));
    }

abbrev pub decreases-loop-next : goal.decreases-loop-next
decreases-loop-next g l = length (from_place l.tree.leaves l.next)
