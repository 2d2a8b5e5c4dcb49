use Rattle.std.proofs.Common.{◌≡◌, ◌+◌, length}
use Rattle.ft_block.specs.Leaves.{IsPlaceIn}
use Rattle.ft_tree_leaves.specs.Elements.{is_pending, seen_in}
use Rattle.ft_tree_blocks.specs.Walks.{from_place}
use Rattle.ft_changes.specs.ShownRuns.{shown_in_run}
use Rattle.ft_tree_changes.proofs.LeafWalks.{held_from}
use Rattle.ft_tree_changes.proofs.insertions.shown_pending.Given as goal

-- what was passed, and the run from the next leaf on, are as many as at first
abbrev pub invariant-loop-next : goal.invariant-loop-next
invariant-loop-next g l =
    let us = g.C.Content.units in
    let by = g.C.Content.by in
    let xs = l.tree.leaves in
    record {
      live : IsPlaceIn xs l.next;
      run : l.count + shown_in_run is_pending (seen_in l.shown) (held_from us by xs l.next)
          ≡ shown_in_run is_pending (seen_in l.shown) (held_from us by xs l.fn.from);
    }

abbrev pub decreases-loop-next : goal.decreases-loop-next
decreases-loop-next g l = length (from_place l.tree.leaves l.next)
