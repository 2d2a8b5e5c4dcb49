use Rattle.std.proofs.Common.{◌≡◌, ◌+◌, ◌≤◌, length}
use Rattle.std.specs.List.{prefix_len}
use Rattle.ft_block.specs.Leaves.{IsPlaceIn}
use Rattle.ft_tree_leaves.specs.Edits.{up_to_place}
use Rattle.ft_tree_leaves.specs.Elements.{is_pending}
use Rattle.ft_tree_leaves.specs.LeafLists.{elements, pending_leaves}
use Rattle.ft_tree_blocks.specs.Walks.{from_place, node_behind}
use Rattle.ft_tree_steps.proofs.cuts.behind_run.Given as goal

-- what is passed, and the run behind it, are as many elements as at first
abbrev pub invariant-loop-next : goal.invariant-loop-next
invariant-loop-next g l =
    let us = g.C.Content.units in
    let by = g.C.Content.by in
    let xs = l.blocks.leaves in
    record {
      next : l.next ≡ node_behind xs l.end;
      live : IsPlaceIn xs l.end;
      run : length (elements us by (up_to_place xs l.end)) + prefix_len is_pending (elements us by (from_place xs l.next))
          ≡ length (elements us by (up_to_place xs l.fn.at)) + prefix_len is_pending (elements us by (from_place xs (node_behind xs l.fn.at)));
      reads : l.steps + pending_leaves (from_place xs l.next) ≤ l.initial.steps + pending_leaves (from_place xs (node_behind xs l.fn.at));
    }

abbrev pub decreases-loop-next : goal.decreases-loop-next
decreases-loop-next g l = length (from_place l.blocks.leaves l.next)
