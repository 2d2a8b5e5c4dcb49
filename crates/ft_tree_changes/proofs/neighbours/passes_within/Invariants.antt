use Rattle.std.proofs.Common.{◌≡◌, ◌+◌, ◌≤◌, Some, length, true}
use Rattle.ft_block.specs.Leaves.{IsPlaceIn}
use Rattle.ft_tree_leaves.specs.Elements.{seen_in}
use Rattle.ft_tree_leaves.specs.LeafLists.{elements}
use Rattle.ft_tree_blocks.specs.Walks.{from_place}
use Rattle.ft_tree_changes.specs.StandingElements.{pass_from_front}
use Rattle.ft_tree_changes.proofs.LeafWalks.{held_from}
use Rattle.ft_tree_changes.proofs.neighbours.passes_within.Given as goal

-- all pass if those from the next leaf on do
abbrev pub invariant-loop-next : goal.invariant-loop-next
invariant-loop-next g l =
    let us = g.C.Content.units in
    let by = g.C.Content.by in
    let xs = l.tree.leaves in
    let passes = pass_from_front (seen_in l.view) l.p l.q in
    record {
      live : IsPlaceIn xs l.next;
      seen : l.place + length (held_from us by xs l.next) ≤ length (elements us by xs);
      all : passes l.place (held_from us by xs l.next) ≡ true → passes l.fn.front.seen (held_from us by xs (Some l.fn.front.leaf)) ≡ true;
    }

abbrev pub decreases-loop-next : goal.decreases-loop-next
decreases-loop-next g l = length (from_place l.tree.leaves l.next)
