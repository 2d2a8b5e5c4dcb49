use Rattle.std.proofs.Common.{◌≡◌, ◌+◌, ◌≤◌, [], length}
use Rattle.ft_block.specs.Leaves.{IsPlaceIn}
use Rattle.ft_sumdoc.specs.WellFormed.{same_props}
use Rattle.ft_tree_leaves.specs.Elements.{seen_in, with_overlay}
use Rattle.ft_tree_leaves.specs.LeafLists.{elements}
use Rattle.ft_tree_blocks.specs.Walks.{from_place}
use Rattle.ft_changes.proofs.RunsInOrder.{changed_places, with_all_changed}
use Rattle.ft_tree_changes.specs.ShownOverlays.{annotated, shown_of_element}
use Rattle.ft_tree_changes.proofs.LeafWalks.{held_from}
use Rattle.ft_tree_changes.proofs.annotations.annotated_behind.Given as goal

-- the runs so far, with the places of the rest behind them, are those of all places
abbrev pub invariant-loop-next : goal.invariant-loop-next
invariant-loop-next g l =
    let us = g.C.Content.units in
    let by = g.C.Content.by in
    let xs = l.tree.leaves in
    let places = changed_places same_props shown_of_element (with_overlay {U = g.row.C-Unit.Denot} (annotated l.annotation)) in
    record {
      live : IsPlaceIn xs l.next;
      seen : l.place + length (held_from us by xs l.next) ≤ length (elements us by xs);
      shown : l.before + length (held_from us by xs l.next) ≤ length (elements us by xs);
      all : with_all_changed same_props l.runs.items (places l.place l.before (seen_in l.view) (seen_in l.shown) l.p l.q (held_from us by xs l.next))
          ≡ with_all_changed same_props [] (places 0 0 (seen_in l.view) (seen_in l.shown) l.p l.q (elements us by xs));
    }

abbrev pub decreases-loop-next : goal.decreases-loop-next
decreases-loop-next g l = length (from_place l.tree.leaves l.next)
