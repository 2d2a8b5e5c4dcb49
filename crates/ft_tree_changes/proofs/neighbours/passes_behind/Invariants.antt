use Rattle.std.proofs.Common.{◌≡◌}
use Rattle.ft_block.specs.Leaves.{IsPlaceIn}
use Rattle.ft_changes.specs.Beside.{first_passes}
use Rattle.ft_tree_changes.specs.StandingElements.{is_always_seen, is_standing}
use Rattle.ft_tree_changes.proofs.LeafWalks.{held_from}
use Rattle.ft_tree_changes.proofs.neighbours.passes_behind.Given as goal

-- the first that stands from the next leaf on is the first of all
abbrev pub invariant-loop-i : goal.invariant-loop-i
invariant-loop-i g l =
    let us = g.C.Content.units in
    let by = g.C.Content.by in
    let xs = l.tree.leaves in
    record {
      live : IsPlaceIn xs l.next;
      same : first_passes is_standing is_always_seen (held_from us by xs l.next)
          ≡ first_passes is_standing is_always_seen (held_from us by xs l.fn.from);
    }
