use Rattle.std.proofs.Common.{◌≡◌, ◌≤◌, false, nat_eq, drop, length, take}
use Rattle.std.specs.List.{list_any}
use Rattle.ft_block.specs.Leaves.{IsPlaceIn}
use Rattle.ft_tree_blocks.specs.Walks.{from_place}
use Rattle.ft_perm.specs.Vectors.{seen_handles}
use Rattle.ft_perm.proofs.SeenRuns.{shown_runs}
use Rattle.ft_perm.proofs.vectors.Vector.place_of.Given as goal

-- none of the handles up to place p is the one, and behind it stand those of the leaves that are left
abbrev pub invariant-loop-next : goal.invariant-loop-next
invariant-loop-next l =
    let seen = seen_handles l.view l.self.tree in
    record {
      passed : list_any (λ h. nat_eq h l.handle) (take l.p seen) ≡ false;
      within : l.p ≤ length seen;
      from : drop l.p seen ≡ shown_runs l.view (from_place l.self.tree.leaves l.next);
      live : IsPlaceIn l.self.tree.leaves l.next;
    }

abbrev pub decreases-loop-next : goal.decreases-loop-next
decreases-loop-next l = length (from_place l.self.tree.leaves l.next)
