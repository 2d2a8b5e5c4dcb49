use Rattle.std.proofs.Common.{◌≡◌, ◌≤◌, length, reverse, take}
use Rattle.ft_tree_leaves.specs.LeafLists.{elements}
use Rattle.ft_changes.specs.Beside.{first_passes}
use Rattle.ft_tree_changes.specs.StandingElements.{is_always_seen, is_standing}
use Rattle.ft_tree_changes.proofs.neighbours.passes_before.Given as goal

-- the last that stands of those that are left is the last of all
abbrev pub invariant-loop-i : goal.invariant-loop-i
invariant-loop-i g l =
    let all = elements g.C.Content.units g.C.Content.by l.tree.leaves in
    record {
      within : l.left ≤ length all;
      same : first_passes is_standing is_always_seen (reverse (take l.left all)) ≡ first_passes is_standing is_always_seen (reverse (take l.fn.count
          all));
    }
