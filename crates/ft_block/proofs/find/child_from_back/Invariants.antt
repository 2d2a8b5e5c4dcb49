use Rattle.std.proofs.Common.{◌≡◌, ◌≤◌, ◌+◌, length, take}
use Rattle.ft_shape.specs.Tree.{total, length_of}
use Rattle.ft_block.specs.Tree.{by_view}
use Rattle.ft_block.proofs.find.child_from_back.Given as goal

abbrev pub invariant-back : goal.invariant-back
invariant-back g l =
    record {
      few : length l.kids ≤ 8;
      inside : l.i ≤ length l.kids;
      passed : l.p + l.behind ≡ total (length_of (by_view g.L.Leaf.size g.L.Leaf.element l.view) l.arena) (take l.i l.kids);
      cost : l.steps + l.i ≤ l.initial.steps + length l.kids;
    }

abbrev pub decreases-back : goal.decreases-back
decreases-back g l = l.i
