use Rattle.std.proofs.Common.{◌≡◌, ◌≤◌, ◌+◌, ◌-◌, length, drop}
use Rattle.ft_shape.specs.Tree.{seek, total, length_of}
use Rattle.ft_block.specs.Tree.{by_view}
use Rattle.ft_block.proofs.find.child_from_front.Given as goal

abbrev pub invariant-loop-kid : goal.invariant-loop-kid
invariant-loop-kid g l =
    record {
      low : 1 ≤ l.rest;
      few : length l.kids ≤ 8;
      inside : l.i ≤ length l.kids;
      passed : l.p + total (length_of (by_view g.L.Leaf.size g.L.Leaf.element l.view) l.arena) (drop l.i l.kids) ≡ l.rest + total
          (length_of (by_view g.L.Leaf.size g.L.Leaf.element l.view) l.arena) l.kids;
      same : seek (length_of (by_view g.L.Leaf.size g.L.Leaf.element l.view) l.arena) l.kids l.p ≡ seek
          (length_of (by_view g.L.Leaf.size g.L.Leaf.element l.view) l.arena) (drop l.i l.kids) l.rest;
      cost : l.steps ≤ l.initial.steps + l.i;
    }

abbrev pub decreases-loop-kid : goal.decreases-loop-kid
decreases-loop-kid g l = length l.kids - l.i
