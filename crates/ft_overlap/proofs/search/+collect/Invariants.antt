use Rattle.std.proofs.Common.{◌≤◌, ◌-◌, length, drop}
use Rattle.ft_shape.specs.Tree.{height_of, below}
use Rattle.ft_overlap.specs.Items.{AreKnown}
use Rattle.ft_overlap.specs.Inside.{items_of, items_below}
use Rattle.ft_overlap.proofs.Collecting.{Collecting}
use Rattle.ft_overlap.proofs.search.+collect.Given as goal

abbrev pub decreases-collect : goal.decreases-collect
decreases-collect g l = height_of l.arena.now l.node

abbrev pub invariant-loop-kid : goal.invariant-loop-kid
invariant-loop-kid g l =
    record {
      few : length l.kids ≤ 8;
      inside : l.i ≤ length l.kids;
      known : AreKnown (g.P.Places.Knows l.at) (items_of l.arena (below l.arena (height_of l.arena l.fn.node - 1) (drop l.i l.kids)));
      state : Collecting (g.P.Places.end_place l.at) l.range.low l.range.high (items_below l.arena l.fn.node)
          (items_of l.arena (below l.arena (height_of l.arena l.fn.node - 1) (drop l.i l.kids)))
          (height_of l.arena l.fn.node - 1) l.i l.initial.found.items l.found.items l.initial.steps l.steps;
    }

abbrev pub decreases-loop-kid : goal.decreases-loop-kid
decreases-loop-kid g l = length l.kids - l.i
