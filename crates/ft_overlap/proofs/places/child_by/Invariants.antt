use Rattle.std.proofs.Common.{◌≡◌, ◌≤◌, ◌<◌, ◌-◌, Some, drop, length, slice_get}
use Rattle.ft_shape.specs.Tree.{height_of, below}
use Rattle.ft_overlap.specs.Inside.{IsBehind, items_of}
use Rattle.ft_overlap.specs.Search.{IsStartedBy}
use Rattle.ft_overlap.proofs.places.child_by.Given as goal

abbrev pub invariant-halves : goal.invariant-halves
invariant-halves g l =
    record {
      few : length l.kids ≤ 8;
      order : l.low < l.high;
      inside : l.high ≤ length l.kids;
      there : slice_get l.kids l.low ≡ Some l.child;
      first : IsStartedBy (g.P.Places.end_place l.at) (g.P.Places.end_place l.at l.start) l.arena l.child;
      behind : IsBehind (g.P.Places.end_place l.at) (g.P.Places.end_place l.at l.start)
          (items_of l.arena (below l.arena (height_of l.arena l.fn._block - 1) (drop l.high l.kids)));
    }

abbrev pub decreases-halves : goal.decreases-halves
decreases-halves g l = l.high - l.low
