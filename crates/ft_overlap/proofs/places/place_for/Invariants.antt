use Rattle.std.proofs.Common.{IsSome}
use Rattle.ft_arena.specs.Forest.{entry}
use Rattle.ft_shape.specs.Tree.{height_of}
use Rattle.ft_overlap.specs.Search.{IsReached}
use Rattle.ft_overlap.proofs.places.place_for.Given as goal

-- the first item that starts behind the place is below the node, or the first right of what is
abbrev pub invariant-levels : goal.invariant-levels
invariant-levels g l = record {
  live : IsSome (entry l.arena l.node);
  reached : IsReached (g.P.Places.end_place l.at) (g.P.Places.end_place l.at l.item.start) l.arena l.node;
}

abbrev pub decreases-levels : goal.decreases-levels
decreases-levels g l = height_of l.arena l.node
