use Rattle.std.proofs.Common.{◌≤◌, ◌-◌, length, take, map}
use Rattle.ft_shape.specs.Told.{told}
use Rattle.ft_overlap.specs.Inside.{NamesOne}
use Rattle.ft_overlap.proofs.Last.{IsLastOf}
use Rattle.ft_overlap.proofs.names.span_over.Given as goal

abbrev pub invariant-loop-kid : goal.invariant-loop-kid
invariant-loop-kid g l =
    record {
      few : length l.kids ≤ 8;
      inside : l.i ≤ length l.kids;
      one : NamesOne l.last (map (told l.arena) l.kids);
      last : IsLastOf l.arena (g.P.Places.end_place l.at) l.last (take l.i l.kids);
    }

abbrev pub decreases-loop-kid : goal.decreases-loop-kid
decreases-loop-kid g l = length l.kids - l.i
