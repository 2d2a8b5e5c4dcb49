use Rattle.std.proofs.Common.{◌≤◌, ◌-◌, length, drop}
use Rattle.ft_arena.specs.Ids.{times}
use Rattle.ft_arena.specs.Forest.{kids_of}
use Rattle.ft_shape.proofs.children.child_place.Given as goal

abbrev pub invariant-loop-kid : goal.invariant-loop-kid
invariant-loop-kid g l =
    record {
      few : length (kids_of l.arena l.fn.block) ≤ 8;
      here : 1 ≤ times (drop l.i (kids_of l.arena l.fn.block)) l.fn.child;
    }

abbrev pub decreases-loop-kid : goal.decreases-loop-kid
decreases-loop-kid g l = length (kids_of l.arena l.fn.block) - l.i
