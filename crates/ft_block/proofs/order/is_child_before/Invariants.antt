use Rattle.std.proofs.Common.{◌≡◌, ◌≤◌, ◌-◌, length, drop}
use Rattle.ft_arena.specs.Ids.{times}
use Rattle.ft_arena.specs.Forest.{kids_of}
use Rattle.ft_block.proofs.OrderLemmas.{comes_before}
use Rattle.ft_block.proofs.order.is_child_before.Given as goal

abbrev pub invariant-loop-kid : goal.invariant-loop-kid
invariant-loop-kid g l =
    record {
      few : length (kids_of l.arena l.fn.block) ≤ 8;
      first : 1 ≤ times (drop l.i (kids_of l.arena l.fn.block)) l.fn.first;
      second : 1 ≤ times (drop l.i (kids_of l.arena l.fn.block)) l.fn.second;
      same : comes_before (drop l.i (kids_of l.arena l.fn.block)) l.fn.first l.fn.second ≡ comes_before (kids_of l.arena l.fn.block) l.fn.first l.fn.second;
    }

abbrev pub decreases-loop-kid : goal.decreases-loop-kid
decreases-loop-kid g l = length (kids_of l.arena l.fn.block) - l.i
