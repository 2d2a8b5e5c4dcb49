use Rattle.std.proofs.Common.{◌≡◌, ◌-◌, IsSome}
use Rattle.ft_arena.specs.Forest.{entry}
use Rattle.ft_shape.specs.Tree.{height_of}
use Rattle.ft_block.proofs.OrderLemmas.{comes_before, level}
use Rattle.ft_block.proofs.order.is_leaf_before.Given as goal

abbrev pub invariant-up : goal.invariant-up
invariant-up g l =
    record {
      live : IsSome (entry l.arena l.at);
      beside : IsSome (entry l.arena l.beside);
      high : height_of l.arena l.beside ≡ height_of l.arena l.at;
      same : comes_before (level l.arena l.fn._root (height_of l.arena l.at)) l.at l.beside ≡ comes_before l.arena.leaves l.fn.first l.fn.second;
    }

abbrev pub decreases-up : goal.decreases-up
decreases-up g l = height_of l.arena l.fn._root - height_of l.arena l.at
