use Rattle.std.proofs.Common.{◌≡◌, ◌<◌, ◌-◌, ◌^◌, ℕ, Some, None, IsSome}
use Rattle.ft_arena.specs.Forest.{block_value, leaf_value}
use Rattle.ft_shape.specs.Tree.{IsApart, height_of, length_of, total}
use Rattle.ft_block.specs.Tree.{SumsKeptBut, AreFromFloor, by_size}
use Rattle.ft_block.proofs.shrink.fill_up.Given as goal

abbrev pub invariant-up : goal.invariant-up
invariant-up g l =
    record {
      apart : IsApart l.arena l.fn.root l.fn._id (Some l.block);
      block : IsSome (block_value l.arena l.block);
      sums : SumsKeptBut g.L.Leaf.size g.L.Leaf.element l.floor l.arena None;
      floors : AreFromFloor l.floor l.arena;
      fits : total (length_of (by_size g.L.Leaf.size) l.arena) l.arena.leaves < 2 ^ 64;
      high : height_of l.arena l.fn.root ≡ height_of l.initial.arena l.fn.root;
      leaves : l.arena.leaves ≡ l.initial.arena.leaves;
      leaf_values : (x : ℕ) → leaf_value l.arena x ≡ leaf_value l.initial.arena x;
    }

abbrev pub decreases-up : goal.decreases-up
decreases-up g l = height_of l.initial.arena l.fn.root - height_of l.arena l.block
