use Rattle.std.proofs.Common.{◌≡◌, ◌<◌, ◌^◌, ℕ, Some, IsSome}
use Rattle.ft_arena.specs.Forest.{block_value}
use Rattle.ft_shape.specs.Tree.{IsPartTree, length_of, total}
use Rattle.ft_block.specs.Tree.{SumsKeptBut, OwesMade, AreFromFloor, by_size}
use Rattle.ft_shape.specs.Steps.{SameShape}
use Rattle.ft_block.proofs.ExchangeLemmas.{levels_left}
use Rattle.ft_block.proofs.refresh.exchange_up.Given as goal

abbrev pub invariant-up : goal.invariant-up
invariant-up g l =
    record {
      tree : IsPartTree l.arena l.fn._root l.fn._apart l.fn._short;
      same : SameShape l.initial.arena l.arena;
      fits : total (length_of (by_size g.L.Leaf.size) l.arena) l.arena.leaves < 2 ^ 64;
      block : (b : ℕ) → l.stale ≡ Some b → IsSome (block_value l.arena b);
      floors : AreFromFloor l.floor l.arena;
      sums : SumsKeptBut g.L.Leaf.size g.L.Leaf.element l.floor l.arena l.stale;
      owes : OwesMade g.L.Leaf.size g.L.Leaf.element l.floor l.arena l.stale l.exchange;
    }

abbrev pub decreases-up : goal.decreases-up
decreases-up g l = levels_left l.arena l.fn._root l.stale
