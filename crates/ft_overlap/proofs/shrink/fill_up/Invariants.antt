use Rattle.std.proofs.Common.{◌≡◌, ◌-◌, ℕ, Some, IsSome}
use Rattle.ft_arena.specs.Forest.{block_value, leaf_value}
use Rattle.ft_shape.specs.Tree.{IsApart, height_of}
use Rattle.ft_shape.specs.Told.{KeepsBut}
use Rattle.ft_overlap.specs.Inside.{IsSpan, SpansLast, EndsKnown}
use Rattle.ft_overlap.proofs.shrink.fill_up.Given as goal

abbrev pub invariant-up : goal.invariant-up
invariant-up g l =
    record {
      apart : IsApart l.arena l.fn.root l.fn._id (Some l.block);
      block : IsSome (block_value l.arena l.block);
      known : EndsKnown (g.P.Places.Knows l.at) l.arena;
      one : KeepsBut IsSpan l.arena (Some l.block);
      last : KeepsBut (SpansLast (g.P.Places.end_place l.at)) l.arena (Some l.block);
      leaves : l.arena.leaves ≡ l.initial.arena.leaves;
      leaf_values : (x : ℕ) → leaf_value l.arena x ≡ leaf_value l.initial.arena x;
    }

abbrev pub decreases-up : goal.decreases-up
decreases-up g l = height_of l.arena l.fn.root - height_of l.arena l.block
