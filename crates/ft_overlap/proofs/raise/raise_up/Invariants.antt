use Rattle.std.proofs.Common.{◌≡◌, ℕ, Some, None, IsSome}
use Rattle.ft_arena.specs.Forest.{block_value}
use Rattle.ft_shape.specs.Tree.{IsPartTree}
use Rattle.ft_shape.specs.Steps.{SameShape}
use Rattle.ft_shape.specs.Told.{KeepsBut}
use Rattle.ft_overlap.specs.Inside.{IsSpan, SpansLast, EndsKnown, IsUnraised}
use Rattle.ft_overlap.proofs.Upward.{levels_left}
use Rattle.ft_overlap.proofs.raise.raise_up.Given as goal

abbrev pub invariant-up : goal.invariant-up
invariant-up g l =
    record {
      tree : IsPartTree l.arena l.fn._root None None;
      same : SameShape l.initial.arena l.arena;
      block : (b : ℕ) → l.stale ≡ Some b → IsSome (block_value l.arena b);
      known : EndsKnown (g.P.Places.Knows l.at) l.arena;
      one : KeepsBut IsSpan l.arena l.stale;
      last : KeepsBut (SpansLast (g.P.Places.end_place l.at)) l.arena l.stale;
      unraised : IsUnraised (g.P.Places.end_place l.at) l.item l.arena l.stale;
    }

abbrev pub decreases-up : goal.decreases-up
decreases-up g l = levels_left l.arena l.fn._root l.stale
