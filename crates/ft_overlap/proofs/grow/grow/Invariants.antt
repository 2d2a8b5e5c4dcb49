use Rattle.std.proofs.Common.{◌≡◌, ◌≤◌, ◌+◌, ◌-◌, ℕ}
use Rattle.ft_arena.specs.Forest.{leaf_value, parent_of}
use Rattle.ft_arena.specs.Ids.{insert_after}
use Rattle.ft_shape.specs.Tree.{IsGrowing, height_of}
use Rattle.ft_shape.specs.Told.{KeepsBut}
use Rattle.ft_overlap.specs.Inside.{IsSpan, SpansLast, EndsKnown}
use Rattle.ft_overlap.proofs.grow.grow.Given as goal

abbrev pub invariant-up : goal.invariant-up
invariant-up g l =
    record {
      growing : IsGrowing l.arena l.fn.root l.at l.id (λ xs. insert_after xs l.at l.id);
      one : KeepsBut IsSpan l.arena (parent_of l.arena l.at);
      last : KeepsBut (SpansLast (g.P.Places.end_place l.places)) l.arena (parent_of l.arena l.at);
      known : EndsKnown (g.P.Places.Knows l.places) l.arena;
      spare : height_of l.arena l.fn.root - height_of l.arena l.at + 1 ≤ l.arena.spare;
      tall : height_of l.arena l.fn.root ≡ height_of l.initial.arena l.fn.root;
      leaves : l.arena.leaves ≡ l.initial.arena.leaves;
      leaf_values : (x : ℕ) → leaf_value l.arena x ≡ leaf_value l.initial.arena x;
    }

abbrev pub decreases-up : goal.decreases-up
decreases-up g l = height_of l.initial.arena l.fn.root - height_of l.arena l.at
