use Rattle.std.proofs.Common.{◌≡◌, ◌+◌, ◌-◌, [], ◌∷◌, IsSome}
use Rattle.ft_arena.specs.Forest.{entry}
use Rattle.ft_shape.specs.Tree.{total, length_of, numbers_before, below, height_of}
use Rattle.ft_block.specs.Tree.{by_view}
use Rattle.ft_block.proofs.position.kept_before.Given as goal

abbrev pub invariant-up : goal.invariant-up
invariant-up g l =
    record {
      live : IsSome (entry l.arena l.at);
      so_far : l.sum + total (length_of (by_view g.L.Leaf.size g.L.Leaf.element l.view) l.arena)
          (numbers_before (below l.arena (height_of l.arena l.fn._root - height_of l.arena l.at) (l.fn._root ∷ [])) l.at) ≡ total
          (length_of (by_view g.L.Leaf.size g.L.Leaf.element l.view) l.arena) (numbers_before l.arena.leaves l.fn.leaf);
    }

abbrev pub decreases-up : goal.decreases-up
decreases-up g l = height_of l.arena l.fn._root - height_of l.arena l.at
