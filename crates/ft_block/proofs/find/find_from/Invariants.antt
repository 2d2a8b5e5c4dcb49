use Rattle.std.proofs.Common.{◌≡◌, ◌≤◌, ◌<◌, ◌+◌, ◌-◌, ◌*◌, IsSome, Some, [], ◌∷◌}
use Rattle.ft_arena.specs.Forest.{block_value, entry, parent_of}
use Rattle.ft_shape.specs.Tree.{seek, total, length_of, below, height_of}
use Rattle.ft_block.specs.Tree.{by_view}
use Rattle.ft_block.proofs.find.find_from.Given as goal

abbrev pub invariant-levels : goal.invariant-levels
invariant-levels g l =
    record {
      block : IsSome (block_value l.arena l.at);
      node : entry l.arena l.at ≡ Some (record { node = l.node; parent = parent_of l.arena l.at });
      all : l.all ≡ length_of (by_view g.L.Leaf.size g.L.Leaf.element l.view) l.arena l.at;
      high : height_of l.arena l.at ≤ height_of l.arena l.fn.root;
      low : 1 ≤ l.rest;
      same : seek (length_of (by_view g.L.Leaf.size g.L.Leaf.element l.view) l.arena) l.arena.leaves l.p ≡ seek
          (length_of (by_view g.L.Leaf.size g.L.Leaf.element l.view) l.arena) (below l.arena (height_of l.arena l.at) (l.at ∷ [])) l.rest;
      past : length_of (by_view g.L.Leaf.size g.L.Leaf.element l.view) l.arena l.at < l.rest
          → (length_of (by_view g.L.Leaf.size g.L.Leaf.element l.view) l.arena l.at ≡ total (length_of (by_view g.L.Leaf.size g.L.Leaf.element l.view) l.arena)
          l.arena.leaves) × (total (length_of (by_view g.L.Leaf.size g.L.Leaf.element l.view) l.arena) l.arena.leaves < l.p);
      cost : l.steps ≤ l.initial.steps + 9 * (height_of l.arena l.fn.root - height_of l.arena l.at);
    }

abbrev pub decreases-levels : goal.decreases-levels
decreases-levels g l = height_of l.arena l.at
