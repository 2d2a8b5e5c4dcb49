use Rattle.std.proofs.Common.{◌≡◌, ◌+◌, take}
use Rattle.ft_arena.specs.Forest.{kids_of}
use Rattle.ft_shape.specs.Tree.{total, length_of}
use Rattle.ft_block.specs.Tree.{by_view}
use Rattle.ft_block.proofs.position.length_between.Given as goal

abbrev pub invariant-loop-i : goal.invariant-loop-i
invariant-loop-i g l =
    let f = length_of (by_view g.L.Leaf.size g.L.Leaf.element l.view) l.arena in
    total f (take l.low (kids_of l.arena l.fn.block)) + l.sum ≡ total f (take l.i (kids_of l.arena l.fn.block))
