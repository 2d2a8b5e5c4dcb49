use Rattle.std.proofs.Common.{◌≡◌, ◌++◌, drop, map, take}
use Rattle.ft_tree_blocks.specs.Pruned.{pruned}
use Rattle.ft_tree_blocks.proofs.pruning.prune_each.Given as goal

-- the lists so far are pruned; the rest is as it was, and completes the whole once it is
abbrev pub invariant-loop-list : goal.invariant-loop-list
invariant-loop-list g l = record {
  rest : drop l.list-index l.touched ≡ drop l.list-index l.initial.touched;
  done : take l.list-index l.touched ++ map (pruned l.blocks.leaves) (drop l.list-index l.touched) ≡ map (pruned l.blocks.leaves) l.initial.touched;
}
