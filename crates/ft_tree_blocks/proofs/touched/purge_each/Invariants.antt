use Rattle.std.proofs.Common.{◌≡◌, ◌++◌, drop, map, take}
use Rattle.ft_tree_blocks.specs.Touched.{purged}
use Rattle.ft_tree_blocks.proofs.touched.purge_each.Given as goal

-- the lists so far lack the node; the rest is as it was, and completes the whole once it lacks it
abbrev pub invariant-loop-list : goal.invariant-loop-list
invariant-loop-list l = record {
  rest : drop l.list-index l.touched ≡ drop l.list-index l.initial.touched;
  done : take l.list-index l.touched ++ map (purged l.id) (drop l.list-index l.touched) ≡ map (purged l.id) l.initial.touched;
}
