use Rattle.std.proofs.Common.{◌≡◌, ◌++◌, drop, map, take}
use Rattle.ft_tree_blocks.specs.Touched.{with_heir}
use Rattle.ft_tree_blocks.proofs.touched.add_heirs.Given as goal

-- the lists so far have the heir; the rest is as it was, and completes the whole once it has it
abbrev pub invariant-loop-list : goal.invariant-loop-list
invariant-loop-list l = record {
  rest : drop l.list-index l.touched ≡ drop l.list-index l.initial.touched;
  done : take l.list-index l.touched ++ map (with_heir l.front l.rear) (drop l.list-index l.touched) ≡ map (with_heir l.front l.rear) l.initial.touched;
}
