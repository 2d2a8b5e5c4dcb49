use Rattle.std.proofs.Common.{◌≡◌, ◌++◌, drop, filter}
use Rattle.ft_tree_blocks.specs.declared.next_stages.Wanted.TheVariants.{Anything}
use Rattle.ft_tree_blocks.specs.Wanted.{is_wanted_at}
use Rattle.ft_tree_blocks.proofs.pruning.touched_of.Given as goal

-- the nodes so far, and those of the rest, are those of all
abbrev pub invariant-loop-id : goal.invariant-loop-id
invariant-loop-id g l =
    let test = is_wanted_at Anything l.blocks.leaves l.stage in
    l.touched.items ++ filter test (drop l.id-index l.nodes) ≡ filter test l.nodes
