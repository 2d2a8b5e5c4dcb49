use Rattle.std.proofs.Common.{sym, subst}
use Rattle.ft_block.specs.Leaves.{IsPlaceIn}
use Rattle.ft_tree_blocks.proofs.Walks.{first_in_place}
use Rattle.ft_zamboni.proofs.compaction.start.Goals as goal

pub returns-in-None-clause-live : goal.returns-in-None-clause-live
returns-in-None-clause-live g c =
    let xs = c.args.tree.now.leaves in
    subst (IsPlaceIn xs) (sym c.first_leaf-first.ensures.value) (first_in_place xs)
