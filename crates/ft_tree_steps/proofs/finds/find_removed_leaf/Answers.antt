use Rattle.std.proofs.Common.{◌∙◌}
use Rattle.ft_tree_leaves.specs.LeafLists.{leaf_removed}
use Rattle.ft_tree_blocks.proofs.FoundLeaves.{place-found}
use Rattle.ft_tree_steps.proofs.finds.find_removed_leaf.Goals as goal

pub returns : goal.returns
returns g c =
    let xs = c.args.blocks.now.leaves in
    let found = c.find_removed.ensures in
    c.ok.ensures.value ∙ place-found (leaf_removed g.C.Content.units) xs c.args.p c.find_removed.result found.found found.length found.beyond
