use Rattle.std.proofs.Common.{List, subst, sym}
use Rattle.ft_tree_blocks.specs.Pruned.{AreLeaves}
use Rattle.ft_tree_blocks.specs.Touched.{NodesOfStage}
use Rattle.ft_tree_blocks.proofs.PrunedLists.{leaves-listed}
use Rattle.ft_tree_blocks.proofs.pruning.prune_all.Goals as goal

pub prune_each-requires-clause-live : goal.prune_each-requires-clause-live
prune_each-requires-clause-live g c =
    subst (λ (ss : List NodesOfStage). AreLeaves c.args.blocks.now.leaves ss) (sym c.make_contiguous.ensures.value)
    (leaves-listed c.args.blocks.now.leaves c.args.touched.now.items c.requires.tracks.live)
