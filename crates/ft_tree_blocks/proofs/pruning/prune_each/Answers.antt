use Rattle.std.proofs.Common.{All, arith}
use Rattle.ft_block.specs.Leaves.{IsLeafIn}
use Rattle.ft_tree_blocks.specs.Touched.{NodesOfStage}
use Rattle.ft_tree_blocks.proofs.PrunedLists.{holds-next}
use Rattle.ft_tree_blocks.proofs.pruning.prune_each.Goals as goal

pub prune_list-requires-clause-live : goal.prune_list-requires-clause-live
prune_list-requires-clause-live g c =
    holds-next (λ (s : NodesOfStage). All (λ id. IsLeafIn c.args.blocks.now.leaves id) s.nodes) c.loop-list.list-index c.args.touched.now c.loop-list.touched
    c.list-item.result c.loop-list.invariant.rest (omega (arith, c.loop-list-test.true, c.loop-list.auto.touched)) c.requires.live
