use Rattle.ft_tree_blocks.proofs.leaf_blocks.LeafBlocks.prune.Goals as goal

pub returns-in-Ok-clause-ok : goal.returns-in-Ok-clause-ok
returns-in-Ok-clause-ok g c = c.self.view_is
