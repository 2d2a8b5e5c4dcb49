use Rattle.ft_block.proofs.blocks.Blocks.leaf.Given as goal

abbrev pub ghosts-leaf_in : goal.ghosts-leaf_in
ghosts-leaf_in g a = record { name = a.blank.name; parts = a.blank.parts }
