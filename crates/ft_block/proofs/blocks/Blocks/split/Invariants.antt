use Rattle.ft_block.proofs.blocks.Blocks.split.Given as goal

abbrev pub ghosts-split_in : goal.ghosts-split_in
ghosts-split_in g a = record { name = a.blank.name; parts = a.blank.parts }
