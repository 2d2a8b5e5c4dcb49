use Rattle.ft_block.proofs.blocks.Blocks.set_stamps.Given as goal

abbrev pub ghosts-set_stamps_in : goal.ghosts-set_stamps_in
ghosts-set_stamps_in g a = record { name = a.blank.name; parts = a.blank.parts }
