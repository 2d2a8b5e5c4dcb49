use Rattle.ft_block.proofs.blocks.Blocks.position_of.Given as goal

abbrev pub ghosts-position_in : goal.ghosts-position_in
ghosts-position_in g a = record { name = a.blank.name; parts = a.blank.parts }
