use Rattle.ft_block.proofs.blocks.Blocks.is_before.Given as goal

abbrev pub ghosts-is_before_in : goal.ghosts-is_before_in
ghosts-is_before_in g a = record { name = a.blank.name; parts = a.blank.parts }
