use Rattle.ft_block.proofs.blocks.Blocks.move_after.Given as goal

abbrev pub ghosts-move_in : goal.ghosts-move_in
ghosts-move_in g a = record { name = a.blank.name; parts = a.blank.parts }
