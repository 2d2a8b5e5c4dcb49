use Rattle.ft_block.proofs.blocks.Blocks.join_next.Given as goal

abbrev pub ghosts-join_in : goal.ghosts-join_in
ghosts-join_in g a = record { name = a.blank.name; parts = a.blank.parts }
