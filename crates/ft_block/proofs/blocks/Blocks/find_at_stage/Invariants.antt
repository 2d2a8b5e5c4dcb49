use Rattle.ft_block.proofs.blocks.Blocks.find_at_stage.Given as goal

abbrev pub ghosts-find_in_stage : goal.ghosts-find_in_stage
ghosts-find_in_stage g a = record { name = a.blank.name; parts = a.blank.parts }
