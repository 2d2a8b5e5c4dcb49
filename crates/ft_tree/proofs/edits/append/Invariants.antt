use Rattle.ft_tree.proofs.edits.append.Given as goal

abbrev pub ghosts-find_end : goal.ghosts-find_end
ghosts-find_end g a = record { name = a.blank.name; parts = a.blank.parts }
