use Rattle.ft_overlap.proofs.index.Index.remove.Given as goal

abbrev pub ghosts-take_in : goal.ghosts-take_in
ghosts-take_in g a = record { name = a.blank.name; parts = a.blank.parts }
