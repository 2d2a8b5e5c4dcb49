use Rattle.ft_overlap.proofs.index.Index.insert.Given as goal

abbrev pub ghosts-reserve_in : goal.ghosts-reserve_in
ghosts-reserve_in g a = record { name = a.blank.name; parts = a.blank.parts }

abbrev pub ghosts-put_in : goal.ghosts-put_in
ghosts-put_in g a = record { name = a.blank.name; parts = a.blank.parts }
