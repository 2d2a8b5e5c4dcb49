use Rattle.ft_tests_string.proofs.shared.hear_in.Given as goal

abbrev pub ghosts-hear_shared : goal.ghosts-hear_shared
ghosts-hear_shared a = record { name = a.blank.name; parts = a.blank.parts }
