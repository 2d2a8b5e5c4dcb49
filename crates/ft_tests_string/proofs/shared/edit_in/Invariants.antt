use Rattle.ft_tests_string.proofs.shared.edit_in.Given as goal

abbrev pub ghosts-edit_shared : goal.ghosts-edit_shared
ghosts-edit_shared a = record { name = a.blank.name; parts = a.blank.parts }
