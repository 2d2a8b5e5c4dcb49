use Rattle.ft_tests_string.proofs.edits.edit.Given as goal

abbrev pub ghosts-make : goal.ghosts-make
ghosts-make a = record { name = a.blank.name; parts = a.blank.parts }
