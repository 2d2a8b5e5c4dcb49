use Rattle.ft_tests_tree.proofs.edits.make_edit.Given as goal

abbrev pub ghosts-make : goal.ghosts-make
ghosts-make a = record { name = a.blank.name; parts = a.blank.parts }
