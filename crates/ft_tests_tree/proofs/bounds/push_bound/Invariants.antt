use Rattle.ft_tests_tree.proofs.bounds.push_bound.Given as goal

abbrev pub ghosts-push_found : goal.ghosts-push_found
ghosts-push_found a = record { name = a.blank.name; parts = a.blank.parts }
