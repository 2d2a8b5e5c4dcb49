use Rattle.ft_tests_string.proofs.script.hear_line.Given as goal

abbrev pub ghosts-hear : goal.ghosts-hear
ghosts-hear a = record { name = a.blank.name; parts = a.blank.parts }
