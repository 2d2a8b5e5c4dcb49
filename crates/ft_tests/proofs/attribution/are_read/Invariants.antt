use Rattle.ft_tests.proofs.attribution.are_read.Given as goal

-- the ledger in which the counter stands is that of its blank
abbrev pub ghosts-read : goal.ghosts-read
ghosts-read a = record { name = a.blank.name; parts = a.blank.parts }
