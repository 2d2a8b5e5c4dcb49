use Rattle.ft_client.proofs.own.telling.TreeOwnTellingDocument.edit_telling.Given as goal

abbrev pub ghosts-edit_uncounted : goal.ghosts-edit_uncounted
ghosts-edit_uncounted a = record { name = a.blank.name; parts = a.blank.parts }
