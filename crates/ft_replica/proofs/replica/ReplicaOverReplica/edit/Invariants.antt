use Rattle.ft_replica.proofs.replica.ReplicaOverReplica.edit.Given as goal

abbrev pub ghosts-edit_in : goal.ghosts-edit_in
ghosts-edit_in g a = record { name = a.blank.name; parts = a.blank.parts }
