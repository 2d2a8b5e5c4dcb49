use Rattle.ft_replica.proofs.replica.ReplicaOverReplica.overlapping.Given as goal

abbrev pub ghosts-overlapping_in : goal.ghosts-overlapping_in
ghosts-overlapping_in g a = record { name = a.blank.name; parts = a.blank.parts }
