use Rattle.ft_tree_blocks.proofs.acks.ack_changes.Goals as goal

pub change-requires : goal.change-requires
change-requires g c = record { usable = c.requires.usable; can = c.requires.lowest }

pub returns-clause-ok : goal.returns-clause-ok
returns-clause-ok g c = c.change.ensures.ok

pub returns-clause-usable : goal.returns-clause-usable
returns-clause-usable g c = c.change.ensures.usable

pub returns-clause-floor : goal.returns-clause-floor
returns-clause-floor g c = c.change.ensures.floor
