use Rattle.ft_tests_string.proofs.edits.acknowledge.Goals as goal

pub ack_interval-requires-clause-usable : goal.ack_interval-requires-clause-usable
ack_interval-requires-clause-usable c = (c.in_ok-ack_elements.ensures c.args.intervals.now c.args.progress.now.stage c.requires).sound.tree

pub ack_interval-requires-clause-stands : goal.ack_interval-requires-clause-stands
ack_interval-requires-clause-stands c = (c.in_ok-ack_elements.ensures c.args.intervals.now c.args.progress.now.stage c.requires).stands
