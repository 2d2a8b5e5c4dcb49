use Rattle.ft_string.proofs.StandingIndexes.{acked-stands}
use Rattle.ft_string.proofs.acks.ack_stage.Goals as goal

pub ack-requires-then-eq-clause-stands : goal.ack-requires-then-eq-clause-stands
ack-requires-then-eq-clause-stands c =
    acked-stands c.args.stage c.args.seq c.args.conn c.args.tree.now c.ack.new.self c.args.intervals.now c.in_ok-ack.ensures.elements
    c.in_ok-ack.ensures.refs c.requires.marked c.requires.stands

pub returns-clause-stands : goal.returns-clause-stands
returns-clause-stands c =
    acked-stands c.args.stage c.args.seq c.args.conn c.args.tree.now c.ack.new.self c.args.intervals.now c.in_ok-ack.ensures.elements
    c.in_ok-ack.ensures.refs c.requires.marked c.requires.stands
