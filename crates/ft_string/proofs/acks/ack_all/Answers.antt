use Rattle.std.proofs.Common.{◌+◌, ◌∙◌, sym}
use Rattle.ft_interval_store.specs.State.{text_elements}
use Rattle.ft_string.proofs.AcksSoFar.{acks-done, acks-fewer, acks-next, lowest}
use Rattle.ft_string.proofs.StandingIndexes.{acked-marked}
use Rattle.ft_string.proofs.acks.ack_all.Goals as goal

pub loop-stage-init : goal.loop-stage-init
loop-stage-init c = record {
  so_far = record { whole = λ new after more s. s; usable = c.requires.usable; live = c.requires.stands.live; rise = c.requires.rise; noted = c.requires.noted };
  stands = c.requires.stands;
  marked = c.requires.marked;
}

pub ack_stage-requires-clause-lowest : goal.ack_stage-requires-clause-lowest
ack_stage-requires-clause-lowest c =
    lowest (c.args.last + 1) c.in-Some.stage c.loop-stage.intervals.state c.loop-stage.ops.items (text_elements c.loop-stage.tree) (sym c.next_up_to.ensures ∙ c.in-Some.is)
    c.loop-stage.invariant.so_far.rise c.loop-stage.invariant.so_far.noted

pub ack_stage-requires-clause-usable : goal.ack_stage-requires-clause-usable
ack_stage-requires-clause-usable c = c.loop-stage.invariant.so_far.usable

pub ack_stage-requires-clause-stands : goal.ack_stage-requires-clause-stands
ack_stage-requires-clause-stands c = c.loop-stage.invariant.stands

pub ack_stage-requires-clause-marked : goal.ack_stage-requires-clause-marked
ack_stage-requires-clause-marked c = c.loop-stage.invariant.marked

pub loop-stage-preserved : goal.loop-stage-preserved
loop-stage-preserved c = record {
  so_far = acks-next (c.args.last + 1) c.in-Some.stage c.args.seq c.args.conn c.loop-stage.tree c.ack_stage.new.tree
      c.loop-stage.intervals.state c.ack_stage.new.intervals.state c.loop-stage.ops.items
      c.ack_stage.new.ops.items (sym c.next_up_to.ensures ∙ c.in-Some.is) c.in_ok-ack_stage.ensures.stage c.args.tree.now
      c.args.intervals.now.state c.args.ops.now.items c.loop-stage.invariant.so_far;
  stands = c.in_ok-ack_stage.ensures.stands;
  marked = acked-marked c.in-Some.stage c.args.seq c.args.conn c.loop-stage.tree c.ack_stage.new.tree c.loop-stage.intervals.state
      c.ack_stage.new.intervals.state c.loop-stage.ops.items
      c.ack_stage.new.ops.items c.in_ok-ack_stage.ensures.stage c.loop-stage.invariant.marked;
}

pub loop-stage-smaller : goal.loop-stage-smaller
loop-stage-smaller c =
    acks-fewer (c.args.last + 1) c.in-Some.stage c.args.seq c.args.conn c.loop-stage.tree c.ack_stage.new.tree c.loop-stage.intervals.state
    c.ack_stage.new.intervals.state c.loop-stage.ops.items
    c.ack_stage.new.ops.items (sym c.next_up_to.ensures ∙ c.in-Some.is) c.in_ok-ack_stage.ensures.stage

pub returns-clause-stages : goal.returns-clause-stages
returns-clause-stages c =
    acks-done (c.args.last + 1) c.args.seq c.args.conn c.args.tree.now c.loop-stage.tree c.args.intervals.now.state
    c.loop-stage.intervals.state c.args.ops.now.items c.loop-stage.ops.items
    c.loop-stage.invariant.so_far (sym c.next_up_to.ensures ∙ c.in_default.is)

pub returns-clause-stands : goal.returns-clause-stands
returns-clause-stands c = c.loop-stage.invariant.stands
