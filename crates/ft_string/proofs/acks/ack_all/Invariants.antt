use Rattle.std.proofs.Common.{◌+◌}
use Rattle.ft_interval_store.specs.State.{IsMarked}
use Rattle.ft_interval.specs.State.{StandsOn}
use Rattle.ft_string.proofs.AcksSoFar.{AcksSoFar, pending_count}
use Rattle.ft_string.proofs.acks.ack_all.Given as goal

-- what is acknowledged, and then the stages ahead, are all
abbrev pub invariant-loop-stage : goal.invariant-loop-stage
invariant-loop-stage l = record {
  so_far : AcksSoFar (l.last + 1) l.seq l.conn l.fn.tree l.tree l.fn.intervals.state l.intervals.state l.fn.ops.items l.ops.items;
  stands : StandsOn l.tree l.intervals;
  marked : IsMarked l.tree.refs l.intervals.state;
}

abbrev pub decreases-loop-stage : goal.decreases-loop-stage
decreases-loop-stage l = pending_count l.intervals.state l.ops.items
