use Rattle.std.proofs.Common.{◌∙◌, sym}
use Rattle.ft_string.proofs.Reconnected.{finds-pending}
use Rattle.ft_string.proofs.rejoining.give.Goals as goal

pub settle_op-requires-clause-pending : goal.settle_op-requires-clause-pending
settle_op-requires-clause-pending c = finds-pending c.args.first c.args.intervals.now.state.pending (sym c.is_pending.ensures ∙ c.if-is_pending.true)
