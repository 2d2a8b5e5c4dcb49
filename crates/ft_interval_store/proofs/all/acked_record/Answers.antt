use Rattle.std.proofs.Common.{◌∙◌}
use Rattle.ft_interval_store.proofs.AckedRecords.{acked-shown}
use Rattle.ft_interval_store.proofs.all.acked_record.Goals as goal

pub record_at-requires-clause-on_leaf : goal.record_at-requires-clause-on_leaf
record_at-requires-clause-on_leaf c = (c.in_ok-interval.ensures.ends.start.on_leaf, c.in_ok-interval.ensures.ends.end.on_leaf)

pub returns : goal.returns
returns c =
    c.record_at.ensures ∙ acked-shown c.args.tree.now c.requires.still c.args.i.now c.in_ok-interval.interval c.in_ok-interval.ensures
