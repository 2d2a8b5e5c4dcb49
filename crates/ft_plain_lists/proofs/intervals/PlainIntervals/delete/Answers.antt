use Rattle.std.proofs.Common.{rules, not}
use Rattle.std.proofs.lemmas.Fn.{filter_same}
use Rattle.ft_op.specs.Intervals.{is_interval}
use Rattle.ft_plain_lists.proofs.intervals.PlainIntervals.delete.Goals as goal

pub returns : goal.returns
returns c =
    rw (← c.self.view_is)
    (filter_same _ (λ i. not (is_interval c.args.label.now c.args.id.now i)) _ (λ x b f' k. search rules) c.self.inside.items.items _ c.retain.ensures.filtered)
