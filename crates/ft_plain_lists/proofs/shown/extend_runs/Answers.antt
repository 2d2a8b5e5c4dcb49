use Rattle.ft_plain_lists.proofs.BackwardRuns.{Extends-pushed}
use Rattle.ft_plain_lists.proofs.shown.extend_runs.Goals as goal

pub returns : goal.returns
returns c =
    Extends-pushed c.join_first-is_in.result c.push_unless.result c.args.place c.args.props c.args.runs.now.items c.join_first-is_in.new.runs.items
    c.push_unless.new.items.items c.join_first-is_in.ensures (rw c.one_run.ensures at c.push_unless.ensures.items)
