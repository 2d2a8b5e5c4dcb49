use Rattle.ft_matrix.proofs.SavedRuns.{run-pushed}
use Rattle.ft_matrix.proofs.saved.push_run.Goals as goal

pub returns : goal.returns
returns c = run-pushed c.join_last-joined.result c.push_unless.result c.args.run c.args.runs.now.items c.join_last-joined.new.runs.items
    c.push_unless.new.items.items
    c.join_last-joined.ensures c.push_unless.ensures.found c.push_unless.ensures.items
