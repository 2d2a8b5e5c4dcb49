use Rattle.std.proofs.Common.{sym, ◌∙◌, ap}
use Rattle.ft_interval_store.specs.Ends.{place_of_end}
use Rattle.ft_interval_store.proofs.standing.end_at.Goals as goal

pub returns-clause-place : goal.returns-clause-place
returns-clause-place c = c.ref_at.ensures.place ∙ ap (place_of_end c.args.tree.now.refs) (sym c.in_ok-end.was)
