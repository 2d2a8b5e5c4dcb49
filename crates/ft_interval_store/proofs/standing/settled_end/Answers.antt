use Rattle.std.proofs.Common.{subst}
use Rattle.ft_interval_store.specs.Shown.{settled_end}
use Rattle.ft_interval_store.specs.Standing.{StandsAt}
use Rattle.ft_interval_store.specs.State.{text_elements}
use Rattle.ft_interval_store.proofs.standing.settled_end.Goals as goal

pub returns : goal.returns
returns c =
    let tree = c.args.tree.now in
    subst (λ e. StandsAt tree c.args.stage (settled_end (text_elements tree) c.args.stage e) c.settled_at.result) c.end_at.ensures.place c.settled_at.ensures
