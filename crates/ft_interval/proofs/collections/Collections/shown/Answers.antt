use Rattle.std.proofs.Common.{sym, subst}
use Rattle.ft_interval.specs.State.{IndexedState, StandsOn}
use Rattle.ft_interval.proofs.collections.Collections.shown.Goals as goal

pub shown-requires-clause-live : goal.shown-requires-clause-live
shown-requires-clause-live c = (subst (λ (x : IndexedState). StandsOn c.args.tree.now x) (sym c.self.view_is) c.requires.stands).live
