use Rattle.std.proofs.Common.{sym, subst}
use Rattle.ft_interval.specs.State.{IndexedState, StandsOn}
use Rattle.ft_interval.proofs.collections.Collections.shown_around.Goals as goal

pub shown_around-requires-clause-live : goal.shown_around-requires-clause-live
shown_around-requires-clause-live c = (subst (λ (x : IndexedState). StandsOn c.args.tree.now x) (sym c.self.view_is) c.requires.stands).live
