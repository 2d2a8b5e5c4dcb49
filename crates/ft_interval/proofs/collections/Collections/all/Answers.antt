use Rattle.std.proofs.Common.{sym, subst}
use Rattle.ft_interval.specs.State.{IndexedState, StandsOn}
use Rattle.ft_interval.proofs.collections.Collections.all.Goals as goal

pub all-requires-clause-live : goal.all-requires-clause-live
all-requires-clause-live c = (subst (λ (x : IndexedState). StandsOn c.args.tree.now x) (sym c.self.view_is) c.requires.stands).live
