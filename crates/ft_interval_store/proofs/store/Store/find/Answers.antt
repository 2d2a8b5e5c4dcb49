use Rattle.std.proofs.Common.{◌∙◌, ap, subst}
use Rattle.ft_interval_store.specs.Intervals.{place_of_operation}
use Rattle.ft_interval_store.specs.State.{AreOwnEnds, CollectionsState}
use Rattle.ft_interval_store.proofs.store.Store.find.Goals as goal

pub returns-clause-place : goal.returns-clause-place
returns-clause-place c = c.find.ensures.place ∙ ap (λ (x : CollectionsState). place_of_operation c.args.op.now x.acked) c.self.view_is

pub returns-clause-ends : goal.returns-clause-ends
returns-clause-ends c = subst (λ (x : CollectionsState). AreOwnEnds c.args.op.now x.acked c.find.result.ends) c.self.view_is c.find.ensures.ends
