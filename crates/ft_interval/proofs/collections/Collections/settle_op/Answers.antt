use Rattle.std.proofs.Common.{sym, ap, subst}
use Rattle.ft_interval_store.specs.State.{CollectionsState}
use Rattle.ft_interval.specs.State.{IndexedState, StandsOn}
use Rattle.ft_interval.proofs.Effects.{three-ok}
use Rattle.ft_interval.proofs.StandsSteps.{stands-kept}
use Rattle.ft_interval.proofs.collections.Collections.settle_op.Goals as goal

pub settle_op-requires-clause-live : goal.settle_op-requires-clause-live
settle_op-requires-clause-live c = (subst (λ (x : IndexedState). StandsOn c.args.tree.now x) (sym c.self.view_is) c.requires.stands).live

pub returns-clause-stands : goal.returns-clause-stands
returns-clause-stands c =
    let s = subst (λ (x : IndexedState). StandsOn c.args.tree.now x) (sym c.self.view_is) c.requires.stands in
    three-ok c.settle_op.result (λ p k rest. stands-kept c.args.tree.now c.settle_op.new.tree c.self.inside.store c.settle_op.new.self
    c.self.inside.indexes
    c.settle_op.ensures.acked (ap (λ (x : CollectionsState). x.acked) p) rest k.live s.listed) c.settle_op.ensures.settled c.settle_op.ensures.refs c.settle_op.ensures.rest
