use Rattle.std.proofs.Common.{ap}
use Rattle.ft_interval_store.specs.State.{CollectionsState}
use Rattle.ft_tests_string.proofs.PlayingLaws.{heard-interval}
use Rattle.ft_tests_string.proofs.hearing.hear_interval.Goals as goal

pub returns : goal.returns
returns c k h =
    let e = c.in_ok-fits.ensures in
    heard-interval c.in_ok-fits.fits c.args.tree.now c.apply.new.tree c.args.intervals.now c.apply.new.self
    (λ t. ap (λ (x : CollectionsState). x.pending) (e.effect t)) e.refs e.rest e.misfit e.stands k h
