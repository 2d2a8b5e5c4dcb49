use Rattle.std.proofs.Common.{◌≤◌, length}
use Rattle.std.proofs.lemmas.Result.{IfOk-at_ok}
use Rattle.ft_replay.specs.Observers.{Observes}
use Rattle.ft_replay.proofs.loading.observe.Goals as goal

pub returns-clause-holds : goal.returns-clause-holds
returns-clause-holds g c = λ at begun h. (begun, IfOk-at_ok (λ o. Observes o.names (g.R.Replica.state o.replica) at.seen) c.in_ok-observer.was h)

pub returns-clause-size : goal.returns-clause-size
returns-clause-size g c = λ n few h. IfOk-at_ok (λ o. length o.names ≤ n) c.in_ok-observer.was h
