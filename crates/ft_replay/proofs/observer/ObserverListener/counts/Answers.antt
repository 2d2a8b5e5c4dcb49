use Rattle.std.proofs.Common.{Some, ap}
use Rattle.ft_replay.proofs.Observing.{counts-told}
use Rattle.ft_replay.proofs.observer.ObserverListener.counts.Goals as goal

pub returns : goal.returns
returns g c = λ seen h. ap Some (counts-told (g.R.Replica.state c.args.self.now.replica) c.numbers-numbers.result seen.doc h.runs.client c.numbers-numbers.ensures.numbers)
