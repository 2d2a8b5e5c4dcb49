use Rattle.std.proofs.Common.{Some, ap, subst, sym}
use Rattle.ft_replay.specs.Listening.{counts_in}
use Rattle.ft_replay.specs.LoadRuns.{Loads}
use Rattle.ft_replay.specs.Loading.{Loading}
use Rattle.ft_replay.proofs.loading.LoadRunListener.counts.Goals as goal

pub returns-in-Waiting : goal.returns-in-Waiting
returns-in-Waiting g c = λ made h. ap (λ (at : Loading). Some (counts_in at.seen.doc)) (sym (subst (λ a. Loads g.R.Replica.state a made) c.in-Waiting.is h))

pub returns-in-Observing : goal.returns-in-Observing
returns-in-Observing g c = λ made h. c.counts.ensures made.seen (subst (λ a. Loads g.R.Replica.state a made) c.in-Observing.is h).1
