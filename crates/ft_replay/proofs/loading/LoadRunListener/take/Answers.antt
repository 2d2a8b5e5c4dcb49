use Rattle.std.proofs.Common.{◌≡◌, IfOk, ap, arith, refl, subst, sym}
use Rattle.std.proofs.lemmas.Result.{IfOk-weaker}
use Rattle.ft_replay.specs.Listening.{IsStep}
use Rattle.ft_replay.specs.LoadRuns.{Loads, names_reserved}
use Rattle.ft_replay.specs.Loading.{Loading, load_line, nothing_loaded}
use Rattle.ft_replay.specs.Observers.{Observes}
use Rattle.ft_replay.proofs.Observing.{load-next}
use Rattle.ft_replay.proofs.loading.LoadRunListener.take.Goals as goal

pub returns-in-Waiting-clause-step : goal.returns-in-Waiting-clause-step
returns-in-Waiting-clause-step g c = λ made h.
    let state = g.R.Replica.state in
    let at : made ≡ nothing_loaded = subst (λ a. Loads state a made) c.in-Waiting.is h in
    subst (λ (m : Loading). IfOk c.begin.result (λ told. IsStep (Loads state c.begin.new.run) told (load_line m c.args.line.now))) (sym at) c.begin.ensures.step

pub returns-in-Waiting-clause-size : goal.returns-in-Waiting-clause-size
returns-in-Waiting-clause-size g c = omega (arith, ap names_reserved c.in-Waiting.is, c.begin.ensures.size refl)

pub returns-in-Observing-clause-step : goal.returns-in-Observing-clause-step
returns-in-Observing-clause-step g c = λ made h.
    let state = g.R.Replica.state in
    let new = c.take.new.self in
    let o = subst (λ a. Loads state a made) c.in-Observing.is h in
    IfOk-weaker c.take.result _ _ (λ told step. load-next (Observes new.names (state new.replica)) told made c.args.line.now o.0 step) (c.take.ensures.step made.seen o.1)
