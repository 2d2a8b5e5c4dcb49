use Rattle.std.proofs.Common.{◌≡◌, ap, arith, Err, refl, Result, rules, Some, subst, sym}
use Rattle.std.specs.Prelude.{IfOk}
use Rattle.ft_msg.specs.declared.faults.Cause.{Cause}
use Rattle.ft_msg.specs.declared.messages.Message.{Message}
use Rattle.ft_msg.specs.MessageGrammar.{message}
use Rattle.ft_replay.specs.declared.listener.Told.TheVariants.{Refused}
use Rattle.ft_replay.specs.Listening.{IsStep}
use Rattle.ft_replay.specs.Observation.{observe_reading}
use Rattle.ft_replay.specs.Observers.{Observes}
use Rattle.ft_replay.proofs.observer.ObserverListener.take.Goals as goal

pub returns-in-Ok-clause-step : goal.returns-in-Ok-clause-step
returns-in-Ok-clause-step g c = λ made h.
    let new = c.take_message.new.self in
    let state = g.R.Replica.state in
    subst (λ (r : Result Message Cause). IfOk c.take_message.result (λ told. IsStep (Observes new.names (state new.replica)) told (observe_reading made r))) (sym c.in-Ok.ensures.reads.ok)
    (c.take_message.ensures.step made h)

pub returns-in-Err : goal.returns-in-Err
returns-in-Err g c =
    let self = c.args.self.now in
    let state = g.R.Replica.state in
    let is : message c.args.line.now ≡ Err c.in-Err.cause = c.in-Err.ensures.reads.err (search rules) in
    record {
      step = λ made h. subst (λ (r : Result Message Cause). IsStep (Observes self.names (state self.replica)) (Refused c.of_cause.result) (observe_reading made r)) (sym is)
          (record { holds = h; text = refl; refusal = ap Some c.of_cause.ensures });
      size = omega arith;
    }
