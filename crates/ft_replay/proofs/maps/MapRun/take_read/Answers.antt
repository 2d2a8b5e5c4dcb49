use Rattle.std.proofs.Common.{◌≡◌, Ok, Result, subst, sym}
use Rattle.std.specs.Prelude.{IfOk}
use Rattle.std.proofs.lemmas.Result.{IfErr-at_err, IfOk-at_ok}
use Rattle.ft_msg.specs.declared.faults.Cause.{Cause}
use Rattle.ft_seqr.specs.declared.refusals.Refusal.TheVariants.{OutOfMemory}
use Rattle.ft_map.specs.declared.events.MapEvent.{MapEvent}
use Rattle.ft_map.specs.MapEventReader.{IsRefused}
use Rattle.ft_map.specs.MapGrammar.{map_event}
use Rattle.ft_map.specs.MapReport.{answer_reading}
use Rattle.ft_replay.specs.Listening.{IsStep}
use Rattle.ft_replay.specs.MapRuns.{running}
use Rattle.ft_replay.proofs.MapSteps.{line-refused}
use Rattle.ft_replay.proofs.maps.MapRun.take_read.Goals as goal

pub returns-in-Ok : goal.returns-in-Ok
returns-in-Ok c = λ w line h reads.
    subst (λ (r : Result MapEvent Cause). IfOk c.tell.result (λ told. IsStep (λ v. c.tell.new.self.world ≡ running v) told (answer_reading w r)))
    (sym (IfOk-at_ok (λ (e : MapEvent). map_event line ≡ Ok e) c.in-Ok.is reads.ok)) (c.tell.ensures w h)

pub returns-in-Err : goal.returns-in-Err
returns-in-Err c = λ w line h reads.
    line-refused (λ v. c.args.self.now.world ≡ running v) w line c.in-Err.refusal c.told_refused.result c.told_refused.ensures.told c.told_refused.ensures.found
    (IfErr-at_err (λ why. (why ≡ OutOfMemory → ⊥) → IsRefused line why) c.in-Err.is reads.err) h
