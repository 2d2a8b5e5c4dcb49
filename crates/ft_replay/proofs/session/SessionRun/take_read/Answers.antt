use Rattle.std.proofs.Common.{◌≡◌, Ok, Result, subst, sym}
use Rattle.std.specs.Prelude.{IfOk}
use Rattle.std.proofs.lemmas.Result.{IfErr-at_err, IfOk-at_ok}
use Rattle.ft_msg.specs.declared.faults.Cause.{Cause}
use Rattle.ft_seqr.specs.declared.events.Event.{Event}
use Rattle.ft_seqr.specs.declared.refusals.Refusal.TheVariants.{OutOfMemory}
use Rattle.ft_seqr.specs.EventGrammar.{event}
use Rattle.ft_seqr.specs.EventReader.{IsRefused}
use Rattle.ft_seqr.specs.SessionReport.{answer_reading, as_shown}
use Rattle.ft_seqr.specs.WellFormedEvent.{IsWellFormedEvent}
use Rattle.ft_session.specs.Worlds.{WorldStands}
use Rattle.ft_replay.specs.Listening.{IsStep}
use Rattle.ft_replay.proofs.SessionSteps.{line-refused}
use Rattle.ft_replay.proofs.session.SessionRun.take_read.Goals as goal

pub tell-requires : goal.tell-requires
tell-requires g c = IfOk-at_ok IsWellFormedEvent c.in-Ok.is c.requires

pub returns-in-Ok : goal.returns-in-Ok
returns-in-Ok g c = λ w line h reads.
    subst (λ (r : Result Event Cause). IfOk c.tell.result (λ told. IsStep (WorldStands c.tell.new.self.world) told (answer_reading as_shown w r)))
    (sym (IfOk-at_ok (λ (e : Event). event line ≡ Ok e) c.in-Ok.is reads.ok)) (c.tell.ensures w h)

pub returns-in-Err : goal.returns-in-Err
returns-in-Err g c = λ w line h reads.
    line-refused (λ v. WorldStands c.args.self.now.world v) w line c.in-Err.refusal c.told_refused.result c.told_refused.ensures.told c.told_refused.ensures.found
    (IfErr-at_err (λ why. (why ≡ OutOfMemory → ⊥) → IsRefused line why) c.in-Err.is reads.err) h
