use Rattle.std.proofs.Common.{refl}
use Rattle.std.proofs.lemmas.Result.{on_ok_weaker}
use Rattle.ft_replay.proofs.PlayLaws.{plays_refused, plays_taken}
use Rattle.ft_replay.proofs.SessionSteps.{event-refused}
use Rattle.ft_replay.proofs.play.Play.take.Goals as goal

pub returns-in-Ok : goal.returns-in-Ok
returns-in-Ok g c = λ at h.
    let a = c.in-Ok.ensures.answers.runs at.made h.world in
    on_ok_weaker c.add_shown.result (λ shown. plays_taken c.args.self.now _ at c.args.event.now h a.0 a.1 a.2 refl shown)
    (c.add_shown.ensures at.shown a.0.1 h.shown a.3)

pub returns-in-Err : goal.returns-in-Err
returns-in-Err g c = λ at h.
    plays_refused c.args.self.now _ at c.args.event.now h c.step.new.self c.in-Err.why c.count_refused.result
    (λ other. event-refused at.made c.args.event.now h.world c.in-Err.why other c.in-Err.ensures.answers) c.count_refused.ensures.found c.count_refused.ensures.count
    c.count_refused.ensures.world c.count_refused.ensures.showing
