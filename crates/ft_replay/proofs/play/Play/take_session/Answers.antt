use Rattle.std.proofs.Common.{Option, Some, subst}
use Rattle.ft_seqr.specs.declared.events.Event.{Event}
use Rattle.ft_gen.specs.Generated.{IsNext}
use Rattle.ft_replay.proofs.PlayLaws.{toward_next}
use Rattle.ft_replay.proofs.play.Play.take_session.Goals as goal

pub session-preserved : goal.session-preserved
session-preserved g c =
    let h = c.session.invariant in
    let n : IsNext c.session.events (Some c.in-Some.event) c.next.new.self =
    subst (λ (a : Option Event). IsNext c.session.events a c.next.new.self) c.in-Some.is c.in_ok-event.ensures.ok in
    toward_next h c.in-Some.event c.next.new.self c.take_whole.new.self n.0 (c.in_ok-take_whole.ensures h.at h.plays)
