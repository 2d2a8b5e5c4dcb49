use Rattle.std.proofs.Common.{Option, Some, Err, ap, arith, subst, ◌∙◌}
use Rattle.std.proofs.lemmas.Result.{err_from_is_err_and}
use Rattle.ft_seqr.specs.declared.events.Event.{Event}
use Rattle.ft_gen.specs.Generated.{IsNext}
use Rattle.ft_replay.proofs.GeneratedLaws.{writing_fails, writing_next}
use Rattle.ft_replay.proofs.generated.write_generated.Goals as goal

pub loop-event-preserved : goal.loop-event-preserved
loop-event-preserved g c =
    let h = c.loop-event.invariant in
    let n : IsNext c.loop-event.events (Some c.in-Some.event) c.next.new.self =
    subst (λ (a : Option Event). IsNext c.loop-event.events a c.next.new.self) c.in-Some.is c.in_ok-event.ensures.ok in
    record {
      writing = writing_next h.writing h.later c.in-Some.event c.next.new.self n.0 (g.K.Sink.contents c.write_line.new.out) (g.K.Sink.faults c.write_line.new.out)
          c.in_ok-write_line.field-0 c.in_ok-write_line.ensures.writes;
      later = omega (arith, h.later, c.in_ok-write_line.ensures.writes.later);
      steady = c.in_ok-write_line.ensures.steady ∙ h.steady;
    }

pub returns-in_err-write_line-clause-writes : goal.returns-in_err-write_line-clause-writes
returns-in_err-write_line-clause-writes g c =
    let h = c.loop-event.invariant in
    let n : IsNext c.loop-event.events (Some c.in-Some.event) c.next.new.self =
    subst (λ (a : Option Event). IsNext c.loop-event.events a c.next.new.self) c.in-Some.is c.in_ok-event.ensures.ok in
    let r = c.from_residual-in_err-write_line in
    let p = err_from_is_err_and r.result r.ensures.1 in
    writing_fails h.writing h.later c.in-Some.event c.next.new.self n.0 (g.K.Sink.contents c.write_line.new.out) (g.K.Sink.faults c.write_line.new.out)
    _ (Unit {0}) _ r.result (p.1 ∙ ap Err p.2) c.in_err-write_line.ensures.writes
