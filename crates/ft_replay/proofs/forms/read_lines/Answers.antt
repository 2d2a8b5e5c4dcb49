use Rattle.std.proofs.Common.{ℕ, ◌∙◌, ◌+◌, Err, ap, arith, refl}
use Rattle.std.proofs.lemmas.Result.{err_from_is_err_and}
use Rattle.ft_seqr.specs.Walk.{line_limit}
use Rattle.ft_replay.specs.Listening.{Follows, HandsOut}
use Rattle.ft_replay.specs.LineForm.{form_after}
use Rattle.ft_replay.proofs.RunLaws.{stands_start, stands_within, with_fault, moves_end, moves_fault, next_line, handed-within, few_lines, stands_next, moves_step}
use Rattle.ft_replay.proofs.forms.read_lines.Goals as goal

pub walk-init : goal.walk-init
walk-init g c = record {
  stands = stands_start g.L.Listener.form _ (g.S.Source.remaining c.args.src.now) (g.K.Sink.contents c.args.out.now) line_limit c.args.lines.now c.requires.new
      (record { lines = refl; refusals = refl; holds = c.requires.first });
  counted = omega arith;
  sized = omega (arith, c.requires.sized);
  source_later = omega arith;
  sink_later = omega arith;
  source_steady = refl;
  sink_steady = refl;
}

pub returns-in_err-line-clause-run : goal.returns-in_err-line-clause-run
returns-in_err-line-clause-run g c =
    let now = c.walk in
    let h = now.invariant in
    let made = (form_after g.L.Listener.form h.stands.handed).made in
    let stands = stands_within (g.L.Listener.form.longest made) h.stands in
    let call = c.in_err-line.ensures.call made h.stands.after.holds h.stands.reading.runs in
    let p = err_from_is_err_and c.from_residual.result c.from_residual.ensures.1 in
    with_fault g.L.Listener.form _ (g.S.Source.remaining c.args.src.now) (g.S.Source.remaining c.next_line.new.src) (g.K.Sink.contents c.args.out.now) (g.K.Sink.contents now.out) _ _ (p.1 ∙ ap Err p.2)
    (moves_fault stands c.in_err-line.field-0.0 call (g.S.Source.faults c.args.src.now) _ h.source_later)

pub returns-in-End-clause-run : goal.returns-in-End-clause-run
returns-in-End-clause-run g c =
    let now = c.walk in
    let h = now.invariant in
    let made = (form_after g.L.Listener.form h.stands.handed).made in
    let stands = stands_within (g.L.Listener.form.longest made) h.stands in
    moves_end stands (λ at. (count : ℕ) × Follows (g.L.Listener.holds now.listener) count now.refused at) (λ at follows. (now.count, follows))
    (c.in_ok-line.ensures.call made h.stands.after.holds h.stands.reading.runs) c.in-End.is

pub hear_read-requires : goal.hear_read-requires
hear_read-requires g c =
    let h = c.walk.invariant in
    let made = (form_after g.L.Listener.form h.stands.handed).made in
    let longest = g.L.Listener.form.longest made in
    let stands = stands_within longest h.stands in
    let call = c.in_ok-line.ensures.call made h.stands.after.holds h.stands.reading.runs in
    let next = next_line stands call c.in_default.not-End in
    record {
      few = omega (arith, few_lines stands next, h.stands.after.lines);
      counted = h.counted;
      sized = h.sized;
      handed = handed-within longest next.text c.in_ok-line.line (c.in_ok-line.ensures.most made h.stands.after.holds) next.is_text;
    }

pub returns-in_err-refused-in_default-clause-run : goal.returns-in_err-refused-in_default-clause-run
returns-in_err-refused-in_default-clause-run g c =
    let now = c.walk in
    let h = now.invariant in
    let at = form_after g.L.Listener.form h.stands.handed in
    let stands = stands_within (g.L.Listener.form.longest at.made) h.stands in
    let call = c.in_ok-line.ensures.call at.made h.stands.after.holds h.stands.reading.runs in
    let next = next_line stands call c.in_default.not-End in
    let out : HandsOut g.L.Listener.form at.made next.text c.in_ok-line.line = record { least = c.in_ok-line.ensures.least at.made h.stands.after.holds; is = next.is_text } in
    let writes = c.in_err-refused-in_default.ensures.writes next.text at out h.stands.after in
    let r = c.from_residual-in_err-refused-in_default in
    let p = err_from_is_err_and r.result r.ensures.1 in
    with_fault g.L.Listener.form _ (g.S.Source.remaining c.args.src.now) (g.S.Source.remaining c.next_line.new.src) (g.K.Sink.contents c.args.out.now) (g.K.Sink.contents c.hear_read.new.out) _ _ (p.1 ∙ ap Err p.2)
    (moves_step stands next (g.K.Sink.contents c.hear_read.new.out) c.in_err-refused-in_default.field-0.0 (g.K.Sink.faults c.args.out.now) (g.K.Sink.faults now.out) (g.K.Sink.faults c.hear_read.new.out) _ h.sink_later writes)

pub returns-in_err-refused-in_default-clause-source_later : goal.returns-in_err-refused-in_default-clause-source_later
returns-in_err-refused-in_default-clause-source_later g c =
    let h = c.walk.invariant in
    let at = form_after g.L.Listener.form h.stands.handed in
    omega (arith, h.source_later, (c.in_ok-line.ensures.call at.made h.stands.after.holds h.stands.reading.runs).later)

pub returns-in_err-refused-in_default-clause-sink_later : goal.returns-in_err-refused-in_default-clause-sink_later
returns-in_err-refused-in_default-clause-sink_later g c =
    let h = c.walk.invariant in
    let at = form_after g.L.Listener.form h.stands.handed in
    let stands = stands_within (g.L.Listener.form.longest at.made) h.stands in
    let next = next_line stands (c.in_ok-line.ensures.call at.made h.stands.after.holds h.stands.reading.runs) c.in_default.not-End in
    let out : HandsOut g.L.Listener.form at.made next.text c.in_ok-line.line = record { least = c.in_ok-line.ensures.least at.made h.stands.after.holds; is = next.is_text } in
    omega (arith, h.sink_later, (c.in_err-refused-in_default.ensures.writes next.text at out h.stands.after).later)

pub walk-smaller : goal.walk-smaller
walk-smaller g c =
    let h = c.walk.invariant in
    let made = (form_after g.L.Listener.form h.stands.handed).made in
    let stands = stands_within (g.L.Listener.form.longest made) h.stands in
    let call = c.in_ok-line.ensures.call made h.stands.after.holds h.stands.reading.runs in
    (next_line stands call c.in_default.not-End).nearer

pub walk-preserved : goal.walk-preserved
walk-preserved g c =
    let now = c.walk in
    let h = now.invariant in
    let at = form_after g.L.Listener.form h.stands.handed in
    let stands = stands_within (g.L.Listener.form.longest at.made) h.stands in
    let call = c.in_ok-line.ensures.call at.made h.stands.after.holds h.stands.reading.runs in
    let next = next_line stands call c.in_default.not-End in
    let told = c.in_ok-refused-in_default.ensures in
    let refused = c.in_ok-refused-in_default.refused in
    let out : HandsOut g.L.Listener.form at.made next.text c.in_ok-line.line = record { least = c.in_ok-line.ensures.least at.made h.stands.after.holds; is = next.is_text } in
    let writes = told.writes next.text at out h.stands.after in
    record {
      stands = stands_next stands next (g.K.Sink.contents c.hear_read.new.out) refused (λ p. Follows (g.L.Listener.holds c.hear_read.new.listener) (now.count + 1) refused p)
          (g.K.Sink.faults now.out) (g.K.Sink.faults c.hear_read.new.out) (told.after next.text at out h.stands.after) writes;
      counted = told.counted;
      sized = told.sized;
      source_later = omega (arith, h.source_later, call.later);
      sink_later = omega (arith, h.sink_later, writes.later);
      source_steady = c.in_ok-line.ensures.steady ∙ h.source_steady;
      sink_steady = told.steady ∙ h.sink_steady;
    }
