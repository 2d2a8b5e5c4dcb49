use Rattle.std.proofs.Common.{◌∙◌, ap, refl, Err}
use Rattle.std.proofs.lemmas.Result.{err_from_is_err_and}
use Rattle.ft_replay.specs.LineForm.{bytes_of, form_end, last_ending}
use Rattle.ft_replay.proofs.Written.{writes_done, writes_fault}
use Rattle.ft_replay.proofs.replay.close_lines.Goals as goal

pub returns-in_err-put_text-clause-writes : goal.returns-in_err-put_text-clause-writes
returns-in_err-put_text-clause-writes g c = λ lines at follows.
    let r = c.from_residual in
    let p = err_from_is_err_and r.result r.ensures.1 in
    writes_fault (Unit {0}) _ (g.K.Sink.contents c.args.out.now) (g.K.Sink.contents c.put_text.new.out) (g.K.Sink.faults c.args.out.now) (g.K.Sink.faults c.put_text.new.out) _ _ _ r.result
    (p.1 ∙ ap Err p.2) refl (c.in_err-put_text.ensures.writes (bytes_of (form_end g.L.Listener.form at)) (c.end_text.ensures lines at follows))

pub returns-clause-writes : goal.returns-clause-writes
returns-clause-writes g c = λ lines at follows.
    writes_done (Unit {0}) _ (g.K.Sink.contents c.args.out.now) (g.K.Sink.contents c.put_text.new.out) (g.K.Sink.faults c.args.out.now) (g.K.Sink.faults c.put_text.new.out) _ _ c.in_ok-put_text.field-0 _
    refl (c.in_ok-put_text.ensures.writes (bytes_of (form_end g.L.Listener.form at)) (c.end_text.ensures lines at follows))

pub returns-clause-ending : goal.returns-clause-ending
returns-clause-ending g c = λ lines at follows.
    let counted = g.L.Listener.form.counted at.made in
    c.last_ending.ensures counted (c.counts.ensures at.made follows.holds) ∙ ap (λ n. last_ending n counted) follows.refusals
