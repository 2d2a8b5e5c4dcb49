use Rattle.std.proofs.Common.{◌∙◌, ap, arith, refl, Err}
use Rattle.std.proofs.lemmas.Result.{IfOk-at_ok, err_from_is_err_and}
use Rattle.ft_replay.specs.LineForm.{bytes_of}
use Rattle.ft_replay.specs.Play.{lines_of_play}
use Rattle.ft_replay.specs.Playing.{Plays}
use Rattle.ft_replay.proofs.Written.{writes_done, writes_fault, writes_nothing}
use Rattle.ft_replay.proofs.play.write_played.Goals as goal

pub returns-in_err-played-clause-writes : goal.returns-in_err-played-clause-writes
returns-in_err-played-clause-writes g c = λ at plays.
    let r = c.from_residual in
    let p = err_from_is_err_and r.result r.ensures.1 in
    writes_nothing (g.K.Sink.contents c.args.out.now) (g.K.Sink.faults c.args.out.now) _ r.result (p.1 ∙ ap Err p.2) (omega arith)

pub returns-in_err-put_text-clause-writes : goal.returns-in_err-put_text-clause-writes
returns-in_err-put_text-clause-writes g c = λ at plays.
    let r = c.from_residual-in_err-put_text in
    let p = err_from_is_err_and r.result r.ensures.1 in
    writes_fault (Unit {0}) _ (g.K.Sink.contents c.args.out.now) (g.K.Sink.contents c.put_text.new.out) (g.K.Sink.faults c.args.out.now) (g.K.Sink.faults c.put_text.new.out) _ _ _ r.result
    (p.1 ∙ ap Err p.2) refl
    (c.in_err-put_text.ensures.writes (bytes_of (lines_of_play c.args.settings at)) (c.text.ensures at (IfOk-at_ok (λ _. Plays c.args.play.now at) c.in_ok-played.was plays)))

pub returns-clause-writes : goal.returns-clause-writes
returns-clause-writes g c = λ at plays.
    writes_done (Unit {0}) _ (g.K.Sink.contents c.args.out.now) (g.K.Sink.contents c.put_text.new.out) (g.K.Sink.faults c.args.out.now) (g.K.Sink.faults c.put_text.new.out) _ _ c.in_ok-put_text.field-0 _ refl
    (c.in_ok-put_text.ensures.writes (bytes_of (lines_of_play c.args.settings at)) (c.text.ensures at (IfOk-at_ok (λ _. Plays c.args.play.now at) c.in_ok-played.was plays)))

pub returns-clause-ends : goal.returns-clause-ends
returns-clause-ends g c = λ at plays. c.ending.ensures at (IfOk-at_ok (λ _. Plays c.args.play.now at) c.in_ok-played.was plays)
