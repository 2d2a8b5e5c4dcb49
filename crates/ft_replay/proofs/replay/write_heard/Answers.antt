use Rattle.std.proofs.Common.{◌≡◌, ◌∙◌, ap, arith, refl, sym, Err}
use Rattle.std.proofs.lemmas.Result.{IfOk-at_ok, err_from_is_err_and}
use Rattle.ft_replay.specs.Listening.{told_bytes}
use Rattle.ft_replay.proofs.Written.{writes_done, writes_fault, writes_nothing}
use Rattle.ft_replay.proofs.replay.write_heard.Goals as goal

pub returns-in_err-write_told-in-Ok-clause-writes : goal.returns-in_err-write_told-in-Ok-clause-writes
returns-in_err-write_told-in-Ok-clause-writes g c = λ bytes is.
    let r = c.from_residual in
    let p = err_from_is_err_and r.result r.ensures.1 in
    writes_fault (Unit {0}) _ (g.K.Sink.contents c.args.out.now) (g.K.Sink.contents c.write_told.new.out) (g.K.Sink.faults c.args.out.now) (g.K.Sink.faults c.write_told.new.out) _ _ _ r.result
    (p.1 ∙ ap Err p.2) (sym (IfOk-at_ok (λ told. bytes ≡ told_bytes c.args.line told) c.in-Ok.is is)) c.in_err-write_told-in-Ok.ensures.writes

pub returns-in_ok-write_told-in-Ok-clause-count : goal.returns-in_ok-write_told-in-Ok-clause-count
returns-in_ok-write_told-in-Ok-clause-count g c = (c.in-Ok.told, c.in-Ok.is, c.refusals.ensures.after c.args.refused)

pub returns-in_ok-write_told-in-Ok-clause-writes : goal.returns-in_ok-write_told-in-Ok-clause-writes
returns-in_ok-write_told-in-Ok-clause-writes g c = λ bytes is.
    writes_done (Unit {0}) _ (g.K.Sink.contents c.args.out.now) (g.K.Sink.contents c.write_told.new.out) (g.K.Sink.faults c.args.out.now) (g.K.Sink.faults c.write_told.new.out) _ _ c.in_ok-write_told-in-Ok.field-0 _
    (sym (IfOk-at_ok (λ told. bytes ≡ told_bytes c.args.line told) c.in-Ok.is is)) c.in_ok-write_told-in-Ok.ensures.writes

pub returns-in-Err-clause-writes : goal.returns-in-Err-clause-writes
returns-in-Err-clause-writes g c = λ bytes is. writes_nothing (g.K.Sink.contents c.args.out.now) (g.K.Sink.faults c.args.out.now) bytes _ refl (omega arith)
