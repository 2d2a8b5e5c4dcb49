use Rattle.std.proofs.Common.{◌∙◌, ◌+◌, ap, subst, Err}
use Rattle.std.proofs.lemmas.Result.{err_from_is_err_and}
use Rattle.ft_seqr.specs.SessionReport.{as_applied, session_after}
use Rattle.ft_session.specs.Worlds.{WorldStands}
use Rattle.ft_replay.specs.Listening.{Follows}
use Rattle.ft_replay.proofs.SessionPieces.{after-line, line-written}
use Rattle.ft_replay.proofs.Written.{writes_done, writes_fault}
use Rattle.ft_replay.proofs.session_replay.SessionReplay.hear_next.Goals as goal

pub returns-in_err-refused-clause-writes : goal.returns-in_err-refused-clause-writes
returns-in_err-refused-clause-writes g c heard has =
    let r = c.from_residual in
    let p = err_from_is_err_and r.result r.ensures.1 in
    writes_fault _ _ (g.K.Sink.contents c.args.out.now) (g.K.Sink.contents c.hear_line.new.out) (g.K.Sink.faults c.args.out.now) (g.K.Sink.faults c.hear_line.new.out) _ _ _ r.result
    (p.1 ∙ ap Err p.2) (line-written c.reports_are_one.ensures.opened heard c.args.line.now) (c.in_err-refused.ensures.writes (session_after as_applied heard) has)

pub returns-clause-after : goal.returns-clause-after
returns-clause-after g c heard has =
    subst (λ p. Follows (WorldStands c.hear_line.new.listener.world) (c.args.self.now.lines + 1) c.in_ok-refused.refused p) (after-line heard c.args.line.now)
    (c.in_ok-refused.ensures.after (session_after as_applied heard) has)

pub returns-clause-writes : goal.returns-clause-writes
returns-clause-writes g c heard has =
    writes_done _ _ (g.K.Sink.contents c.args.out.now) (g.K.Sink.contents c.hear_line.new.out) (g.K.Sink.faults c.args.out.now) (g.K.Sink.faults c.hear_line.new.out) _ _ c.in_ok-refused.refused _
    (line-written c.reports_are_one.ensures.opened heard c.args.line.now) (c.in_ok-refused.ensures.writes (session_after as_applied heard) has)
