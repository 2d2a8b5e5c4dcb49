use Rattle.std.proofs.Common.{◌∙◌, ap, Err}
use Rattle.std.proofs.lemmas.Result.{err_from_is_err_and}
use Rattle.ft_io.specs.Streams.{Rose}
use Rattle.ft_replay.proofs.RunLaws.{moves_nothing}
use Rattle.ft_replay.proofs.forms.replay_lines.Goals as goal

pub returns-in_err-listener-clause-run : goal.returns-in_err-listener-clause-run
returns-in_err-listener-clause-run g c =
    let r = c.from_residual in
    let p = err_from_is_err_and r.result r.ensures.1 in
    moves_nothing g.L.Listener.form (g.S.Source.remaining c.args.src.now) (g.K.Sink.contents c.args.out.now) (Rose (g.S.Source.faults c.args.src.now) (g.S.Source.faults c.args.src.now))
    (Rose (g.K.Sink.faults c.args.out.now) (g.K.Sink.faults c.args.out.now)) r.result (p.1 ∙ ap Err p.2)

pub returns-in_err-lines-clause-run : goal.returns-in_err-lines-clause-run
returns-in_err-lines-clause-run g c =
    let r = c.from_residual-in_err-lines in
    let p = err_from_is_err_and r.result r.ensures.1 in
    moves_nothing g.L.Listener.form (g.S.Source.remaining c.args.src.now) (g.K.Sink.contents c.args.out.now) (Rose (g.S.Source.faults c.args.src.now) (g.S.Source.faults c.args.src.now))
    (Rose (g.K.Sink.faults c.args.out.now) (g.K.Sink.faults c.args.out.now)) r.result (p.1 ∙ ap Err p.2)

pub report_lines-requires : goal.report_lines-requires
report_lines-requires g c = record { new = c.in_ok-lines.ensures; first = c.in_ok-listener.ensures.first; sized = c.in_ok-listener.ensures.size }

pub returns-clause-run : goal.returns-clause-run
returns-clause-run g c = c.report_lines.ensures.run

pub returns-clause-steady : goal.returns-clause-steady
returns-clause-steady g c = c.report_lines.ensures.steady
