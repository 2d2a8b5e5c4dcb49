use Rattle.std.proofs.Common.{◌∙◌, ap, Err}
use Rattle.std.proofs.lemmas.Result.{err_from_is_err_and}
use Rattle.ft_io.specs.Lines.{lines}
use Rattle.ft_io.specs.Streams.{Rose}
use Rattle.ft_replay.specs.LineForm.{form_after}
use Rattle.ft_replay.proofs.RunLaws.{both_steady, moves_close, moves_on}
use Rattle.ft_replay.proofs.forms.report_lines.Goals as goal

pub returns-in_err-refused-clause-run : goal.returns-in_err-refused-clause-run
returns-in_err-refused-clause-run g c =
    let p = err_from_is_err_and c.from_residual.result c.from_residual.ensures.1 in
    moves_on g.L.Listener.form (g.S.Source.remaining c.args.src.now) (g.S.Source.remaining c.read_lines.new.src) (g.K.Sink.contents c.args.out.now) (g.K.Sink.contents c.read_lines.new.out) _ _
    (p.1 ∙ ap Err p.2) c.in_err-refused.ensures.run

pub returns-clause-run : goal.returns-clause-run
returns-clause-run g c =
    let told = c.in_ok-refused.ensures in
    let moved = told.run in
    let at = form_after g.L.Listener.form (lines moved.given) in
    let after = moved.says.after in
    let source_rose = Rose (g.S.Source.faults c.args.src.now) (g.S.Source.faults c.read_lines.new.src) in
    moves_close (g.K.Sink.contents c.close_lines.new.out) source_rose (g.K.Sink.faults c.args.out.now) (g.K.Sink.faults c.read_lines.new.out) (g.K.Sink.faults c.close_lines.new.out)
    moved told.sink_later c.close_lines.result (c.close_lines.ensures.ending after.0 at after.1) (c.close_lines.ensures.writes after.0 at after.1)

pub returns-clause-steady : goal.returns-clause-steady
returns-clause-steady g c =
    both_steady (g.S.Source.faults c.args.src.now) (g.S.Source.faults c.read_lines.new.src) (g.K.Sink.faults c.args.out.now) (g.K.Sink.faults c.read_lines.new.out) (g.K.Sink.faults c.close_lines.new.out)
    c.close_lines.result c.in_ok-refused.ensures.source_steady c.in_ok-refused.ensures.sink_steady c.close_lines.ensures.steady
