use Rattle.ft_io.specs.Streams.{Rose}
use Rattle.ft_replay.proofs.SessionLaws.{session-moves}
use Rattle.ft_replay.proofs.forms.replay_session.Goals as goal

pub returns-clause-run : goal.returns-clause-run
returns-clause-run g c =
    let one = c.reports_are_one.ensures in
    session-moves one.whole one.opened (g.S.Source.remaining c.args.src.now) (g.S.Source.remaining c.replay_lines.new.src) (g.K.Sink.contents c.args.out.now) (g.K.Sink.contents c.replay_lines.new.out)
    (Rose (g.S.Source.faults c.args.src.now) (g.S.Source.faults c.replay_lines.new.src)) (Rose (g.K.Sink.faults c.args.out.now) (g.K.Sink.faults c.replay_lines.new.out))
    c.replay_lines.result c.replay_lines.ensures.run
