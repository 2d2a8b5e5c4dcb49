use Rattle.ft_io.specs.Lines.{with_lf}
use Rattle.ft_replay.specs.Generated.{event_line}
use Rattle.ft_replay.proofs.generated.write_line.Goals as goal

pub returns-clause-writes : goal.returns-clause-writes
returns-clause-writes g c = c.put_text.ensures.writes (with_lf (event_line c.args.event)) c.line_of.ensures
