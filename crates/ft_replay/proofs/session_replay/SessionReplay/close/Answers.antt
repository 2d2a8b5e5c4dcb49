use Rattle.ft_seqr.specs.SessionReport.{as_applied, session_after}
use Rattle.ft_replay.proofs.session_replay.SessionReplay.close.Goals as goal

pub returns-clause-ending : goal.returns-clause-ending
returns-clause-ending g c heard has = c.close_lines-ending.ensures.ending c.args.self.lines (session_after as_applied heard) has

pub returns-clause-writes : goal.returns-clause-writes
returns-clause-writes g c heard has = c.close_lines-ending.ensures.writes c.args.self.lines (session_after as_applied heard) has
