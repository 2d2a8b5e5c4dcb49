use Rattle.ft_replay.specs.Play.{session_play}
use Rattle.ft_replay.proofs.play.write_play.Goals as goal

pub returns-clause-ends : goal.returns-clause-ends
returns-clause-ends g c = c.write_played-ending.ensures.ends (session_play c.args.settings) c.take_session-played.ensures

pub returns-clause-writes : goal.returns-clause-writes
returns-clause-writes g c = c.write_played-ending.ensures.writes (session_play c.args.settings) c.take_session-played.ensures
