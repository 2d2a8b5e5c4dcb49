use Rattle.std.proofs.Common.{length}
use Rattle.ft_replay.specs.Play.{session_play}
use Rattle.ft_replay.proofs.PlayLaws.{PlaysToward}
use Rattle.ft_replay.proofs.play.Play.take_session.Given as goal

-- the events that are left lead to the whole play
abbrev pub invariant-session : goal.invariant-session
invariant-session g l = PlaysToward (session_play l.fn.settings) l.self l.events

-- each event brings the session nearer to its end
abbrev pub decreases-session : goal.decreases-session
decreases-session g l = length l.events
