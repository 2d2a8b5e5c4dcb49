use Rattle.ft_laws_sessions.proofs.WorldLaws.{events-have-their_refusals}
use Rattle.ft_laws_sessions.proofs.worlds.events_have_their_refusals.Goals as goal

pub returns : goal.returns
returns c = events-have-their_refusals
