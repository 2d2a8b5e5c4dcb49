use Rattle.ft_map.proofs.KnownSessions.{no-nack}
use Rattle.ft_map.proofs.laws.no_draft_is_refused.Goals as goal

pub returns : goal.returns
returns c = no-nack
