use Rattle.ft_laws_sessions.proofs.ValidLaws.{summaries-are-valid}
use Rattle.ft_laws_sessions.proofs.worlds.summaries_are_valid.Goals as goal

pub returns : goal.returns
returns c = summaries-are-valid
