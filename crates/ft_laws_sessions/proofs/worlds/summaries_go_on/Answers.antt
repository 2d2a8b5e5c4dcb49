use Rattle.ft_laws_sessions.proofs.SummaryLaws.{summaries-go-on}
use Rattle.ft_laws_sessions.proofs.worlds.summaries_go_on.Goals as goal

pub returns : goal.returns
returns c = summaries-go-on
