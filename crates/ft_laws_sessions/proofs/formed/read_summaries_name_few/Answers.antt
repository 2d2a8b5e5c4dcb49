use Rattle.ft_laws_sessions.proofs.SummaryNames.{summaries-name-few}
use Rattle.ft_laws_sessions.proofs.formed.read_summaries_name_few.Goals as goal

pub returns : goal.returns
returns c = summaries-name-few
