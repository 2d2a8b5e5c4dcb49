use Rattle.ft_laws_names.proofs.SummaryStart.{summary-start-shows}
use Rattle.ft_laws_names.proofs.naming.summary_starts.Goals as goal

pub returns : goal.returns
returns c = summary-start-shows
