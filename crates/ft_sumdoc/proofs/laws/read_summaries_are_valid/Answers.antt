use Rattle.ft_sumdoc.proofs.ValidSummaries.{read_summary-valid}
use Rattle.ft_sumdoc.proofs.laws.read_summaries_are_valid.Goals as goal

pub returns : goal.returns
returns c = read_summary-valid
