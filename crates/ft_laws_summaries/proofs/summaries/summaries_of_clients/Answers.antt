use Rattle.ft_laws_summaries.proofs.RunSummaries.{summaries-are-valid, summaries-are-well_cut, summaries-give-documents}
use Rattle.ft_laws_summaries.proofs.summaries.summaries_of_clients.Goals as goal

pub returns-clause-gives : goal.returns-clause-gives
returns-clause-gives c = summaries-give-documents

pub returns-clause-valid : goal.returns-clause-valid
returns-clause-valid c = summaries-are-valid

pub returns-clause-cut : goal.returns-clause-cut
returns-clause-cut c = summaries-are-well_cut
