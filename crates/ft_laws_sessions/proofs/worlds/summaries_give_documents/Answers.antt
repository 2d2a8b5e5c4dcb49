use Rattle.ft_laws_sessions.proofs.SummaryLaws.{summaries-give-documents}
use Rattle.ft_laws_sessions.proofs.worlds.summaries_give_documents.Goals as goal

pub returns : goal.returns
returns c = summaries-give-documents
