use Rattle.ft_laws_agreement.proofs.ConsistentDocument.{agreed-consistent, take_entry-consistent, trim-consistent}
use Rattle.ft_laws_agreement.proofs.trimming.consistent_documents.Goals as goal

pub returns-clause-agreed : goal.returns-clause-agreed
returns-clause-agreed c = agreed-consistent

pub returns-clause-stays : goal.returns-clause-stays
returns-clause-stays c = take_entry-consistent

pub returns-clause-trimmed : goal.returns-clause-trimmed
returns-clause-trimmed c = trim-consistent
