use Rattle.ft_laws_agreement.proofs.TrimmedFromNow.{trim-shows}
use Rattle.ft_laws_agreement.proofs.trimming.trimmed_documents.Goals as goal

pub returns : goal.returns
returns c = record { shows_the_same = trim-shows }
