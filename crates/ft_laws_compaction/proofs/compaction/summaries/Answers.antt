-- All that a summary leaves out may be left out.
use Rattle.ft_laws_compaction.proofs.Compacting.{starts-from-summary}
use Rattle.ft_laws_compaction.proofs.Runs.{run-facts}
use Rattle.ft_laws_compaction.proofs.SameSummary.{run-values, summary-same}
use Rattle.ft_laws_compaction.proofs.compaction.summaries.Goals as goal

pub returns-clause-keeps : goal.returns-clause-keeps
returns-clause-keeps c = λ steps x run h. starts-from-summary steps x run h

pub returns-clause-alike : goal.returns-clause-alike
returns-clause-alike c = λ steps x kept run k. summary-same x kept.doc (run-facts steps x run) (run-values steps x run) k.doc
