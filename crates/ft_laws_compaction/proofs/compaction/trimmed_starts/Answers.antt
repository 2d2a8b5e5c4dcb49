use Rattle.ft_laws_compaction.proofs.TrimmedStarts.{trimmed-run-shows, trimmed-start-shows}
use Rattle.ft_laws_compaction.proofs.compaction.trimmed_starts.Goals as goal

pub returns-clause-runs : goal.returns-clause-runs
returns-clause-runs c = trimmed-run-shows

pub returns-clause-starts : goal.returns-clause-starts
returns-clause-starts c = trimmed-start-shows
