-- Both are laws on what is kept.
use Rattle.ft_msg.proofs.ReplicaStarts.{keeps-itself}
use Rattle.ft_laws_compaction.proofs.Compacting.{compacts-further}
use Rattle.ft_laws_compaction.proofs.compaction.compaction.Goals as goal

pub returns-clause-itself : goal.returns-clause-itself
returns-clause-itself c = λ x. keeps-itself x

pub returns-clause-further : goal.returns-clause-further
returns-clause-further c = λ x kept fewer k f. compacts-further x kept fewer k f
