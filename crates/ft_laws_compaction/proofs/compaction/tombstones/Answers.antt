-- What holds of every client goes over to each that keeps it.
use Rattle.std.proofs.Common.{◌≡◌, true, subst}
use Rattle.ft_laws_compaction.specs.Keeping.{compacted, has_no_tombstone}
use Rattle.ft_laws_compaction.proofs.Compacting.{compacts-further, floor-kept, fully-compacted, nothing-left, tombstones-kept}
use Rattle.ft_laws_compaction.proofs.Runs.{run-facts}
use Rattle.ft_laws_compaction.proofs.compaction.tombstones.Goals as goal

pub returns-clause-are_free : goal.returns-clause-are_free
returns-clause-are_free c = λ steps x kept run k. tombstones-kept x kept (run-facts steps x run).free k

pub returns-clause-all : goal.returns-clause-all
returns-clause-all c = λ steps x kept run k. (
  compacts-further x kept (compacted kept) k (fully-compacted kept (tombstones-kept x kept (run-facts steps x run).free k)),
  subst (λ n. has_no_tombstone n (compacted kept).doc ≡ true) (floor-kept x kept k) (nothing-left kept),
)
