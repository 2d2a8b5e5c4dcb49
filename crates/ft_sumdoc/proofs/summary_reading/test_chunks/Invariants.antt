use Rattle.std.proofs.Common.{◌≡◌, drop, take}
use Rattle.ft_op.specs.Reading.{read_each}
use Rattle.ft_op.proofs.ReadLists.{joined}
use Rattle.ft_sumdoc.specs.Summary.{within_chunk}
use Rattle.ft_sumdoc.proofs.summary_reading.test_chunks.Given as goal

-- the rest decides
abbrev pub invariant-loop-length : goal.invariant-loop-length
invariant-loop-length l = joined (take l.length-index l.lengths) (read_each within_chunk (drop l.length-index l.lengths)) ≡ read_each within_chunk l.lengths
