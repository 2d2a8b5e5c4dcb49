-- By computing.
use Rattle.std.proofs.Common.{refl}
use Rattle.ft_laws_compaction.proofs.compaction.example.Goals as goal

pub returns : goal.returns
returns c = record { forgets = record { bodies = refl; whole = refl; forgotten = refl } }
