use Rattle.std.proofs.Common.{◌+◌, length}
use Rattle.ft_interval_store.specs.State.{text_elements}
use Rattle.ft_string.proofs.SentSoFar.{GivesSoFar}
use Rattle.ft_string.proofs.rejoining.give_due.Given as goal

-- what was given, and then what is due of the rest, is all
abbrev pub invariant-loop-op : goal.invariant-loop-op
invariant-loop-op l = GivesSoFar (text_elements l.tree) (l.last + 1) l.fn.ops.items l.ops.items l.fn.kept.items l.kept.items l.again

abbrev pub decreases-loop-op : goal.decreases-loop-op
decreases-loop-op l = length l.ops.items
