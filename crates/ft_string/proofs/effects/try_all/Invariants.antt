use Rattle.std.proofs.Common.{◌≡◌, drop}
use Rattle.ft_changes.specs.Listeners.{heard}
use Rattle.ft_interval_store.specs.State.{text_elements}
use Rattle.ft_string.specs.Told.{told_of_ops}
use Rattle.ft_string.proofs.Chains.{TriesSoFar}
use Rattle.ft_string.proofs.effects.try_all.Given as goal

-- what is done, and then the operations ahead, are all; and so is what is heard
abbrev pub invariant-loop-op : goal.invariant-loop-op
invariant-loop-op g l =
    let rest = drop l.op-index l.ops in
    TriesSoFar l.seq l.at l.ops rest l.skipped l.fn.tree l.tree
    × (heard l.listener (told_of_ops l.seq l.at rest (text_elements l.tree)) ≡ heard l.fn.listener
    (told_of_ops l.seq l.at l.ops (text_elements l.fn.tree)))
