use Rattle.std.proofs.Common.{◌≡◌, drop}
use Rattle.ft_changes.specs.Listeners.{heard}
use Rattle.ft_interval_store.specs.State.{text_elements}
use Rattle.ft_string.specs.Told.{told_of_all_own}
use Rattle.ft_string.proofs.Chains.{TakesSoFar}
use Rattle.ft_string.proofs.ReadsOfOne.{ReadsSoFar}
use Rattle.ft_string.proofs.edits.take_all.Given as goal

-- what is taken, and then the operations ahead, are all; and so is what is heard
abbrev pub invariant-loop-op : goal.invariant-loop-op
invariant-loop-op g l =
    let rest = drop l.op-index l.ops in
    TakesSoFar l.first l.ops rest l.stage l.fn.tree l.tree l.fn.pending.items l.pending.items
    × ReadsSoFar l.ops rest l.fn.tree l.tree l.fn.steps l.steps
    × (heard l.listener (told_of_all_own l.stage rest (text_elements l.tree)) ≡ heard l.fn.listener
    (told_of_all_own l.first l.ops (text_elements l.fn.tree)))
