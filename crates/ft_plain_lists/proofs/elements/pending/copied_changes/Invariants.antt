use Rattle.std.proofs.Common.{◌≡◌, ◌++◌, drop}
use Rattle.ft_plain_lists.proofs.elements.pending.copied_changes.Given as goal

-- those that are copied, and the rest, are all
abbrev pub invariant-loop-stage : goal.invariant-loop-stage
invariant-loop-stage l = l.copies.items ++ drop l.stage-index l.pending ≡ l.pending
