use Rattle.std.proofs.Common.{◌≡◌, ◌++◌, replicate}
use Rattle.ft_tree_steps.proofs.stamp_lists.push_copies.Given as goal

abbrev pub invariant-loop-i : goal.invariant-loop-i
invariant-loop-i l = l.items.items ≡ l.initial.items.items ++ replicate l._i l.e
