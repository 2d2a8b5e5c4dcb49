use Rattle.std.proofs.Common.{◌≡◌, ◌++◌, take}
use Rattle.ft_tree_leaves.proofs.stamps.push_all.Given as goal

abbrev pub invariant-loop-stamp : goal.invariant-loop-stamp
invariant-loop-stamp l = l.stamps ≡ l.initial.stamps ++ take l.stamp-index l.more
