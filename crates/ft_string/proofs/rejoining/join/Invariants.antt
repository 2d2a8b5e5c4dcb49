use Rattle.std.proofs.Common.{◌≡◌, ◌++◌, length}
use Rattle.ft_string.proofs.rejoining.join.Given as goal

-- what is in front, and then what is left behind, is all
abbrev pub invariant-loop-op : goal.invariant-loop-op
invariant-loop-op l = l.front.items ++ l.back.items ≡ l.fn.front.items ++ l.fn.back.items

abbrev pub decreases-loop-op : goal.decreases-loop-op
decreases-loop-op l = length l.back.items
