use Rattle.std.proofs.Common.{◌≡◌, ℕ, Some}
use Rattle.ft_block.specs.Leaves.{IsLeafIn}
use Rattle.ft_tests_string.proofs.sights.push_leaves.Given as goal

abbrev pub invariant-loop-i : goal.invariant-loop-i
invariant-loop-i l = (x : ℕ) → l.at ≡ Some x → IsLeafIn l.tree.leaves x
