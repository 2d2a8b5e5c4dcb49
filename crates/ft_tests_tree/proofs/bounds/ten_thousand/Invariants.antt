use Rattle.std.proofs.Common.{◌≡◌, IsTrue, length}
use Rattle.ft_block.specs.Leaves.{IsPlaceIn}
use Rattle.ft_tests_tree.proofs.bounds.ten_thousand.Given as goal

abbrev pub invariant-loop-i : goal.invariant-loop-i
invariant-loop-i l = IsTrue l.blocks.usable × IsPlaceIn l.blocks.leaves l.last × (length l.blocks.leaves ≡ l._i)
