use Rattle.std.proofs.Common.{◌≡◌, ◌+◌, drop}
use Rattle.std.specs.List.{prefix_len}
use Rattle.ft_base.specs.Visibility.{is_acked}
use Rattle.ft_tree_leaves.proofs.stamps.sequenced_count.Given as goal

abbrev pub invariant-loop-i : goal.invariant-loop-i
invariant-loop-i l = prefix_len is_acked l.stamps ≡ l.i + prefix_len is_acked (drop l.i l.stamps)
