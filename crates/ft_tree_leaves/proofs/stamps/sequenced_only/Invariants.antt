use Rattle.std.proofs.Common.{◌≡◌, ◌++◌, drop, filter}
use Rattle.ft_base.specs.Visibility.{is_acked}
use Rattle.ft_tree_leaves.proofs.stamps.sequenced_only.Given as goal

-- those that are kept, and what the rest gives, are all
abbrev pub invariant-loop-t : goal.invariant-loop-t
invariant-loop-t l = l.sequenced ++ filter is_acked (drop l.t-index l.stamps) ≡ filter is_acked l.stamps
