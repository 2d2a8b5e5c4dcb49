use Rattle.std.proofs.Common.{◌≡◌, ℕ, take}
use Rattle.std.specs.List.{list_any}
use Rattle.ft_base.specs.Visibility.{has_occurred_at_stage}
use Rattle.ft_partial.specs.Lifespans.{is_gone_at}
use Rattle.ft_block.proofs.leaves.first_stage.Given as goal

abbrev pub invariant-loop-stamp : goal.invariant-loop-stamp
invariant-loop-stamp l = (k : ℕ) → is_gone_at k l.first ≡ list_any (has_occurred_at_stage k) (take l.stamp-index l.stamps)
