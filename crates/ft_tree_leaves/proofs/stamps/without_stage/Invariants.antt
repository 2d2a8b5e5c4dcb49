use Rattle.std.proofs.Common.{◌≡◌, ◌++◌, drop, filter, not}
use Rattle.ft_base.specs.Visibility.{is_of_stage}
use Rattle.ft_tree_leaves.proofs.stamps.without_stage.Given as goal

-- those that are kept, and what the rest gives, are all
abbrev pub invariant-loop-t : goal.invariant-loop-t
invariant-loop-t l = l.others ++ filter (λ t. not (is_of_stage l.stage t)) (drop l.t-index l.stamps) ≡ filter (λ t. not (is_of_stage l.stage t)) l.stamps
