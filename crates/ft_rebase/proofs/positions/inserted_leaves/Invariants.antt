use Rattle.std.proofs.Common.{◌≡◌, ◌++◌, drop, filter}
use Rattle.ft_block.specs.Leaves.{ids}
use Rattle.ft_tree_leaves.specs.Edits.{is_touched_by}
use Rattle.ft_rebase.specs.Moves.{leaf_stamps}
use Rattle.ft_rebase.specs.StageLists.{inserted_by}
use Rattle.ft_rebase.proofs.positions.inserted_leaves.Given as goal

-- the leaves so far, and those of the rest, are all
abbrev pub invariant-loop-leaf : goal.invariant-loop-leaf
invariant-loop-leaf g l =
    let touched = filter (λ x. is_touched_by l.stage x.1) l.tree.leaves in
    l.inserted.items ++ ids (filter (inserted_by leaf_stamps l.stage) (drop l.leaf-index touched))
    ≡ ids (filter (inserted_by leaf_stamps l.stage) l.tree.leaves)
