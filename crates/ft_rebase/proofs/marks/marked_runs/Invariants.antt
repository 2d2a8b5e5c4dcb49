use Rattle.std.proofs.Common.{◌≡◌, ◌-◌, drop, filter}
use Rattle.ft_block.specs.declared.leaves.LenView.TheVariants.{Stage}
use Rattle.ft_tree_leaves.specs.Edits.{is_touched_by}
use Rattle.ft_tree_leaves.specs.LeafLists.{elements}
use Rattle.ft_rebase.specs.MarkedRuns.{continued}
use Rattle.ft_rebase.specs.Pieces.{marked_runs}
use Rattle.ft_rebase.proofs.ListedRuns.{listed_runs}
use Rattle.ft_rebase.proofs.marks.marked_runs.Given as goal

-- the runs so far, with those of the rest behind them, are all
abbrev pub invariant-loop-leaf : goal.invariant-loop-leaf
invariant-loop-leaf g l =
    let us = g.C.Content.units in
    let by = g.C.Content.by in
    let xs = l.tree.leaves in
    continued l.runs.items (listed_runs us by (Stage (l.stage - 1)) l.mark l.stage xs
    (drop l.leaf-index (filter (λ x. is_touched_by l.stage x.1) xs)))
    ≡ marked_runs l.stage l.mark (elements us by xs)
