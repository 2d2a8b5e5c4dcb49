use Rattle.std.proofs.Common.{◌-◌}
use Rattle.ft_block.specs.Leaves.{length_by}
use Rattle.ft_tree_leaves.specs.LeafLists.{leaf_removed}
use Rattle.ft_zamboni.specs.Collections.{Collects}
use Rattle.ft_zamboni.proofs.removals.collect.Given as goal

-- all leaves up to one were looked at
abbrev pub invariant-leaves : goal.invariant-leaves
invariant-leaves g l = Collects g.C.Content.units g.C.Content.by l.initial.tree l.tree l.passed l.initial.taken.items l.taken.items

abbrev pub decreases-leaves : goal.decreases-leaves
decreases-leaves g l = length_by (leaf_removed g.C.Content.units) l.tree.leaves - l.passed
