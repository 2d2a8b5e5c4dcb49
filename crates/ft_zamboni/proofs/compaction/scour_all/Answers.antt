use Rattle.std.proofs.Common.{◌-◌, filter, not, subst}
use Rattle.ft_tree_leaves.specs.Edits.{with_place}
use Rattle.ft_tree_leaves.specs.LeafLists.{elements}
use Rattle.ft_tree_leaves.specs.Places.{seen_before}
use Rattle.ft_tree_leaves.specs.References.{ChangesReferences}
use Rattle.ft_tree.specs.State.{TreeState}
use Rattle.ft_zamboni.specs.Scours.{Writes, is_collectable}
use Rattle.ft_zamboni.proofs.WholeSweeps.{whole-clear}
use Rattle.ft_zamboni.proofs.compaction.scour_all.Goals as goal

pub returns-clause-none : goal.returns-clause-none
returns-clause-none g c =
    let us = g.C.Content.units in
    let by = g.C.Content.by in
    let new = c.collect_all.new.tree in
    let list = subst
    (λ (t : TreeState g.row.C.Denot). Writes t.floor (elements us by new.leaves)
    (filter (λ e. not (is_collectable t.floor e.stamps)) (elements us by t.leaves)))
    c.raise_floor.ensures c.in_ok-collect_all.ensures.all.list in
    whole-clear c.args.floor (elements us by new.leaves) (elements us by c.args.tree.now.leaves) list

pub returns-clause-refs : goal.returns-clause-refs
returns-clause-refs g c =
    let us = g.C.Content.units in
    let by = g.C.Content.by in
    subst
    (λ (t : TreeState g.row.C.Denot). ChangesReferences
    (with_place (λ i. i - seen_before (λ e. is_collectable t.floor e.stamps) (elements us by t.leaves) i)) t.refs c.collect_all.new.tree.refs)
    c.raise_floor.ensures c.in_ok-collect_all.ensures.all.refs
