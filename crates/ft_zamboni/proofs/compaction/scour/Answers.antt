use Rattle.std.proofs.Common.{subst, sym}
use Rattle.ft_tree_leaves.specs.Edits.{with_place}
use Rattle.ft_tree_leaves.specs.LeafLists.{elements}
use Rattle.ft_tree_leaves.specs.References.{ChangesReferences}
use Rattle.ft_tree.specs.State.{TreeState}
use Rattle.ft_zamboni.specs.Scours.{Writes, place_among, staying, swept}
use Rattle.ft_zamboni.proofs.WholeSweeps.{idle-refs, idle-writes}
use Rattle.ft_zamboni.proofs.compaction.scour.Goals as goal

pub returns-then-budget-eq0-clause-elements : goal.returns-then-budget-eq0-clause-elements
returns-then-budget-eq0-clause-elements g c =
    let us = g.C.Content.units in
    let by = g.C.Content.by in
    let old = c.args.tree.now in
    subst (λ (t : TreeState g.row.C.Denot). Writes c.args.floor (elements us by t.leaves)
    (staying (swept us by c.args.floor c.args.budget old.leaves old.sweep)))
    (sym c.raise_floor.ensures) (idle-writes us by c.args.floor c.args.budget old.leaves old.sweep c.if-budget-eq0.true)

pub returns-then-budget-eq0-clause-refs : goal.returns-then-budget-eq0-clause-refs
returns-then-budget-eq0-clause-refs g c =
    let us = g.C.Content.units in
    let by = g.C.Content.by in
    let old = c.args.tree.now in
    subst (λ (t : TreeState g.row.C.Denot). ChangesReferences
    (with_place (place_among (swept us by c.args.floor c.args.budget old.leaves old.sweep))) old.refs t.refs)
    (sym c.raise_floor.ensures) (idle-refs us by c.args.floor c.args.budget old.leaves old.sweep c.if-budget-eq0.true old.refs)

pub returns-clause-refs : goal.returns-clause-refs
returns-clause-refs g c =
    let us = g.C.Content.units in
    let by = g.C.Content.by in
    subst (λ (t : TreeState g.row.C.Denot). ChangesReferences
    (with_place (place_among (swept us by t.floor c.args.budget t.leaves t.sweep))) t.refs c.sweep_round.new.tree.refs)
    c.raise_floor.ensures c.in_ok-sweep_round.ensures.round.refs
