use Rattle.std.proofs.Common.{◌≡◌, ◌+◌, ◌<◌, ◌≤◌, ◌^◌, IsTrue, Some, length, subst, sym}
use Rattle.ft_tree_leaves.specs.LeafLists.{elements}
use Rattle.ft_tree_leaves.specs.References.{reference_place}
use Rattle.ft_tree_blocks.specs.State.{TrackedLeaves}
use Rattle.ft_tree_blocks.proofs.ShownPlaces.{places_inside}
use Rattle.ft_tree_blocks.proofs.leaf_blocks.LeafBlocks.first.Goals as goal

pub returns-clause-inside : goal.returns-clause-inside
returns-clause-inside g c = λ r j.
    let us = g.C.Content.units in
    let by = g.C.Content.by in
    let a = c.self.inside in
    let sound = c.self.invariant (subst (λ (s : TrackedLeaves g.row.C.Denot). IsTrue s.usable) (sym c.self.view_is) c.requires) in
    subst (λ (s : TrackedLeaves g.row.C.Denot). reference_place s.refs r ≡ Some j → j < length (elements us by s.leaves)) c.self.view_is
    (places_inside us by a.blocks.leaves a.refs.anchors c.first.ensures.once sound.refs.anchored r j)

pub returns-clause-depth : goal.returns-clause-depth
returns-clause-depth g c = subst (λ (s : TrackedLeaves g.row.C.Denot). 4 ^ s.depth ≤ length s.leaves + 1) c.self.view_is c.first.ensures.depth
