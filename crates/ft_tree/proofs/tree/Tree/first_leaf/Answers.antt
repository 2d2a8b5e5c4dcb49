use Rattle.std.proofs.Common.{◌≡◌, ◌+◌, ◌<◌, ◌≤◌, ◌^◌, Some, length, subst, ap, arith}
use Rattle.ft_tree_leaves.specs.LeafLists.{elements}
use Rattle.ft_tree_leaves.specs.References.{reference_place}
use Rattle.ft_tree.specs.State.{TreeState}
use Rattle.ft_tree.proofs.TreeInside.{in_sound}
use Rattle.ft_tree.proofs.tree.Tree.first_leaf.Goals as goal

pub returns-clause-few : goal.returns-clause-few
returns-clause-few g c =
    let us = g.C.Content.units in
    let by = g.C.Content.by in
    let sound = in_sound us by c.self.inside c.args.self.now c.self.view_is c.self.invariant c.requires in
    omega (arith, sound.fits, sound.small, ap (λ v. length (elements us by v.leaves)) c.self.view_is)

pub returns-clause-depth : goal.returns-clause-depth
returns-clause-depth g c = subst (λ (s : TreeState g.row.C.Denot). 4 ^ s.depth ≤ length s.leaves + 1) c.self.view_is c.first.ensures.depth

pub returns-clause-inside : goal.returns-clause-inside
returns-clause-inside g c = λ r j.
    subst (λ (s : TreeState g.row.C.Denot). reference_place s.refs r ≡ Some j → j < length (elements g.C.Content.units g.C.Content.by s.leaves))
    c.self.view_is (c.first.ensures.inside r j)
