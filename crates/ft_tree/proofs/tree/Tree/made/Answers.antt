use Rattle.std.proofs.Common.{◌≤◌, length, subst}
use Rattle.ft_props.specs.Properties.{max_safe_integer}
use Rattle.ft_tree_leaves.specs.LeafLists.{elements}
use Rattle.ft_tree.specs.State.{TreeState}
use Rattle.ft_tree.proofs.TreeInside.{in_sound}
use Rattle.ft_tree.proofs.tree.Tree.made.Goals as goal

pub returns-clause-fits : goal.returns-clause-fits
returns-clause-fits g c = λ usable.
    let us = g.C.Content.units in
    let by = g.C.Content.by in
    subst (λ (s : TreeState g.row.C.Denot). length (elements us by s.leaves) ≤ s.made) c.self.view_is
    (in_sound us by c.self.inside c.args.self.now c.self.view_is c.self.invariant usable).fits

pub returns-clause-small : goal.returns-clause-small
returns-clause-small g c = λ usable.
    subst (λ (s : TreeState g.row.C.Denot). s.made ≤ max_safe_integer) c.self.view_is
    (in_sound g.C.Content.units g.C.Content.by c.self.inside c.args.self.now c.self.view_is c.self.invariant usable).small
