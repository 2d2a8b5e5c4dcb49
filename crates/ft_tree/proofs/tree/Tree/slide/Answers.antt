use Rattle.std.proofs.Common.{subst}
use Rattle.ft_tree_leaves.specs.LeafLists.{elements}
use Rattle.ft_tree_leaves.specs.References.{ChangesReferences, slid_reference}
use Rattle.ft_tree.specs.State.{TreeState}
use Rattle.ft_tree.proofs.TreeInside.{in_sound, refs_rest, refs_sound}
use Rattle.ft_tree.proofs.tree.Tree.slide.Goals as goal

pub slide-requires : goal.slide-requires
slide-requires g c = (in_sound g.C.Content.units g.C.Content.by c.self.inside c.args.self.now c.self.view_is c.self.invariant c.requires).blocks

pub invariant_of-self : goal.invariant_of-self
invariant_of-self g c = λ usable.
    refs_sound g.C.Content.units g.C.Content.by c.self.inside c.slide.new.self c.slide.ensures.rest
    (in_sound g.C.Content.units g.C.Content.by c.self.inside c.args.self.now c.self.view_is c.self.invariant c.requires)

pub returns-clause-rest : goal.returns-clause-rest
returns-clause-rest g c = refs_rest g.C.Content.units g.C.Content.by c.self.inside c.slide.new.self c.slide.ensures.rest c.args.self.now c.self.view_is

pub returns-clause-refs : goal.returns-clause-refs
returns-clause-refs g c =
    subst (λ (s : TreeState g.row.C.Denot).
    ChangesReferences (slid_reference (elements g.C.Content.units g.C.Content.by s.leaves)) s.refs c.slide.new.self.refs) c.self.view_is c.slide.ensures.refs
