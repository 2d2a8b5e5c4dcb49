use Rattle.std.proofs.Common.{None, subst, sym}
use Rattle.ft_tree_leaves.specs.Edits.{ChangesReference}
use Rattle.ft_tree_leaves.specs.References.{IsReferenceIn}
use Rattle.ft_tree.specs.State.{TreeState}
use Rattle.ft_tree.proofs.TreeInside.{in_sound, refs_rest, refs_sound}
use Rattle.ft_tree.proofs.tree.Tree.drop_ref.Goals as goal

pub drop_ref-requires : goal.drop_ref-requires
drop_ref-requires g c = record {
  usable = (in_sound g.C.Content.units g.C.Content.by c.self.inside c.args.self.now c.self.view_is c.self.invariant c.requires.usable).blocks;
  live = subst (λ (s : TreeState g.row.C.Denot). IsReferenceIn s.refs c.args.r) (sym c.self.view_is) c.requires.live;
}

pub invariant_of-self : goal.invariant_of-self
invariant_of-self g c = λ usable.
    refs_sound g.C.Content.units g.C.Content.by c.self.inside c.drop_ref.new.self c.drop_ref.ensures.rest
    (in_sound g.C.Content.units g.C.Content.by c.self.inside c.args.self.now c.self.view_is c.self.invariant c.requires.usable)

pub returns-clause-rest : goal.returns-clause-rest
returns-clause-rest g c = refs_rest g.C.Content.units g.C.Content.by c.self.inside c.drop_ref.new.self c.drop_ref.ensures.rest c.args.self.now c.self.view_is

pub returns-clause-refs : goal.returns-clause-refs
returns-clause-refs g c =
    subst (λ (s : TreeState g.row.C.Denot). ChangesReference c.args.r (λ x. None) s.refs c.drop_ref.new.self.refs) c.self.view_is c.drop_ref.ensures.refs
