use Rattle.std.proofs.Common.{◌+◌, [], length, refl, ◌∙◌, ap, arith, length-append}
use Rattle.std.proofs.lemmas.List.{length-map}
use Rattle.ft_tree_leaves.specs.Elements.{element_with, elements_with}
use Rattle.ft_tree_leaves.specs.LeafLists.{elements}
use Rattle.ft_tree.specs.declared.tree.Tree.TheInside.{Inside}
use Rattle.ft_tree_leaves.specs.References.{reference_at}
use Rattle.ft_tree.specs.State.{TreeState}
use Rattle.ft_tree.proofs.TreeInside.{extends_sound, in_sound}
use Rattle.ft_tree.proofs.tree.Tree.append.Goals as goal

pub invariant_of-self : goal.invariant_of-self
invariant_of-self g c = λ usable.
    let us = g.C.Content.units in
    let by = g.C.Content.by in
    let sound = in_sound us by c.self.inside c.args.self.now c.self.view_is c.self.invariant c.requires.usable in
    let b : Inside g.row.C.Denot g.row.C-Unit.Denot = record {
      blocks = c.append.new.blocks;
      alloc = c.self.inside.alloc;
      sweep = c.self.inside.sweep;
      made = c.self.inside.made + c.len-count.result;
      usable = c.self.inside.usable;
    } in
    let new = elements_with c.args.e (by c.args.content) (record { acked = c.args.props.now; pending = [] }) (us c.args.content) in
    extends_sound us by c.self.inside b sound c.in-Ok.ensures.usable c.in-Ok.ensures.nodes refl
    (omega (
      arith,
      ap length c.in-Ok.ensures.list,
      length-append (elements us by c.self.inside.blocks.leaves) new,
      length-map (us c.args.content) (element_with c.args.e (by c.args.content) (record { acked = c.args.props.now; pending = [] })),
      c.len-count.ensures.value,
      sound.fits,
    ))
    (omega (arith, c.requires.made, ap (λ v. v.made) c.self.view_is, c.len-count.ensures.value))

pub returns-in-Ok-clause-refs : goal.returns-in-Ok-clause-refs
returns-in-Ok-clause-refs g c = λ r. c.in-Ok.ensures.refs r ∙ ap (λ (s : TreeState g.row.C.Denot). reference_at s.refs r) c.self.view_is
