use Rattle.std.proofs.Common.{◌≡◌, ◌+◌, ◌-◌, length, refl, ◌∙◌, ap, arith}
use Rattle.ft_base.specs.Scan.{change_range}
use Rattle.ft_tree_leaves.specs.Elements.{seen_in}
use Rattle.ft_tree_leaves.specs.LeafLists.{elements}
use Rattle.ft_tree_leaves.specs.References.{reference_at}
use Rattle.ft_tree.specs.Inside.{edited_element}
use Rattle.ft_tree.specs.State.{TreeState}
use Rattle.ft_tree.specs.declared.tree.Tree.TheInside.{Inside}
use Rattle.ft_tree.proofs.TreeInside.{acts, extends_sound, held_inside, in_sound, length-change_range}
use Rattle.ft_tree.proofs.tree.Tree.edit.Goals as goal

pub invariant_of-self : goal.invariant_of-self
invariant_of-self g c = λ usable.
    let us = g.C.Content.units in
    let by = g.C.Content.by in
    let laws = g.met.C.Content in
    let sound = in_sound us by c.self.inside c.args.self.now c.self.view_is c.self.invariant c.requires.usable in
    let b : Inside g.row.C.Denot g.row.C-Unit.Denot = record {
      blocks = c.edit_behind.new.blocks;
      alloc = c.self.inside.alloc;
      sweep = c.self.inside.sweep;
      made = c.self.inside.made;
      usable = c.self.inside.usable;
    } in
    let seen = seen_in {U = g.row.C-Unit.Denot} c.args.view in
    let at = held_inside us by c.self.inside c.args.self.now c.self.view_is c.args.found.now.leaf c.args.found.now.offset seen c.args.p c.requires.place in
    let f = edited_element g.C.Content.author c.args.edit.now in
    let list = c.in-Ok.ensures.list c.args.p f (acts us by g.C.Content.author g.C.Content.stamped laws.stamped_units laws.stamped_by c.args.edit.now)
    at in
    extends_sound us by c.self.inside b sound c.in-Ok.ensures.usable c.in-Ok.ensures.nodes refl
    (omega (
      arith,
      ap length list,
      length-change_range seen c.args.p (c.args.p + (c.args.q - c.args.p))
          f (elements us by c.self.inside.blocks.leaves),
      sound.fits,
    ))
    (omega (arith, sound.small))

pub returns-in-Ok-clause-elements : goal.returns-in-Ok-clause-elements
returns-in-Ok-clause-elements g c =
    let us = g.C.Content.units in
    let by = g.C.Content.by in
    let laws = g.met.C.Content in
    let seen = seen_in {U = g.row.C-Unit.Denot} c.args.view in
    let at = held_inside us by c.self.inside c.args.self.now c.self.view_is c.args.found.now.leaf c.args.found.now.offset seen c.args.p c.requires.place in
    let f = edited_element g.C.Content.author c.args.edit.now in
    let list = c.in-Ok.ensures.list c.args.p f (acts us by g.C.Content.author g.C.Content.stamped laws.stamped_units laws.stamped_by c.args.edit.now)
    at in
    let all : c.args.p + (c.args.q - c.args.p) ≡ c.args.q = omega (arith, c.requires.order) in
    list ∙ ap (λ n. change_range seen c.args.p n f (elements us by c.self.inside.blocks.leaves)) all
    ∙ ap (λ (s : TreeState g.row.C.Denot). change_range seen c.args.p c.args.q f (elements us by s.leaves)) c.self.view_is

pub returns-in-Ok-clause-refs : goal.returns-in-Ok-clause-refs
returns-in-Ok-clause-refs g c = λ r. c.in-Ok.ensures.refs r ∙ ap (λ (s : TreeState g.row.C.Denot). reference_at s.refs r) c.self.view_is
