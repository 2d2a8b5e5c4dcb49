use Rattle.std.proofs.Common.{ℕ, ◌+◌, [], refl, ap, arith}
use Rattle.ft_tree.specs.declared.tree.Tree.TheInside.{Inside}
use Rattle.ft_tree.proofs.TreeInside.{extends_sound, held_inside, in_sound, put_seen}
use Rattle.ft_tree_leaves.specs.LeafChanges.{fresh_leaf}
use Rattle.ft_tree_leaves.specs.Elements.{seen_in}
use Rattle.ft_tree_leaves.specs.Plain.{passes}
use Rattle.ft_props.specs.Properties.{apply}
use Rattle.ft_tree.proofs.tree.Tree.put.Goals as goal

pub invariant_of-self : goal.invariant_of-self
invariant_of-self g c = λ usable.
    let us = g.C.Content.units in
    let by = g.C.Content.by in
    let sound = in_sound us by c.self.inside c.args.self.now c.self.view_is c.self.invariant c.requires.usable in
    let b : Inside g.row.C.Denot g.row.C-Unit.Denot = record {
      blocks = c.insert_at.new.blocks;
      alloc = c.self.inside.alloc;
      sweep = c.self.inside.sweep;
      made = c.self.inside.made + c.len-count.result;
      usable = c.self.inside.usable;
    } in
    extends_sound us by c.self.inside b sound c.in-Ok.ensures.usable c.in-Ok.ensures.nodes refl (omega (arith, c.in-Ok.ensures.count, c.len-count.ensures.value, sound.fits))
    (omega (arith, c.requires.made, ap (λ v. v.made) c.self.view_is, c.len-count.ensures.value))

pub returns-in-Ok-clause-ok : goal.returns-in-Ok-clause-ok
returns-in-Ok-clause-ok g c = λ view p e.
    let us = g.C.Content.units in
    let by = g.C.Content.by in
    let at = held_inside us by c.self.inside c.args.self.now c.self.view_is c.args.found.now.leaf c.args.found.now.offset
    (seen_in {U = g.row.C-Unit.Denot} view) p e in
    put_seen g.C.Content.units g.C.Content.by c.self.inside c.args.self.now c.self.view_is (seen_in view) (passes c.args.past_pending) p
    (fresh_leaf c.args.content c.args.ins (apply [] c.args.props.now))
    (record {
      blocks = c.insert_at.new.blocks;
      alloc = c.self.inside.alloc;
      sweep = c.self.inside.sweep;
      made = c.self.inside.made + c.len-count.result;
      usable = c.self.inside.usable;
    })
    (c.in-Ok.ensures.list view p at) (c.in-Ok.ensures.refs view p at) c.in-Ok.ensures.nodes
    (ap (λ (n : ℕ). c.self.inside.made + n) c.len-count.ensures.value) c.insert_at.ensures.floor refl refl
