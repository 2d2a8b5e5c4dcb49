use Rattle.std.proofs.Common.{ℕ, List, length, refl, ◌∙◌, ap}
use Rattle.ft_block.specs.Leaves.{times_leaf}
use Rattle.ft_tree_leaves.specs.declared.leaves.TreeLeaf.{TreeLeaf}
use Rattle.ft_tree.specs.declared.tree.Tree.TheInside.{Inside}
use Rattle.ft_tree_leaves.specs.Edits.{unmarked_leaf}
use Rattle.ft_tree_leaves.specs.LeafLists.{elements}
use Rattle.ft_tree_leaves.proofs.Standing.{change-map}
use Rattle.ft_tree_leaves.proofs.LeafEdits.{elements-unmarked}
use Rattle.ft_tree_blocks.proofs.WalkEdits.{times-change}
use Rattle.ft_tree_leaves.specs.References.{reference_at}
use Rattle.ft_tree.specs.State.{TreeState}
use Rattle.ft_tree.proofs.TreeInside.{in_sound, same_sound}
use Rattle.ft_tree.proofs.tree.Tree.unmark.Goals as goal

pub invariant_of-self : goal.invariant_of-self
invariant_of-self g c = λ usable.
    let us = g.C.Content.units in
    let by = g.C.Content.by in
    let sound = in_sound us by c.self.inside c.args.self.now c.self.view_is c.self.invariant c.requires.usable in
    let b : Inside g.row.C.Denot g.row.C-Unit.Denot = record {
      blocks = c.unmark_at.new.blocks;
      alloc = c.self.inside.alloc;
      sweep = c.self.inside.sweep;
      made = c.self.inside.made;
      usable = c.self.inside.usable;
    } in
    let xs = c.self.inside.blocks.leaves in
    let f : TreeLeaf g.row.C.Denot → TreeLeaf g.row.C.Denot = unmarked_leaf c.args.stage in
    same_sound us by c.self.inside b sound c.in-Ok.ensures.usable
    (λ z. ap (λ (ys : List (ℕ × TreeLeaf g.row.C.Denot)). times_leaf ys z) c.in-Ok.ensures.leaves ∙ times-change f xs c.args.id z)
    (ap (λ (ys : List (ℕ × TreeLeaf g.row.C.Denot)). length (elements us by ys)) (c.in-Ok.ensures.leaves ∙ change-map f xs c.args.id)
    ∙ elements-unmarked us by c.args.stage xs c.args.id)
    refl refl

pub returns-in-Ok-clause-refs : goal.returns-in-Ok-clause-refs
returns-in-Ok-clause-refs g c = λ r. c.in-Ok.ensures.refs r ∙ ap (λ (s : TreeState g.row.C.Denot). reference_at s.refs r) c.self.view_is
