use Rattle.std.proofs.Common.{ℕ, List, length, option_map, subst, refl, sym, ◌∙◌, ap}
use Rattle.ft_block.specs.Leaves.{IsLeafIn, IsPlaceIn, times_leaf, without_leaf}
use Rattle.ft_tree_leaves.specs.declared.leaves.TreeLeaf.{TreeLeaf}
use Rattle.ft_tree.specs.declared.tree.Tree.TheInside.{Inside}
use Rattle.ft_tree_leaves.specs.Edits.{moved_by, with_place}
use Rattle.ft_tree_leaves.specs.LeafLists.{elements}
use Rattle.ft_tree_leaves.specs.References.{reference_at}
use Rattle.ft_tree.specs.State.{TreeState}
use Rattle.ft_tree_leaves.proofs.LeafEdits.{elements-moved, times-moved}
use Rattle.ft_tree_blocks.proofs.Walks.{live_value}
use Rattle.ft_tree.proofs.TreeInside.{in_sound, same_sound}
use Rattle.ft_tree.proofs.tree.Tree.move_leaf.Goals as goal

pub invariant_of-self : goal.invariant_of-self
invariant_of-self g c = λ usable.
    let us = g.C.Content.units in
    let by = g.C.Content.by in
    let sound = in_sound us by c.self.inside c.args.self.now c.self.view_is c.self.invariant c.requires.usable in
    let b : Inside g.row.C.Denot g.row.C-Unit.Denot = record {
      blocks = c.move_at.new.blocks;
      alloc = c.self.inside.alloc;
      sweep = c.self.inside.sweep;
      made = c.self.inside.made;
      usable = c.self.inside.usable;
    } in
    let xs = c.self.inside.blocks.leaves in
    let live = subst (λ (s : TreeState g.row.C.Denot). IsLeafIn s.leaves c.args.id) (sym c.self.view_is) c.requires.live in
    let place = subst (λ (s : TreeState g.row.C.Denot). IsPlaceIn (without_leaf s.leaves c.args.id) c.args.at) (sym c.self.view_is) c.requires.place in
    let v = live_value xs c.args.id live in
    let once = c.first-first.ensures.once in
    same_sound us by c.self.inside b sound c.in-Ok.ensures.usable
    (λ z. ap (λ (ys : List (ℕ × TreeLeaf g.row.C.Denot)). times_leaf ys z) c.in-Ok.ensures.leaves ∙ times-moved xs c.args.id c.args.at v.0 z once live v.1 place)
    (ap (λ (ys : List (ℕ × TreeLeaf g.row.C.Denot)). length (elements us by ys)) c.in-Ok.ensures.leaves
    ∙ elements-moved us by xs c.args.id c.args.at v.0 once live v.1 place)
    refl refl

pub returns-in-Ok-clause-refs : goal.returns-in-Ok-clause-refs
returns-in-Ok-clause-refs g c = λ r.
    let us = g.C.Content.units in
    let by = g.C.Content.by in
    c.in-Ok.ensures.refs r
    ∙ ap (λ (s : TreeState g.row.C.Denot). option_map (with_place (moved_by us by s.leaves c.args.id c.args.at)) (reference_at s.refs r)) c.self.view_is
