use Rattle.std.proofs.Common.{ℕ, List, Some, option_map, subst, refl, sym, ◌∙◌, ap}
use Rattle.ft_block.specs.Leaves.{IsLeafIn, LeafList, value_at}
use Rattle.ft_tree_leaves.specs.declared.leaves.TreeLeaf.{TreeLeaf}
use Rattle.ft_tree.specs.declared.tree.Tree.TheInside.{Inside}
use Rattle.ft_tree_leaves.specs.Edits.{IsFreeOf, closed_by, sweep_without, with_place}
use Rattle.ft_tree_leaves.specs.Plain.{WithoutNode}
use Rattle.ft_tree_leaves.specs.References.{reference_at}
use Rattle.ft_tree.specs.State.{TreeState}
use Rattle.ft_tree_leaves.proofs.LeafEdits.{without_node}
use Rattle.ft_tree_blocks.proofs.Walks.{live_value}
use Rattle.ft_tree.proofs.TreeInside.{in_sound, without_sound}
use Rattle.ft_tree.proofs.tree.Tree.take_leaf.Goals as goal

pub invariant_of-self : goal.invariant_of-self
invariant_of-self g c = λ usable.
    let us = g.C.Content.units in
    let by = g.C.Content.by in
    let sound = in_sound us by c.self.inside c.args.self.now c.self.view_is c.self.invariant c.requires.usable in
    let b : Inside g.row.C.Denot g.row.C-Unit.Denot = record {
      blocks = c.take.new.self;
      alloc = c.self.inside.alloc;
      sweep = c.sweep_without-sweep.result;
      made = c.self.inside.made;
      usable = c.self.inside.usable;
    } in
    let xs = c.self.inside.blocks.leaves in
    let id = c.args.id in
    let live = subst (λ (s : TreeState g.row.C.Denot). IsLeafIn s.leaves id) (sym c.self.view_is) c.requires.live in
    let v = live_value xs id live in
    let once = c.first-first.ensures.once in
    let gone = subst (λ (ys : List (ℕ × TreeLeaf g.row.C.Denot)). WithoutNode us by id xs ys) (sym c.in-Ok.ensures.ok)
    (without_node us by xs id v.0 once live v.1) in
    without_sound us by c.self.inside b sound c.in-Ok.ensures.usable id once gone
    (c.sweep_without-sweep.ensures ∙ ap (λ (l : LeafList (TreeLeaf g.row.C.Denot)). sweep_without l.leaves id c.self.inside.sweep) c.list.ensures) refl

pub take-requires-clause-free : goal.take-requires-clause-free
take-requires-clause-free g c =
    subst (λ (s : TreeState g.row.C.Denot). IsFreeOf g.C.Content.units g.C.Content.by s.leaves c.args.id s.refs) (sym c.self.view_is) c.requires.free

pub returns-in-Ok-clause-refs : goal.returns-in-Ok-clause-refs
returns-in-Ok-clause-refs g c = λ r.
    let us = g.C.Content.units in
    let by = g.C.Content.by in
    c.in-Ok.ensures.refs r
    ∙ ap (λ (s : TreeState g.row.C.Denot). option_map (with_place (closed_by us by s.leaves c.args.id)) (reference_at s.refs r)) c.self.view_is

pub returns-in-Ok-clause-content : goal.returns-in-Ok-clause-content
returns-in-Ok-clause-content g c =
    ap (λ (s : TreeState g.row.C.Denot). option_map (λ x. x.content) (value_at s.leaves c.args.id)) (sym c.self.view_is)
    ∙ ap (option_map (λ (x : TreeLeaf g.row.C.Denot). x.content)) c.in-Ok.ensures.value
    ∙ ap (λ (x : g.row.C.Denot). Some x) (sym c.content_of.ensures)
