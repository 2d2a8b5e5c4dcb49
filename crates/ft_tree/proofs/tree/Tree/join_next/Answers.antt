use Rattle.std.proofs.Common.{◌≡◌, Bool, true, if◌then◌else◌, length, refl, ◌∙◌, ap, length-append}
use Rattle.ft_tree.specs.declared.tree.Tree.TheInside.{Inside}
use Rattle.ft_block.specs.Leaves.{LeafList, join_leaf}
use Rattle.ft_tree_leaves.specs.declared.leaves.TreeLeaf.{TreeLeaf}
use Rattle.ft_tree_leaves.specs.Edits.{joined_leaf, sweep_behind, sweep_joined}
use Rattle.ft_tree_leaves.specs.References.{reference_at}
use Rattle.ft_tree.specs.State.{TreeState}
use Rattle.ft_tree.proofs.JoinedLeaves.{joins_without, pair_next}
use Rattle.ft_tree.proofs.TreeInside.{in_sound, without_sound}
use Rattle.ft_tree.proofs.tree.Tree.join_next.Goals as goal

pub invariant_of-self : goal.invariant_of-self
invariant_of-self g c = λ usable.
    let us = g.C.Content.units in
    let by = g.C.Content.by in
    let laws = g.met.C.Content in
    let joined = g.C.Content.joined in
    let sound = in_sound us by c.self.inside c.args.self.now c.self.view_is c.self.invariant c.requires.usable in
    let b : Inside g.row.C.Denot g.row.C-Unit.Denot = record {
      blocks = c.join_at.new.blocks;
      alloc = c.self.inside.alloc;
      sweep = c.sweep_joined-sweep.result;
      made = c.self.inside.made;
      usable = c.self.inside.usable;
    } in
    let xs = c.self.inside.blocks.leaves in
    let id = c.args.id in
    let once = c.first-first.ensures.once in
    let yes : c.in-Ok-true.field-0 ≡ true = (cc) in
    let is_now : c.join_at.new.blocks.leaves ≡ join_leaf (joined_leaf joined) xs id =
    c.in-Ok-true.ensures.leaves ∙ ap (λ (b : Bool). if b then join_leaf (joined_leaf joined) xs id else xs) yes in
    let j = pair_next g.C.Content.joins c.floor-floor.result xs id once (c.in-Ok-true.ensures.answer.0 yes) in
    let v = j.front.content in
    let w = j.rear.content in
    let sizes = ap length (laws.joined_units v w j.may.contents) ∙ length-append (us v) (us w) in
    let gone = joins_without us by joined xs c.join_at.new.blocks.leaves id j.next j.front j.rear j.beside is_now sizes once in
    without_sound us by c.self.inside b sound c.in-Ok-true.ensures.usable j.next once gone
    (c.sweep_joined-sweep.ensures ∙ ap (λ (l : LeafList (TreeLeaf g.row.C.Denot)). sweep_joined l.leaves id c.self.inside.sweep) c.list.ensures
    ∙ ap (sweep_behind xs c.self.inside.sweep) j.is_next) refl

pub returns-in-Ok-true-clause-refs : goal.returns-in-Ok-true-clause-refs
returns-in-Ok-true-clause-refs g c = λ r. c.in-Ok-true.ensures.refs r ∙ ap (λ (s : TreeState g.row.C.Denot). reference_at s.refs r) c.self.view_is

pub returns-in-Ok-false-clause-refs : goal.returns-in-Ok-false-clause-refs
returns-in-Ok-false-clause-refs g c = λ r. c.in-Ok-false.ensures.refs r ∙ ap (λ (s : TreeState g.row.C.Denot). reference_at s.refs r) c.self.view_is
