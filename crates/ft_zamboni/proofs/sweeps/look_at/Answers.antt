use Rattle.std.proofs.Common.{if◌then◌else◌, sym, ◌∙◌, ap, Bool, subst}
use Rattle.ft_block.specs.Leaves.{join_leaf}
use Rattle.ft_tree_leaves.specs.Edits.{joined_leaf, sweep_joined}
use Rattle.ft_tree_leaves.specs.References.{KeepsReferences, reference_at}
use Rattle.ft_tree.specs.State.{TreeState}
use Rattle.ft_zamboni.specs.Scours.{is_collectable}
use Rattle.ft_zamboni.specs.Sweeps.{Looks}
use Rattle.ft_zamboni.proofs.LookedLeaves.{look-merged, look-stayed, look-took}
use Rattle.ft_zamboni.proofs.sweeps.look_at.Goals.{in-Some+in_ok-join_next+else-branch, in_default}
use Rattle.ft_zamboni.proofs.sweeps.look_at.Goals as goal

pub returns-then-is_collectable-clause-step : goal.returns-then-is_collectable-clause-step
returns-then-is_collectable-clause-step g c =
    look-took g.C.Content.units g.C.Content.by g.C.Content.joins g.C.Content.joined c.args.tree.now c.take_leaf.new.self c.args.id
    c.leaf_element.result.now c.is_collectable.result
    c.leaf_element.ensures (c.is_collectable.ensures ∙ ap (λ f. is_collectable f c.leaf_element.result.now) c.floor.ensures)
    c.args.last c.args.taken.now.items c.push.new.self.items c.in_ok-take_leaf.field-0
    c.if-is_collectable.true c.in_ok-take_leaf.ensures.content c.in_ok-take_leaf.ensures.leaves c.in_ok-take_leaf.ensures.refs
    c.in_ok-take_leaf.ensures.sweep
    c.in_ok-push.ensures.items

pub returns-then-branch-clause-step : goal.returns-then-branch-clause-step
returns-then-branch-clause-step g c =
    subst (λ o. Looks g.C.Content.units g.C.Content.by g.C.Content.joins g.C.Content.joined c.args.tree.now c.join_next.new.self
    c.args.id c.args.last o c.args.taken.now.items c.args.taken.now.items)
    c.in-Some.is
    (look-merged g.C.Content.units g.C.Content.by g.C.Content.joins g.C.Content.joined c.args.tree.now c.join_next.new.self c.args.id
    c.leaf_element.result.now c.is_collectable.result
    c.leaf_element.ensures (c.is_collectable.ensures ∙ ap (λ f. is_collectable f c.leaf_element.result.now) c.floor.ensures)
    c.in-Some.before c.args.last c.args.taken.now.items c.in_ok-join_next.field-0
    c.if-is_collectable.false c.in-Some.is c.if-branch.true c.in_ok-join_next.ensures.answer c.in_ok-join_next.ensures.leaves
    c.in_ok-join_next.ensures.sweep
    c.in_ok-join_next.ensures.refs)

pub returns-clause-step : goal.returns-clause-step
returns-clause-step g c =
    let old = c.args.tree.now in
    let stays = look-stayed g.C.Content.units g.C.Content.by g.C.Content.joins g.C.Content.joined old c.match-last.tree c.args.id
    c.leaf_element.result.now c.is_collectable.result
    c.leaf_element.ensures (c.is_collectable.ensures ∙ ap (λ f. is_collectable f c.leaf_element.result.now) c.floor.ensures)
    c.args.last c.args.taken.now.items c.if-is_collectable.false in
    elim c.match-last.branch [
      | in-Some+in_ok-join_next+else-branch w ↦
          stays
          (ap (λ (t : TreeState g.row.C.Denot). t.leaves) w.tree-is ∙ w.in_ok-join_next.ensures.leaves
          ∙ ap (λ (b : Bool). if b then join_leaf (joined_leaf g.C.Content.joined) old.leaves w.in-Some.before else old.leaves)
          w.if-branch.false)
          (ap (λ (t : TreeState g.row.C.Denot). t.sweep) w.tree-is ∙ w.in_ok-join_next.ensures.sweep
          ∙ ap (λ (b : Bool). if b then sweep_joined old.leaves w.in-Some.before old.sweep else old.sweep) w.if-branch.false)
          (subst (λ (t : TreeState g.row.C.Denot). KeepsReferences old.refs t.refs) (sym w.tree-is) w.in_ok-join_next.ensures.refs)
      | in_default w ↦
          stays (ap (λ (t : TreeState g.row.C.Denot). t.leaves) w.tree-is) (ap (λ (t : TreeState g.row.C.Denot). t.sweep) w.tree-is)
          (λ r. ap (λ (t : TreeState g.row.C.Denot). reference_at t.refs r) w.tree-is)
    ]
