use Rattle.std.proofs.Common.{◌+◌, ◌∙◌, List, drop, get_or, subst, arith}
use Rattle.std.proofs.lemmas.List.{drop_all}
use Rattle.ft_rebase.specs.declared.moves.StageMove.{StageMove}
use Rattle.ft_tree_leaves.specs.Elements.{TreeElement}
use Rattle.ft_tree_leaves.specs.LeafLists.{elements}
use Rattle.ft_tree_leaves.proofs.LeafRuns.{length-elements}
use Rattle.ft_rebase.specs.RebuiltPlaces.{rebuilt_place}
use Rattle.ft_rebase.proofs.AllStages.{MovesLeft, elements_moved, leaves_side, move_next, next_move, nodes_kept, spot_moved}
use Rattle.ft_rebase.proofs.MovedSpots.{rest_more, spots_more}
use Rattle.ft_rebase.proofs.SpotPlaces.{refs-moved}
use Rattle.ft_rebase.proofs.moves.move_stages.Goals as goal

pub put_stage-requires-clause-ends : goal.put_stage-requires-clause-ends
put_stage-requires-clause-ends g c =
    let us = g.C.Content.units in
    let xs = c.args.tree.now.leaves in
    let ms = c.deref-next-items.result.now in
    let i = c.loop-next.next-index in
    let none : StageMove = record { stage = 0; position = 0 } in
    let now = c.loop-next.tree.leaves in
    let side = leaves_side us g.C.Content.by xs c.first_leaf-first.ensures.some c.requires.side in
    let left = subst (λ (ls : List StageMove). MovesLeft us xs ls now) (next_move ms i none c.loop-next-test.true)
    c.loop-next.invariant.left in
    let next = move_next us xs side (get_or ms i none) (drop (i + 1) ms) now left in
    next.ends

pub loop-next-preserved : goal.loop-next-preserved
loop-next-preserved g c =
    let us = g.C.Content.units in
    let xs = c.args.tree.now.leaves in
    let ms = c.deref-next-items.result.now in
    let i = c.loop-next.next-index in
    let none : StageMove = record { stage = 0; position = 0 } in
    let now = c.loop-next.tree.leaves in
    let side = leaves_side us g.C.Content.by xs c.first_leaf-first.ensures.some c.requires.side in
    let left = subst (λ (ls : List StageMove). MovesLeft us xs ls now) (next_move ms i none c.loop-next-test.true)
    c.loop-next.invariant.left in
    let next = move_next us xs side (get_or ms i none) (drop (i + 1) ms) now left in
    record {
      left = next.after c.put_stage.new.tree.leaves (c.in_ok-put_stage.ensures.leaves next.ends.count next.ends.fits next.ends.is);
      refs = spots_more c.loop-next.invariant.refs c.in_ok-put_stage.ensures.refs;
      rest = rest_more c.loop-next.invariant.rest c.in_ok-put_stage.ensures.stays.rest;
      made = c.in_ok-put_stage.ensures.stays.made ∙ c.loop-next.invariant.made;
      usable = c.in_ok-put_stage.ensures.stays.usable;
    }

pub returns-clause-moves : goal.returns-clause-moves
returns-clause-moves g c last h =
    let us = g.C.Content.units in
    let by = g.C.Content.by in
    let xs = c.args.tree.now.leaves in
    let now = c.loop-next.tree.leaves in
    let before = c.first_leaf-first.ensures in
    let after = c.first_leaf-moved.ensures in
    let done = drop_all c.loop-next.next-index c.deref-next-items.result.now c.loop-next-test.false in
    let left = subst (λ (ls : List StageMove). MovesLeft us xs ls now) done c.loop-next.invariant.left in
    let side = leaves_side us by xs before.some c.requires.side in
    record {
      list = elements_moved us xs now left by before.some side last h;
      places = refs-moved us by c.args.tree.now c.loop-next.tree (rebuilt_place (λ (e : TreeElement g.row.C-Unit.Denot). e.stamps) last (elements us by xs))
          c.loop-next.invariant.refs (λ r j e. omega (arith, length-elements us by xs, before.inside r j e))
          (λ r j e. omega (arith, length-elements us by now, after.inside r j e))
          (λ i j s a b. spot_moved us xs now left by before.some side before.once after.once last h i j s a b);
    }

pub returns-clause-nodes : goal.returns-clause-nodes
returns-clause-nodes g c =
    let us = g.C.Content.units in
    let xs = c.args.tree.now.leaves in
    let now = c.loop-next.tree.leaves in
    let done = drop_all c.loop-next.next-index c.deref-next-items.result.now c.loop-next-test.false in
    let left = subst (λ (ls : List StageMove). MovesLeft us xs ls now) done c.loop-next.invariant.left in
    nodes_kept us xs now left

pub returns-clause-stays : goal.returns-clause-stays
returns-clause-stays g c = record {
  rest = c.loop-next.invariant.rest;
  made = c.loop-next.invariant.made;
  usable = c.loop-next.invariant.usable;
}
