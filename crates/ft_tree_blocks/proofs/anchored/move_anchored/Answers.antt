use Rattle.std.proofs.Common.{arith, ℕ, List, ◌∙◌, ap}
use Rattle.std.proofs.lemmas.Result.{on_ok_weaker}
use Rattle.ft_tree_blocks.proofs.KeptRefs.{kept_move}
use Rattle.ft_tree_blocks.proofs.MovedLeaves.{place_left}
use Rattle.ft_tree_blocks.proofs.Walks.{live_value}
use Rattle.ft_block.specs.Leaves.{value_at}
use Rattle.ft_tree_leaves.specs.declared.leaves.TreeLeaf.{TreeLeaf}
use Rattle.ft_tree_blocks.proofs.StepValues.{value-move}
use Rattle.ft_tree_blocks.proofs.TrackedSteps.{tracks-same}
use Rattle.ft_tree_blocks.proofs.anchored.move_anchored.Goals as goal

pub returns-clause-refs : goal.returns-clause-refs
returns-clause-refs g c =
    let us = g.C.Content.units in
    let by = g.C.Content.by in
    let xs = c.args.blocks.now.leaves in
    let once = c.first-first.ensures.once in
    let a = c.args._refs.now.anchors in
    let ns = c.args._refs.now.unsettled.items in
    let v = live_value xs c.args.id c.requires.live in
    on_ok_weaker c.move_after.result
    (λ e. (kept_move us by xs once a ns c.requires.sound c.move_after.new.self.leaves c.args.id v.0 v.1 c.args.at e
    (place_left xs c.args.id (omega (arith, once c.args.id, c.requires.live)) c.args.at c.requires.place c.requires.differ)).references)
    c.move_after.ensures.ok

pub returns-clause-sound : goal.returns-clause-sound
returns-clause-sound g c =
    let us = g.C.Content.units in
    let by = g.C.Content.by in
    let xs = c.args.blocks.now.leaves in
    let once = c.first-first.ensures.once in
    let a = c.args._refs.now.anchors in
    let ns = c.args._refs.now.unsettled.items in
    let v = live_value xs c.args.id c.requires.live in
    on_ok_weaker c.move_after.result
    (λ e. (kept_move us by xs once a ns c.requires.sound c.move_after.new.self.leaves c.args.id v.0 v.1 c.args.at e
    (place_left xs c.args.id (omega (arith, once c.args.id, c.requires.live)) c.args.at c.requires.place c.requires.differ)).sound)
    c.move_after.ensures.ok

pub returns-clause-tracks : goal.returns-clause-tracks
returns-clause-tracks g c =
    let xs = c.args.blocks.now.leaves in
    on_ok_weaker c.move_after.result
    (λ e. tracks-same xs c.args.touched.now.items c.requires.tracks c.move_after.new.self.leaves
    (λ z. ap (λ (ys : List (ℕ × TreeLeaf g.row.C.Denot)). value_at ys z) e
    ∙ value-move xs c.args.id c.args.at z c.first-first.ensures.once c.requires.live c.requires.place c.requires.differ))
    c.move_after.ensures.ok

pub first-first-requires : goal.first-first-requires
first-first-requires g c = c.requires.usable

pub move_after-requires-clause-usable : goal.move_after-requires-clause-usable
move_after-requires-clause-usable g c = c.requires.usable

pub move_after-requires-clause-live : goal.move_after-requires-clause-live
move_after-requires-clause-live g c = c.requires.live

pub move_after-requires-clause-place : goal.move_after-requires-clause-place
move_after-requires-clause-place g c = c.requires.place

pub move_after-requires-clause-differ : goal.move_after-requires-clause-differ
move_after-requires-clause-differ g c = c.requires.differ

pub returns-clause-ok : goal.returns-clause-ok
returns-clause-ok g c = c.move_after.ensures.ok

pub returns-clause-usable : goal.returns-clause-usable
returns-clause-usable g c = c.move_after.ensures.usable

pub returns-clause-floor : goal.returns-clause-floor
returns-clause-floor g c = c.move_after.ensures.floor
