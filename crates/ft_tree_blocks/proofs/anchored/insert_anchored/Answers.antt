use Rattle.ft_tree_blocks.proofs.KeptRefs.{kept_put}
use Rattle.std.proofs.Common.{◌≡◌, ℕ, List, subst, sym, ◌∙◌, ap, refl}
use Rattle.ft_block.specs.Leaves.{IsLeafIn, put_leaf, value_at}
use Rattle.ft_tree_leaves.specs.declared.leaves.TreeLeaf.{TreeLeaf}
use Rattle.ft_tree_blocks.specs.Touched.{is_stamped_by}
use Rattle.ft_tree_blocks.proofs.StepValues.{new_put}
use Rattle.ft_tree_blocks.proofs.TrackedSteps.{new_touched, tracks-insert, tracks-is}
use Rattle.ft_tree_blocks.proofs.WalkEdits.{live-put}
use Rattle.ft_tree_blocks.proofs.anchored.insert_anchored.Goals as goal

pub returns-clause-refs : goal.returns-clause-refs
returns-clause-refs g c =
    let us = g.C.Content.units in
    let by = g.C.Content.by in
    let xs = c.args.blocks.now.leaves in
    let once = c.first-first.ensures.once in
    let a = c.args.refs.now.anchors in
    let ns = c.args.refs.now.unsettled.items in
    (kept_put us by xs once a ns c.requires.sound c.insert_after.new.self.leaves c.args.at c.in_ok-id.id c.args.leaf c.hold.new.self.anchors
    c.hold.new.self.unsettled.items
    c.in_ok-id.ensures.ok c.requires.place c.in_ok-id.ensures.fresh c.in_ok-hold.ensures.held c.in_ok-hold.ensures.moves
    c.hold.ensures.unsettled).references

pub returns-clause-sound : goal.returns-clause-sound
returns-clause-sound g c =
    let us = g.C.Content.units in
    let by = g.C.Content.by in
    let xs = c.args.blocks.now.leaves in
    let once = c.first-first.ensures.once in
    let a = c.args.refs.now.anchors in
    let ns = c.args.refs.now.unsettled.items in
    (kept_put us by xs once a ns c.requires.sound c.insert_after.new.self.leaves c.args.at c.in_ok-id.id c.args.leaf c.hold.new.self.anchors
    c.hold.new.self.unsettled.items
    c.in_ok-id.ensures.ok c.requires.place c.in_ok-id.ensures.fresh c.in_ok-hold.ensures.held c.in_ok-hold.ensures.moves
    c.hold.ensures.unsettled).sound

pub leaf-requires-clause-live : goal.leaf-requires-clause-live
leaf-requires-clause-live g c =
    subst (λ (ys : List (ℕ × TreeLeaf g.row.C.Denot)). IsLeafIn ys c.in_ok-id.id) (sym c.in_ok-id.ensures.ok)
    (live-put c.args.blocks.now.leaves c.args.at c.in_ok-id.id c.args.leaf c.first-first.ensures.once c.requires.place)

pub returns-clause-tracks : goal.returns-clause-tracks
returns-clause-tracks g c =
    let xs = c.args.blocks.now.leaves in
    let ss = c.args.touched.now.items in
    let id = c.in_ok-id.id in
    let leaf = c.args.leaf in
    let read : c.leaf.result.now ≡ leaf = new_put xs c.args.at id leaf c.leaf.result.now c.in_ok-id.ensures.fresh
    (ap (λ (ys : List (ℕ × TreeLeaf g.row.C.Denot)). value_at ys id) (sym c.in_ok-id.ensures.ok) ∙ c.leaf.ensures) in
    tracks-is (put_leaf xs c.args.at (id, leaf)) _ c.note_new.new.touched.items _ c.in_ok-id.ensures.ok refl
    (tracks-insert xs ss c.requires.tracks c.args.at id leaf c.note_new.new.touched.items c.in_ok-note_new.ensures.notes c.in_ok-id.ensures.fresh
    c.first-first.ensures.once c.requires.place
    (λ k t. c.in_ok-note_new.ensures.listed k
    (ap (λ (x : TreeLeaf g.row.C.Denot). is_stamped_by k x.stamps) read ∙ new_touched leaf k c.requires.settled t)))

pub returns-clause-puts : goal.returns-clause-puts
returns-clause-puts g c = record { ok = c.in_ok-id.ensures.ok; fresh = c.in_ok-id.ensures.fresh }

pub first-first-requires : goal.first-first-requires
first-first-requires g c = c.requires.usable

pub insert_after-requires-clause-usable : goal.insert_after-requires-clause-usable
insert_after-requires-clause-usable g c = c.requires.usable

pub insert_after-requires-clause-place : goal.insert_after-requires-clause-place
insert_after-requires-clause-place g c = c.requires.place

pub insert_after-requires-clause-fits : goal.insert_after-requires-clause-fits
insert_after-requires-clause-fits g c = c.requires.fits

pub leaf-requires-clause-usable : goal.leaf-requires-clause-usable
leaf-requires-clause-usable g c = c.in_ok-id.ensures.usable

pub note_new-requires : goal.note_new-requires
note_new-requires g c = c.requires.tracks.rising

pub returns-clause-usable : goal.returns-clause-usable
returns-clause-usable g c = c.in_ok-id.ensures.usable

pub returns-clause-floor : goal.returns-clause-floor
returns-clause-floor g c = c.insert_after.ensures.floor

pub returns-in_err-id-clause-floor : goal.returns-in_err-id-clause-floor
returns-in_err-id-clause-floor g c = c.insert_after.ensures.floor

pub returns-in_err-note_new-clause-floor : goal.returns-in_err-note_new-clause-floor
returns-in_err-note_new-clause-floor g c = c.insert_after.ensures.floor

pub returns-in_err-hold-clause-floor : goal.returns-in_err-hold-clause-floor
returns-in_err-hold-clause-floor g c = c.insert_after.ensures.floor
