use Rattle.std.proofs.lemmas.Result.{on_ok_weaker}
use Rattle.ft_tree_blocks.proofs.KeptRefs.{kept_references}
use Rattle.ft_tree_blocks.proofs.RefSteps.{kept_change}
use Rattle.std.proofs.Common.{◌≡◌, true, ◌⊎◌, inl, inr, ℕ, Some, refl}
use Rattle.ft_block.specs.Leaves.{change_leaf, value_at}
use Rattle.ft_tree_leaves.specs.declared.leaves.TreeLeaf.{TreeLeaf}
use Rattle.ft_tree_leaves.specs.BlockChanges.{MayChange, changed_leaf}
use Rattle.ft_tree_leaves.specs.Edits.{is_touched_by}
use Rattle.ft_tree_blocks.specs.Touched.{is_listed}
use Rattle.ft_tree_blocks.proofs.StepValues.{is_given}
use Rattle.ft_tree_blocks.proofs.TrackedSteps.{touched-changed, tracks-change, tracks-is}
use Rattle.ft_tree_blocks.proofs.anchored.change_anchored.Goals as goal

pub returns-clause-refs : goal.returns-clause-refs
returns-clause-refs g c =
    let us = g.C.Content.units in
    let by = g.C.Content.by in
    let xs = c.args.blocks.now.leaves in
    let once = c.first-first.ensures.once in
    let a = c.args._refs.now.anchors in
    let ns = c.args._refs.now.unsettled.items in
    on_ok_weaker c.change.result
    (λ e. kept_references us by xs c.change.new.self.leaves a a ns
    (kept_change us by xs once a ns c.requires.sound c.change.new.self.leaves g.C.Content.stamped g.met.C.Content.stamped_units c.args.c.now c.args.id
    e))
    c.change.ensures.ok

pub returns-clause-sound : goal.returns-clause-sound
returns-clause-sound g c =
    let us = g.C.Content.units in
    let by = g.C.Content.by in
    let xs = c.args.blocks.now.leaves in
    let once = c.first-first.ensures.once in
    let a = c.args._refs.now.anchors in
    let ns = c.args._refs.now.unsettled.items in
    on_ok_weaker c.change.result
    (λ e. (kept_change us by xs once a ns c.requires.sound c.change.new.self.leaves g.C.Content.stamped g.met.C.Content.stamped_units c.args.c.now
    c.args.id e).sound)
    c.change.ensures.ok

pub returns-clause-tracks : goal.returns-clause-tracks
returns-clause-tracks g c =
    let xs = c.args.blocks.now.leaves in
    let id = c.args.id in
    let d = c.args.c.now in
    let ts = c.note_change.new.touched.items in
    let f : TreeLeaf g.row.C.Denot → TreeLeaf g.row.C.Denot = λ v. changed_leaf g.C.Content.stamped v d in
    let own : (k : ℕ) (v : TreeLeaf g.row.C.Denot) → value_at xs id ≡ Some v → is_touched_by k (f v) ≡ true → (is_touched_by k v ≡ true) ⊎ (is_listed
    ts k id ≡ true) =
    λ k v at t. elim (touched-changed g.C.Content.stamped d v k t) [
      | inl old ↦ inl old
      | inr new ↦ inr (c.in_ok-note_change.ensures.listed k new)
    ] in
    on_ok_weaker c.change.result
    (λ h. tracks-is (change_leaf f xs id) c.change.new.self.leaves ts ts h refl
    (tracks-change xs c.args.touched.now.items c.requires.tracks f id ts c.in_ok-note_change.ensures.notes own
    (is_given (value_at xs id) (λ v. MayChange d v.overlay) c.requires.can)))
    c.change.ensures.ok

pub first-first-requires : goal.first-first-requires
first-first-requires g c = c.requires.usable

pub change-requires-clause-usable : goal.change-requires-clause-usable
change-requires-clause-usable g c = c.requires.usable

pub change-requires-clause-can : goal.change-requires-clause-can
change-requires-clause-can g c = c.requires.can

pub note_change-requires : goal.note_change-requires
note_change-requires g c = c.requires.tracks.rising

pub returns-clause-ok : goal.returns-clause-ok
returns-clause-ok g c = c.change.ensures.ok

pub returns-clause-usable : goal.returns-clause-usable
returns-clause-usable g c = c.change.ensures.usable

pub returns-clause-floor : goal.returns-clause-floor
returns-clause-floor g c = c.change.ensures.floor

pub returns-in_err-note_change-clause-floor : goal.returns-in_err-note_change-clause-floor
returns-in_err-note_change-clause-floor g c = refl
