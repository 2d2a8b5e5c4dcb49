use Rattle.std.proofs.Common.{ℕ, List, refl, ap, arith, ◌≡◌, true, false, Bool, ◌⊎◌, inl, inr, Some, sym, ◌∙◌}
use Rattle.std.proofs.lemmas.Result.{on_ok_weaker}
use Rattle.ft_block.specs.Leaves.{times_leaf, change_leaf, value_at}
use Rattle.ft_tree_leaves.specs.declared.leaves.TreeLeaf.{TreeLeaf}
use Rattle.ft_tree_blocks.proofs.KeptRefs.{kept_references, kept_stamps}
use Rattle.ft_tree_blocks.proofs.WalkEdits.{times-change}
use Rattle.ft_base.specs.declared.elements.Element.{Element as ElementStamps}
use Rattle.ft_tree_leaves.specs.Edits.{is_touched_by}
use Rattle.ft_tree_blocks.specs.Touched.{is_listed, is_stamped_by}
use Rattle.ft_tree_blocks.proofs.Acknowledged.{on-ok}
use Rattle.ft_tree_blocks.proofs.StepValues.{is_some}
use Rattle.ft_tree_blocks.proofs.TrackedSteps.{by_stamps, touched-stamped, tracks-change, tracks-is}
use Rattle.ft_tree_blocks.proofs.anchored.set_stamps_anchored.Goals as goal

pub leaf-requires-2-clause-live : goal.leaf-requires-2-clause-live
leaf-requires-2-clause-live g c =
    let xs = c.args.blocks.now.leaves in
    let id = c.args.id in
    let f : TreeLeaf g.row.C.Denot → TreeLeaf g.row.C.Denot = λ v. record v { stamps = c.args.e } in
    let ok : c.set_stamps.new.self.leaves ≡ change_leaf f xs c.args.id =
    c.in_ok-set_stamps.ensures.ok ∙ ap (λ (s : ElementStamps). change_leaf (λ (v : TreeLeaf g.row.C.Denot). record v { stamps = s }) xs c.args.id)
    c.in_ok-stamps.ensures.value in
    omega (arith, c.requires.live, ap (λ (ys : List (ℕ × TreeLeaf g.row.C.Denot)). times_leaf ys id) ok, times-change f xs id id)

pub returns-clause-refs : goal.returns-clause-refs
returns-clause-refs g c =
    let us = g.C.Content.units in
    let by = g.C.Content.by in
    let xs = c.args.blocks.now.leaves in
    let once = c.first-first.ensures.once in
    let a = c.args.refs.now.anchors in
    let ns = c.args.refs.now.unsettled.items in
    let e = c.args.e in
    let f : TreeLeaf g.row.C.Denot → TreeLeaf g.row.C.Denot = λ v. record v { stamps = e } in
    let ok : c.set_stamps.new.self.leaves ≡ change_leaf f xs c.args.id =
    c.in_ok-set_stamps.ensures.ok ∙ ap (λ (s : ElementStamps). change_leaf (λ (v : TreeLeaf g.row.C.Denot). record v { stamps = s }) xs c.args.id)
    c.in_ok-stamps.ensures.value in
    on_ok_weaker c.unsettle.result
    (λ n. kept_references us by xs c.set_stamps.new.self.leaves a c.unsettle.new.self.anchors c.unsettle.new.self.unsettled.items
    (kept_stamps us by xs once a ns c.requires.sound c.set_stamps.new.self.leaves f c.args.id c.leaf-2.result.now c.stands-stands.result
    c.unsettle.new.self.anchors c.unsettle.new.self.unsettled.items ok (λ x. refl) c.leaf-2.ensures c.stands-stands.ensures
    c.unsettle.ensures.anchors n))
    c.unsettle.ensures.notes

pub returns-clause-sound : goal.returns-clause-sound
returns-clause-sound g c =
    let us = g.C.Content.units in
    let by = g.C.Content.by in
    let xs = c.args.blocks.now.leaves in
    let once = c.first-first.ensures.once in
    let a = c.args.refs.now.anchors in
    let ns = c.args.refs.now.unsettled.items in
    let e = c.args.e in
    let f : TreeLeaf g.row.C.Denot → TreeLeaf g.row.C.Denot = λ v. record v { stamps = e } in
    let ok : c.set_stamps.new.self.leaves ≡ change_leaf f xs c.args.id =
    c.in_ok-set_stamps.ensures.ok ∙ ap (λ (s : ElementStamps). change_leaf (λ (v : TreeLeaf g.row.C.Denot). record v { stamps = s }) xs c.args.id)
    c.in_ok-stamps.ensures.value in
    on_ok_weaker c.unsettle.result
    (λ n. (kept_stamps us by xs once a ns c.requires.sound c.set_stamps.new.self.leaves f c.args.id c.leaf-2.result.now c.stands-stands.result
    c.unsettle.new.self.anchors c.unsettle.new.self.unsettled.items ok (λ x. refl) c.leaf-2.ensures c.stands-stands.ensures
    c.unsettle.ensures.anchors n).sound)
    c.unsettle.ensures.notes

-- where the old stamps have the stage, the leaf was touched by it; else its node is listed now
known_or_listed : (b : Bool) (A B : Type 0) (t : Bool) → t ≡ b → (t ≡ true → A) → (t ≡ false → B) → A ⊎ B
known_or_listed true A B t e old new = inl (old e)
known_or_listed false A B t e old new = inr (new e)

pub returns-clause-ok : goal.returns-clause-ok
returns-clause-ok g c =
    let xs = c.args.blocks.now.leaves in
    let f : TreeLeaf g.row.C.Denot → TreeLeaf g.row.C.Denot = λ v. record v { stamps = c.args.e } in
    let ok : c.set_stamps.new.self.leaves ≡ change_leaf f xs c.args.id =
    c.in_ok-set_stamps.ensures.ok ∙ ap (λ (s : ElementStamps). change_leaf (λ (v : TreeLeaf g.row.C.Denot). record v { stamps = s }) xs c.args.id)
    c.in_ok-stamps.ensures.value in
    on_ok_weaker c.unsettle.result (λ n. ok) c.unsettle.ensures.notes

pub returns-clause-tracks : goal.returns-clause-tracks
returns-clause-tracks g c =
    let xs = c.args.blocks.now.leaves in
    let id = c.args.id in
    let e = c.args.e in
    let done = c.in_ok-stamps.ensures.done in
    let ts = c.note_stamps-noted.new.touched.items in
    let f : TreeLeaf g.row.C.Denot → TreeLeaf g.row.C.Denot = λ v. record v { stamps = e } in
    let ok : c.set_stamps.new.self.leaves ≡ change_leaf f xs c.args.id =
    c.in_ok-set_stamps.ensures.ok ∙ ap (λ (s : ElementStamps). change_leaf (λ (v : TreeLeaf g.row.C.Denot). record v { stamps = s }) xs c.args.id)
    c.in_ok-stamps.ensures.value in
    let listed = on-ok c.note_stamps-noted.result done.0 done.1 c.note_stamps-noted.ensures.listed in
    let own : (k : ℕ) (v : TreeLeaf g.row.C.Denot) → value_at xs id ≡ Some v → is_touched_by k (f v) ≡ true → (is_touched_by k v ≡ true) ⊎ (is_listed
    ts k id ≡ true) =
    λ k v at t. elim (touched-stamped e v k t) [
      | inl old ↦ inl old
      | inr new ↦
          let same : v ≡ c.leaf.result.now = (let both : Some v ≡ Some c.leaf.result.now = sym at ∙ c.leaf.ensures in (cc)) in
          known_or_listed (is_stamped_by k v.stamps) (is_touched_by k v ≡ true) (is_listed ts k id ≡ true) (is_stamped_by k v.stamps) refl
          (λ h. by_stamps k v h)
          (λ h. listed k new (ap (λ (x : TreeLeaf g.row.C.Denot). is_stamped_by k x.stamps) (sym same) ∙ h))
    ] in
    on_ok_weaker c.unsettle.result
    (λ n. tracks-is (change_leaf f xs id) c.set_stamps.new.self.leaves ts ts ok refl
    (tracks-change xs c.args.touched.now.items c.requires.tracks f id ts (on-ok c.note_stamps-noted.result done.0 done.1
    c.note_stamps-noted.ensures.notes) own
    (is_some (value_at xs id) c.leaf.result.now c.leaf.ensures)))
    c.unsettle.ensures.notes

pub first-first-requires : goal.first-first-requires
first-first-requires g c = c.requires.usable

pub leaf-requires-clause-usable : goal.leaf-requires-clause-usable
leaf-requires-clause-usable g c = c.requires.usable

pub leaf-requires-clause-live : goal.leaf-requires-clause-live
leaf-requires-clause-live g c = c.requires.live

pub note_stamps-noted-requires : goal.note_stamps-noted-requires
note_stamps-noted-requires g c = c.requires.tracks.rising

pub set_stamps-requires-clause-usable : goal.set_stamps-requires-clause-usable
set_stamps-requires-clause-usable g c = c.requires.usable

pub set_stamps-requires-clause-live : goal.set_stamps-requires-clause-live
set_stamps-requires-clause-live g c = c.requires.live

pub leaf-requires-2-clause-usable : goal.leaf-requires-2-clause-usable
leaf-requires-2-clause-usable g c = c.in_ok-set_stamps.ensures.usable

pub returns-clause-usable : goal.returns-clause-usable
returns-clause-usable g c = on_ok_weaker c.unsettle.result (λ n. c.in_ok-set_stamps.ensures.usable) c.unsettle.ensures.notes

pub returns-clause-floor : goal.returns-clause-floor
returns-clause-floor g c = c.set_stamps.ensures.floor

pub returns-in_err-stamps-clause-floor : goal.returns-in_err-stamps-clause-floor
returns-in_err-stamps-clause-floor g c = refl

pub returns-in_err-set_stamps-clause-floor : goal.returns-in_err-set_stamps-clause-floor
returns-in_err-set_stamps-clause-floor g c = c.set_stamps.ensures.floor
