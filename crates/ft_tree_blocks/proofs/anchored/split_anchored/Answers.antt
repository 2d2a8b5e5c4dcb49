use Rattle.std.proofs.Common.{◌<◌, length, Option, IsSomeAnd, subst, refl, ap, arith, ◌≡◌, ℕ, List, Some, option_map, sym, ◌∙◌}
use Rattle.ft_block.specs.Leaves.{times_leaf, value_at, split_leaf}
use Rattle.ft_tree_leaves.specs.declared.leaves.TreeLeaf.{TreeLeaf}
use Rattle.ft_tree_leaves.specs.BlockLaws.{front_length, rear_length}
use Rattle.ft_tree_blocks.proofs.KeptRefs.{kept_cut, kept_references}
use Rattle.ft_tree_blocks.proofs.StepValues.{is_given, is_live, mapped_some, rear-split}
use Rattle.std.specs.Option.{IsSome}
use Rattle.ft_tree_leaves.specs.Edits.{is_touched_by}
use Rattle.ft_tree_blocks.proofs.TrackedSteps.{tracks-is, tracks-split}
use Rattle.ft_tree_blocks.proofs.anchored.split_anchored.Goals as goal

pub leaf-requires-clause-live : goal.leaf-requires-clause-live
leaf-requires-clause-live g c =
    is_live c.args.blocks.now.leaves c.args.leaf (is_given (value_at c.args.blocks.now.leaves c.args.leaf) (λ v. c.args.at < length (g.C.Content.units v.content)) c.requires.high)

pub cut-requires : goal.cut-requires
cut-requires g c = λ e.
    let xs = c.args.blocks.now.leaves in
    let live = is_live xs c.args.leaf (is_given (value_at xs c.args.leaf) (λ v. c.args.at < length (g.C.Content.units v.content)) c.requires.high) in
    omega (arith, live, c.in_ok-rear.ensures.fresh, ap (times_leaf xs) e)

pub returns-clause-refs : goal.returns-clause-refs
returns-clause-refs g c =
    let us = g.C.Content.units in
    let by = g.C.Content.by in
    let xs = c.args.blocks.now.leaves in
    let once = c.first-first.ensures.once in
    let a = c.args.refs.now.anchors in
    let ns = c.args.refs.now.unsettled.items in
    let v = c.leaf.result.now in
    let at = c.args.at in
    let front : TreeLeaf g.row.C.Denot → TreeLeaf g.row.C.Denot = λ w. record w { content = g.C.Content.front w.content at } in
    let rear : TreeLeaf g.row.C.Denot → TreeLeaf g.row.C.Denot = λ w. record w { content = g.C.Content.rear w.content at } in
    let high : at < length (us v.content) = subst (λ (o : Option (TreeLeaf g.row.C.Denot)). IsSomeAnd o (λ w. at < length (us w.content))) c.leaf.ensures c.requires.high in
    let kept = kept_cut us by xs once a ns c.requires.sound c.split.new.self.leaves c.args.leaf v c.leaf.ensures front rear at c.in_ok-rear.rear
    c.stands-stands.result
    c.cut.new.self.anchors c.cut.new.self.unsettled.items c.in_ok-rear.ensures.ok
    (front_length us v.content (g.C.Content.front v.content at) at high (g.met.C.Content.front_units v.content at c.requires.low high))
    (rear_length us v.content (g.C.Content.rear v.content at) at high (g.met.C.Content.rear_units v.content at c.requires.low high)) refl refl
    c.in_ok-rear.ensures.fresh c.in_ok-cut.ensures.held c.in_ok-cut.ensures.moves c.stands-stands.ensures c.in_ok-cut.ensures.notes in
    kept_references us by xs c.split.new.self.leaves a c.cut.new.self.anchors c.cut.new.self.unsettled.items kept

pub returns-clause-sound : goal.returns-clause-sound
returns-clause-sound g c =
    let us = g.C.Content.units in
    let by = g.C.Content.by in
    let xs = c.args.blocks.now.leaves in
    let once = c.first-first.ensures.once in
    let a = c.args.refs.now.anchors in
    let ns = c.args.refs.now.unsettled.items in
    let v = c.leaf.result.now in
    let at = c.args.at in
    let front : TreeLeaf g.row.C.Denot → TreeLeaf g.row.C.Denot = λ w. record w { content = g.C.Content.front w.content at } in
    let rear : TreeLeaf g.row.C.Denot → TreeLeaf g.row.C.Denot = λ w. record w { content = g.C.Content.rear w.content at } in
    let high : at < length (us v.content) = subst (λ (o : Option (TreeLeaf g.row.C.Denot)). IsSomeAnd o (λ w. at < length (us w.content))) c.leaf.ensures c.requires.high in
    let kept = kept_cut us by xs once a ns c.requires.sound c.split.new.self.leaves c.args.leaf v c.leaf.ensures front rear at c.in_ok-rear.rear
    c.stands-stands.result
    c.cut.new.self.anchors c.cut.new.self.unsettled.items c.in_ok-rear.ensures.ok
    (front_length us v.content (g.C.Content.front v.content at) at high (g.met.C.Content.front_units v.content at c.requires.low high))
    (rear_length us v.content (g.C.Content.rear v.content at) at high (g.met.C.Content.rear_units v.content at c.requires.low high)) refl refl
    c.in_ok-rear.ensures.fresh c.in_ok-cut.ensures.held c.in_ok-cut.ensures.moves c.stands-stands.ensures c.in_ok-cut.ensures.notes in
    kept.sound

pub leaf-requires-2-clause-live : goal.leaf-requires-2-clause-live
leaf-requires-2-clause-live g c =
    let xs = c.args.blocks.now.leaves in
    let id = c.args.leaf in
    let new = c.in_ok-rear.rear in
    let f : TreeLeaf g.row.C.Denot → TreeLeaf g.row.C.Denot = λ v. record v { content = g.C.Content.front v.content c.args.at } in
    let r : TreeLeaf g.row.C.Denot → TreeLeaf g.row.C.Denot = λ v. record v { content = g.C.Content.rear v.content c.args.at } in
    let here : IsSome (value_at xs id) = is_given (value_at xs id) (λ v. c.args.at < length (g.C.Content.units v.content)) c.requires.high in
    is_live c.split.new.self.leaves new
    (subst (λ (ys : List (ℕ × TreeLeaf g.row.C.Denot)). IsSome (value_at ys new)) (sym c.in_ok-rear.ensures.ok)
    (subst IsSome (sym (rear-split f r xs id new c.in_ok-rear.ensures.fresh)) (mapped_some r (value_at xs id) here)))

pub returns-clause-tracks : goal.returns-clause-tracks
returns-clause-tracks g c =
    let xs = c.args.blocks.now.leaves in
    let ss = c.args.touched.now.items in
    let id = c.args.leaf in
    let new = c.in_ok-rear.rear in
    let f : TreeLeaf g.row.C.Denot → TreeLeaf g.row.C.Denot = λ v. record v { content = g.C.Content.front v.content c.args.at } in
    let r : TreeLeaf g.row.C.Denot → TreeLeaf g.row.C.Denot = λ v. record v { content = g.C.Content.rear v.content c.args.at } in
    let here : IsSome (value_at xs id) = is_given (value_at xs id) (λ v. c.args.at < length (g.C.Content.units v.content)) c.requires.high in
    let read : (v : TreeLeaf g.row.C.Denot) → value_at xs id ≡ Some v → r v ≡ c.leaf-2.result.now =
    λ v at. let there : Some (r v) ≡ Some c.leaf-2.result.now =
    sym (rear-split f r xs id new c.in_ok-rear.ensures.fresh ∙ ap (λ o. option_map r o) at)
    ∙ ap (λ (ys : List (ℕ × TreeLeaf g.row.C.Denot)). value_at ys new) (sym c.in_ok-rear.ensures.ok) ∙ c.leaf-2.ensures in
    (cc) in
    tracks-is (split_leaf f r xs id new) c.split.new.self.leaves c.note_rear.new.touched.items c.note_rear.new.touched.items c.in_ok-rear.ensures.ok
    refl
    (tracks-split xs ss c.requires.tracks f r id new c.note_rear.new.touched.items c.in_ok-note_rear.ensures.notes c.in_ok-rear.ensures.fresh (λ k v.
    refl)
    (λ k v at t. c.in_ok-note_rear.ensures.listed k (ap (is_touched_by k) (sym (read v at)) ∙ t) (c.requires.tracks.covers k id v at t)) here)

pub returns-clause-cuts : goal.returns-clause-cuts
returns-clause-cuts g c = record { ok = c.in_ok-rear.ensures.ok; fresh = c.in_ok-rear.ensures.fresh }

pub first-first-requires : goal.first-first-requires
first-first-requires g c = c.requires.usable

pub leaf-requires-clause-usable : goal.leaf-requires-clause-usable
leaf-requires-clause-usable g c = c.requires.usable

pub split-requires-clause-usable : goal.split-requires-clause-usable
split-requires-clause-usable g c = c.requires.usable

pub split-requires-clause-low : goal.split-requires-clause-low
split-requires-clause-low g c = c.requires.low

pub split-requires-clause-high : goal.split-requires-clause-high
split-requires-clause-high g c = c.requires.high

pub leaf-requires-2-clause-usable : goal.leaf-requires-2-clause-usable
leaf-requires-2-clause-usable g c = c.in_ok-rear.ensures.usable

pub note_rear-requires : goal.note_rear-requires
note_rear-requires g c = c.requires.tracks.rising

pub returns-clause-usable : goal.returns-clause-usable
returns-clause-usable g c = c.in_ok-rear.ensures.usable

pub returns-clause-floor : goal.returns-clause-floor
returns-clause-floor g c = c.split.ensures.floor

pub returns-in_err-rear-clause-floor : goal.returns-in_err-rear-clause-floor
returns-in_err-rear-clause-floor g c = c.split.ensures.floor

pub returns-in_err-note_rear-clause-floor : goal.returns-in_err-note_rear-clause-floor
returns-in_err-note_rear-clause-floor g c = c.split.ensures.floor

pub returns-in_err-cut-clause-floor : goal.returns-in_err-cut-clause-floor
returns-in_err-cut-clause-floor g c = c.split.ensures.floor
