use Rattle.std.proofs.Common.{◌≡◌, ◌+◌, length, Option, Some, IsTrue, IsSomeAnd, subst, refl, sym, ◌∙◌, ap, arith, length-append}
use Rattle.std.proofs.lemmas.Result.{on_ok_weaker}
use Rattle.ft_block.specs.Leaves.{value_after, value_at, join_leaf}
use Rattle.ft_block.proofs.CallerLemmas.{after_is_in}
use Rattle.ft_block.proofs.LeafListLemmas.{after_other, value_after_none}
use Rattle.ft_tree_leaves.specs.declared.leaves.TreeLeaf.{TreeLeaf}
use Rattle.ft_tree_blocks.proofs.KeptRefs.{both_given, join_fits, kept_join, kept_references}
use Rattle.ft_tree_blocks.proofs.StepValues.{is_given, is_live}
use Rattle.ft_tree_blocks.specs.Touched.{all_purged}
use Rattle.ft_tree_blocks.proofs.TrackedSteps.{tracks-is, tracks-join}
use Rattle.ft_tree_blocks.proofs.anchored.join_anchored.Goals as goal

pub leaf-leaf-requires-clause-live : goal.leaf-leaf-requires-clause-live
leaf-leaf-requires-clause-live g c =
    let xs = c.args.blocks.now.leaves in
    is_live xs c.args.id
    (is_given (value_at xs c.args.id) (λ v. IsSomeAnd (value_after xs c.args.id) (λ w. IsTrue (g.C.Content.joins v.content w.content) × (v.stamps ≡ w.stamps)))
    c.requires.can)

pub unreachable-requires : goal.unreachable-requires
unreachable-requires g c =
    let xs = c.args.blocks.now.leaves in
    let none = value_after_none xs c.args.id (sym c.next.ensures ∙ c.in_default.is) in
    let v = c.leaf-leaf.result.now in
    subst (λ (o : Option (TreeLeaf g.row.C.Denot)). IsSomeAnd o (λ w. IsTrue (g.C.Content.joins v.content w.content) × (v.stamps ≡ w.stamps))) none
    (subst (λ (o : Option (TreeLeaf g.row.C.Denot)).
    IsSomeAnd o (λ x. IsSomeAnd (value_after xs c.args.id) (λ w. IsTrue (g.C.Content.joins x.content w.content) × (x.stamps ≡ w.stamps)))) c.leaf-leaf.ensures c.requires.can)

pub leaf-next-requires-clause-live : goal.leaf-next-requires-clause-live
leaf-next-requires-clause-live g c = after_is_in c.args.blocks.now.leaves c.args.id c.in-Some.next (sym c.next.ensures ∙ c.in-Some.is)

pub join-requires-clause-held : goal.join-requires-clause-held
join-requires-clause-held g c =
    let xs = c.args.blocks.now.leaves in
    c.requires.sound.anchored.held c.args.id (is_live xs c.args.id
    (is_given (value_at xs c.args.id) (λ v. IsSomeAnd (value_after xs c.args.id) (λ w. IsTrue (g.C.Content.joins v.content w.content) × (v.stamps ≡ w.stamps)))
    c.requires.can))

pub join-requires-clause-differ : goal.join-requires-clause-differ
join-requires-clause-differ g c = after_other c.args.blocks.now.leaves c.args.id c.in-Some.next c.first-first.ensures.once (sym c.next.ensures ∙ c.in-Some.is)

pub join-requires-clause-fits : goal.join-requires-clause-fits
join-requires-clause-fits g c =
    let us = g.C.Content.units in
    let by = g.C.Content.by in
    let xs = c.args.blocks.now.leaves in
    let once = c.first-first.ensures.once in
    let a = c.args.refs.now.anchors in
    let ns = c.args.refs.now.unsettled.items in
    λ r offset e. omega (
      arith,
      join_fits us by xs once a ns c.requires.sound xs c.args.id c.leaf-leaf.result.now c.leaf-leaf.ensures c.in-Some.next c.leaf-next.result.now 18446744073709551616
          (sym c.next.ensures ∙ c.in-Some.is) c.leaf-next.ensures c.first-first.ensures.few r offset e,
      c.len-count.ensures.value,
    )

pub returns-clause-refs : goal.returns-clause-refs
returns-clause-refs g c =
    let us = g.C.Content.units in
    let by = g.C.Content.by in
    let xs = c.args.blocks.now.leaves in
    let once = c.first-first.ensures.once in
    let a = c.args.refs.now.anchors in
    let ns = c.args.refs.now.unsettled.items in
    let v = c.leaf-leaf.result.now in
    let w = c.leaf-next.result.now in
    let join : TreeLeaf g.row.C.Denot → TreeLeaf g.row.C.Denot → TreeLeaf g.row.C.Denot = λ x y. record x { content = g.C.Content.joined x.content y.content } in
    let follows = sym c.next.ensures ∙ c.in-Some.is in
    let can = both_given xs once c.args.id c.in-Some.next v w (λ x y. IsTrue (g.C.Content.joins x.content y.content) × (x.stamps ≡ y.stamps)) c.leaf-leaf.ensures follows
    c.leaf-next.ensures c.requires.can in
    let long : length (us (g.C.Content.joined v.content w.content)) ≡ length (us v.content) + length (us w.content) =
    ap length (g.met.C.Content.joined_units v.content w.content can.0) ∙ length-append (us v.content) (us w.content) in
    on_ok_weaker c.join.result
    (λ n. kept_references us by xs c.join_next.new.self.leaves a c.join.new.self.anchors c.join.new.self.unsettled.items
    (kept_join us by xs once a ns c.requires.sound c.join_next.new.self.leaves c.args.id v c.leaf-leaf.ensures c.in-Some.next w join
    c.len-count.result c.stands-stands.result
    c.join.new.self.anchors c.join.new.self.unsettled.items c.in_ok-join_next.ensures.ok follows c.leaf-next.ensures long refl
    c.len-count.ensures.value
    c.join.ensures.moves c.stands-stands.ensures n))
    c.join.ensures.notes

pub returns-clause-sound : goal.returns-clause-sound
returns-clause-sound g c =
    let us = g.C.Content.units in
    let by = g.C.Content.by in
    let xs = c.args.blocks.now.leaves in
    let once = c.first-first.ensures.once in
    let a = c.args.refs.now.anchors in
    let ns = c.args.refs.now.unsettled.items in
    let v = c.leaf-leaf.result.now in
    let w = c.leaf-next.result.now in
    let join : TreeLeaf g.row.C.Denot → TreeLeaf g.row.C.Denot → TreeLeaf g.row.C.Denot = λ x y. record x { content = g.C.Content.joined x.content y.content } in
    let follows = sym c.next.ensures ∙ c.in-Some.is in
    let can = both_given xs once c.args.id c.in-Some.next v w (λ x y. IsTrue (g.C.Content.joins x.content y.content) × (x.stamps ≡ y.stamps)) c.leaf-leaf.ensures follows
    c.leaf-next.ensures c.requires.can in
    let long : length (us (g.C.Content.joined v.content w.content)) ≡ length (us v.content) + length (us w.content) =
    ap length (g.met.C.Content.joined_units v.content w.content can.0) ∙ length-append (us v.content) (us w.content) in
    on_ok_weaker c.join.result
    (λ n. (kept_join us by xs once a ns c.requires.sound c.join_next.new.self.leaves c.args.id v c.leaf-leaf.ensures c.in-Some.next w join
    c.len-count.result c.stands-stands.result
    c.join.new.self.anchors c.join.new.self.unsettled.items c.in_ok-join_next.ensures.ok follows c.leaf-next.ensures long refl
    c.len-count.ensures.value
    c.join.ensures.moves c.stands-stands.ensures n).sound)
    c.join.ensures.notes

pub next-requires-clause-live : goal.next-requires-clause-live
next-requires-clause-live g c =
    let xs = c.args.blocks.now.leaves in
    let id = c.args.id in
    is_live xs id
    (is_given (value_at xs id) (λ v. IsSomeAnd (value_after xs id) (λ w. IsTrue (g.C.Content.joins v.content w.content) × (v.stamps ≡ w.stamps)))
    c.requires.can)

pub returns-clause-ok : goal.returns-clause-ok
returns-clause-ok g c = on_ok_weaker c.join.result (λ n. c.in_ok-join_next.ensures.ok) c.join.ensures.notes

pub returns-clause-tracks : goal.returns-clause-tracks
returns-clause-tracks g c =
    let xs = c.args.blocks.now.leaves in
    let ss = c.args.touched.now.items in
    let id = c.args.id in
    let next = c.in-Some.next in
    let f : TreeLeaf g.row.C.Denot → TreeLeaf g.row.C.Denot → TreeLeaf g.row.C.Denot = λ v w. record v {
      content = g.C.Content.joined v.content
          w.content;
    } in
    on_ok_weaker c.join.result
    (λ n. tracks-is (join_leaf f xs id) c.join_next.new.self.leaves (all_purged next ss) c.purge.new.touched.items c.in_ok-join_next.ensures.ok
    c.purge.ensures
    (tracks-join f (λ k v w. refl) xs ss id (Some next) (λ v w. IsTrue (g.C.Content.joins v.content w.content) × (v.stamps ≡ w.stamps))
    c.requires.tracks
    c.first-first.ensures.once (sym c.in-Some.is ∙ c.next.ensures) c.requires.can))
    c.join.ensures.notes

pub first-first-requires : goal.first-first-requires
first-first-requires g c = c.requires.usable

pub leaf-leaf-requires-clause-usable : goal.leaf-leaf-requires-clause-usable
leaf-leaf-requires-clause-usable g c = c.requires.usable

pub next-requires-clause-usable : goal.next-requires-clause-usable
next-requires-clause-usable g c = c.requires.usable

pub leaf-next-requires-clause-usable : goal.leaf-next-requires-clause-usable
leaf-next-requires-clause-usable g c = c.requires.usable

pub join_next-requires-clause-usable : goal.join_next-requires-clause-usable
join_next-requires-clause-usable g c = c.requires.usable

pub join_next-requires-clause-can : goal.join_next-requires-clause-can
join_next-requires-clause-can g c = c.requires.can

pub returns-clause-usable : goal.returns-clause-usable
returns-clause-usable g c = on_ok_weaker c.join.result (λ n. c.in_ok-join_next.ensures.usable) c.join.ensures.notes

pub returns-clause-floor : goal.returns-clause-floor
returns-clause-floor g c = c.join_next.ensures.floor

pub returns-in_err-join_next-clause-floor : goal.returns-in_err-join_next-clause-floor
returns-in_err-join_next-clause-floor g c = c.join_next.ensures.floor
