use Rattle.std.proofs.Common.{◌≡◌, Bool, Option, Some, None, IsSome, option_map, true, subst, sym, ◌∙◌, ap}
use Rattle.ft_refs.specs.declared.numbers.Place.{Place}
use Rattle.ft_refs.specs.RefLists.{entry, place_of_entry, place_of_reference}
use Rattle.ft_tree_blocks.specs.Anchors.{ChangesAnchor, is_acked_at}
use Rattle.ft_tree_blocks.specs.LeafPlaces.{place_on}
use Rattle.ft_tree_blocks.proofs.AnchoredLeaves.{on_leaf, owner_live}
use Rattle.ft_tree_blocks.proofs.RefSteps.{changed_twice, live_entry, settles_none, settles_to}
use Rattle.ft_tree_blocks.proofs.anchored.settle_anchored.Goals as goal

pub acknowledge-requires : goal.acknowledge-requires
acknowledge-requires g c = live_entry g.C.Content.units g.C.Content.by c.args.blocks.now.leaves c.args.refs.now.anchors c.args.r c.requires.live

pub place-requires : goal.place-requires
place-requires g c = subst IsSome (sym c.acknowledge.ensures.places.changed) (live_entry g.C.Content.units g.C.Content.by c.args.blocks.now.leaves c.args.refs.now.anchors c.args.r c.requires.live)

pub returns-in_default-clause-refs : goal.returns-in_default-clause-refs
returns-in_default-clause-refs g c =
    let us = g.C.Content.units in
    let by = g.C.Content.by in
    let xs = c.args.blocks.now.leaves in
    let a = c.args.refs.now.anchors in
    settles_none us by xs a c.args.r c.requires.sound.anchored c.acknowledge.new.self (live_entry g.C.Content.units g.C.Content.by c.args.blocks.now.leaves c.args.refs.now.anchors c.args.r c.requires.live)
    (sym (ap place_of_entry c.acknowledge.ensures.places.changed) ∙ sym c.place.ensures ∙ c.in_default.is) c.acknowledge.ensures

pub put-requires-clause-held : goal.put-requires-clause-held
put-requires-clause-held g c =
    let us = g.C.Content.units in
    let by = g.C.Content.by in
    let xs = c.args.blocks.now.leaves in
    let to = c.in-Some-slid_on.to in
    c.acknowledge.ensures.held to.owner (c.requires.sound.anchored.held to.owner (owner_live us by xs to (on_leaf us by xs to c.in-Some-slid_on.ensures.on_leaf)))

pub returns-in-Some-slid_on-clause-refs : goal.returns-in-Some-slid_on-clause-refs
returns-in-Some-slid_on-clause-refs g c =
    let us = g.C.Content.units in
    let by = g.C.Content.by in
    let xs = c.args.blocks.now.leaves in
    let a = c.args.refs.now.anchors in
    let b = c.acknowledge.new.self in
    let r = c.args.r in
    let was : place_of_reference a.refs r ≡ Some c.in-Some.place = sym (ap place_of_entry c.acknowledge.ensures.places.changed) ∙ sym c.place.ensures ∙ c.in-Some.is in
    let twice = changed_twice us by xs a r (entry a.refs r) (Some (Some c.in-Some-slid_on.to)) true (is_acked_at b r) b c.put.new.self c.acknowledge.ensures c.put.ensures in
    settles_to us by xs a r c.requires.sound.anchored c.put.new.self c.in-Some.place (Some c.in-Some-slid_on.to) was
    (ap (λ (o : Option Place). option_map (place_on us by xs) o) (sym c.in-Some-slid_on.is) ∙ c.slid_on.ensures.place)
    (subst (λ (t : Bool). ChangesAnchor r (Some (Some c.in-Some-slid_on.to)) t a c.put.new.self) c.acknowledge.ensures.flag twice)

pub returns-in-None-clause-refs : goal.returns-in-None-clause-refs
returns-in-None-clause-refs g c =
    let us = g.C.Content.units in
    let by = g.C.Content.by in
    let xs = c.args.blocks.now.leaves in
    let a = c.args.refs.now.anchors in
    let b = c.acknowledge.new.self in
    let r = c.args.r in
    let was : place_of_reference a.refs r ≡ Some c.in-Some.place = sym (ap place_of_entry c.acknowledge.ensures.places.changed) ∙ sym c.place.ensures ∙ c.in-Some.is in
    let twice = changed_twice us by xs a r (entry a.refs r) (Some (None)) true (is_acked_at b r) b c.detach.new.self c.acknowledge.ensures c.detach.ensures in
    settles_to us by xs a r c.requires.sound.anchored c.detach.new.self c.in-Some.place (None) was
    (ap (λ (o : Option Place). option_map (place_on us by xs) o) (sym c.in-None.is) ∙ c.slid_on.ensures.place)
    (subst (λ (t : Bool). ChangesAnchor r (Some (None)) t a c.detach.new.self) c.acknowledge.ensures.flag twice)
