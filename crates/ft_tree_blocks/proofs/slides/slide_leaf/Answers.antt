use Rattle.std.proofs.Common.{◌≡◌, ◌<◌, length, true, false, Option, Some, IfSome, IsSomeAnd, subst, sym, ◌∙◌, ap, arith}
use Rattle.ft_tree_leaves.specs.declared.leaves.TreeLeaf.{TreeLeaf}
use Rattle.ft_refs.specs.declared.numbers.Place.{Place}
use Rattle.ft_tree_blocks.specs.LeafPlaces.{IsOnLeaf}
use Rattle.ft_tree_leaves.specs.LeafLists.{elements}
use Rattle.ft_tree_leaves.specs.References.{slid_reference}
use Rattle.ft_tree_blocks.specs.Slides.{IsOnUnremoved, is_unremoved_at}
use Rattle.ft_tree_blocks.proofs.AnchoredLeaves.{on_leaf, owner_live}
use Rattle.ft_tree_blocks.proofs.SlidReferences.{here_references, here_settled, sent_anchored, sent_once, sent_references, sent_settled, settled-alike, unremoved_of}
use Rattle.ft_tree_blocks.proofs.AnchorChanges.{live_on, none_is, none_on, none_references, none_settled, some_is}
use Rattle.ft_tree_blocks.proofs.slides.slide_leaf.Goals as goal

pub returns-then-is_none-clause-references : goal.returns-then-is_none-clause-references
returns-then-is_none-clause-references g c =
    let us = g.C.Content.units in
    let by = g.C.Content.by in
    let xs = c.args.blocks.now.leaves in
    let a = c.args.anchors.now in
    none_references us by xs a c.requires.anchored c.args.id (slid_reference (elements us by xs))
    (none_on a.refs c.args.id c.first.ensures.sound (sym c.first.ensures.value ∙ none_is c.first.result c.is_none.result c.is_none.ensures c.if-is_none.true))

pub returns-then-is_none-clause-settled : goal.returns-then-is_none-clause-settled
returns-then-is_none-clause-settled g c =
    let us = g.C.Content.units in
    let by = g.C.Content.by in
    let xs = c.args.blocks.now.leaves in
    let a = c.args.anchors.now in
    λ nodes. none_settled us by xs a c.requires.anchored c.args.id nodes
    (none_on a.refs c.args.id c.first.ensures.sound (sym c.first.ensures.value ∙ none_is c.first.result c.is_none.result c.is_none.ensures c.if-is_none.true))

pub leaf-leaf-requires-clause-live : goal.leaf-leaf-requires-clause-live
leaf-leaf-requires-clause-live g c =
    let us = g.C.Content.units in
    let by = g.C.Content.by in
    let xs = c.args.blocks.now.leaves in
    let r = some_is c.first.result c.is_none.result c.is_none.ensures c.if-is_none.false in
    live_on us by xs c.args.anchors.now c.requires.anchored c.args.id r.0 c.first.ensures.sound (sym c.first.ensures.value ∙ r.1)

pub slid_on-to-requires-clause-on_leaf : goal.slid_on-to-requires-clause-on_leaf
slid_on-to-requires-clause-on_leaf g c =
    subst (λ (o : Option (TreeLeaf g.row.C.Denot)). IsSomeAnd o (λ v. 0 < length (g.C.Content.units v.content))) (sym c.leaf-leaf.ensures)
    (omega (arith, c.len-len.ensures.value, c.len-len.ensures.some))

pub returns-then-stands-clause-references : goal.returns-then-stands-clause-references
returns-then-stands-clause-references g c =
    let us = g.C.Content.units in
    let by = g.C.Content.by in
    let xs = c.args.blocks.now.leaves in
    let up : is_unremoved_at xs c.args.id ≡ true = unremoved_of us by xs c.args.id c.leaf-leaf.result.now c.leaf-leaf.ensures ∙ sym c.stands.ensures ∙ c.if-stands.true in
    here_references us by xs c.first-first.ensures.once c.args.id c.args.anchors.now c.requires.anchored up

pub returns-then-stands-clause-settled : goal.returns-then-stands-clause-settled
returns-then-stands-clause-settled g c =
    let us = g.C.Content.units in
    let by = g.C.Content.by in
    let xs = c.args.blocks.now.leaves in
    let up : is_unremoved_at xs c.args.id ≡ true = unremoved_of us by xs c.args.id c.leaf-leaf.result.now c.leaf-leaf.ensures ∙ sym c.stands.ensures ∙ c.if-stands.true in
    here_settled us by xs c.first-first.ensures.once c.args.id c.args.anchors.now c.requires.anchored up

pub send_acked-requires-clause-held : goal.send_acked-requires-clause-held
send_acked-requires-clause-held g c = λ p e.
    let us = g.C.Content.units in
    let by = g.C.Content.by in
    let xs = c.args.blocks.now.leaves in
    let on = subst (λ (o : Option Place). IfSome o (IsOnLeaf us xs)) e c.slid_on-to.ensures.on_leaf in
    c.requires.anchored.held p.owner (owner_live us by xs p (on_leaf us by xs p on))

pub send_acked-requires-clause-differ : goal.send_acked-requires-clause-differ
send_acked-requires-clause-differ g c = λ p e same.
    let us = g.C.Content.units in
    let by = g.C.Content.by in
    let xs = c.args.blocks.now.leaves in
    let down : is_unremoved_at xs c.args.id ≡ false =
    unremoved_of us by xs c.args.id c.leaf-leaf.result.now c.leaf-leaf.ensures ∙ sym c.stands.ensures ∙ c.if-stands.false in
    let up : is_unremoved_at xs c.args.id ≡ true = ap (is_unremoved_at xs) (sym same) ∙ c.slid_on-to.ensures.stands p e in
    let never : true ≡ false = sym up ∙ down in
    cc never

pub returns-clause-anchored : goal.returns-clause-anchored
returns-clause-anchored g c =
    let us = g.C.Content.units in
    let by = g.C.Content.by in
    let xs = c.args.blocks.now.leaves in
    let to = c.slid_on-to.result in
    let v = c.leaf-leaf.result.now in
    let once = c.first-first.ensures.once in
    let down : is_unremoved_at xs c.args.id ≡ false = unremoved_of us by xs c.args.id v c.leaf-leaf.ensures ∙ sym c.stands.ensures ∙ c.if-stands.false in
    let some : 0 < length (us v.content) = omega (arith, c.len-len.ensures.value, c.len-len.ensures.some) in
    let on : (p : Place) → to ≡ Some p → IsOnUnremoved us xs p =
    λ p e. (subst (λ (o : Option Place). IfSome o (IsOnLeaf us xs)) e c.slid_on-to.ensures.on_leaf, c.slid_on-to.ensures.stands p e) in
    sent_anchored us by xs once c.args.id c.args.anchors.now c.requires.anchored v c.leaf-leaf.ensures to on
    (λ offset less. settled-alike us by xs once c.args.id v offset c.leaf-leaf.ensures down some less ∙ sym c.slid_on-to.ensures.place)
    c.send_acked.new.self c.send_acked.ensures.places c.send_acked.ensures.acked c.send_acked.ensures.held

pub returns-clause-references : goal.returns-clause-references
returns-clause-references g c =
    let us = g.C.Content.units in
    let by = g.C.Content.by in
    let xs = c.args.blocks.now.leaves in
    let to = c.slid_on-to.result in
    let v = c.leaf-leaf.result.now in
    let once = c.first-first.ensures.once in
    let down : is_unremoved_at xs c.args.id ≡ false = unremoved_of us by xs c.args.id v c.leaf-leaf.ensures ∙ sym c.stands.ensures ∙ c.if-stands.false in
    let some : 0 < length (us v.content) = omega (arith, c.len-len.ensures.value, c.len-len.ensures.some) in
    let on : (p : Place) → to ≡ Some p → IsOnUnremoved us xs p =
    λ p e. (subst (λ (o : Option Place). IfSome o (IsOnLeaf us xs)) e c.slid_on-to.ensures.on_leaf, c.slid_on-to.ensures.stands p e) in
    sent_references us by xs once c.args.id c.args.anchors.now c.requires.anchored v c.leaf-leaf.ensures to on
    (λ offset less. settled-alike us by xs once c.args.id v offset c.leaf-leaf.ensures down some less ∙ sym c.slid_on-to.ensures.place)
    c.send_acked.new.self c.send_acked.ensures.places c.send_acked.ensures.acked c.send_acked.ensures.held

pub returns-clause-once : goal.returns-clause-once
returns-clause-once g c =
    let us = g.C.Content.units in
    let by = g.C.Content.by in
    let xs = c.args.blocks.now.leaves in
    let to = c.slid_on-to.result in
    let v = c.leaf-leaf.result.now in
    let once = c.first-first.ensures.once in
    let down : is_unremoved_at xs c.args.id ≡ false = unremoved_of us by xs c.args.id v c.leaf-leaf.ensures ∙ sym c.stands.ensures ∙ c.if-stands.false in
    let some : 0 < length (us v.content) = omega (arith, c.len-len.ensures.value, c.len-len.ensures.some) in
    let on : (p : Place) → to ≡ Some p → IsOnUnremoved us xs p =
    λ p e. (subst (λ (o : Option Place). IfSome o (IsOnLeaf us xs)) e c.slid_on-to.ensures.on_leaf, c.slid_on-to.ensures.stands p e) in
    sent_once us by xs once c.args.id c.args.anchors.now c.requires.anchored v c.leaf-leaf.ensures to on
    (λ offset less. settled-alike us by xs once c.args.id v offset c.leaf-leaf.ensures down some less ∙ sym c.slid_on-to.ensures.place)
    c.send_acked.new.self c.send_acked.ensures.places c.send_acked.ensures.acked c.send_acked.ensures.held

pub returns-clause-settled : goal.returns-clause-settled
returns-clause-settled g c =
    let us = g.C.Content.units in
    let by = g.C.Content.by in
    let xs = c.args.blocks.now.leaves in
    let to = c.slid_on-to.result in
    let v = c.leaf-leaf.result.now in
    let once = c.first-first.ensures.once in
    let down : is_unremoved_at xs c.args.id ≡ false = unremoved_of us by xs c.args.id v c.leaf-leaf.ensures ∙ sym c.stands.ensures ∙ c.if-stands.false in
    let some : 0 < length (us v.content) = omega (arith, c.len-len.ensures.value, c.len-len.ensures.some) in
    let on : (p : Place) → to ≡ Some p → IsOnUnremoved us xs p =
    λ p e. (subst (λ (o : Option Place). IfSome o (IsOnLeaf us xs)) e c.slid_on-to.ensures.on_leaf, c.slid_on-to.ensures.stands p e) in
    sent_settled us by xs once c.args.id c.args.anchors.now c.requires.anchored v c.leaf-leaf.ensures to on
    (λ offset less. settled-alike us by xs once c.args.id v offset c.leaf-leaf.ensures down some less ∙ sym c.slid_on-to.ensures.place)
    c.send_acked.new.self c.send_acked.ensures.places c.send_acked.ensures.acked c.send_acked.ensures.held
