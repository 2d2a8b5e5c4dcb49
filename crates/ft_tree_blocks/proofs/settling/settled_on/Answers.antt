use Rattle.std.proofs.Common.{ℕ, ◌<◌, Some, None, length, option_map, subst, sym, ◌∙◌, ap}
use Rattle.ft_block.specs.Leaves.{IsPlaceIn}
use Rattle.ft_block.proofs.LeafListLemmas.{value_at_in}
use Rattle.ft_tree_blocks.specs.LeafPlaces.{leaf_end, leaf_start, place_on}
use Rattle.ft_tree_blocks.proofs.Walks.{after_in_place}
use Rattle.ft_tree_blocks.proofs.SettledLeaves.{first_of_leaf, prev_live, settled_before, settled_behind, settled_here}
use Rattle.ft_tree_blocks.proofs.settling.settled_on.Goals as goal

pub leaf-requires-clause-live : goal.leaf-requires-clause-live
leaf-requires-clause-live g c =
    value_at_in c.args.blocks.now.leaves c.args.at.now.owner (λ v. c.args.at.now.offset < length (g.C.Content.units v.content)) c.requires.on_leaf

pub next-requires-clause-live : goal.next-requires-clause-live
next-requires-clause-live g c =
    value_at_in c.args.blocks.now.leaves c.args.at.now.owner (λ v. c.args.at.now.offset < length (g.C.Content.units v.content)) c.requires.on_leaf

pub prev-requires-clause-live : goal.prev-requires-clause-live
prev-requires-clause-live g c =
    value_at_in c.args.blocks.now.leaves c.args.at.now.owner (λ v. c.args.at.now.offset < length (g.C.Content.units v.content)) c.requires.on_leaf

pub next_standing-requires-clause-place : goal.next_standing-requires-clause-place
next_standing-requires-clause-place g c =
    let xs = c.args.blocks.now.leaves in
    subst (IsPlaceIn xs) (sym c.next.ensures) (after_in_place xs c.args.at.now.owner)

pub last_standing-requires-clause-place : goal.last_standing-requires-clause-place
last_standing-requires-clause-place g c =
    prev_live c.args.blocks.now.leaves c.args.at.now.owner c.prev.result c.prev.ensures

pub returns-then-stands-clause-place : goal.returns-then-stands-clause-place
returns-then-stands-clause-place g c =
    let us = g.C.Content.units in
    let by = g.C.Content.by in
    let xs = c.args.blocks.now.leaves in
    sym (settled_here us by c.args.test xs c.args.at.now.owner c.leaf.result.now c.first-first.ensures.once c.leaf.ensures c.args.at.now.offset
    c.requires.on_leaf (sym c.stands.ensures ∙ c.if-stands.true))

pub returns-in-Some-clause-on_leaf : goal.returns-in-Some-clause-on_leaf
returns-in-Some-clause-on_leaf g c =
    let us = g.C.Content.units in
    let by = g.C.Content.by in
    let xs = c.args.blocks.now.leaves in
    first_of_leaf us xs c.in-Some.leaf c.first-first.ensures.some c.in-Some.ensures.live

pub returns-in-Some-clause-place : goal.returns-in-Some-clause-place
returns-in-Some-clause-place g c =
    let us = g.C.Content.units in
    let by = g.C.Content.by in
    let xs = c.args.blocks.now.leaves in
    settled_behind us by c.args.test xs c.args.at.now.owner c.leaf.result.now c.first-first.ensures.once c.leaf.ensures c.args.at.now.offset
    c.next.result (leaf_start us by xs c.in-Some.leaf) c.requires.on_leaf (sym c.stands.ensures ∙ c.if-stands.false) c.next.ensures c.in-Some.ensures.first

pub returns-in_err-leaf-in-None-clause-place : goal.returns-in_err-leaf-in-None-clause-place
returns-in_err-leaf-in-None-clause-place g c =
    let us = g.C.Content.units in
    let by = g.C.Content.by in
    let xs = c.args.blocks.now.leaves in
    ap (option_map (place_on us by xs)) c.from_residual.ensures
    ∙ settled_before us by c.args.test xs c.args.at.now.owner c.leaf.result.now c.first-first.ensures.once c.leaf.ensures c.args.at.now.offset
    c.next.result c.prev.result None c.requires.on_leaf (sym c.stands.ensures ∙ c.if-stands.false) c.next.ensures
    c.in-None.ensures.first c.prev.ensures c.in_err-leaf-in-None.ensures.last

pub returns-in_ok-leaf-in-None-clause-place : goal.returns-in_ok-leaf-in-None-clause-place
returns-in_ok-leaf-in-None-clause-place g c =
    let us = g.C.Content.units in
    let by = g.C.Content.by in
    let xs = c.args.blocks.now.leaves in
    ap (λ (n : ℕ). Some n) c.last_of.ensures.place
    ∙ settled_before us by c.args.test xs c.args.at.now.owner c.leaf.result.now c.first-first.ensures.once c.leaf.ensures c.args.at.now.offset
    c.next.result c.prev.result (Some (leaf_end us by xs c.in_ok-leaf-in-None.leaf)) c.requires.on_leaf (sym c.stands.ensures ∙ c.if-stands.false) c.next.ensures
    c.in-None.ensures.first c.prev.ensures c.in_ok-leaf-in-None.ensures.last
