use Rattle.std.proofs.Common.{None, sym, ◌∙◌, arith}
use Rattle.ft_arena.specs.Forest.{parent_of}
use Rattle.ft_arena.specs.Ids.{insert_after}
use Rattle.ft_shape.proofs.EditLemmas.{after_is_edit}
use Rattle.ft_shape.proofs.Levels.{height_fits}
use Rattle.ft_shape.proofs.InsertLemmas.{leaf_heights, leaf_inserts}
use Rattle.ft_shape.proofs.ToldLemmas.{linked_keeps}
use Rattle.ft_overlap.specs.Inside.{IsSpan, SpansLast}
use Rattle.ft_overlap.proofs.Inserted.{linked_known, no_up, beside_up, beside_block, beside_child, beside_place}
use Rattle.ft_overlap.proofs.grow.insert_at.Goals as goal

pub unreachable-requires : goal.unreachable-requires
unreachable-requires g c =
    no_up (parent_of c.link_after-id.new.self c.args.at) (beside_up c.args.arena.now c.link_after-id.new.self c.args.root c.args.at c.link_after-id.result 1 (λ xs.
    insert_after xs c.args.at c.link_after-id.result) (after_is_edit c.args.at c.link_after-id.result)
    c.args.item c.requires.tree c.requires.at c.link_after-id.ensures.fresh c.link_after-id.ensures.changes c.link_after-id.ensures.leaves c.link_after-id.ensures.sound)
    (sym c.parent.ensures ∙ c.in_default.is)

pub child_place-place-requires-clause-block : goal.child_place-place-requires-clause-block
child_place-place-requires-clause-block g c =
    beside_block c.args.arena.now c.link_after-id.new.self c.args.root c.args.at c.link_after-id.result 1 (λ xs. insert_after xs c.args.at c.link_after-id.result)
    (after_is_edit c.args.at c.link_after-id.result)
    c.args.item c.requires.tree c.requires.at c.link_after-id.ensures.fresh c.link_after-id.ensures.changes c.link_after-id.ensures.leaves c.link_after-id.ensures.sound
    c.in-Some.block (sym c.parent.ensures ∙ c.in-Some.is)

pub child_place-place-requires-clause-child : goal.child_place-place-requires-clause-child
child_place-place-requires-clause-child g c =
    beside_child c.args.arena.now c.link_after-id.new.self c.args.root c.args.at c.link_after-id.result 1 (λ xs. insert_after xs c.args.at c.link_after-id.result)
    (after_is_edit c.args.at c.link_after-id.result)
    c.args.item c.requires.tree c.requires.at c.link_after-id.ensures.fresh c.link_after-id.ensures.changes c.link_after-id.ensures.leaves c.link_after-id.ensures.sound
    c.in-Some.block (sym c.parent.ensures ∙ c.in-Some.is)

pub put_leaf-requires-clause-place : goal.put_leaf-requires-clause-place
put_leaf-requires-clause-place g c =
    beside_place c.args.arena.now c.link_after-id.new.self c.args.root c.args.at c.link_after-id.result 1 (λ xs. insert_after xs c.args.at c.link_after-id.result)
    (after_is_edit c.args.at c.link_after-id.result)
    c.args.item c.requires.tree c.requires.at c.link_after-id.ensures.fresh c.link_after-id.ensures.changes c.link_after-id.ensures.leaves c.link_after-id.ensures.sound
    c.in-Some.block (sym c.parent.ensures ∙ c.in-Some.is) c.child_place-place.result.0 c.child_place-place.ensures.place (omega arith)

pub put_leaf-requires-clause-one : goal.put_leaf-requires-clause-one
put_leaf-requires-clause-one g c =
    linked_keeps IsSpan c.args.arena.now c.link_after-id.new.self c.link_after-id.result c.args.item c.requires.tree.shape.forest c.link_after-id.ensures.fresh
    c.link_after-id.ensures.changes c.requires.one None

pub put_leaf-requires-clause-last : goal.put_leaf-requires-clause-last
put_leaf-requires-clause-last g c =
    linked_keeps (SpansLast (g.P.Places.end_place c.args.places.now)) c.args.arena.now c.link_after-id.new.self c.link_after-id.result c.args.item
    c.requires.tree.shape.forest c.link_after-id.ensures.fresh c.link_after-id.ensures.changes c.requires.last None

pub put_leaf-requires-clause-known : goal.put_leaf-requires-clause-known
put_leaf-requires-clause-known g c =
    linked_known (g.P.Places.Knows c.args.places.now) c.args.arena.now c.link_after-id.new.self c.link_after-id.result c.args.item c.link_after-id.ensures.changes
    c.requires.item c.requires.known

pub put_leaf-requires-clause-spare : goal.put_leaf-requires-clause-spare
put_leaf-requires-clause-spare g c =
    let h = leaf_heights c.args.arena.now c.link_after-id.new.self c.args.root c.args.at c.link_after-id.result 1 (λ xs. insert_after xs c.args.at
    c.link_after-id.result) (after_is_edit c.args.at c.link_after-id.result)
    c.args.item c.requires.tree c.requires.at c.link_after-id.ensures.fresh c.link_after-id.ensures.changes c.link_after-id.ensures.leaves c.link_after-id.ensures.sound
    c.args.root in
    omega (arith, h, c.link_after-id.ensures.spare, c.requires.spare)

pub put_leaf-requires-clause-tall : goal.put_leaf-requires-clause-tall
put_leaf-requires-clause-tall g c =
    let h = leaf_heights c.args.arena.now c.link_after-id.new.self c.args.root c.args.at c.link_after-id.result 1 (λ xs. insert_after xs c.args.at
    c.link_after-id.result) (after_is_edit c.args.at c.link_after-id.result)
    c.args.item c.requires.tree c.requires.at c.link_after-id.ensures.fresh c.link_after-id.ensures.changes c.link_after-id.ensures.leaves c.link_after-id.ensures.sound
    c.args.root in
    omega (arith, h, height_fits c.args.arena.now c.args.root c.requires.tree c.first-first.ensures.few)

pub returns-clause-inserts : goal.returns-clause-inserts
returns-clause-inserts g c =
    leaf_inserts c.args.arena.now c.link_after-id.new.self c.args.root c.args.at c.link_after-id.result 1 (λ xs. insert_after xs c.args.at
    c.link_after-id.result)
    (after_is_edit c.args.at c.link_after-id.result)
    c.args.item c.requires.tree c.requires.at c.link_after-id.ensures.fresh c.link_after-id.ensures.changes c.link_after-id.ensures.leaves c.link_after-id.ensures.sound
    c.put_leaf.new.arena c.put_leaf.ensures.leaves c.put_leaf.ensures.leaf_values
