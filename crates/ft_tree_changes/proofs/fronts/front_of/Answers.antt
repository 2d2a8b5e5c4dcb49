use Rattle.std.proofs.Common.{◌+◌, refl, sym, ◌∙◌, arith}
use Rattle.ft_tree_leaves.specs.Elements.{seen_in}
use Rattle.ft_tree_leaves.specs.LeafLists.{elements, leaf_length}
use Rattle.ft_tree_blocks.proofs.FoundLeaves.{beyond_none, len_elements}
use Rattle.ft_tree_steps.proofs.FoundOffsets.{len-most}
use Rattle.ft_tree_changes.proofs.FoundFronts.{found_front}
use Rattle.ft_tree_changes.proofs.RangeWalks.{front-found}
use Rattle.ft_tree_changes.proofs.fronts.front_of.Goals as goal

pub overflow_add-p : goal.overflow_add-p
overflow_add-p g c =
    let all = elements g.C.Content.units g.C.Content.by c.args.tree.now.leaves in
    omega (arith, c.requires.within, len-most (seen_in c.args.view) all, c.first_leaf-first.ensures.few)

pub overflow_add-seen : goal.overflow_add-seen
overflow_add-seen g c =
    let all = elements g.C.Content.units g.C.Content.by c.args.tree.now.leaves in
    omega (arith, c.requires.within, len-most (seen_in c.args.view) all, c.first_leaf-first.ensures.few)

pub unreachable-requires : goal.unreachable-requires
unreachable-requires g c =
    let us = g.C.Content.units in
    let xs = c.args.tree.now.leaves in
    let beyond = beyond_none (leaf_length us c.args.view) xs (c.args.p + 1) (omega arith) (sym c.find.ensures ∙ c.in_default.is) in
    omega (arith, beyond, len_elements us g.C.Content.by c.args.view xs, c.requires.within)

pub unreachable-requires-in_default-leaf : goal.unreachable-requires-in_default-leaf
unreachable-requires-in_default-leaf g c =
    let xs = c.args.tree.now.leaves in
    let found = c.in-Some.found in
    let front = found_front (leaf_length g.C.Content.units c.args.view) xs (c.args.p + 1) found c.first_leaf-first.ensures.once
    (omega arith) (sym c.find.ensures ∙ c.in-Some.is) in
    let some = front.is in let none = c.in_default-leaf.is in (cc)

pub overflow_sub-seen : goal.overflow_sub-seen
overflow_sub-seen g c =
    let xs = c.args.tree.now.leaves in
    let found = c.in-Some.found in
    let front = found_front (leaf_length g.C.Content.units c.args.view) xs (c.args.p + 1) found c.first_leaf-first.ensures.once
    (omega arith) (sym c.find.ensures ∙ c.in-Some.is) in
    omega (arith, front.count)

pub position_of-shown-requires-clause-live : goal.position_of-shown-requires-clause-live
position_of-shown-requires-clause-live g c =
    let front = front-found g.C.Content.units g.C.Content.by c.args.tree.now.leaves c.first_leaf-first.ensures.once c.args.view
    c.args.shown c.args.p c.in-Some.found
    c.in-Some-leaf.leaf _ _ (sym c.find.ensures ∙ c.in-Some.is) c.in-Some-leaf.is refl refl in
    front.live

pub returns : goal.returns
returns g c =
    front-found g.C.Content.units g.C.Content.by c.args.tree.now.leaves c.first_leaf-first.ensures.once c.args.view c.args.shown c.args.p
    c.in-Some.found
    c.in-Some-leaf.leaf _ _ (sym c.find.ensures ∙ c.in-Some.is) c.in-Some-leaf.is refl c.position_of-shown.ensures
