use Rattle.std.proofs.Common.{◌≡◌, ℕ, suc, ◌+◌, ◌<◌, Option, None, Some, option_map, subst, sym, ◌∙◌, ap, arith}
use Rattle.std.specs.Option.{SomeIff}
use Rattle.ft_block.specs.Leaves.{place_by}
use Rattle.ft_tree_leaves.specs.Elements.{seen_in}
use Rattle.ft_tree_leaves.specs.LeafLists.{elements, leaf_length}
use Rattle.ft_tree_leaves.proofs.LeafRuns.{length-elements}
use Rattle.ft_tree_blocks.specs.LeafPlaces.{place_on}
use Rattle.ft_tree_steps.proofs.FoundOffsets.{at-none, len-most, next_number, seen_head, seen_none, seen_on}
use Rattle.ft_tree_steps.proofs.offsets.seen_offset.Goals as goal

pub returns-in_err-checked_add-clause-place : goal.returns-in_err-checked_add-clause-place
returns-in_err-checked_add-clause-place g c =
    let us = g.C.Content.units in
    let by = g.C.Content.by in
    let es = elements us by c.args.blocks.now.leaves in
    let none = subst (λ (r : Option ℕ). SomeIff r (c.args.p + 1 < 18446744073709551616) (c.args.p + 1)) c.in_err-checked_add.was c.checked_add.ensures in
    ap (option_map (place_on us by c.args.blocks.now.leaves)) c.from_residual.ensures
    ∙ sym (at-none (seen_in c.args.view) 0 c.args.p es
    (omega (arith, none, len-most (seen_in c.args.view) es, length-elements us by c.args.blocks.now.leaves, c.first-first.ensures.few)))

pub returns-in_err-found-clause-place : goal.returns-in_err-found-clause-place
returns-in_err-found-clause-place g c =
    let us = g.C.Content.units in
    let by = g.C.Content.by in
    let xs = c.args.blocks.now.leaves in
    let f = leaf_length us c.args.view in
    let next = next_number c.args.p c.in_ok-checked_add.field-0 18446744073709551616 c.checked_add.result c.checked_add.ensures c.in_ok-checked_add.was in
    let found : place_by f xs (suc c.args.p) ≡ None = ap (place_by f xs) (sym next) ∙ sym c.find_leaf.ensures ∙ c.in_err-found.was in
    ap (option_map (place_on us by xs)) c.from_residual-in_err-found.ensures ∙ sym (seen_none us by c.args.view xs c.args.p found)

pub returns-in_err-leaf-clause-place : goal.returns-in_err-leaf-clause-place
returns-in_err-leaf-clause-place g c =
    let xs = c.args.blocks.now.leaves in
    let f = leaf_length g.C.Content.units c.args.view in
    let next = next_number c.args.p c.in_ok-checked_add.field-0 18446744073709551616 c.checked_add.result c.checked_add.ensures c.in_ok-checked_add.was in
    let found : place_by f xs (suc c.args.p) ≡ Some c.in_ok-found.found =
    ap (place_by f xs) (sym next) ∙ sym c.find_leaf.ensures ∙ c.in_ok-found.was in
    absurd (seen_head g.C.Content.units g.C.Content.by c.args.view xs c.args.p c.in_ok-found.found c.first-first.ensures.once found c.in_err-leaf.was)

pub overflow_sub-result : goal.overflow_sub-result
overflow_sub-result g c =
    let xs = c.args.blocks.now.leaves in
    let f = leaf_length g.C.Content.units c.args.view in
    let next = next_number c.args.p c.in_ok-checked_add.field-0 18446744073709551616 c.checked_add.result c.checked_add.ensures c.in_ok-checked_add.was in
    let found : place_by f xs (suc c.args.p) ≡ Some c.in_ok-found.found =
    ap (place_by f xs) (sym next) ∙ sym c.find_leaf.ensures ∙ c.in_ok-found.was in
    let on = seen_on g.C.Content.units g.C.Content.by c.args.view xs c.args.p c.in_ok-found.found c.in_ok-leaf.leaf c.first-first.ensures.once found c.in_ok-leaf.was in
    on.some

pub returns-clause-on_leaf : goal.returns-clause-on_leaf
returns-clause-on_leaf g c =
    let xs = c.args.blocks.now.leaves in
    let f = leaf_length g.C.Content.units c.args.view in
    let next = next_number c.args.p c.in_ok-checked_add.field-0 18446744073709551616 c.checked_add.result c.checked_add.ensures c.in_ok-checked_add.was in
    let found : place_by f xs (suc c.args.p) ≡ Some c.in_ok-found.found =
    ap (place_by f xs) (sym next) ∙ sym c.find_leaf.ensures ∙ c.in_ok-found.was in
    let on = seen_on g.C.Content.units g.C.Content.by c.args.view xs c.args.p c.in_ok-found.found c.in_ok-leaf.leaf c.first-first.ensures.once found c.in_ok-leaf.was in
    on.on_leaf

pub returns-clause-place : goal.returns-clause-place
returns-clause-place g c =
    let xs = c.args.blocks.now.leaves in
    let f = leaf_length g.C.Content.units c.args.view in
    let next = next_number c.args.p c.in_ok-checked_add.field-0 18446744073709551616 c.checked_add.result c.checked_add.ensures c.in_ok-checked_add.was in
    let found : place_by f xs (suc c.args.p) ≡ Some c.in_ok-found.found =
    ap (place_by f xs) (sym next) ∙ sym c.find_leaf.ensures ∙ c.in_ok-found.was in
    let on = seen_on g.C.Content.units g.C.Content.by c.args.view xs c.args.p c.in_ok-found.found c.in_ok-leaf.leaf c.first-first.ensures.once found c.in_ok-leaf.was in
    sym on.place
