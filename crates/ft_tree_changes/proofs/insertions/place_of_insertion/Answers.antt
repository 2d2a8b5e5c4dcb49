use Rattle.std.proofs.Common.{ℕ, ◌≤◌, Option, length, subst, sym, ◌∙◌, ap, arith}
use Rattle.ft_block.proofs.LeafListLemmas.{value_at_in}
use Rattle.ft_tree_leaves.specs.Elements.{is_pending, seen_in}
use Rattle.ft_tree_leaves.specs.LeafLists.{elements, leaf_length}
use Rattle.ft_tree_blocks.proofs.FoundLeaves.{beyond_none, len_elements}
use Rattle.ft_tree_steps.specs.LeafSteps.{IsInLeaf, held_place}
use Rattle.ft_tree_steps.proofs.FoundPlaces.{found_at, walks_first, walks_live}
use Rattle.ft_changes.specs.ShownRuns.{shown_in_run}
use Rattle.ft_tree_changes.proofs.FoundFronts.{found_none}
use Rattle.ft_tree_changes.proofs.HeldFronts.{insertion-at, insertion-first}
use Rattle.ft_tree_changes.proofs.insertions.place_of_insertion.Goals as goal

pub unreachable-requires : goal.unreachable-requires
unreachable-requires g c =
    let us = g.C.Content.units in
    let xs = c.args.tree.now.leaves in
    let none = sym c.find.ensures ∙ c.in_default.is in
    let beyond = beyond_none (leaf_length us c.args.view) xs c.args.p (found_none (leaf_length us c.args.view) xs c.args.p none) none in
    omega (arith, beyond, len_elements us g.C.Content.by c.args.view xs, c.requires.within)

pub shown_behind-requires-clause-held : goal.shown_behind-requires-clause-held
shown_behind-requires-clause-held g c =
    let us = g.C.Content.units in
    let xs = c.args.tree.now.leaves in
    let found = c.in-Some.found in
    let at = found_at us g.C.Content.by c.args.view xs c.args.p found c.first_leaf-first.ensures.once (sym c.find.ensures ∙ c.in-Some.is) in
    subst (λ (o : Option ℕ). IsInLeaf us xs o found.offset) c.in-Some-leaf.is at.held

pub shown_behind-requires-clause-live : goal.shown_behind-requires-clause-live
shown_behind-requires-clause-live g c =
    let us = g.C.Content.units in
    let xs = c.args.tree.now.leaves in
    let found = c.in-Some.found in
    let at = found_at us g.C.Content.by c.args.view xs c.args.p found c.first_leaf-first.ensures.once (sym c.find.ensures ∙ c.in-Some.is) in
    value_at_in xs c.in-Some-leaf.id (λ v. (1 ≤ found.offset) × (found.offset ≤ length (us v.content)))
    (subst (λ (o : Option ℕ). IsInLeaf us xs o found.offset) c.in-Some-leaf.is at.held)

pub shown_pending-requires-clause-live : goal.shown_pending-requires-clause-live
shown_pending-requires-clause-live g c =
    walks_live g.C.Content.units g.C.Content.by c.args.tree.now.leaves c.first_leaf-first.result c.first_leaf-first.ensures.value

pub returns-in-Some-leaf : goal.returns-in-Some-leaf
returns-in-Some-leaf g c =
    let us = g.C.Content.units in
    let by = g.C.Content.by in
    let xs = c.args.tree.now.leaves in
    let found = c.in-Some.found in
    let at = found_at us by c.args.view xs c.args.p found c.first_leaf-first.ensures.once (sym c.find.ensures ∙ c.in-Some.is) in
    let here = at.place ∙ ap (λ (o : Option ℕ). held_place us by xs o found.offset) c.in-Some-leaf.is in
    c.shown_behind.ensures
    ∙ sym (insertion-at (seen_in c.args.view) is_pending (seen_in c.args.shown) c.args.p _ (elements us by xs) here)

pub returns-in-None : goal.returns-in-None
returns-in-None g c =
    let us = g.C.Content.units in
    let by = g.C.Content.by in
    let xs = c.args.tree.now.leaves in
    let found = c.in-Some.found in
    let at = found_at us by c.args.view xs c.args.p found c.first_leaf-first.ensures.once (sym c.find.ensures ∙ c.in-Some.is) in
    let head = at.place ∙ ap (λ (o : Option ℕ). held_place us by xs o found.offset) c.in-None.is in
    c.shown_pending.ensures
    ∙ ap (shown_in_run is_pending (seen_in c.args.shown)) (walks_first us by xs c.first_leaf-first.result c.first_leaf-first.ensures.value)
    ∙ sym (insertion-first (seen_in c.args.view) is_pending (seen_in c.args.shown) c.args.p (elements us by xs) head)
