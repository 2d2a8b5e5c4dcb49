use Rattle.std.proofs.Common.{ℕ, ◌≤◌, Option, length, refl, subst, sym, ◌∙◌, ap, arith}
use Rattle.ft_block.specs.declared.leaves.LenView.TheVariants.{All as AllElements}
use Rattle.ft_block.proofs.LeafListLemmas.{value_at_in}
use Rattle.ft_tree_leaves.specs.Elements.{is_pending, seen_in}
use Rattle.ft_tree_leaves.specs.LeafLists.{elements, leaf_length}
use Rattle.ft_tree_blocks.proofs.FoundLeaves.{beyond_none, len_elements}
use Rattle.ft_tree_steps.specs.LeafSteps.{IsInLeaf, held_place}
use Rattle.ft_tree_steps.proofs.FoundPlaces.{found_at, walks_first, walks_live}
use Rattle.ft_changes.specs.Beside.{first_passes}
use Rattle.ft_changes.specs.ShownRuns.{shown_in_run}
use Rattle.ft_tree_changes.specs.StandingElements.{is_always_seen, is_standing}
use Rattle.ft_tree_changes.proofs.FoundFronts.{found_none}
use Rattle.ft_tree_changes.proofs.StandingWalks.{free-place}
use Rattle.ft_tree_changes.proofs.neighbours.passes_beside_place.Goals as goal

pub unreachable-requires : goal.unreachable-requires
unreachable-requires g c =
    let us = g.C.Content.units in
    let xs = c.args.tree.now.leaves in
    let none = sym c.find.ensures ∙ c.in_default.is in
    let beyond = beyond_none (leaf_length us c.args.view) xs c.args.p (found_none (leaf_length us c.args.view) xs c.args.p none) none in
    omega (arith, beyond, len_elements us g.C.Content.by c.args.view xs, c.requires.within)

pub passes_beside_leaf-requires-clause-held : goal.passes_beside_leaf-requires-clause-held
passes_beside_leaf-requires-clause-held g c =
    let us = g.C.Content.units in
    let xs = c.args.tree.now.leaves in
    let found = c.in-Some.found in
    let at = found_at us g.C.Content.by c.args.view xs c.args.p found c.first_leaf-first.ensures.once (sym c.find.ensures ∙ c.in-Some.is) in
    subst (λ (o : Option ℕ). IsInLeaf us xs o found.offset) c.in-Some-leaf.is at.held

pub passes_beside_leaf-requires-clause-live : goal.passes_beside_leaf-requires-clause-live
passes_beside_leaf-requires-clause-live g c =
    let us = g.C.Content.units in
    let xs = c.args.tree.now.leaves in
    let found = c.in-Some.found in
    let at = found_at us g.C.Content.by c.args.view xs c.args.p found c.first_leaf-first.ensures.once (sym c.find.ensures ∙ c.in-Some.is) in
    value_at_in xs c.in-Some-leaf.id (λ v. (1 ≤ found.offset) × (found.offset ≤ length (us v.content)))
    (subst (λ (o : Option ℕ). IsInLeaf us xs o found.offset) c.in-Some-leaf.is at.held)

pub passes_from-requires-clause-live : goal.passes_from-requires-clause-live
passes_from-requires-clause-live g c =
    walks_live g.C.Content.units g.C.Content.by c.args.tree.now.leaves c.first_leaf-first.result c.first_leaf-first.ensures.value

pub returns-in-Some-leaf : goal.returns-in-Some-leaf
returns-in-Some-leaf g c said =
    let us = g.C.Content.units in
    let by = g.C.Content.by in
    let xs = c.args.tree.now.leaves in
    let found = c.in-Some.found in
    let at = found_at us by c.args.view xs c.args.p found c.first_leaf-first.ensures.once (sym c.find.ensures ∙ c.in-Some.is) in
    let here = at.place ∙ ap (λ (o : Option ℕ). held_place us by xs o found.offset) c.in-Some-leaf.is in
    free-place (seen_in c.args.view) c.args.p _ (elements us by xs) here (c.passes_beside_leaf.ensures said)

pub returns-in-None : goal.returns-in-None
returns-in-None g c said =
    let us = g.C.Content.units in
    let by = g.C.Content.by in
    let xs = c.args.tree.now.leaves in
    let all = elements us by xs in
    let found = c.in-Some.found in
    let at = found_at us by c.args.view xs c.args.p found c.first_leaf-first.ensures.once (sym c.find.ensures ∙ c.in-Some.is) in
    let head = at.place ∙ ap (λ (o : Option ℕ). held_place us by xs o found.offset) c.in-None.is in
    let whole = sym (walks_first us by xs c.first_leaf-first.result c.first_leaf-first.ensures.value) in
    free-place (seen_in c.args.view) c.args.p 0 all head (record {
      no_run = ap (shown_in_run (is_pending {U = g.row.C-Unit.Denot}) (seen_in AllElements)) whole ∙ c.passes_from.ensures.run said;
      before = refl;
      behind = ap (first_passes is_standing is_always_seen) whole ∙ c.passes_from.ensures.first said;
    })
