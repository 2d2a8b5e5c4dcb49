use Rattle.std.proofs.Common.{◌≡◌, ℕ, Bool, ◌-◌, ◌≤◌, Option, true, false, length, reverse, take, subst, refl, sym, ◌∙◌, ap, arith}
use Rattle.ft_block.specs.declared.leaves.LenView.TheVariants.{All as AllElements}
use Rattle.ft_block.specs.Leaves.{IsLeafIn, left_of}
use Rattle.ft_block.proofs.LeafListLemmas.{value_at_in}
use Rattle.ft_tree_leaves.specs.LeafLists.{elements, leaf_length}
use Rattle.ft_tree_blocks.proofs.FoundLeaves.{beyond_none, len_elements}
use Rattle.ft_tree_steps.specs.LeafSteps.{IsInLeaf, held_place}
use Rattle.ft_changes.specs.Beside.{first_passes}
use Rattle.ft_tree_changes.specs.StandingElements.{is_always_seen, is_standing, stamps_stand}
use Rattle.ft_tree_changes.proofs.FoundFronts.{found_none}
use Rattle.ft_tree_changes.proofs.PassedSides.{len-all}
use Rattle.ft_tree_changes.proofs.StandingWalks.{found_before, up_to-at, up_to-on}
use Rattle.ft_tree_changes.proofs.neighbours.passes_before.Goals as goal

pub loop-i-init : goal.loop-i-init
loop-i-init g c = record { within = c.requires.within; same = refl }

pub unreachable-requires : goal.unreachable-requires
unreachable-requires g c =
    let us = g.C.Content.units in
    let xs = c.args.tree.now.leaves in
    let left = c.loop-i.left in
    let all = elements us g.C.Content.by xs in
    let none = sym c.find.ensures ∙ c.in_default.is in
    let beyond = beyond_none (leaf_length us AllElements) xs left (found_none (leaf_length us AllElements) xs left none) none in
    omega (arith, beyond, len_elements us g.C.Content.by AllElements xs, len-all all, c.loop-i.invariant.within)

pub returns-in_default-leaf : goal.returns-in_default-leaf
returns-in_default-leaf g c said =
    let us = g.C.Content.units in
    let by = g.C.Content.by in
    let xs = c.args.tree.now.leaves in
    let all = elements us by xs in
    let found = c.in-Some.found in
    let at = found_before us by xs c.first_leaf-first.ensures.once c.loop-i.left found c.loop-i.invariant.within (sym c.find.ensures
    ∙ c.in-Some.is) in
    let none : c.loop-i.left ≡ 0 = at.place ∙ ap (λ (o : Option ℕ). held_place us by xs o found.offset) c.in_default-leaf.is in
    sym c.loop-i.invariant.same ∙ ap (λ n. first_passes is_standing is_always_seen (reverse (take n all))) none

pub leaf_element-stamps-requires-clause-live : goal.leaf_element-stamps-requires-clause-live
leaf_element-stamps-requires-clause-live g c =
    let us = g.C.Content.units in
    let by = g.C.Content.by in
    let xs = c.args.tree.now.leaves in
    let found = c.in-Some.found in
    let at = found_before us by xs c.first_leaf-first.ensures.once c.loop-i.left found c.loop-i.invariant.within (sym c.find.ensures
    ∙ c.in-Some.is) in
    value_at_in xs c.in-Some-leaf.id (λ v. (1 ≤ found.offset) × (found.offset ≤ length (us v.content)))
    (subst (λ (o : Option ℕ). IsInLeaf us xs o found.offset) c.in-Some-leaf.is at.held)

pub returns-then-stands : goal.returns-then-stands
returns-then-stands g c said =
    let us = g.C.Content.units in
    let by = g.C.Content.by in
    let xs = c.args.tree.now.leaves in
    let all = elements us by xs in
    let once = c.first_leaf-first.ensures.once in
    let found = c.in-Some.found in
    let id = c.in-Some-leaf.id in
    let at = found_before us by xs once c.loop-i.left found c.loop-i.invariant.within (sym c.find.ensures ∙ c.in-Some.is) in
    let held = subst (λ (o : Option ℕ). IsInLeaf us xs o found.offset) c.in-Some-leaf.is at.held in
    let live : IsLeafIn xs id = value_at_in xs id (λ v. (1 ≤ found.offset) × (found.offset ≤ length (us v.content))) held in
    let here = at.place ∙ ap (λ (o : Option ℕ). held_place us by xs o found.offset) c.in-Some-leaf.is in
    let stands : stamps_stand c.leaf_element-stamps.result.now ≡ true = sym c.stands.ensures ∙ c.if-stands.true in
    sym c.loop-i.invariant.same
    ∙ ap (λ n. first_passes is_standing is_always_seen (reverse (take n all))) here
    ∙ up_to-at us by xs once id live c.leaf_element-stamps.result.now c.leaf_element-stamps.ensures found.offset held stands
    ∙ sym c.is_always_seen.ensures ∙ said

pub overflow_sub-left : goal.overflow_sub-left
overflow_sub-left g c =
    let us = g.C.Content.units in
    let by = g.C.Content.by in
    let xs = c.args.tree.now.leaves in
    let found = c.in-Some.found in
    let at = found_before us by xs c.first_leaf-first.ensures.once c.loop-i.left found c.loop-i.invariant.within (sym c.find.ensures
    ∙ c.in-Some.is) in
    omega (arith, at.place ∙ ap (λ (o : Option ℕ). held_place us by xs o found.offset) c.in-Some-leaf.is)

pub loop-i-preserved : goal.loop-i-preserved
loop-i-preserved g c =
    let us = g.C.Content.units in
    let by = g.C.Content.by in
    let xs = c.args.tree.now.leaves in
    let all = elements us by xs in
    let once = c.first_leaf-first.ensures.once in
    let found = c.in-Some.found in
    let id = c.in-Some-leaf.id in
    let k = found.offset in
    let at = found_before us by xs once c.loop-i.left found c.loop-i.invariant.within (sym c.find.ensures ∙ c.in-Some.is) in
    let held = subst (λ (o : Option ℕ). IsInLeaf us xs o k) c.in-Some-leaf.is at.held in
    let live : IsLeafIn xs id = value_at_in xs id (λ v. (1 ≤ k) × (k ≤ length (us v.content))) held in
    let here = at.place ∙ ap (λ (o : Option ℕ). held_place us by xs o k) c.in-Some-leaf.is in
    let gone : stamps_stand c.leaf_element-stamps.result.now ≡ false = sym c.stands.ensures ∙ c.if-stands.false in
    let before : c.loop-i.left - k ≡ length (elements us by (left_of xs id)) = omega (arith, here) in
    let passes : ℕ → Bool = λ n. first_passes is_standing is_always_seen (reverse (take n all)) in
    record {
      within = omega (arith, c.loop-i.invariant.within);
      same = ap passes before
          ∙ sym (up_to-on us by xs once id live c.leaf_element-stamps.result.now c.leaf_element-stamps.ensures k held gone)
          ∙ ap passes (sym here)
          ∙ c.loop-i.invariant.same;
    }
