use Rattle.std.proofs.Common.{◌≡◌, ℕ, Option, true, false, subst, refl, sym, ◌∙◌, ap}
use Rattle.ft_block.specs.Leaves.{IsLeafIn, IsPlaceIn}
use Rattle.ft_tree_blocks.proofs.Walks.{after_in_place}
use Rattle.ft_changes.specs.Beside.{first_passes}
use Rattle.ft_tree_changes.specs.StandingElements.{is_always_seen, is_standing, stamps_stand}
use Rattle.ft_tree_changes.proofs.LeafWalks.{held_from}
use Rattle.ft_tree_changes.proofs.StandingWalks.{passes-at, passes-on}
use Rattle.ft_tree_changes.proofs.neighbours.passes_behind.Goals as goal

pub loop-i-init : goal.loop-i-init
loop-i-init g c = record { live = c.requires.live; same = refl }

pub leaf_element-stamps-requires-clause-live : goal.leaf_element-stamps-requires-clause-live
leaf_element-stamps-requires-clause-live g c = subst (IsPlaceIn c.args.tree.now.leaves) c.in-Some.is c.loop-i.invariant.live

pub next_leaf-next-requires-clause-live : goal.next_leaf-next-requires-clause-live
next_leaf-next-requires-clause-live g c = subst (IsPlaceIn c.args.tree.now.leaves) c.in-Some.is c.loop-i.invariant.live

pub loop-i-preserved : goal.loop-i-preserved
loop-i-preserved g c =
    let us = g.C.Content.units in
    let by = g.C.Content.by in
    let xs = c.args.tree.now.leaves in
    let id = c.in-Some.id in
    let live : IsLeafIn xs id = subst (IsPlaceIn xs) c.in-Some.is c.loop-i.invariant.live in
    let gone : stamps_stand c.leaf_element-stamps.result.now ≡ false = sym c.stands.ensures ∙ c.if-stands.false in
    let step = passes-on us by xs c.first_leaf-first.ensures.once id live c.leaf_element-stamps.result.now c.leaf_element-stamps.ensures
    c.next_leaf-next.result c.next_leaf-next.ensures gone in
    record {
      live = subst (IsPlaceIn xs) (sym c.next_leaf-next.ensures) (after_in_place xs id);
      same = sym step ∙ ap (λ (o : Option ℕ). first_passes is_standing is_always_seen (held_from us by xs o)) (sym c.in-Some.is)
          ∙ c.loop-i.invariant.same;
    }

pub returns-then-stands : goal.returns-then-stands
returns-then-stands g c said =
    let us = g.C.Content.units in
    let by = g.C.Content.by in
    let xs = c.args.tree.now.leaves in
    let id = c.in-Some.id in
    let live : IsLeafIn xs id = subst (IsPlaceIn xs) c.in-Some.is c.loop-i.invariant.live in
    let stands : stamps_stand c.leaf_element-stamps.result.now ≡ true = sym c.stands.ensures ∙ c.if-stands.true in
    sym c.loop-i.invariant.same ∙ ap (λ (o : Option ℕ). first_passes is_standing is_always_seen (held_from us by xs o)) c.in-Some.is
    ∙ passes-at us by xs c.first_leaf-first.ensures.once id live c.leaf_element-stamps.result.now c.leaf_element-stamps.ensures
    c.first_leaf-first.ensures.some stands
    ∙ sym c.is_always_seen.ensures ∙ said

pub returns-in_default : goal.returns-in_default
returns-in_default g c said =
    let us = g.C.Content.units in
    let by = g.C.Content.by in
    let xs = c.args.tree.now.leaves in
    sym c.loop-i.invariant.same ∙ ap (λ (o : Option ℕ). first_passes is_standing is_always_seen (held_from us by xs o)) c.in_default.is
