use Rattle.std.proofs.Common.{ℕ, ◌+◌, ◌≤◌, Option, Some, [], length, subst, refl, sym, ◌∙◌, ap, arith}
use Rattle.ft_block.specs.Leaves.{IsLeafIn, IsPlaceIn}
use Rattle.ft_sumdoc.specs.WellFormed.{same_props}
use Rattle.ft_tree_leaves.specs.Elements.{seen_in, with_overlay}
use Rattle.ft_tree_leaves.specs.LeafLists.{elements}
use Rattle.ft_tree_blocks.specs.Walks.{from_place}
use Rattle.ft_tree_blocks.proofs.Walks.{after_in_place}
use Rattle.ft_changes.proofs.RunsInOrder.{changed_places, with_all_changed}
use Rattle.ft_changes.proofs.SameShown.{shown_runs-placed}
use Rattle.ft_tree_changes.specs.ShownOverlays.{annotated, shown_of_element}
use Rattle.ft_tree_changes.proofs.ChangedParts.{changed-past}
use Rattle.ft_tree_changes.proofs.LeafWalks.{fewer_leaves, held_from}
use Rattle.ft_tree_changes.proofs.RangeWalks.{changed-front, changed-on, counts-fit, front-fits}
use Rattle.ft_tree_changes.proofs.annotations.annotated_behind.Goals as goal

pub loop-next-init : goal.loop-next-init
loop-next-init g c =
    let us = g.C.Content.units in
    let by = g.C.Content.by in
    let xs = c.args.tree.now.leaves in
    let seen = seen_in {U = g.row.C-Unit.Denot} c.args.view in
    let shown = seen_in {U = g.row.C-Unit.Denot} c.args.shown in
    let change = with_overlay {U = g.row.C-Unit.Denot} (annotated c.args.annotation) in
    let fits = front-fits us by xs c.first_leaf-first.ensures.once c.args.view c.args.shown c.args.p c.args.front c.requires.front in
    record {
      live = c.requires.front.live;
      seen = fits.0;
      shown = fits.1;
      all = ap (λ rs. with_all_changed same_props rs (changed_places same_props shown_of_element change c.args.front.seen
          c.args.front.shown seen shown c.args.p c.args.q (held_from us by xs (Some c.args.front.leaf)))) c.new-runs.ensures.items
          ∙ ap (with_all_changed same_props []) (changed-front us by xs c.first_leaf-first.ensures.once c.args.view c.args.shown c.args.p
          c.args.front c.requires.front (annotated c.args.annotation) c.args.q);
    }

pub returns : goal.returns
returns g c =
    let us = g.C.Content.units in
    let by = g.C.Content.by in
    let xs = c.args.tree.now.leaves in
    let seen = seen_in {U = g.row.C-Unit.Denot} c.args.view in
    let shown = seen_in {U = g.row.C-Unit.Denot} c.args.shown in
    let change = with_overlay {U = g.row.C-Unit.Denot} (annotated c.args.annotation) in
    let l = c.loop-next in
    ap (λ (o : Option ℕ). with_all_changed same_props l.runs.items (changed_places same_props shown_of_element change l.place l.before seen
    shown c.args.p c.args.q (held_from us by xs o))) (sym c.in_default.is)
    ∙ l.invariant.all
    ∙ sym (shown_runs-placed shown_of_element change seen shown c.args.p c.args.q (elements us by xs))

pub counts_of-counts-requires-clause-live : goal.counts_of-counts-requires-clause-live
counts_of-counts-requires-clause-live g c = subst (IsPlaceIn c.args.tree.now.leaves) c.in-Some.is c.loop-next.invariant.live

pub leaf_overlay-overlay-requires-clause-live : goal.leaf_overlay-overlay-requires-clause-live
leaf_overlay-overlay-requires-clause-live g c = subst (IsPlaceIn c.args.tree.now.leaves) c.in-Some.is c.loop-next.invariant.live

pub next_leaf-next-requires-clause-live : goal.next_leaf-next-requires-clause-live
next_leaf-next-requires-clause-live g c = subst (IsPlaceIn c.args.tree.now.leaves) c.in-Some.is c.loop-next.invariant.live

pub loop-next-smaller : goal.loop-next-smaller
loop-next-smaller g c =
    let us = g.C.Content.units in
    let xs = c.args.tree.now.leaves in
    let live : IsLeafIn xs c.in-Some.id = subst (IsPlaceIn xs) c.in-Some.is c.loop-next.invariant.live in
    omega (
      arith,
      ap (λ (o : Option ℕ). length (from_place xs o)) c.in-Some.is,
      fewer_leaves us g.C.Content.by xs c.first_leaf-first.ensures.once c.in-Some.id live c.next_leaf-next.result c.next_leaf-next.ensures,
    )

pub part_within-part-requires-clause-fits : goal.part_within-part-requires-clause-fits
part_within-part-requires-clause-fits g c =
    let us = g.C.Content.units in
    let by = g.C.Content.by in
    let xs = c.args.tree.now.leaves in
    let id = c.in-Some.id in
    let once = c.first_leaf-first.ensures.once in
    let l = c.loop-next in
    let live : IsLeafIn xs id = subst (IsPlaceIn xs) c.in-Some.is l.invariant.live in
    let fit = counts-fit us by xs once id live _ refl c.args.view c.args.shown _ _ _ c.counts_of-counts.ensures.seen c.counts_of-counts.ensures.shown
    c.counts_of-counts.ensures.both in
    let at_leaf = ap (λ (o : Option ℕ). length (held_from us by xs o)) c.in-Some.is in
    omega (arith, at_leaf, fit.shown_fit, fit.both_fit, l.invariant.seen, c.first_leaf-first.ensures.few)

pub overflow_add-before : goal.overflow_add-before
overflow_add-before g c =
    let us = g.C.Content.units in
    let by = g.C.Content.by in
    let xs = c.args.tree.now.leaves in
    let id = c.in-Some.id in
    let once = c.first_leaf-first.ensures.once in
    let l = c.loop-next in
    let live : IsLeafIn xs id = subst (IsPlaceIn xs) c.in-Some.is l.invariant.live in
    let fit = counts-fit us by xs once id live _ refl c.args.view c.args.shown _ _ _ c.counts_of-counts.ensures.seen c.counts_of-counts.ensures.shown
    c.counts_of-counts.ensures.both in
    let at_leaf = ap (λ (o : Option ℕ). length (held_from us by xs o)) c.in-Some.is in
    omega (arith, at_leaf, fit.shown_fit, fit.both_fit, l.invariant.shown, c.first_leaf-first.ensures.few, c.part_within-part.ensures.inside)

pub overflow_add-before-in-Some : goal.overflow_add-before-in-Some
overflow_add-before-in-Some g c =
    let us = g.C.Content.units in
    let by = g.C.Content.by in
    let xs = c.args.tree.now.leaves in
    let id = c.in-Some.id in
    let once = c.first_leaf-first.ensures.once in
    let l = c.loop-next in
    let live : IsLeafIn xs id = subst (IsPlaceIn xs) c.in-Some.is l.invariant.live in
    let fit = counts-fit us by xs once id live _ refl c.args.view c.args.shown _ _ _ c.counts_of-counts.ensures.seen c.counts_of-counts.ensures.shown
    c.counts_of-counts.ensures.both in
    let at_leaf = ap (λ (o : Option ℕ). length (held_from us by xs o)) c.in-Some.is in
    omega (arith, at_leaf, fit.shown_fit, l.invariant.shown, c.first_leaf-first.ensures.few)

pub overflow_add-place : goal.overflow_add-place
overflow_add-place g c =
    let us = g.C.Content.units in
    let by = g.C.Content.by in
    let xs = c.args.tree.now.leaves in
    let id = c.in-Some.id in
    let once = c.first_leaf-first.ensures.once in
    let l = c.loop-next in
    let live : IsLeafIn xs id = subst (IsPlaceIn xs) c.in-Some.is l.invariant.live in
    let fit = counts-fit us by xs once id live _ refl c.args.view c.args.shown _ _ _ c.counts_of-counts.ensures.seen c.counts_of-counts.ensures.shown
    c.counts_of-counts.ensures.both in
    let at_leaf = ap (λ (o : Option ℕ). length (held_from us by xs o)) c.in-Some.is in
    omega (arith, at_leaf, fit.seen_fit, l.invariant.seen, c.first_leaf-first.ensures.few)

pub returns-then-q-place : goal.returns-then-q-place
returns-then-q-place g c =
    let us = g.C.Content.units in
    let by = g.C.Content.by in
    let xs = c.args.tree.now.leaves in
    let seen = seen_in {U = g.row.C-Unit.Denot} c.args.view in
    let shown = seen_in {U = g.row.C-Unit.Denot} c.args.shown in
    let change = with_overlay {U = g.row.C-Unit.Denot} (annotated c.args.annotation) in
    let l = c.loop-next in
    let past : c.args.q ≤ l.place = omega (arith, c.if-q-place.true) in
    ap (with_all_changed same_props l.runs.items) (sym (changed-past same_props shown_of_element change seen shown c.args.p c.args.q
    l.place l.before (held_from us by xs l.next) past))
    ∙ l.invariant.all
    ∙ sym (shown_runs-placed shown_of_element change seen shown c.args.p c.args.q (elements us by xs))

pub loop-next-preserved : goal.loop-next-preserved
loop-next-preserved g c =
    let us = g.C.Content.units in
    let by = g.C.Content.by in
    let xs = c.args.tree.now.leaves in
    let seen = seen_in {U = g.row.C-Unit.Denot} c.args.view in
    let shown = seen_in {U = g.row.C-Unit.Denot} c.args.shown in
    let change = with_overlay {U = g.row.C-Unit.Denot} (annotated c.args.annotation) in
    let id = c.in-Some.id in
    let once = c.first_leaf-first.ensures.once in
    let l = c.loop-next in
    let live : IsLeafIn xs id = subst (IsPlaceIn xs) c.in-Some.is l.invariant.live in
    let at_leaf = ap (λ (o : Option ℕ). length (held_from us by xs o)) c.in-Some.is in
    let next = c.next_leaf-next.result in
    let on = c.next_leaf-next.ensures in
    let k = c.part_within-part.result.before in
    let n = c.part_within-part.result.count in
    let fit = counts-fit us by xs once id live next on c.args.view c.args.shown _ _ _ c.counts_of-counts.ensures.seen c.counts_of-counts.ensures.shown
    c.counts_of-counts.ensures.both in
    let step = changed-on us by xs once id live next on c.args.view c.args.shown _ _ _ c.counts_of-counts.ensures.seen
    c.counts_of-counts.ensures.shown
    c.counts_of-counts.ensures.both (annotated c.args.annotation) _ c.leaf_overlay-overlay.ensures c.args.p c.args.q l.runs.items l.place
    l.before k n c.part_within-part.ensures.inside c.part_within-part.ensures.before
    c.part_within-part.ensures.count c.part_within-part.ensures.behind in
    record {
      live = subst (IsPlaceIn xs) (sym on) (after_in_place xs id);
      seen = omega (arith, at_leaf, fit.seen_fit, l.invariant.seen);
      shown = omega (arith, at_leaf, fit.shown_fit, l.invariant.shown);
      all = ap (λ rs. with_all_changed same_props rs (changed_places same_props shown_of_element change
          (l.place + c.counts_of-counts.result.seen) (l.before + c.counts_of-counts.result.shown) seen shown c.args.p c.args.q
          (held_from us by xs next))) c.in_ok-push_annotated.ensures
          ∙ sym step
          ∙ ap (λ (o : Option ℕ). with_all_changed same_props l.runs.items (changed_places same_props shown_of_element change l.place
          l.before seen shown c.args.p c.args.q (held_from us by xs o))) (sym c.in-Some.is)
          ∙ l.invariant.all;
    }
