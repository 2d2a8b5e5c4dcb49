use Rattle.std.proofs.Common.{◌≡◌, ℕ, Option, not, true, false, length, subst, refl, sym, ◌∙◌, ap, arith}
use Rattle.ft_base.specs.Visibility.{is_acked}
use Rattle.ft_block.specs.Leaves.{IsLeafIn, IsPlaceIn}
use Rattle.ft_tree_leaves.specs.Elements.{is_pending, seen_in}
use Rattle.ft_tree_blocks.specs.Walks.{from_place}
use Rattle.ft_tree_blocks.proofs.Walks.{after_in_place}
use Rattle.ft_changes.specs.ShownRuns.{shown_in_run}
use Rattle.ft_tree_changes.proofs.LeafParts.{run-most}
use Rattle.ft_tree_changes.proofs.LeafWalks.{fewer_leaves, from-most, held_from, run-off, run-on}
use Rattle.ft_tree_changes.proofs.insertions.shown_pending.Goals as goal

pub loop-next-init : goal.loop-next-init
loop-next-init g c = record { live = c.requires.live; run = omega arith }

pub leaf_len-len-requires-clause-live : goal.leaf_len-len-requires-clause-live
leaf_len-len-requires-clause-live g c = subst (IsPlaceIn c.args.tree.now.leaves) c.in-Some.is c.loop-next.invariant.live

pub leaf_is_seen-is_shown-requires-clause-live : goal.leaf_is_seen-is_shown-requires-clause-live
leaf_is_seen-is_shown-requires-clause-live g c = subst (IsPlaceIn c.args.tree.now.leaves) c.in-Some.is c.loop-next.invariant.live

pub leaf_element-requires-clause-live : goal.leaf_element-requires-clause-live
leaf_element-requires-clause-live g c = subst (IsPlaceIn c.args.tree.now.leaves) c.in-Some.is c.loop-next.invariant.live

pub next_leaf-next-requires-clause-live : goal.next_leaf-next-requires-clause-live
next_leaf-next-requires-clause-live g c = subst (IsPlaceIn c.args.tree.now.leaves) c.in-Some.is c.loop-next.invariant.live

pub overflow_add-count : goal.overflow_add-count
overflow_add-count g c =
    let us = g.C.Content.units in
    let by = g.C.Content.by in
    let xs = c.args.tree.now.leaves in
    let id = c.in-Some.id in
    let live : IsLeafIn xs id = subst (IsPlaceIn xs) c.in-Some.is c.loop-next.invariant.live in
    let pends : not (is_acked c.leaf_element.result.now.ins) ≡ true = sym c.is_pending.ensures ∙ c.if-not-is_pending.false in
    let step = run-on us by xs c.first_leaf-first.ensures.once id live c.args.shown _ c.leaf_len-len.result c.leaf_is_seen-is_shown.result
    c.leaf_element.result.now refl c.leaf_len-len.ensures.value c.leaf_is_seen-is_shown.ensures c.leaf_element.ensures pends in
    omega (
      arith,
      step,
      c.count_if-count.ensures,
      ap (λ (o : Option ℕ). shown_in_run (is_pending {U = g.row.C-Unit.Denot}) (seen_in c.args.shown) (held_from us by xs o)) c.in-Some.is,
      c.loop-next.invariant.run,
      run-most (is_pending {U = g.row.C-Unit.Denot}) (seen_in c.args.shown) (held_from us by xs c.args.from),
      from-most us by xs c.args.from,
      c.first_leaf-first.ensures.few,
    )

pub loop-next-preserved : goal.loop-next-preserved
loop-next-preserved g c =
    let us = g.C.Content.units in
    let by = g.C.Content.by in
    let xs = c.args.tree.now.leaves in
    let id = c.in-Some.id in
    let live : IsLeafIn xs id = subst (IsPlaceIn xs) c.in-Some.is c.loop-next.invariant.live in
    let next = c.next_leaf-next.result in
    let pends : not (is_acked c.leaf_element.result.now.ins) ≡ true = sym c.is_pending.ensures ∙ c.if-not-is_pending.false in
    let step = run-on us by xs c.first_leaf-first.ensures.once id live c.args.shown next c.leaf_len-len.result c.leaf_is_seen-is_shown.result
    c.leaf_element.result.now c.next_leaf-next.ensures c.leaf_len-len.ensures.value c.leaf_is_seen-is_shown.ensures c.leaf_element.ensures pends in
    record {
      live = subst (IsPlaceIn xs) (sym c.next_leaf-next.ensures) (after_in_place xs id);
      run = omega (
        arith,
        step,
        c.count_if-count.ensures,
        ap (λ (o : Option ℕ). shown_in_run (is_pending {U = g.row.C-Unit.Denot}) (seen_in c.args.shown) (held_from us by xs o)) c.in-Some.is,
        c.loop-next.invariant.run,
      );
    }

pub loop-next-smaller : goal.loop-next-smaller
loop-next-smaller g c =
    let us = g.C.Content.units in
    let xs = c.args.tree.now.leaves in
    let live : IsLeafIn xs c.in-Some.id = subst (IsPlaceIn xs) c.in-Some.is c.loop-next.invariant.live in
    omega (
      arith,
      ap (λ (o : Option ℕ). length (from_place xs o)) c.in-Some.is,
      fewer_leaves us g.C.Content.by xs c.first_leaf-first.ensures.once c.in-Some.id live c.next_leaf-next.result c.next_leaf-next.ensures,
    )

pub returns-then-not-is_pending : goal.returns-then-not-is_pending
returns-then-not-is_pending g c =
    let us = g.C.Content.units in
    let by = g.C.Content.by in
    let xs = c.args.tree.now.leaves in
    let id = c.in-Some.id in
    let live : IsLeafIn xs id = subst (IsPlaceIn xs) c.in-Some.is c.loop-next.invariant.live in
    let settled : not (is_acked c.leaf_element.result.now.ins) ≡ false = sym c.is_pending.ensures ∙ c.if-not-is_pending.true in
    let ends = run-off us by xs c.first_leaf-first.ensures.once id live c.args.shown c.leaf_len-len.result c.leaf_element.result.now
    c.leaf_len-len.ensures.some c.leaf_len-len.ensures.value c.leaf_element.ensures settled in
    omega (
      arith,
      ends,
      ap (λ (o : Option ℕ). shown_in_run (is_pending {U = g.row.C-Unit.Denot}) (seen_in c.args.shown) (held_from us by xs o)) c.in-Some.is,
      c.loop-next.invariant.run,
    )

pub returns : goal.returns
returns g c =
    let us = g.C.Content.units in
    let by = g.C.Content.by in
    let xs = c.args.tree.now.leaves in
    omega (
      arith,
      ap (λ (o : Option ℕ). shown_in_run (is_pending {U = g.row.C-Unit.Denot}) (seen_in c.args.shown) (held_from us by xs o)) c.in_default.is,
      c.loop-next.invariant.run,
    )
