use Rattle.std.proofs.Common.{◌≡◌, ◌<ℤ◌, ◌≤ℤ◌, ◌+◌, ◌-◌, ◌/◌, ℕ, Some, drop, length, refl, slice_get, sym, ap, subst, ◌∙◌, arith}
use Rattle.std.proofs.lemmas.List.{length-drop}
use Rattle.ft_shape.specs.Tree.{height_of, below}
use Rattle.ft_shape.proofs.Lists.{drop_none}
use Rattle.ft_overlap.specs.Inside.{IsBehind, items_of}
use Rattle.ft_overlap.proofs.Descent.{d_filled, d_kid_live, first_below_node, down_first, child_behind, none_behind, child_at_end}
use Rattle.ft_overlap.proofs.Keys.{true_lt, false_lt}
use Rattle.ft_overlap.proofs.places.child_by.Goals as goal

pub unreachable-requires : goal.unreachable-requires
unreachable-requires g c =
    let s = c.args.arena.now in
    let n = c.args._block in
    omega (
      arith,
      d_filled s c.args._root n c.requires.tree c.requires.block c.args.kids.now c.requires.kids,
      ap length (drop_none c.args.kids.now 0 (sym c.get.ensures
          ∙ c.in_default.is)),
    )

pub halves-init : goal.halves-init
halves-init g c =
    let s = c.args.arena.now in
    let n = c.args._block in
    let kids = c.args.kids.now in
    let place = g.P.Places.end_place c.args.at.now in
    let b = place c.args.start in
    let there : slice_get kids 0 ≡ Some c.in-Some.first = sym c.get.ensures ∙ c.in-Some.is in
    let live = d_kid_live s c.args._root n c.requires.tree c.requires.block kids c.requires.kids 0 c.in-Some.first there in
    let head = first_below_node s c.args._root c.requires.tree (height_of s c.in-Some.first) c.in-Some.first refl live in
    record {
      few = omega (arith, c.len-high.ensures.value, c.len-high.ensures.few);
      order = omega (arith, c.len-high.ensures.value, d_filled s c.args._root n c.requires.tree c.requires.block kids c.requires.kids);
      inside = omega (arith, c.len-high.ensures.value);
      there = there;
      first = down_first s c.args._root n c.requires.tree c.requires.block kids c.requires.kids place b c.in-Some.first head.0 there head.1
          c.requires.first;
      behind = subst (λ (k : ℕ). IsBehind place b (items_of s (below s (height_of s n - 1) (drop k kids)))) (sym c.len-high.ensures.value)
          (none_behind s c.args._root n c.requires.tree c.requires.block kids c.requires.kids place b);
    }

pub overflow_add-low : goal.overflow_add-low
overflow_add-low g c = omega (arith, c.halves.invariant.few, c.halves.invariant.order, c.halves.invariant.inside)

pub unreachable-requires-in_default-get : goal.unreachable-requires-in_default-get
unreachable-requires-in_default-get g c =
    let middle = c.halves.low + (c.halves.high - c.halves.low) / 2 in
    omega (
      arith,
      c.halves.invariant.order,
      c.halves.invariant.inside,
      length-drop middle c.args.kids.now,
      ap length (drop_none c.args.kids.now middle (sym c.get-in-halves.ensures ∙ c.in_default-get.is)),
    )

pub start_below-requires-clause-live : goal.start_below-requires-clause-live
start_below-requires-clause-live g c =
    let middle = c.halves.low + (c.halves.high - c.halves.low) / 2 in
    d_kid_live c.args.arena.now c.args._root c.args._block c.requires.tree c.requires.block c.args.kids.now c.requires.kids middle c.in-Some-get.kid
    (sym c.get-in-halves.ensures ∙ c.in-Some-get.is)

pub is_before-requires-clause-second : goal.is_before-requires-clause-second
is_before-requires-clause-second g c =
    let f = c.start_below.ensures in
    subst (λ (z : ℕ). g.P.Places.Knows c.args.at.now z) f.is (c.requires.known f.first.leaf f.item f.first.there)

pub halves-smaller : goal.halves-smaller
halves-smaller g c = omega (arith, c.halves.invariant.order)

pub halves-smaller-then-is_before : goal.halves-smaller-then-is_before
halves-smaller-then-is_before g c = omega (arith, c.halves.invariant.order)

pub halves-preserved-then-is_before : goal.halves-preserved-then-is_before
halves-preserved-then-is_before g c =
    let s = c.args.arena.now in
    let kids = c.args.kids.now in
    let place = g.P.Places.end_place c.args.at.now in
    let b = place c.args.start in
    let middle = c.halves.low + (c.halves.high - c.halves.low) / 2 in
    let there : slice_get kids middle ≡ Some c.in-Some-get.kid = sym c.get-in-halves.ensures ∙ c.in-Some-get.is in
    let f = c.start_below.ensures in
    let behind : b <ℤ place f.item.start =
    subst (λ (z : ℕ). b <ℤ place z) (sym f.is) (true_lt b (place c.start_below.result) (sym c.is_before.ensures ∙ c.if-is_before.true)) in
    record {
      few = c.halves.invariant.few;
      order = omega (arith, c.halves.invariant.order);
      inside = omega (arith, c.halves.invariant.order, c.halves.invariant.inside);
      there = c.halves.invariant.there;
      first = c.halves.invariant.first;
      behind = child_behind s c.args._root c.args._block c.requires.tree c.requires.block kids c.requires.kids place b middle c.in-Some-get.kid
          f.item there f.first behind;
    }

pub halves-preserved : goal.halves-preserved
halves-preserved g c =
    let place = g.P.Places.end_place c.args.at.now in
    let b = place c.args.start in
    let f = c.start_below.ensures in
    record {
      few = c.halves.invariant.few;
      order = omega (arith, c.halves.invariant.order);
      inside = c.halves.invariant.inside;
      there = sym c.get-in-halves.ensures ∙ c.in-Some-get.is;
      first = record {
        item = f.item;
        rest = f.first.rest;
        items = f.first.items;
        by = subst (λ (z : ℕ). place z ≤ℤ b) (sym f.is) (false_lt b (place c.start_below.result) (sym c.is_before.ensures ∙ c.if-is_before.false));
      };
      behind = c.halves.invariant.behind;
    }

pub returns : goal.returns
returns g c =
    let s = c.args.arena.now in
    let n = c.args._block in
    let kids = c.args.kids.now in
    let place = g.P.Places.end_place c.args.at.now in
    let b = place c.args.start in
    let last : c.halves.high ≡ c.halves.low + 1 = omega (arith, c.halves.invariant.order) in
    child_at_end s c.args._root n c.requires.tree c.requires.block kids c.requires.kids place b c.halves.low c.halves.child
    c.halves.invariant.there c.halves.invariant.first
    (subst (λ (k : ℕ). IsBehind place b (items_of s (below s (height_of s n - 1) (drop k kids)))) last c.halves.invariant.behind)
