use Rattle.std.proofs.Common.{ℕ, ◌+◌, ◌≤◌, Bool, Option, length, subst, refl, sym, ◌∙◌, ap, arith}
use Rattle.ft_block.specs.declared.leaves.LenView.TheVariants.{All as AllElements}
use Rattle.ft_block.specs.Leaves.{IsLeafIn, IsPlaceIn}
use Rattle.ft_tree_leaves.specs.Elements.{seen_in}
use Rattle.ft_tree_blocks.specs.Walks.{from_place}
use Rattle.ft_tree_blocks.proofs.Walks.{after_in_place}
use Rattle.ft_changes.specs.Beside.{first_passes}
use Rattle.ft_tree_changes.specs.StandingElements.{is_always_seen, is_standing, pass_from_front}
use Rattle.ft_tree_changes.proofs.LeafWalks.{fewer_leaves, held-on, held_from}
use Rattle.ft_tree_changes.proofs.PassedSides.{from-behind}
use Rattle.ft_tree_changes.proofs.RangeWalks.{front-fits, if-most}
use Rattle.ft_tree_changes.proofs.StandingWalks.{front-on}
use Rattle.ft_tree_changes.proofs.neighbours.passes_within.Goals as goal

pub loop-next-init : goal.loop-next-init
loop-next-init g c =
    let fits = front-fits g.C.Content.units g.C.Content.by c.args.tree.now.leaves c.first_leaf-first.ensures.once c.args.view AllElements c.args.p
    c.args.front c.requires.front in
    record { live = c.requires.front.live; seen = fits.0; all = λ h. h }

pub passes_behind-requires-clause-live : goal.passes_behind-requires-clause-live
passes_behind-requires-clause-live g c = subst (IsPlaceIn c.args.tree.now.leaves) c.in-Some.is c.loop-next.invariant.live

pub leaf_len-len-requires-clause-live : goal.leaf_len-len-requires-clause-live
leaf_len-len-requires-clause-live g c = subst (IsPlaceIn c.args.tree.now.leaves) c.in-Some.is c.loop-next.invariant.live

pub leaf_is_seen-requires-clause-live : goal.leaf_is_seen-requires-clause-live
leaf_is_seen-requires-clause-live g c = subst (IsPlaceIn c.args.tree.now.leaves) c.in-Some.is c.loop-next.invariant.live

pub leaf_element-requires-clause-live : goal.leaf_element-requires-clause-live
leaf_element-requires-clause-live g c = subst (IsPlaceIn c.args.tree.now.leaves) c.in-Some.is c.loop-next.invariant.live

pub next_leaf-next-requires-clause-live : goal.next_leaf-next-requires-clause-live
next_leaf-next-requires-clause-live g c = subst (IsPlaceIn c.args.tree.now.leaves) c.in-Some.is c.loop-next.invariant.live

pub overflow_add-place : goal.overflow_add-place
overflow_add-place g c =
    let us = g.C.Content.units in
    let by = g.C.Content.by in
    let xs = c.args.tree.now.leaves in
    let id = c.in-Some.id in
    let once = c.first_leaf-first.ensures.once in
    let l = c.loop-next in
    let live : IsLeafIn xs id = subst (IsPlaceIn xs) c.in-Some.is l.invariant.live in
    let held = held-on us by xs once id live _ c.leaf_len-len.result refl c.leaf_len-len.ensures.value in
    let at_leaf = ap (λ (o : Option ℕ). length (held_from us by xs o)) c.in-Some.is in
    omega (
      arith,
      at_leaf,
      held,
      if-most c.leaf_is_seen.result c.leaf_len-len.result,
      c.count_if-seen.ensures,
      l.invariant.seen,
      c.first_leaf-first.ensures.few,
    )

pub loop-next-smaller : goal.loop-next-smaller
loop-next-smaller g c =
    let us = g.C.Content.units in
    let xs = c.args.tree.now.leaves in
    let live : IsLeafIn xs c.in-Some.id = subst (IsPlaceIn xs) c.in-Some.is c.loop-next.invariant.live in
    omega (
      arith,
      ap (λ (o : Option ℕ). length (from_place xs o)) c.in-Some.is,
      fewer_leaves us g.C.Content.by xs c.first_leaf-first.ensures.once c.in-Some.id live c.next_leaf-next.result c.next_leaf-next.ensures,
    )

pub returns-then-q-place : goal.returns-then-q-place
returns-then-q-place g c said =
    let us = g.C.Content.units in
    let by = g.C.Content.by in
    let xs = c.args.tree.now.leaves in
    let l = c.loop-next in
    let past : c.args.q ≤ l.place = omega (arith, c.if-q-place.true) in
    l.invariant.all (from-behind (seen_in c.args.view) is_standing is_always_seen c.args.p c.args.q l.place past (held_from us by xs l.next)
    (ap (λ (o : Option ℕ). first_passes is_standing is_always_seen (held_from us by xs o)) c.in-Some.is ∙ c.passes_behind.ensures said))

pub returns : goal.returns
returns g c said =
    let us = g.C.Content.units in
    let by = g.C.Content.by in
    let xs = c.args.tree.now.leaves in
    let l = c.loop-next in
    l.invariant.all (ap (λ (o : Option ℕ). pass_from_front (seen_in c.args.view) c.args.p c.args.q l.place (held_from us by xs o)) c.in_default.is)

pub part_within-part-requires-clause-fits : goal.part_within-part-requires-clause-fits
part_within-part-requires-clause-fits g c =
    let us = g.C.Content.units in
    let by = g.C.Content.by in
    let xs = c.args.tree.now.leaves in
    let id = c.in-Some.id in
    let once = c.first_leaf-first.ensures.once in
    let l = c.loop-next in
    let live : IsLeafIn xs id = subst (IsPlaceIn xs) c.in-Some.is l.invariant.live in
    let held = held-on us by xs once id live _ c.leaf_len-len.result refl c.leaf_len-len.ensures.value in
    let at_leaf = ap (λ (o : Option ℕ). length (held_from us by xs o)) c.in-Some.is in
    omega (
      arith,
      at_leaf,
      held,
      if-most c.leaf_is_seen.result c.leaf_len-len.result,
      c.count_if-seen.ensures,
      l.invariant.seen,
      c.first_leaf-first.ensures.few,
    )

pub loop-next-preserved : goal.loop-next-preserved
loop-next-preserved g c =
    let us = g.C.Content.units in
    let by = g.C.Content.by in
    let xs = c.args.tree.now.leaves in
    let id = c.in-Some.id in
    let once = c.first_leaf-first.ensures.once in
    let l = c.loop-next in
    let live : IsLeafIn xs id = subst (IsPlaceIn xs) c.in-Some.is l.invariant.live in
    let next = c.next_leaf-next.result in
    let on = c.next_leaf-next.ensures in
    let len = c.leaf_len-len.result in
    let b = c.leaf_is_seen.result in
    let k = c.part_within-part.result.before in
    let n = c.part_within-part.result.count in
    let held = held-on us by xs once id live next len on c.leaf_len-len.ensures.value in
    let at_leaf = ap (λ (o : Option ℕ). length (held_from us by xs o)) c.in-Some.is in
    let passes : ℕ → Option ℕ → Bool = λ m o. pass_from_front (seen_in c.args.view) c.args.p c.args.q m (held_from us by xs o) in
    let may = sym c.may_stand.ensures ∙ c.if-not-may_stand.false in
    let step = front-on us by xs once id live c.leaf_element.result.now c.leaf_element.ensures next on len c.leaf_len-len.ensures.value
    c.leaf_len-len.ensures.some c.args.view b c.leaf_is_seen.ensures c.args.p c.args.q l.place k n
    (subst (λ m. k + n ≤ m) c.count_if-seen.ensures c.part_within-part.ensures.inside) c.part_within-part.ensures.count may in
    record {
      live = subst (IsPlaceIn xs) (sym on) (after_in_place xs id);
      seen = omega (arith, at_leaf, held, if-most b len, c.count_if-seen.ensures, l.invariant.seen);
      all = λ h. l.invariant.all (ap (passes l.place) c.in-Some.is
          ∙ step (ap (λ m. passes (l.place + m) next) (sym c.count_if-seen.ensures) ∙ h));
    }
