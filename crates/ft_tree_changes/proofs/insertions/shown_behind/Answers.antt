use Rattle.std.proofs.Common.{◌≡◌, ◌+◌, cond, not, false, subst, refl, sym, ◌∙◌, ap, arith}
use Rattle.std.specs.Option.{option_map}
use Rattle.ft_base.specs.Visibility.{is_acked}
use Rattle.ft_block.specs.Leaves.{IsPlaceIn}
use Rattle.ft_tree_leaves.specs.declared.leaves.TreeLeaf.{TreeLeaf}
use Rattle.ft_tree_leaves.specs.Elements.{is_pending, seen_in}
use Rattle.ft_tree_blocks.proofs.Walks.{after_in_place, live_value}
use Rattle.ft_tree_changes.proofs.HeldFronts.{front-alone, front-on}
use Rattle.ft_tree_changes.proofs.LeafParts.{run-most}
use Rattle.ft_tree_changes.proofs.LeafWalks.{front-most, held-on, held_from, within-leaf}
use Rattle.ft_tree_changes.proofs.RangeWalks.{if-most}
use Rattle.ft_tree_changes.proofs.insertions.shown_behind.Goals as goal
use Rattle.ft_tree_changes.proofs.insertions.shown_behind.Goals.{else-offset-len-via-then-offset-len+else-not-is_pending, else-offset-len-via-else-offset-len}

pub shown_pending-requires-clause-live : goal.shown_pending-requires-clause-live
shown_pending-requires-clause-live g c = subst (IsPlaceIn c.args.tree.now.leaves) (sym c.next_leaf.ensures)
    (after_in_place c.args.tree.now.leaves c.args.id)

pub overflow_add-result : goal.overflow_add-result
overflow_add-result g c =
    let us = g.C.Content.units in
    let by = g.C.Content.by in
    let xs = c.args.tree.now.leaves in
    let front = front-most us by xs (seen_in c.args.shown) c.args.id in
    let held = held-on us by xs c.first_leaf-first.ensures.once c.args.id c.requires.live _ c.leaf_len-len.result refl c.leaf_len-len.ensures.value in
    let count = if-most c.leaf_is_seen-is_shown.result c.args.offset in
    omega (arith, c.position_of-left.ensures, c.count_if.ensures, front, held, count, c.if-offset-len.true, c.first_leaf-first.ensures.few)

pub overflow_add-result-2 : goal.overflow_add-result-2
overflow_add-result-2 g c =
    let us = g.C.Content.units in
    let by = g.C.Content.by in
    let xs = c.args.tree.now.leaves in
    let front = front-most us by xs (seen_in c.args.shown) c.args.id in
    let held = held-on us by xs c.first_leaf-first.ensures.once c.args.id c.requires.live _ c.leaf_len-len.result refl c.leaf_len-len.ensures.value in
    let count = if-most c.leaf_is_seen-is_shown.result c.leaf_len-len.result in
    omega (arith, c.position_of-left.ensures, c.count_if-2.ensures, front, held, count, c.first_leaf-first.ensures.few)

pub overflow_add-result-3 : goal.overflow_add-result-3
overflow_add-result-3 g c =
    let us = g.C.Content.units in
    let by = g.C.Content.by in
    let xs = c.args.tree.now.leaves in
    let next = c.next_leaf.result in
    let front = front-most us by xs (seen_in c.args.shown) c.args.id in
    let held = held-on us by xs c.first_leaf-first.ensures.once c.args.id c.requires.live next c.leaf_len-len.result c.next_leaf.ensures
    c.leaf_len-len.ensures.value in
    let count = if-most c.leaf_is_seen-is_shown.result c.leaf_len-len.result in
    let run = run-most is_pending (seen_in c.args.shown) (held_from us by xs next) in
    omega (arith, c.position_of-left.ensures, c.count_if-2.ensures, c.shown_pending.ensures, front, held, count, run, c.first_leaf-first.ensures.few)

pub returns-then-not-is_pending : goal.returns-then-not-is_pending
returns-then-not-is_pending g c =
    let us = g.C.Content.units in
    let by = g.C.Content.by in
    let xs = c.args.tree.now.leaves in
    let once = c.first_leaf-first.ensures.once in
    let fits = within-leaf us by xs once c.args.id c.requires.live c.args.offset c.leaf_len-len.result c.requires.held c.leaf_len-len.ensures.value in
    let settled : not (is_acked c.leaf_element.result.now.ins) ≡ false = sym c.is_pending.ensures ∙ c.if-not-is_pending.true in
    ap (λ n. c.position_of-left.result + n) c.count_if.ensures
    ∙ front-alone us by xs once c.args.id c.requires.live c.args.shown c.leaf_len-len.result c.args.offset c.position_of-left.result
    c.leaf_is_seen-is_shown.result c.leaf_element.result.now c.leaf_len-len.ensures.value c.leaf_is_seen-is_shown.ensures c.leaf_element.ensures
    c.position_of-left.ensures fits (omega (arith, c.if-offset-len.true)) settled

pub returns : goal.returns
returns g c =
    let us = g.C.Content.units in
    let by = g.C.Content.by in
    let xs = c.args.tree.now.leaves in
    let once = c.first_leaf-first.ensures.once in
    let len = c.leaf_len-len.result in
    let left = c.position_of-left.result in
    let s = c.leaf_is_seen-is_shown.result in
    let fits = within-leaf us by xs once c.args.id c.requires.live c.args.offset len c.requires.held c.leaf_len-len.ensures.value in
    let v = live_value xs c.args.id c.requires.live in
    let stamps = ap (option_map (λ (x : TreeLeaf g.row.C.Denot). x.stamps)) v.1 in
    ap (λ n. left + n + c.shown_pending.result) c.count_if-2.ensures
    ∙ ap (λ n. left + cond s len 0 + n) c.shown_pending.ensures
    ∙ elim c.else-offset-len.branch [
      | else-offset-len-via-then-offset-len+else-not-is_pending w ↦
          front-on us by xs once c.args.id c.requires.live c.args.shown len c.args.offset left s w.leaf_element.result.now
          c.leaf_len-len.ensures.value
          c.leaf_is_seen-is_shown.ensures w.leaf_element.ensures c.position_of-left.ensures fits
          (λ less. sym w.is_pending.ensures ∙ w.if-not-is_pending.false) c.next_leaf.result c.next_leaf.ensures
      | else-offset-len-via-else-offset-len w ↦
          front-on us by xs once c.args.id c.requires.live c.args.shown len c.args.offset left s v.0.stamps c.leaf_len-len.ensures.value
          c.leaf_is_seen-is_shown.ensures stamps c.position_of-left.ensures fits
          (λ less. absurd (omega (arith, less, w.if-offset-len.false))) c.next_leaf.result c.next_leaf.ensures
    ]
