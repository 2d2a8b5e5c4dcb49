-- How walks over leaves go from one to the next.
use Rattle.std.proofs.Common.{◌≡◌, ℕ, ◌+◌, ◌≤◌, Bool, true, false, cond, not, List, ◌++◌, length, Option, Some, sym, ◌∙◌, ap, arith, length-append}
use Rattle.std.specs.Option.{option_map}
use Rattle.ft_arena.specs.Ids.{after}
use Rattle.ft_base.specs.declared.elements.Element.{Element}
use Rattle.ft_base.specs.declared.stamps.Stamp.{Stamp}
use Rattle.ft_base.specs.Scan.{len}
use Rattle.ft_base.specs.Visibility.{is_acked}
use Rattle.ft_block.specs.declared.leaves.LenView.{LenView}
use Rattle.ft_block.specs.Leaves.{IsLeafIn, ids, left_of, sees_in, times_leaf, value_at}
use Rattle.ft_tree_leaves.specs.declared.leaves.TreeLeaf.{TreeLeaf}
use Rattle.ft_tree_leaves.specs.Elements.{TreeElement, element_with, is_pending, seen_in}
use Rattle.ft_tree_leaves.specs.LeafLists.{elements, leaf_elements}
use Rattle.ft_tree_leaves.proofs.LeafRuns.{elements-append, length-leaf}
use Rattle.ft_tree_blocks.specs.Walks.{before_place, from_place}
use Rattle.ft_tree_blocks.proofs.Walks.{before-from, live_value, stands}
use Rattle.ft_tree_steps.specs.LeafSteps.{IsInLeaf}
use Rattle.ft_tree_steps.proofs.FoundOffsets.{len-most}
use Rattle.ft_tree_steps.proofs.FoundPlaces.{elements-from, held_here}
use Rattle.ft_changes.specs.ShownRuns.{shown_in_run}
use Rattle.ft_tree_changes.proofs.FoundFronts.{read_value}
use Rattle.ft_tree_changes.proofs.LeafParts.{run-ends, run-past}

module _ {C U : Type 0} (units : C → List U) (by : C → Option Stamp) (xs : List (ℕ × TreeLeaf C)) where
  -- what the leaves from a place on hold
  abbrev pub held_from : Option ℕ → List (TreeElement U)
  held_from at = elements units by (from_place xs at)

  pub from-most : (at : Option ℕ) → length (held_from at) ≤ length (elements units by xs)
  from-most at =
      omega (
        arith,
        ap (λ zs. length (elements units by zs)) (sym (before-from xs at)),
        ap length (elements-append units by (before_place xs at) (from_place xs at)),
        length-append (elements units by (before_place xs at)) (held_from at),
      )

  -- those before a leaf, and those from it on
  pub cut-whole : (id : ℕ) → elements units by (left_of xs id) ++ held_from (Some id) ≡ elements units by xs
  cut-whole id = sym (elements-append units by (left_of xs id) (from_place xs (Some id))) ∙ ap (elements units by) (before-from xs (Some id))

  -- no more are seen before it than there are
  pub front-most : (seen : TreeElement U → Bool) (id : ℕ)
      → len seen (elements units by (left_of xs id)) + length (held_from (Some id)) ≤ length (elements units by xs)
  front-most seen id =
      omega (
        arith,
        ap length (cut-whole id),
        length-append (elements units by (left_of xs id)) (held_from (Some id)),
        len-most seen (elements units by (left_of xs id)),
      )

  module _ (once : (i : ℕ) → times_leaf xs i ≤ 1) (id : ℕ) (live : IsLeafIn xs id) where
    pub fewer_leaves : (next : Option ℕ) → next ≡ after (ids xs) id → length (from_place xs (Some id)) ≡ 1 + length (from_place xs next)
    fewer_leaves next on =
        let v = live_value xs id live in
        let s = stands xs id v.0 once v.1 in
        omega (arith, ap length s.from, ap (λ o. length (from_place xs o)) on)

    -- the leaf and those behind it
    pub held-on : (next : Option ℕ) (len : ℕ) → next ≡ after (ids xs) id → option_map (λ x. length (units x.content)) (value_at xs id) ≡ Some len
        → length (held_from (Some id)) ≡ len + length (held_from next)
    held-on next len on counts =
        let v = live_value xs id live in
        let count = read_value (λ x. length (units x.content)) (value_at xs id) v.0 len v.1 counts in
        omega (
          arith,
          ap length (elements-from units by xs id v.0 once v.1),
          length-append (leaf_elements units by v.0) (held_from (after (ids xs) id)),
          length-leaf units by v.0,
          count,
          ap (λ o. length (held_from o)) on,
        )

    -- a place in it is within it
    pub within-leaf : (k len : ℕ) → IsInLeaf units xs (Some id) k → option_map (λ x. length (units x.content)) (value_at xs id) ≡ Some len → k ≤ len
    within-leaf k len inside counts =
        let v = live_value xs id live in
        omega (arith, (held_here units by xs id k v.0 inside v.1).1, read_value (λ x. length (units x.content)) (value_at xs id) v.0 len v.1 counts)

    -- the run of pending elements goes on behind a pending leaf
    pub run-on : (shown : LenView) (next : Option ℕ) (len : ℕ) (s : Bool) (e : Element) → next ≡ after (ids xs) id
        → option_map (λ x. length (units x.content)) (value_at xs id) ≡ Some len
        → option_map (λ x. sees_in shown x.stamps) (value_at xs id) ≡ Some s
        → option_map (λ x. x.stamps) (value_at xs id) ≡ Some e → not (is_acked e.ins) ≡ true
        → shown_in_run is_pending (seen_in shown) (held_from (Some id)) ≡ cond s len 0 + shown_in_run is_pending (seen_in shown) (held_from next)
    run-on shown next len s e on counts shows stamps pends =
        let v = live_value xs id live in
        let count = read_value (λ x. length (units x.content)) (value_at xs id) v.0 len v.1 counts in
        let seen = read_value (λ x. sees_in shown x.stamps) (value_at xs id) v.0 s v.1 shows in
        let here = read_value (λ x. x.stamps) (value_at xs id) v.0 e v.1 stamps in
        let pending : not (is_acked v.0.stamps.ins) ≡ true = ap (λ (t : Element). not (is_acked t.ins)) here ∙ pends in
        ap (shown_in_run is_pending (seen_in shown)) (elements-from units by xs id v.0 once v.1)
        ∙ run-past is_pending (seen_in shown) (element_with v.0.stamps (by v.0.content) v.0.overlay) s (λ u. pending) (λ u. seen) (units v.0.content)
        (held_from (after (ids xs) id))
        ∙ ap (λ k. cond s k 0 + shown_in_run is_pending (seen_in shown) (held_from (after (ids xs) id))) count
        ∙ ap (λ o. cond s len 0 + shown_in_run is_pending (seen_in shown) (held_from o)) (sym on)

    -- and ends at another
    pub run-off : (shown : LenView) (len : ℕ) (e : Element) → 1 ≤ len
        → option_map (λ x. length (units x.content)) (value_at xs id) ≡ Some len
        → option_map (λ x. x.stamps) (value_at xs id) ≡ Some e → not (is_acked e.ins) ≡ false
        → shown_in_run is_pending (seen_in shown) (held_from (Some id)) ≡ 0
    run-off shown len e some counts stamps settled =
        let v = live_value xs id live in
        let count = read_value (λ x. length (units x.content)) (value_at xs id) v.0 len v.1 counts in
        let here = read_value (λ x. x.stamps) (value_at xs id) v.0 e v.1 stamps in
        let acked : not (is_acked v.0.stamps.ins) ≡ false = ap (λ (t : Element). not (is_acked t.ins)) here ∙ settled in
        ap (shown_in_run is_pending (seen_in shown)) (elements-from units by xs id v.0 once v.1)
        ∙ run-ends is_pending (seen_in shown) (element_with v.0.stamps (by v.0.content) v.0.overlay) (λ u. acked) (units v.0.content)
        (held_from (after (ids xs) id)) (omega (arith, count, some))
