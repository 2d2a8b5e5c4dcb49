-- What stands up to a place in a leaf, and behind it.
use Rattle.std.proofs.Common.{◌≡◌, ℕ, ◌+◌, ◌-◌, ◌<◌, ◌≤◌, Bool, true, false, cond, not, List, [], ◌∷◌, ◌++◌, drop, length, map, take, Option, Some, refl, sym, ◌∙◌, ap, arith, inl, inr}
use Rattle.std.specs.Option.{option_map}
use Rattle.std.proofs.Math.Seq.{drop-append-add, take-append-add}
use Rattle.std.proofs.lemmas.Bool.{cases_lt}
use Rattle.std.proofs.lemmas.List.{drop-append-le, drop-map, length-drop, length-map, length-take-le, take-append-drop, take-append-le, take-map}
use Rattle.ft_arena.specs.Ids.{after}
use Rattle.ft_base.specs.declared.elements.Element.{Element}
use Rattle.ft_base.specs.declared.stamps.Stamp.{Stamp}
use Rattle.ft_base.specs.Scan.{len, place}
use Rattle.ft_base.specs.Visibility.{is_acked}
use Rattle.ft_block.specs.declared.leaves.LenView.{LenView}
use Rattle.ft_block.specs.Leaves.{IsLeafIn, ids, left_of, sees_in, times_leaf, value_at}
use Rattle.ft_tree_leaves.specs.declared.leaves.TreeLeaf.{TreeLeaf}
use Rattle.ft_tree_leaves.specs.Elements.{TreeElement, element_with, is_pending, seen_in}
use Rattle.ft_tree_leaves.specs.LeafLists.{elements}
use Rattle.ft_tree_leaves.proofs.LeafRuns.{elements-append}
use Rattle.ft_tree_leaves.proofs.Runs.{len-append}
use Rattle.ft_tree_blocks.specs.Walks.{from_place}
use Rattle.ft_tree_blocks.proofs.Walks.{live_value, stands}
use Rattle.ft_changes.specs.ShownRuns.{place_of_insertion, shown_in_run}
use Rattle.ft_tree_changes.proofs.FoundFronts.{read_value}
use Rattle.ft_tree_changes.proofs.LeafParts.{len-alike, place-most, run-ends, run-past}
use Rattle.ft_tree_changes.proofs.LeafWalks.{held_from}
use Rattle.ft_tree_changes.proofs.WalkedRuns.{insertion-behind}

none-left : {A U : Type 0} (past shown : A → Bool) (f : U → A) (us : List U) (back : List A) → length us ≡ 0
    → shown_in_run past shown (map f us ++ back) ≡ shown_in_run past shown back
none-left past shown f [] back h = refl
none-left past shown f (u ∷ us) back h = absurd (omega (arith, h))

-- an insertion at the p-th seen element, which n elements stand up to
pub insertion-at : {A : Type 0} (seen past shown : A → Bool) (p n : ℕ) (xs : List A) → place seen p xs ≡ n
    → place_of_insertion seen past shown p xs ≡ len shown (take n xs) + shown_in_run past shown (drop n xs)
insertion-at seen past shown p n xs e =
    let whole = take-append-drop n xs in
    let long : length (take n xs) ≡ n = length-take-le n xs (omega (arith, place-most seen p xs, e)) in
    ap (place_of_insertion seen past shown p) (sym whole)
    ∙ insertion-behind seen shown past p (take n xs) (drop n xs) (ap (place seen p) whole ∙ e ∙ sym long)

-- and one at the head
pub insertion-first : {A : Type 0} (seen past shown : A → Bool) (p : ℕ) (xs : List A) → place seen p xs ≡ 0
    → place_of_insertion seen past shown p xs ≡ shown_in_run past shown xs
insertion-first seen past shown p xs e =
    let none : 0 + shown_in_run past shown xs ≡ shown_in_run past shown xs = omega arith in insertion-behind seen shown past p [] xs e ∙ none

module _ {C U : Type 0} (units : C → List U) (by : C → Option Stamp) (xs : List (ℕ × TreeLeaf C)) (once : (i : ℕ) → times_leaf xs i ≤ 1)
    (id : ℕ) (v : TreeLeaf C) (is : value_at xs id ≡ Some v) where
  abbrev before_it : List (TreeElement U)
  before_it = elements units by (left_of xs id)

  abbrev behind_it : List (TreeElement U)
  behind_it = held_from units by xs (after (ids xs) id)

  abbrev made_of : U → TreeElement U
  made_of = element_with v.stamps (by v.content) v.overlay

  cut-at : elements units by xs ≡ before_it ++ (map made_of (units v.content) ++ behind_it)
  cut-at =
      ap (elements units by) (stands xs id v once is).whole
      ∙ elements-append units by (left_of xs id) ((id, v) ∷ from_place xs (after (ids xs) id))

  -- what stands up to k of its elements, and behind them
  module _ (k : ℕ) (fits : k ≤ length (units v.content)) where
    pub front-cut : take (length (elements units by (left_of xs id)) + k) (elements units by xs)
        ≡ elements units by (left_of xs id) ++ map (element_with v.stamps (by v.content) v.overlay) (take k (units v.content))
    front-cut =
        ap (take (length before_it + k)) cut-at
        ∙ take-append-add before_it (map made_of (units v.content) ++ behind_it) k
        ∙ ap (λ ys. before_it ++ ys) (take-append-le k (map made_of (units v.content)) behind_it
        (omega (arith, length-map (units v.content) made_of, fits)) ∙ take-map made_of k (units v.content))

    pub back-cut : drop (length (elements units by (left_of xs id)) + k) (elements units by xs)
        ≡ map (element_with v.stamps (by v.content) v.overlay) (drop k (units v.content)) ++ held_from units by xs (after (ids xs) id)
    back-cut =
        ap (drop (length before_it + k)) cut-at
        ∙ drop-append-add before_it (map made_of (units v.content) ++ behind_it) k
        ∙ drop-append-le k (map made_of (units v.content)) behind_it (omega (arith, length-map (units v.content) made_of, fits))
        ∙ ap (λ ys. ys ++ behind_it) (drop-map made_of k (units v.content))

module _ {C U : Type 0} (units : C → List U) (by : C → Option Stamp) (xs : List (ℕ × TreeLeaf C)) (once : (i : ℕ) → times_leaf xs i ≤ 1)
    (id : ℕ) (live : IsLeafIn xs id) (shown : LenView) (m k left : ℕ) (s : Bool) (e : Element)
    (counts : option_map (λ x. length (units x.content)) (value_at xs id) ≡ Some m)
    (shows : option_map (λ x. sees_in shown x.stamps) (value_at xs id) ≡ Some s)
    (stamps : option_map (λ x. x.stamps) (value_at xs id) ≡ Some e)
    (before : left ≡ len (seen_in {U = U} shown) (elements units by (left_of xs id))) (fits : k ≤ m) where
  abbrev there : (v : TreeLeaf C) × (value_at xs id ≡ Some v)
  there = live_value xs id live

  abbrev leaf : TreeLeaf C
  leaf = there.0

  abbrev f : U → TreeElement U
  f = element_with leaf.stamps (by leaf.content) leaf.overlay

  abbrev us : List U
  us = units leaf.content

  abbrev pub head : List (TreeElement U)
  head = elements units by (left_of xs id)

  abbrev rest : List (TreeElement U)
  rest = held_from units by xs (after (ids xs) id)

  count : length us ≡ m
  count = read_value (λ x. length (units x.content)) (value_at xs id) leaf m there.1 counts

  seen : sees_in shown leaf.stamps ≡ s
  seen = read_value (λ x. sees_in shown x.stamps) (value_at xs id) leaf s there.1 shows

  same : leaf.stamps ≡ e
  same = read_value (λ x. x.stamps) (value_at xs id) leaf e there.1 stamps

  front : take (length head + k) (elements units by xs) ≡ head ++ map f (take k us)
  front = front-cut units by xs once id leaf there.1 k (omega (arith, count, fits))

  back : drop (length head + k) (elements units by xs) ≡ map f (drop k us) ++ rest
  back = back-cut units by xs once id leaf there.1 k (omega (arith, count, fits))

  taken : length (take k us) ≡ k
  taken = length-take-le k us (omega (arith, count, fits))

  shown_front : len (seen_in shown) (take (length head + k) (elements units by xs)) ≡ left + cond s k 0
  shown_front =
      ap (len (seen_in shown)) front
      ∙ len-append (seen_in shown) head (map f (take k us))
      ∙ ap (λ n. n + len (seen_in shown) (map f (take k us))) (sym before)
      ∙ ap (λ n. left + n) (len-alike is_pending (seen_in shown) f s (λ u. seen) (take k us) ∙ ap (λ n. cond s n 0) taken)

  -- the run ends in the leaf
  pub front-alone : k < m → not (is_acked e.ins) ≡ false
      → left + cond s k 0
      ≡ len (seen_in shown) (take (length head + k) (elements units by xs)) + shown_in_run is_pending (seen_in shown)
      (drop (length head + k) (elements units by xs))
  front-alone less settled =
      let acked : not (is_acked leaf.stamps.ins) ≡ false = ap (λ (t : Element). not (is_acked t.ins)) same ∙ settled in
      omega (
        arith,
        shown_front,
        ap (shown_in_run is_pending (seen_in shown)) back,
        run-ends is_pending (seen_in shown) f (λ u. acked) (drop k us) rest (omega (arith, length-drop k us, count, less)),
      )

  -- the run goes on behind the leaf
  pub front-on : (k < m → not (is_acked e.ins) ≡ true) → (next : Option ℕ) → next ≡ after (ids xs) id
      → left + cond s m 0 + shown_in_run is_pending (seen_in shown) (held_from units by xs next)
      ≡ len (seen_in shown) (take (length head + k) (elements units by xs)) + shown_in_run is_pending (seen_in shown)
      (drop (length head + k) (elements units by xs))
  front-on pends next on =
      let onward = ap (λ o. shown_in_run is_pending (seen_in shown) (held_from units by xs o)) on in
      elim (cases_lt k m) [
        | inl less ↦
            let pending : not (is_acked leaf.stamps.ins) ≡ true = ap (λ (t : Element). not (is_acked t.ins)) same ∙ pends less in
            let ran = run-past is_pending (seen_in shown) f s (λ u. pending) (λ u. seen) (drop k us) rest in
            omega (arith, shown_front, ap (shown_in_run is_pending (seen_in shown)) back, ran, parts s (length-drop k us), onward)
        | inr all ↦
            let none : length (drop k us) ≡ 0 = omega (arith, length-drop k us, count, all) in
            let full : k ≡ m = omega (arith, all, fits) in
            omega (
              arith,
              shown_front,
              ap (shown_in_run is_pending (seen_in shown)) back,
              none-left is_pending (seen_in shown) f (drop k us) rest none,
              ap (λ n. cond s n 0) full,
              onward,
            )
      ]
    where
      parts : (b : Bool) → length (drop k us) ≡ length us - k → cond b m 0 ≡ cond b k 0 + cond b (length (drop k us)) 0
      parts true h = omega (arith, h, count, fits)
      parts false h = omega arith
