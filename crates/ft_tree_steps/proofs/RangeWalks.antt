-- How a walk from leaf to leaf changes the elements of a range.
use Rattle.std.proofs.Common.{◌≡◌, ℕ, zero, suc, ◌+◌, ◌-◌, ◌<◌, ◌≤◌, Bool, true, false, List, [], ◌∷◌, ◌++◌, map, take, drop, length, All, Option, Some, None, IsSomeAnd, subst, refl, sym, ◌∙◌, ap, arith, append-nil, append_assoc}
use Rattle.std.proofs.lemmas.List.{map-append}
use Rattle.std.proofs.Math.Seq.{drop-append-add, drop-append_seam, take-append-add, take-append_seam}
use Rattle.ft_arena.specs.Ids.{after}
use Rattle.ft_base.specs.declared.stamps.Stamp.{Stamp}
use Rattle.ft_base.specs.Scan.{change_range, len, place}
use Rattle.ft_block.specs.declared.leaves.LenView.{LenView}
use Rattle.ft_block.proofs.LeafListLemmas.{value_at_in}
use Rattle.ft_block.specs.Leaves.{IsLeafIn, change_leaf, ids, left_of, sees_in, times_leaf, value_at}
use Rattle.ft_props.specs.Overlay.{OverlayState}
use Rattle.ft_tree_leaves.specs.declared.leaves.TreeLeaf.{TreeLeaf}
use Rattle.ft_tree_leaves.specs.Elements.{TreeElement, seen_in}
use Rattle.ft_tree_leaves.specs.LeafChanges.{changed_in}
use Rattle.ft_tree_leaves.specs.LeafLists.{Extends, elements, leaf_elements}
use Rattle.ft_tree_steps.specs.LeafSteps.{Acts, CutsBehind, CutsSeen, GoesBehind, change_front, changed_behind}
use Rattle.ft_tree_blocks.specs.Skips.{Skips}
use Rattle.ft_tree_blocks.specs.Walks.{before_place, from_leaf, from_place, node_behind}
use Rattle.ft_tree_leaves.proofs.CutLeaves.{extends_same}
use Rattle.ft_tree_leaves.proofs.LeafRuns.{elements-append, elements-one, leaf_seen, leaf_unseen, length-leaf, place-passes}
use Rattle.ft_tree_leaves.proofs.RangeLeaves.{front_all, leaf_changed, leaf_overlay}
use Rattle.ft_tree_leaves.proofs.RangeSplits.{change_range-split, where_seen}
use Rattle.ft_tree_leaves.proofs.Standing.{left-split, value-split}
use Rattle.ft_tree_blocks.proofs.Walks.{Stands, before-from, stands, up_to-before}
use Rattle.ft_tree_blocks.proofs.WalkEdits.{Changed, changed, from_split, ids-change}
use Rattle.ft_tree_steps.proofs.CutPlaces.{SplitsHere, stands_live}

module _ {A : Type 0} (seen : A → Bool) (f : A → A) where
  -- nothing is changed where there is none
  pub front_nil : (n : ℕ) → change_front seen f n [] ≡ []
  front_nil zero = refl
  front_nil (suc n) = refl

  -- elements that all are passed
  front_past : (n m : ℕ) (xs ys : List A) → place seen n (xs ++ ys) ≡ length xs + place seen m ys
      → change_front seen f n (xs ++ ys) ≡ map (where_seen seen f) xs ++ change_front seen f m ys
  front_past n m xs ys e =
      let k = place seen m ys in
      let w = where_seen seen f in
      ap (λ i. map w (take i (xs ++ ys)) ++ drop i (xs ++ ys)) e
      ∙ ap (λ zs. map w zs ++ drop (length xs + k) (xs ++ ys)) (take-append-add xs ys k)
      ∙ ap (λ zs. map w (xs ++ take k ys) ++ zs) (drop-append-add xs ys k)
      ∙ ap (λ zs. zs ++ drop k ys) (map-append w xs (take k ys))
      ∙ append_assoc (map w xs) (map w (take k ys)) (drop k ys)

  -- elements that aren't seen are passed as they are
  place-unseen : (n : ℕ) (es ys : List A) → len seen es ≡ 0 → place seen (suc n) (es ++ ys) ≡ length es + place seen (suc n) ys
  place-unseen n [] ys h = omega arith
  place-unseen n (x ∷ es) ys h = grind (arith, place-unseen n es ys)

  map-unseen : (es : List A) → len seen es ≡ 0 → map (where_seen seen f) es ≡ es
  map-unseen [] h = refl
  map-unseen (x ∷ es) h = grind (arith, map-unseen es)

  front_unseen : (n : ℕ) (es ys : List A) → len seen es ≡ 0 → change_front seen f n (es ++ ys) ≡ es ++ change_front seen f n ys
  front_unseen zero es ys h = refl
  front_unseen (suc n) es ys h =
      front_past (suc n) (suc n) es ys (place-unseen n es ys h) ∙ ap (λ zs. zs ++ change_front seen f (suc n) ys) (map-unseen es h)

module _ {C U : Type 0} (units : C → List U) (by : C → Option Stamp) where
  -- a leaf of which the view sees no more than that needs no cut
  pub cuts_seen_whole : (view : LenView) (left n : ℕ) (xs : List (ℕ × TreeLeaf C)) (id : ℕ) (v : TreeLeaf C) → value_at xs id ≡ Some v
      → n ≡ len (seen_in view) (leaf_elements units by v) → n ≤ left → CutsSeen units by (seen_in view) left n xs xs id
  cuts_seen_whole view left n xs id v e count few =
      record { value = v; is = e; count = count; few = few; before = refl; behind = refl; nodes = extends_same (ids xs) }

  seen_front : (b : Bool) (view : LenView) (v w : TreeLeaf C) (left : ℕ) → sees_in view v.stamps ≡ b → w.stamps ≡ v.stamps → length (units w.content) ≡ left
      → left < len (seen_in view) (leaf_elements units by v) → left ≡ len (seen_in view) (leaf_elements units by w)
  seen_front true view v w left h same count less =
      omega (arith, count, leaf_seen units by view w (ap (sees_in view) same ∙ h))
  seen_front false view v w left h same count less = absurd (omega (arith, leaf_unseen units by view v h))

  -- another is cut there
  pub cuts_seen_split : (view : LenView) (left : ℕ) (xs now : List (ℕ × TreeLeaf C)) (id new : ℕ) (v front : TreeLeaf C)
      → left < len (seen_in view) (leaf_elements units by v) → front.stamps ≡ v.stamps → SplitsHere units by left xs now id new front
      → CutsSeen units by (seen_in view) left left xs now id
  cuts_seen_split view left xs now id new v front less same s = record {
    value = front;
    is = ap (λ zs. value_at zs id) s.whole ∙ value-split id front s.rest (left_of xs id) s.apart;
    count = seen_front (sees_in view v.stamps) view v front left refl same s.count less;
    few = omega arith;
    before = ap (elements units by) (ap (λ zs. left_of zs id) s.whole ∙ left-split id front s.rest (left_of xs id) s.apart);
    behind = ap (elements units by) (ap (λ zs. from_leaf zs id) s.whole ∙ from_split id front s.rest (left_of xs id) s.apart) ∙ s.list;
    nodes = s.nodes;
  }

  -- what is read of the leaf after the cut
  module _ (view : LenView) (left n : ℕ) (xs mid : List (ℕ × TreeLeaf C)) (id : ℕ) where
    pub cut_live : CutsSeen units by (seen_in view) left n xs mid id → IsLeafIn mid id
    cut_live cut = value_at_in mid id (λ (v : TreeLeaf C). ℕ) (subst (λ (o : Option (TreeLeaf C)). IsSomeAnd o (λ v. ℕ)) (sym cut.is) 0)

    pub cut_value : (cut : CutsSeen units by (seen_in view) left n xs mid id) (v : TreeLeaf C) (k : ℕ) → value_at mid id ≡ Some v → k ≡ length (units v.content)
        → 1 ≤ k → 1 ≤ length (units cut.value.content)
    cut_value cut v k e count some =
        let both : Some cut.value ≡ Some v = sym cut.is ∙ e in
        let same : cut.value ≡ v = (cc) in
        omega (arith, count, some, ap (λ (w : TreeLeaf C). length (units w.content)) same)

    pub cut_may : ((i : ℕ) → times_leaf mid i ≤ 1) → (cut : CutsSeen units by (seen_in view) left n xs mid id) (P : OverlayState → Type 0)
        → 1 ≤ length (units cut.value.content) → All (λ e. P e.overlay) (elements units by (from_leaf xs id)) → IsSomeAnd (value_at mid id) (λ v. P v.overlay)
    cut_may once cut P some h =
        let s = stands mid id cut.value once cut.is in
        let rest = elements units by (from_place mid (after (ids mid) id)) in
        let whole : elements units by (from_leaf xs id) ≡ leaf_elements units by cut.value ++ rest = sym cut.behind ∙ ap (elements units by) s.from in
        subst (λ (o : Option (TreeLeaf C)). IsSomeAnd o (λ v. P v.overlay)) (sym cut.is)
        (leaf_overlay units by P cut.value some
        (front_all units by (λ (e : TreeElement U). P e.overlay) (leaf_elements units by cut.value) rest (subst (λ es. All (λ (e : TreeElement U). P e.overlay) es) whole h)))

  -- the leaf that the walk stands at is changed, and it goes on
  module _ (view : LenView) (g : TreeLeaf C → TreeLeaf C) (left n : ℕ) (xs mid now : List (ℕ × TreeLeaf C)) (id : ℕ)
      (once : (i : ℕ) → times_leaf mid i ≤ 1) (some : 1 ≤ left) (cut : CutsSeen units by (seen_in view) left n xs mid id)
      (is_now : now ≡ change_leaf (changed_in view g) mid id) where
    there : Stands mid id cut.value
    there = stands mid id cut.value once cut.is

    after_now : after (ids now) id ≡ after (ids mid) id
    after_now = ap (λ zs. after (ids zs) id) is_now ∙ ap (λ us. after us id) (ids-change (changed_in view g) mid id)

    made : Changed mid now id (changed_in view g cut.value)
    made = subst (λ zs. Changed mid zs id (changed_in view g cut.value)) (sym is_now) (changed (changed_in view g) mid id cut.value once there)

    rest_now : from_place now (after (ids now) id) ≡ from_place mid (after (ids mid) id)
    rest_now = ap (from_place now) after_now ∙ made.behind

    whole_there : leaf_elements units by cut.value ++ elements units by (from_place mid (after (ids mid) id)) ≡ elements units by (from_leaf xs id)
    whole_there = ap (elements units by) (sym there.from) ∙ cut.behind

    pub edits_first : (f : TreeElement U → TreeElement U) → Acts units by g f
        → changed_behind units by (seen_in view) f now (after (ids now) id) (left - n) ≡ changed_behind units by (seen_in view) f xs (Some id) left
    edits_first f acts =
        let seen = seen_in {U = U} view in
        let w = cut.value in
        let es = leaf_elements units by w in
        let rs = elements units by (from_place mid (after (ids mid) id)) in
        let head = elements units by (left_of xs id) in
        let front : elements units by (before_place now (after (ids now) id)) ≡ head ++ map (where_seen seen f) es =
        ap (λ o. elements units by (before_place now o)) after_now ∙ ap (elements units by) made.before
        ∙ elements-append units by (left_of mid id) ((id, changed_in view g w) ∷ [])
        ∙ ap (λ zs. zs ++ elements units by ((id, changed_in view g w) ∷ [])) cut.before
        ∙ ap (λ zs. head ++ zs) (elements-one units by (id, changed_in view g w) ∙ leaf_changed units by g f acts view w) in
        let passed : change_front seen f left (es ++ rs) ≡ map (where_seen seen f) es ++ change_front seen f (left - n) rs =
        front_past seen f left (left - n) es rs
        (place-passes units by view w rs left (omega arith) (omega (arith, cut.count, cut.few)) ∙ ap (λ k. length es + place seen (left - k) rs) (sym cut.count)) in
        ap (λ zs. zs ++ change_front seen f (left - n) (elements units by (from_place now (after (ids now) id)))) front
        ∙ ap (λ zs. (head ++ map (where_seen seen f) es) ++ change_front seen f (left - n) (elements units by zs)) rest_now
        ∙ append_assoc head (map (where_seen seen f) es) (change_front seen f (left - n) rs)
        ∙ ap (λ zs. head ++ zs) (sym passed ∙ ap (change_front seen f left) whole_there)

    pub goes_behind : 1 ≤ length (units cut.value.content) → GoesBehind units by xs now id
    goes_behind filled = record {
      es = leaf_elements units by cut.value;
      some = omega (arith, filled, length-leaf units by cut.value);
      whole = ap (λ zs. leaf_elements units by cut.value ++ elements units by zs) rest_now ∙ whole_there;
      live = stands_live units by now (left_of mid id) (from_place mid (after (ids mid) id)) id (changed_in view g cut.value) made.whole;
      nodes = subst (Extends (ids xs)) (sym (ap ids is_now ∙ ids-change (changed_in view g) mid id)) cut.nodes;
    }

  -- the walk is at its end
  pub changed_none : (seen : TreeElement U → Bool) (f : TreeElement U → TreeElement U) (xs : List (ℕ × TreeLeaf C)) (n : ℕ)
      → changed_behind units by seen f xs None n ≡ elements units by xs
  changed_none seen f xs n = ap (λ zs. elements units by xs ++ zs) (front_nil seen f n) ∙ append-nil (elements units by xs)

  -- or all that was to be changed is
  pub changed_zero : (seen : TreeElement U → Bool) (f : TreeElement U → TreeElement U) (xs : List (ℕ × TreeLeaf C)) (at : Option ℕ)
      → changed_behind units by seen f xs at 0 ≡ elements units by xs
  changed_zero seen f xs at =
      sym (elements-append units by (before_place xs at) (from_place xs at)) ∙ ap (elements units by) (before-from xs at)

  -- a walk from a place where a leaf ends changes a range
  pub changes_behind : (seen : TreeElement U → Bool) (f : TreeElement U → TreeElement U) (p q n : ℕ) (old mid : List (ℕ × TreeLeaf C)) (at : Option ℕ)
      → ((i : ℕ) → times_leaf mid i ≤ 1) → p ≤ q → n ≡ place seen p (elements units by old) → CutsBehind units by n old mid at
      → changed_behind units by seen f mid (node_behind mid at) (q - p) ≡ change_range seen p q f (elements units by old)
  changes_behind seen f p q n old mid at once order e c =
      let xs = elements units by old in
      let front = elements units by (before_place mid (node_behind mid at)) in
      let rest = elements units by (from_place mid (node_behind mid at)) in
      let split : front ++ rest ≡ xs =
      sym (elements-append units by (before_place mid (node_behind mid at)) (from_place mid (node_behind mid at)))
      ∙ ap (elements units by) (before-from mid (node_behind mid at)) ∙ c.list in
      let count : length front ≡ place seen p xs = ap (λ zs. length (elements units by zs)) (sym (up_to-before mid at once c.live)) ∙ c.place ∙ e in
      let head : take (place seen p xs) xs ≡ front =
      ap (λ k. take k xs) (sym count) ∙ ap (take (length front)) (sym split) ∙ take-append_seam front rest in
      let tail : drop (place seen p xs) xs ≡ rest =
      ap (λ k. drop k xs) (sym count) ∙ ap (drop (length front)) (sym split) ∙ drop-append_seam front rest in
      ap (λ zs. zs ++ change_front seen f (q - p) rest) (sym head)
      ∙ ap (λ zs. take (place seen p xs) xs ++ change_front seen f (q - p) zs) (sym tail)
      ∙ sym (change_range-split seen p q f order xs)

  -- where the walk goes on from the next leaf that is seen, the rest of the change is the same
  pub changed_skips : (seen : TreeElement U → Bool) (f : TreeElement U → TreeElement U) (xs : List (ℕ × TreeLeaf C)) (from to : Option ℕ) (n : ℕ)
      → Skips units by seen xs from to → changed_behind units by seen f xs to n ≡ changed_behind units by seen f xs from n
  changed_skips seen f xs from to n s =
      let front = elements units by (before_place xs from) in
      let rest = elements units by (from_place xs to) in
      ap (λ zs. zs ++ change_front seen f n rest) s.before
      ∙ append_assoc front s.es (change_front seen f n rest)
      ∙ ap (λ zs. front ++ zs) (sym (front_unseen seen f n s.es rest s.none))
      ∙ ap (λ zs. front ++ change_front seen f n zs) (sym s.rest)
