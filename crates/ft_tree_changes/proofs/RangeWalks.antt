-- How walks over the leaves of a range begin, and how they go over a leaf.
use Rattle.std.proofs.Common.{◌≡◌, ℕ, ◌+◌, ◌-◌, ◌<◌, ◌≤◌, Bool, true, false, refl, cond, ◌&&◌, not, List, [], ◌∷◌, length, Option, Some, None, sym, ◌∙◌, ap, arith, subst, length-append}
use Rattle.std.specs.Option.{option_map}
use Rattle.ft_arena.specs.Ids.{after}
use Rattle.ft_base.specs.declared.stamps.Stamp.{Stamp}
use Rattle.ft_base.specs.Scan.{len, one_more_if, within}
use Rattle.ft_block.specs.declared.blocks.Found.{Found}
use Rattle.ft_block.specs.declared.leaves.LenView.{LenView}
use Rattle.ft_block.specs.Leaves.{IsLeafIn, ids, left_of, length_by, place_by, sees_in, times_leaf, value_at}
use Rattle.ft_props.specs.declared.properties.Changes.{Changes}
use Rattle.ft_props.specs.Overlay.{OverlayState, after_pending_changes, shown_of}
use Rattle.ft_props.specs.Properties.{PropertyList, change}
use Rattle.ft_props.proofs.PendingStages.{shown_props-append}
use Rattle.ft_sumdoc.specs.WellFormed.{same_props}
use Rattle.ft_marks.proofs.SameStamps.{same_props-Decides}
use Rattle.ft_tree_leaves.specs.declared.leaves.TreeLeaf.{TreeLeaf}
use Rattle.ft_tree_leaves.specs.Elements.{TreeElement, element_with, seen_in, with_overlay}
use Rattle.ft_tree_leaves.specs.LeafLists.{elements, leaf_elements, leaf_length}
use Rattle.ft_tree_leaves.proofs.LeafRuns.{length-leaf}
use Rattle.ft_tree_blocks.proofs.FoundLeaves.{len_elements}
use Rattle.ft_tree_blocks.proofs.Walks.{live_value}
use Rattle.ft_tree_steps.proofs.FoundPlaces.{elements-from}
use Rattle.ft_changes.specs.ShownRuns.{ChangedRun, GoneRun, changed_runs_from, with_changed_run}
use Rattle.ft_changes.proofs.RunsInOrder.{changed_places, gone_places, with_all_changed, with_all_gone}
use Rattle.ft_tree_changes.specs.declared.fronts.Front.{Front}
use Rattle.ft_tree_changes.specs.Fronts.{IsFront, both_length}
use Rattle.ft_tree_changes.specs.ShownOverlays.{shown_of_element}
use Rattle.ft_tree_changes.proofs.ChangedParts.{changed-leaf, with_part_changed}
use Rattle.ft_tree_changes.proofs.FoundFronts.{found_front, read_value}
use Rattle.ft_tree_changes.proofs.LeafParts.{gone-leaf, with_some_behind}
use Rattle.ft_tree_changes.proofs.LeafWalks.{cut-whole, front-most, held_from}
use Rattle.ft_tree_changes.proofs.WalkedRuns.{changed-behind, gone-behind}

pub if-most : (b : Bool) (n : ℕ) → cond b n 0 ≤ n
if-most true n = omega arith
if-most false n = omega arith

if-both : (b s : Bool) (n : ℕ) → cond b (cond s n 0) 0 ≡ cond (b && s) n 0
if-both true s n = refl
if-both false s n = refl

-- two readings of a value, of which one decides whether the other counts
pub read_if : {A : Type 0} (test : A → Bool) (size : A → ℕ) (o : Option A) (b : Bool) (n : ℕ) → option_map test o ≡ Some b
    → option_map size o ≡ Some n
    → option_map (λ x. cond (test x) (size x) 0) o ≡ Some (cond b n 0)
read_if test size None b n e h = absurd cc
read_if test size (Some x) b n e h =
    let passes : test x ≡ b = (cc) in let count : size x ≡ n = (cc) in ap (λ t. Some (cond t (size x) 0)) passes ∙ ap (λ m. Some (cond b m 0)) count

module _ {C U : Type 0} (units : C → List U) (by : C → Option Stamp) (xs : List (ℕ × TreeLeaf C)) (once : (i : ℕ) → times_leaf xs i ≤ 1) where
  -- the leaf of the element behind p seen ones
  pub front-found : (view shown : LenView) (p : ℕ) (found : Found) (leaf seen shown_before : ℕ)
      → place_by (leaf_length units view) xs (p + 1) ≡ Some found
      → found.leaf ≡ Some leaf → seen ≡ p + 1 - found.offset → shown_before ≡ len (seen_in shown) (elements units by (left_of xs leaf))
      → IsFront units by xs view shown p (record { leaf = leaf; seen = seen; shown = shown_before })
  front-found view shown p found leaf seen shown_before e is counted before =
      let front = found_front (leaf_length units view) xs (p + 1) found once (omega arith) e in
      let itself : front.id ≡ leaf = some (sym front.is ∙ is) in
      let passed = ap (λ i. length_by (leaf_length units view) (left_of xs i)) itself in
      let held = len_elements units by view (left_of xs leaf) in
      record {
        live = subst (λ i. IsLeafIn xs i) itself front.live;
        seen = omega (arith, front.count, passed, held, counted);
        shown_before = before;
        few = omega (arith, front.count, front.some, counted);
      }
    where
      some : {m n : ℕ} → Some m ≡ Some n → m ≡ n
      some h = (cc)

  module _ (view shown : LenView) (p : ℕ) (front : Front) (is : IsFront units by xs view shown p front) where
    abbrev head : List (TreeElement U)
    head = elements units by (left_of xs front.leaf)

    abbrev back : List (TreeElement U)
    back = held_from units by xs (Some front.leaf)

    -- no more are counted before it than there are
    pub front-fits : (front.seen + length (held_from units by xs (Some front.leaf)) ≤ length (elements units by xs))
        × (front.shown + length (held_from units by xs (Some front.leaf)) ≤ length (elements units by xs))
    front-fits = (
      omega (arith, front-most units by xs (seen_in view) front.leaf, is.seen),
      omega (arith, front-most units by xs (seen_in shown) front.leaf, is.shown_before),
    )

    seen-before : 0 + len (seen_in view) head ≡ front.seen
    seen-before = omega (arith, is.seen)

    shown-before : 0 + len (seen_in shown) head ≡ front.shown
    shown-before = omega (arith, is.shown_before)

    -- nothing of a range stands before it
    pub gone-front : (q : ℕ) → gone_places front.seen front.shown (seen_in view) (seen_in shown) p q (held_from units by xs (Some front.leaf))
        ≡ gone_places 0 0 (seen_in view) (seen_in shown) p q (elements units by xs)
    gone-front q =
        sym (ap (gone_places 0 0 (seen_in view) (seen_in shown) p q) (sym (cut-whole units by xs front.leaf))
        ∙ gone-behind (seen_in view) (seen_in shown) p q 0 0 head back (omega (arith, is.few, is.seen))
        ∙ ap (λ m. gone_places m (0 + len (seen_in shown) head) (seen_in view) (seen_in shown) p q back) seen-before
        ∙ ap (λ j. gone_places front.seen j (seen_in view) (seen_in shown) p q back) shown-before)

    pub changed-front : (g : OverlayState → OverlayState) (q : ℕ)
        → changed_places same_props shown_of_element (with_overlay g) front.seen front.shown (seen_in view) (seen_in shown) p q
        (held_from units by xs (Some front.leaf))
        ≡ changed_places same_props shown_of_element (with_overlay g) 0 0 (seen_in view) (seen_in shown) p q (elements units by xs)
    changed-front g q =
        sym (ap (changed_places same_props shown_of_element (with_overlay g) 0 0 (seen_in view) (seen_in shown) p q)
        (sym (cut-whole units by xs front.leaf))
        ∙ changed-behind (seen_in view) (seen_in shown) same_props shown_of_element (with_overlay g) p q 0 0 head back
        (omega (arith, is.few, is.seen))
        ∙ ap (λ m. changed_places same_props shown_of_element (with_overlay g) m (0 + len (seen_in shown) head) (seen_in view)
        (seen_in shown) p q back) seen-before
        ∙ ap (λ j. changed_places same_props shown_of_element (with_overlay g) front.seen j (seen_in view) (seen_in shown) p q back) shown-before)

  module _ (id : ℕ) (live : IsLeafIn xs id) (next : Option ℕ) (on : next ≡ after (ids xs) id) (view shown : LenView) (seen shows both : ℕ)
      (sees : option_map (leaf_length units view) (value_at xs id) ≡ Some seen)
      (are_shown : option_map (leaf_length units shown) (value_at xs id) ≡ Some shows)
      (are_both : option_map (both_length units view shown) (value_at xs id) ≡ Some both) where
    abbrev there : (v : TreeLeaf C) × (value_at xs id ≡ Some v)
    there = live_value xs id live

    abbrev leaf : TreeLeaf C
    leaf = there.0

    abbrev f : U → TreeElement U
    f = element_with leaf.stamps (by leaf.content) leaf.overlay

    abbrev us : List U
    us = units leaf.content

    abbrev b : Bool
    b = sees_in view leaf.stamps

    abbrev s : Bool
    s = sees_in shown leaf.stamps

    rest : held_from units by xs (after (ids xs) id) ≡ held_from units by xs next
    rest = ap (held_from units by xs) (sym on)

    seen-is : cond b (length us) 0 ≡ seen
    seen-is = read_value (leaf_length units view) (value_at xs id) leaf seen there.1 sees

    shown-is : cond s (length us) 0 ≡ shows
    shown-is = read_value (leaf_length units shown) (value_at xs id) leaf shows there.1 are_shown

    both-if : cond b (cond s (length us) 0) 0 ≡ both
    both-if = read_value (both_length units view shown) (value_at xs id) leaf both there.1 are_both

    both-is : cond (b && s) (length us) 0 ≡ both
    both-is = sym (if-both b s (length us)) ∙ both-if

    -- the counts of a leaf are within it
    pub record CountsFit : Type 0 where
      pub seen_fit : seen + length (held_from units by xs next) ≤ length (held_from units by xs (Some id))
      pub shown_fit : shows + length (held_from units by xs next) ≤ length (held_from units by xs (Some id))
      pub both_fit : both ≤ shows

    pub counts-fit : CountsFit
    counts-fit =
        let whole = ap length (elements-from units by xs id leaf once there.1) in
        let sum = length-append (leaf_elements units by leaf) (held_from units by xs (after (ids xs) id)) in
        let size = length-leaf units by leaf in
        let behind = ap length rest in
        record {
          seen_fit = omega (arith, whole, sum, size, behind, seen-is, if-most b (length us));
          shown_fit = omega (arith, whole, sum, size, behind, shown-is, if-most s (length us));
          both_fit = omega (arith, both-if, shown-is, if-most b (cond s (length us) 0));
        }

    -- a walk that seeks what goes away goes over the leaf
    pub gone-on : (p q : ℕ) (runs : List GoneRun) (n i k c : ℕ)
        → k + c ≤ both → (0 < k → n + k ≤ p) → (0 < c → (p ≤ n + k) × (n + k + c ≤ q)) → (k + c < both → q ≤ n + k + c)
        → with_all_gone runs (gone_places n i (seen_in view) (seen_in shown) p q (held_from units by xs (Some id)))
        ≡ with_all_gone (with_some_behind runs (i + k) c) (gone_places (n + seen) (i + (shows - c)) (seen_in view) (seen_in shown) p q
        (held_from units by xs next))
    gone-on p q runs n i k c fits before inside behind =
        let places : ℕ → ℕ → List (TreeElement U) → List ℕ = λ m j es. gone_places m j (seen_in view) (seen_in shown) p q es in
        let runs_then = with_some_behind runs (i + k) c in
        ap (λ es. with_all_gone runs (places n i es)) (elements-from units by xs id leaf once there.1)
        ∙ gone-leaf (seen_in view) (seen_in shown) f p q b s (λ u. refl) (λ u. refl) runs n i k c us (held_from units by xs (after (ids xs) id))
        (subst (λ m. k + c ≤ m) (sym both-is) fits) before inside (subst (λ m. k + c < m → q ≤ n + k + c) (sym both-is) behind)
        ∙ ap (λ m. with_all_gone runs_then (places (n + m) (i + (cond s (length us) 0 - c)) (held_from units by xs (after (ids xs) id)))) seen-is
        ∙ ap (λ m. with_all_gone runs_then (places (n + seen) (i + (m - c)) (held_from units by xs (after (ids xs) id)))) shown-is
        ∙ ap (λ es. with_all_gone runs_then (places (n + seen) (i + (shows - c)) es)) rest

    -- and one that seeks what changes
    pub changed-on : (g : OverlayState → OverlayState) (o : OverlayState) → option_map (λ x. x.overlay) (value_at xs id) ≡ Some o
        → (p q : ℕ) (runs : List (ChangedRun PropertyList)) (n i k c : ℕ)
        → k + c ≤ both → (0 < k → n + k ≤ p) → (0 < c → (p ≤ n + k) × (n + k + c ≤ q)) → (k + c < both → q ≤ n + k + c)
        → with_all_changed same_props runs
        (changed_places same_props shown_of_element (with_overlay g) n i (seen_in view) (seen_in shown) p q (held_from units by xs (Some id)))
        ≡ with_all_changed same_props (with_part_changed same_props runs (i + k) c (shown_of o) (shown_of (g o)))
        (changed_places same_props shown_of_element (with_overlay g) (n + seen) (i + shows) (seen_in view) (seen_in shown) p q
        (held_from units by xs next))
    changed-on g o reads p q runs n i k c fits before inside behind =
        let is : leaf.overlay ≡ o = read_value (λ x. x.overlay) (value_at xs id) leaf o there.1 reads in
        let places : ℕ → ℕ → List (TreeElement U) → List (ℕ × PropertyList) =
        λ m j es. changed_places same_props shown_of_element (with_overlay g) m j (seen_in view) (seen_in shown) p q es in
        let runs_then = with_part_changed same_props runs (i + k) c (shown_of leaf.overlay) (shown_of (g leaf.overlay)) in
        ap (λ es. with_all_changed same_props runs (places n i es)) (elements-from units by xs id leaf once there.1)
        ∙ changed-leaf same_props (λ x. (same_props-Decides x x).1 refl) shown_of_element (with_overlay g) (seen_in view) (seen_in shown) f p q b s
        (shown_of leaf.overlay) (shown_of (g leaf.overlay)) (λ u. refl) (λ u. refl) (λ u. refl) (λ u. refl) runs n i k c us
        (held_from units by xs (after (ids xs) id))
        (subst (λ m. k + c ≤ m) (sym both-is) fits) before inside (subst (λ m. k + c < m → q ≤ n + k + c) (sym both-is) behind)
        ∙ ap (λ m. with_all_changed same_props runs_then (places (n + m) (i + cond s (length us) 0)
        (held_from units by xs (after (ids xs) id)))) seen-is
        ∙ ap (λ m. with_all_changed same_props runs_then (places (n + seen) (i + m) (held_from units by xs (after (ids xs) id)))) shown-is
        ∙ ap (λ es. with_all_changed same_props runs_then (places (n + seen) (i + shows) es)) rest
        ∙ ap (λ r. with_all_changed same_props (with_part_changed same_props runs (i + k) c (shown_of r) (shown_of (g r)))
        (places (n + seen) (i + shows) (held_from units by xs next))) is

-- ---- two changes of which the same is shown

pub changed_runs-alike : {A P : Type 0} (same : P → P → Bool) (props : A → P) (f g : A → A)
    → ((x : A) → props (f x) ≡ props (g x)) → (seen shown : A → Bool) (p q n i : ℕ) (es : List A)
    → changed_runs_from same props f n i seen shown p q es ≡ changed_runs_from same props g n i seen shown p q es
changed_runs-alike same props f g alike seen shown p q n i [] = refl
changed_runs-alike same props f g alike seen shown p q n i (x ∷ es) =
    let m = one_more_if (seen x) n in
    let j = one_more_if (shown x) i in
    ap (λ y. with_changed_run same (shown x && (seen x && within p q n) && not (same (props x) y)) i y
    (changed_runs_from same props f m j seen shown p q es)) (alike x)
    ∙ ap (with_changed_run same (shown x && (seen x && within p q n) && not (same (props x) (props (g x)))) i (props (g x)))
    (changed_runs-alike same props f g alike seen shown p q m j es)

-- what is shown with changes on top of all others, whatever their stage is
pub shown-on_top : (k : ℕ) (c : Changes) (o : OverlayState) → shown_of (after_pending_changes k c o) ≡ change (shown_of o) c
shown-on_top k c o = shown_props-append o.acked o.pending ((k, c) ∷ [])
