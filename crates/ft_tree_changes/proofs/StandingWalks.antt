-- How walks to both sides of a place, and over a range, look for what stands, leaf by leaf.
use Rattle.std.proofs.Common.{◌≡◌, ℕ, ◌+◌, ◌<◌, ◌≤◌, Bool, true, false, All, cond, not, ◌||◌, List, [], ◌∷◌, ◌++◌, Option, Some, drop, length, map, nat_eq, reverse, take, refl, sym, ◌∙◌, ap, arith, subst, length-append}
use Rattle.std.specs.List.{list_any}
use Rattle.std.specs.Option.{option_map}
use Rattle.std.proofs.Math.Seq.{take-append_seam}
use Rattle.std.proofs.lemmas.Bool.{and_parts}
use Rattle.std.proofs.lemmas.List.{drop_all, length-drop, length-take-le}
use Rattle.std.proofs.lemmas.List.Elements.{All-head, All-tail}
use Rattle.ft_arena.specs.Ids.{after}
use Rattle.ft_base.specs.declared.elements.Element.{Element}
use Rattle.ft_base.specs.declared.stamps.Stamp.{Stamp}
use Rattle.ft_base.specs.Scan.{len, place}
use Rattle.ft_base.specs.Visibility.{is_acked}
use Rattle.ft_block.specs.declared.blocks.Found.{Found}
use Rattle.ft_block.specs.declared.leaves.LenView.{LenView}
use Rattle.ft_block.specs.declared.leaves.LenView.TheVariants.{All as AllElements}
use Rattle.ft_block.specs.Leaves.{IsLeafIn, ids, left_of, place_by, sees_in, times_leaf, value_at}
use Rattle.ft_tree_leaves.specs.declared.leaves.TreeLeaf.{TreeLeaf}
use Rattle.ft_tree_leaves.specs.Elements.{TreeElement, element_with, is_pending, seen_in}
use Rattle.ft_tree_leaves.specs.LeafLists.{elements, leaf_elements, leaf_length}
use Rattle.ft_tree_leaves.proofs.LeafRuns.{length-leaf}
use Rattle.ft_tree_blocks.proofs.Walks.{live_value}
use Rattle.ft_tree_steps.specs.LeafSteps.{IsInLeaf, held_place}
use Rattle.ft_tree_steps.proofs.FoundPlaces.{elements-from, found_at, held_here}
use Rattle.ft_changes.specs.Beside.{first_passes, passes_beside_place, passes_beside_range}
use Rattle.ft_changes.specs.ShownRuns.{place_of_insertion, shown_in_run}
use Rattle.ft_tree_changes.specs.declared.fronts.Front.{Front}
use Rattle.ft_tree_changes.specs.Fronts.{IsFront}
use Rattle.ft_tree_changes.specs.StandingElements.{IsFreePlace, is_always_seen, is_standing, pass_from_front, stamps_always_seen, stamps_stand}
use Rattle.ft_tree_changes.proofs.FoundFronts.{read_value}
use Rattle.ft_tree_changes.proofs.HeldFronts.{back-cut, front-cut, insertion-at}
use Rattle.ft_tree_changes.proofs.LeafParts.{place-most, run-ends}
use Rattle.ft_tree_changes.proofs.LeafWalks.{cut-whole, held_from}
use Rattle.ft_tree_changes.proofs.PassedSides.{allowed, beside-place, first-here, first-past, first-reversed, from-leaf, last-append, last-here, last-past, last_passes, len-all, pass-before, place-all}

-- ---- stamps

any-of : {A : Type 0} (test : A → Bool) (xs : List A) → not (list_any (λ (x : A). true) xs) ≡ true → not (list_any test xs) ≡ true
any-of test [] h = refl
any-of test (x ∷ xs) h = (cc)

-- what is always seen stands, and is sequenced
pub seen-stands : (e : Element) → stamps_always_seen e ≡ true → (stamps_stand e ≡ true) × (not (is_acked e.ins) ≡ false)
seen-stands e h =
    let parts = and_parts (is_acked e.ins) (not (list_any (λ (t : Stamp). true) e.dels)) h in
    (any-of is_acked e.dels parts.1, ap not parts.0)

-- ---- the place of an insertion

pub free-place : {U : Type 0} (seen : TreeElement U → Bool) (p n : ℕ) (xs : List (TreeElement U)) → place seen p xs ≡ n → IsFreePlace n xs
    → passes_beside_place seen is_pending is_standing is_always_seen p xs ≡ true
free-place seen p n xs e free =
    let long : length (take n xs) ≡ n = length-take-le n xs (omega (arith, place-most seen p xs, e)) in
    let here : place_of_insertion seen is_pending (seen_in AllElements) p xs ≡ n =
    omega (arith, insertion-at seen is_pending (seen_in AllElements) p n xs e, len-all (take n xs), long, free.no_run) in
    beside-place seen is_pending is_standing is_always_seen p n xs here free.before free.behind

-- ---- a leaf

read-by : {A : Type 0} (P : A → Type 0) (b : Bool) (w v : A) (o : Option A) → cond b (Some w) o ≡ Some v → P w → (o ≡ Some v → P v) → P v
read-by P true w v o e here later = let same : w ≡ v = (cc) in subst P same here
read-by P false w v o e here later = later e

some-units : {C U : Type 0} (units : C → List U) (xs : List (ℕ × TreeLeaf C)) (id : ℕ) (v : TreeLeaf C)
    → All (λ x. 1 ≤ length (units x.1.content)) xs → value_at xs id ≡ Some v → 1 ≤ length (units v.content)
some-units units [] id v all is = (cc)
some-units {C} units (x ∷ xs) id v all is =
    read-by (λ (w : TreeLeaf C). 1 ≤ length (units w.content)) (nat_eq x.0 id) x.1 v (value_at xs id) is
    (All-head (λ (y : ℕ × TreeLeaf C). 1 ≤ length (units y.1.content)) x xs all)
    (some-units units xs id v (All-tail (λ (y : ℕ × TreeLeaf C). 1 ≤ length (units y.1.content)) x xs all))

module _ {C U : Type 0} (units : C → List U) (by : C → Option Stamp) (xs : List (ℕ × TreeLeaf C)) (once : (i : ℕ) → times_leaf xs i ≤ 1) where
  abbrev all : List (TreeElement U)
  all = elements units by xs

  abbrev passes : List (TreeElement U) → Bool
  passes ys = first_passes is_standing is_always_seen ys

  abbrev head_of : ℕ → List (TreeElement U)
  head_of id = elements units by (left_of xs id)

  -- the elements before a leaf
  front-whole : (id : ℕ) → take (length (elements units by (left_of xs id))) (elements units by xs) ≡ elements units by (left_of xs id)
  front-whole id =
      ap (take (length (head_of id))) (sym (cut-whole units by xs id)) ∙ take-append_seam (head_of id) (held_from units by xs (Some id))

  -- so many elements of a leaf are within all
  pub within-all : (id : ℕ) → IsLeafIn xs id → (k : ℕ) → IsInLeaf units xs (Some id) k
      → length (elements units by (left_of xs id)) + k ≤ length (elements units by xs)
  within-all id live k held =
      let v = live_value xs id live in
      omega (
        arith,
        ap length (cut-whole units by xs id),
        length-append (head_of id) (held_from units by xs (Some id)),
        ap length (elements-from units by xs id v.0 once v.1),
        length-append (leaf_elements units by v.0) (held_from units by xs (after (ids xs) id)),
        length-leaf units by v.0,
        (held_here units by xs id k v.0 held v.1).1,
      )

  -- behind a leaf
  pub behind-leaf : (id : ℕ) → IsLeafIn xs id → (k : ℕ) → IsInLeaf units xs (Some id) k → (len : ℕ)
      → option_map (λ x. length (units x.content)) (value_at xs id) ≡ Some len → len ≤ k → (next : Option ℕ) → next ≡ after (ids xs) id
      → drop (held_place units by xs (Some id) k) (elements units by xs) ≡ held_from units by xs next
  behind-leaf id live k held len counts full next on =
      let v = live_value xs id live in
      let count = read_value (λ x. length (units x.content)) (value_at xs id) v.0 len v.1 counts in
      back-cut units by xs once id v.0 v.1 k (held_here units by xs id k v.0 held v.1).1
      ∙ ap (λ vs. map (element_with v.0.stamps (by v.0.content) v.0.overlay) vs ++ held_from units by xs (after (ids xs) id))
      (drop_all k (units v.0.content) (omega (arith, count, full)))
      ∙ ap (held_from units by xs) (sym on)

  module _ (id : ℕ) (live : IsLeafIn xs id) (e : Element) (stamps : option_map (λ x. x.stamps) (value_at xs id) ≡ Some e) where
    abbrev there : (v : TreeLeaf C) × (value_at xs id ≡ Some v)
    there = live_value xs id live

    abbrev leaf : TreeLeaf C
    leaf = there.0

    abbrev f : U → TreeElement U
    f = element_with leaf.stamps (by leaf.content) leaf.overlay

    abbrev us : List U
    us = units leaf.content

    abbrev rest : List (TreeElement U)
    rest = held_from units by xs (after (ids xs) id)

    same : leaf.stamps ≡ e
    same = read_value (λ x. x.stamps) (value_at xs id) leaf e there.1 stamps

    stand : (b : Bool) → stamps_stand e ≡ b → (u : U) → is_standing (f u) ≡ b
    stand b h u = ap stamps_stand same ∙ h

    seen : (u : U) → is_always_seen (f u) ≡ stamps_always_seen e
    seen u = ap stamps_always_seen same

    -- from a leaf on, which doesn't stand
    pub passes-on : (next : Option ℕ) → next ≡ after (ids xs) id → stamps_stand e ≡ false
        → first_passes is_standing is_always_seen (held_from units by xs (Some id))
        ≡ first_passes is_standing is_always_seen (held_from units by xs next)
    passes-on next on gone =
        ap passes (elements-from units by xs id leaf once there.1)
        ∙ first-past is_standing is_always_seen f (stand false gone) us rest
        ∙ ap (λ o. passes (held_from units by xs o)) (sym on)

    -- from one on that stands
    pub passes-at : All (λ x. 1 ≤ length (units x.1.content)) xs → stamps_stand e ≡ true
        → first_passes is_standing is_always_seen (held_from units by xs (Some id)) ≡ stamps_always_seen e
    passes-at some stands =
        ap passes (elements-from units by xs id leaf once there.1)
        ∙ first-here is_standing is_always_seen f (stamps_always_seen e) (stand true stands) seen us rest (some-units units xs id leaf some there.1)

    -- no run of pending elements begins at one that is sequenced
    pub no-run-at : All (λ x. 1 ≤ length (units x.1.content)) xs → not (is_acked e.ins) ≡ false
        → shown_in_run is_pending (seen_in AllElements) (held_from units by xs (Some id)) ≡ 0
    no-run-at some acked =
        let here : not (is_acked leaf.stamps.ins) ≡ false = ap (λ (t : Element). not (is_acked t.ins)) same ∙ acked in
        ap (shown_in_run is_pending (seen_in AllElements)) (elements-from units by xs id leaf once there.1)
        ∙ run-ends is_pending (seen_in AllElements) f (λ u. here) us rest (some-units units xs id leaf some there.1)

    -- a walk over a range goes over it, of which k elements are before the range and c in it
    pub front-on : (next : Option ℕ) → next ≡ after (ids xs) id → (len : ℕ)
        → option_map (λ x. length (units x.content)) (value_at xs id) ≡ Some len → 1 ≤ len
        → (view : LenView) (b : Bool) → option_map (λ x. sees_in view x.stamps) (value_at xs id) ≡ Some b
        → (p q n k c : ℕ) → k + c ≤ cond b len 0 → (0 < c → (p ≤ n + k) × (n + k + c ≤ q))
        → not (stamps_stand e) || (nat_eq c len || stamps_always_seen e) ≡ true
        → pass_from_front (seen_in view) p q (n + cond b len 0) (held_from units by xs next) ≡ true
        → pass_from_front (seen_in view) p q n (held_from units by xs (Some id)) ≡ true
    front-on next on len counts some view b sees p q n k c fits within_it may h =
        let count = read_value (λ x. length (units x.content)) (value_at xs id) leaf len there.1 counts in
        let viewed : sees_in view leaf.stamps ≡ b = read_value (λ x. sees_in view x.stamps) (value_at xs id) leaf b there.1 sees in
        let onward = ap (λ m. pass_from_front (seen_in view) p q (n + cond b m 0) rest) count
        ∙ ap (λ o. pass_from_front (seen_in view) p q (n + cond b len 0) (held_from units by xs o)) (sym on) ∙ h in
        subst (λ ys. pass_from_front (seen_in view) p q n ys ≡ true) (sym (elements-from units by xs id leaf once there.1))
        (from-leaf (seen_in view) is_standing is_always_seen f p q b (stamps_stand e) (stamps_always_seen e) (λ u. viewed)
        (stand (stamps_stand e) refl) seen n us rest
        (λ j l m. allowed (stamps_stand e) b (stamps_always_seen e) p q n len k c j may some fits within_it l
        (subst (λ d. j < n + d) count m)) onward)

    -- at so many of its elements
    module _ (k : ℕ) (held : IsInLeaf units xs (Some id) k) where
      inside : (1 ≤ k) × (k ≤ length us)
      inside = held_here units by xs id k leaf held there.1

      taken : length (take k us) ≡ k
      taken = length-take-le k us inside.1

      up_to-by : (t : Bool)
          → last_passes is_standing is_always_seen (last_passes is_standing is_always_seen true (head_of id)) (map f (take k us)) ≡ t
          → passes (reverse (take (length (head_of id) + k) all)) ≡ t
      up_to-by t h =
          ap (λ ys. passes (reverse ys)) (front-cut units by xs once id leaf there.1 k inside.1)
          ∙ first-reversed is_standing is_always_seen (head_of id ++ map f (take k us))
          ∙ last-append is_standing is_always_seen true (head_of id) (map f (take k us)) ∙ h

      pub up_to-at : stamps_stand e ≡ true
          → first_passes is_standing is_always_seen (reverse (take (length (elements units by (left_of xs id)) + k) (elements units by xs)))
          ≡ stamps_always_seen e
      up_to-at stands =
          up_to-by (stamps_always_seen e)
          (last-here is_standing is_always_seen f (stamps_always_seen e) (stand true stands) seen
          (last_passes is_standing is_always_seen true (head_of id)) (take k us) (omega (arith, taken, inside.0)))

      pub up_to-on : stamps_stand e ≡ false
          → first_passes is_standing is_always_seen (reverse (take (length (elements units by (left_of xs id)) + k) (elements units by xs)))
          ≡ first_passes is_standing is_always_seen (reverse (take (length (elements units by (left_of xs id))) (elements units by xs)))
      up_to-on gone =
          let before = last_passes is_standing is_always_seen true (head_of id) in
          up_to-by before (last-past is_standing is_always_seen f (stand false gone) before (take k us))
          ∙ sym (first-reversed is_standing is_always_seen (head_of id)) ∙ ap (λ ys. passes (reverse ys)) (sym (front-whole id))

      module _ (len : ℕ) (counts : option_map (λ x. length (units x.content)) (value_at xs id) ≡ Some len) where
        count : length us ≡ len
        count = read_value (λ x. length (units x.content)) (value_at xs id) leaf len there.1 counts

        -- within it
        pub free-inside : k < len → stamps_always_seen e ≡ true → IsFreePlace (held_place units by xs (Some id) k) (elements units by xs)
        free-inside less always =
            let is = seen-stands e always in
            let back = back-cut units by xs once id leaf there.1 k inside.1 in
            let more : 0 < length (drop k us) = omega (arith, length-drop k us, count, less) in
            let acked : not (is_acked leaf.stamps.ins) ≡ false = ap (λ (t : Element). not (is_acked t.ins)) same ∙ is.1 in
            record {
              no_run = ap (shown_in_run is_pending (seen_in AllElements)) back
                  ∙ run-ends is_pending (seen_in AllElements) f (λ u. acked) (drop k us) rest more;
              before = up_to-at is.0 ∙ always;
              behind = ap passes back
                  ∙ first-here is_standing is_always_seen f (stamps_always_seen e) (stand true is.0) seen (drop k us) rest more ∙ always;
            }

  -- ---- a place that was found among all

  pub record FoundBefore (left : ℕ) (found : Found) : Type 0 where
    pub held : IsInLeaf units xs found.leaf found.offset
    pub place : left ≡ held_place units by xs found.leaf found.offset

  pub found_before : (left : ℕ) (found : Found) → left ≤ length (elements units by xs)
      → place_by (leaf_length units AllElements) xs left ≡ Some found → FoundBefore left found
  found_before left found fits e =
      let at = found_at units by AllElements xs left found once e in
      record { held = at.held; place = sym (place-all left all fits) ∙ at.place }

  -- ---- a range

  pub range-passes : (view : LenView) (p q : ℕ) (front : Front) → IsFront units by xs view AllElements p front
      → first_passes is_standing is_always_seen (reverse (take front.shown (elements units by xs))) ≡ true
      → pass_from_front (seen_in view) p q front.seen (held_from units by xs (Some front.leaf)) ≡ true
      → passes_beside_range (seen_in view) is_standing is_always_seen p q (elements units by xs) ≡ true
  range-passes view p q front is before from =
      let head = head_of front.leaf in
      let back = held_from units by xs (Some front.leaf) in
      let shown : front.shown ≡ length head = is.shown_before ∙ len-all head in
      let last = sym (first-reversed is_standing is_always_seen head) ∙ ap (λ ys. passes (reverse ys)) (sym (front-whole front.leaf))
      ∙ ap (λ n. passes (reverse (take n all))) (sym shown) ∙ before in
      let counted : 0 + len (seen_in view) head ≡ front.seen = omega (arith, is.seen) in
      subst (λ ys. passes_beside_range (seen_in view) is_standing is_always_seen p q ys ≡ true) (cut-whole units by xs front.leaf)
      (pass-before (seen_in view) is_standing is_always_seen p q back 0 head (omega (arith, counted, is.few)) last
      (subst (λ n. pass_from_front (seen_in view) p q n back ≡ true) (sym counted) from))
