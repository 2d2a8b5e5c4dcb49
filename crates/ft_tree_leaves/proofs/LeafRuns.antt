-- The elements of leaves: how scans of elements go from leaf to leaf.
use Rattle.std.proofs.Common.{◌≡◌, ℕ, ◌+◌, ◌-◌, ◌<◌, ◌≤◌, Bool, true, false, cond, not, List, [], ◌∷◌, ◌++◌, length, get_or, Option, IsSomeAnd, slice_get, subst, refl, sym, ◌∙◌, ap, arith, append-nil, length-append}
use Rattle.std.specs.List.{prefix_len}
use Rattle.std.proofs.lemmas.List.{length-map}
use Rattle.std.proofs.lemmas.Option.{slice_get_read}
use Rattle.std.proofs.lemmas.Grind.{flat_map-append}
use Rattle.ft_base.specs.declared.stamps.Stamp.{Stamp}
use Rattle.ft_base.specs.Visibility.{is_acked}
use Rattle.ft_base.specs.Scan.{len, place}
use Rattle.ft_block.specs.declared.leaves.LenView.{LenView}
use Rattle.ft_block.specs.Leaves.{length_by, sees_in}
use Rattle.ft_tree_leaves.specs.declared.leaves.TreeLeaf.{TreeLeaf}
use Rattle.ft_tree_leaves.specs.Elements.{TreeElement, element_with, is_pending, seen_in}
use Rattle.ft_tree_leaves.specs.LeafLists.{elements, leaf_elements, leaf_length}
use Rattle.ft_tree_leaves.proofs.Runs.{len-seen, len-unseen, place-past_seen, place-past_unseen, prefix_len-past, prefix_len-none}

-- what holds of the element at i, and the element there
pub here : {A : Type 0} (xs : List A) (i : ℕ) (x : A) (P : A → Type 0) → i < length xs → x ≡ get_or xs i x → IsSomeAnd (slice_get xs i) P → P x
here xs i x P h e s = subst (λ o. IsSomeAnd o P) (slice_get_read xs (length xs) i x refl h e) s

pub there : {A : Type 0} (xs : List A) (i : ℕ) (x : A) (P : A → Type 0) → i < length xs → x ≡ get_or xs i x → P x → IsSomeAnd (slice_get xs i) P
there xs i x P h e p = subst (λ o. IsSomeAnd o P) (sym (slice_get_read xs (length xs) i x refl h e)) p

module _ {C U : Type 0} (units : C → List U) (by : C → Option Stamp) where
  -- an element of the leaf
  abbrev of_leaf : TreeLeaf C → U → TreeElement U
  of_leaf x u = element_with x.stamps (by x.content) x.overlay u

  pub length-leaf : (x : TreeLeaf C) → length (leaf_elements units by x) ≡ length (units x.content)
  length-leaf x = length-map (units x.content) (of_leaf x)

  pub leaf_seen : (view : LenView) (x : TreeLeaf C) → sees_in view x.stamps ≡ true → len (seen_in view) (leaf_elements units by x) ≡ length (units x.content)
  leaf_seen view x h = len-seen (seen_in view) (of_leaf x) (λ u. h) (units x.content)

  pub leaf_unseen : (view : LenView) (x : TreeLeaf C) → sees_in view x.stamps ≡ false → len (seen_in view) (leaf_elements units by x) ≡ 0
  leaf_unseen view x h = len-unseen (seen_in view) (of_leaf x) (λ u. h) (units x.content)

  pub elements-append : (xs ys : List (ℕ × TreeLeaf C)) → elements units by (xs ++ ys) ≡ elements units by xs ++ elements units by ys
  elements-append xs ys = flat_map-append (λ x. leaf_elements units by x.1) xs ys

  pub elements-one : (x : ℕ × TreeLeaf C) → elements units by (x ∷ []) ≡ leaf_elements units by x.1
  elements-one x = append-nil (leaf_elements units by x.1)

  place_passes_by : (b : Bool) (view : LenView) (x : TreeLeaf C) (ys : List (TreeElement U)) (left : ℕ) → sees_in view x.stamps ≡ b
      → 0 < left → len (seen_in view) (leaf_elements units by x) ≤ left
      → place (seen_in view) left (leaf_elements units by x ++ ys)
      ≡ length (leaf_elements units by x) + place (seen_in view) (left - len (seen_in view) (leaf_elements units by x)) ys
  place_passes_by true view x ys left h some le =
      let n = leaf_seen view x h in
      place-past_seen (seen_in view) (of_leaf x) (λ u. h) (units x.content) left (left - len (seen_in view) (leaf_elements units by x)) ys (omega (arith, n))
      ∙ ap (λ k. k + place (seen_in view) (left - len (seen_in view) (leaf_elements units by x)) ys) (sym (length-leaf x))
  place_passes_by false view x ys left h some le =
      let n = leaf_unseen view x h in
      let same : left ≡ left - len (seen_in view) (leaf_elements units by x) = omega (arith, n) in
      place-past_unseen (seen_in view) (of_leaf x) (λ u. h) (units x.content) left ys some
      ∙ ap (λ k. k + place (seen_in view) left ys) (sym (length-leaf x))
      ∙ ap (λ k. length (leaf_elements units by x) + place (seen_in view) k ys) same

  -- a place behind a leaf
  pub place-passes : (view : LenView) (x : TreeLeaf C) (ys : List (TreeElement U)) (left : ℕ)
      → 0 < left → len (seen_in view) (leaf_elements units by x) ≤ left
      → place (seen_in view) left (leaf_elements units by x ++ ys)
      ≡ length (leaf_elements units by x) + place (seen_in view) (left - len (seen_in view) (leaf_elements units by x)) ys
  place-passes view x ys left some le = place_passes_by (sees_in view x.stamps) view x ys left refl some le

  -- the run of pending elements goes on behind a pending leaf
  pub prefix-pending : (x : TreeLeaf C) (ys : List (TreeElement U)) → not (is_acked x.stamps.ins) ≡ true
      → prefix_len is_pending (leaf_elements units by x ++ ys) ≡ length (leaf_elements units by x) + prefix_len is_pending ys
  prefix-pending x ys h = prefix_len-past is_pending (of_leaf x) (λ u. h) (units x.content) ys ∙ ap (λ k. k + prefix_len is_pending ys) (sym (length-leaf x))

  -- and ends at another
  pub prefix-ends : (x : TreeLeaf C) (ys : List (TreeElement U)) → not (is_acked x.stamps.ins) ≡ false → 0 < length (units x.content)
      → prefix_len is_pending (leaf_elements units by x ++ ys) ≡ 0
  prefix-ends x ys h some = prefix_len-none is_pending (of_leaf x) (λ u. h) (units x.content) ys some

  shorter : (b : Bool) (x : TreeLeaf C) (xs ys : List (ℕ × TreeLeaf C)) (id : ℕ) → length (elements units by ys) ≤ length (elements units by xs)
      → length (elements units by (cond b [] ((id, x) ∷ ys))) ≤ length (elements units by ((id, x) ∷ xs))
  shorter true x xs ys id h = omega arith
  shorter false x xs ys id h =
      omega (
        arith,
        length-append (leaf_elements units by x) (elements units by xs),
        length-append (leaf_elements units by x) (elements units by ys),
        h,
      )

  fewer : (b : Bool) (x : TreeLeaf C) (xs ys : List (ℕ × TreeLeaf C)) (id : ℕ) → length (elements units by ys) ≤ length (elements units by xs)
      → length (elements units by (cond b ys ((id, x) ∷ ys))) ≤ length (elements units by ((id, x) ∷ xs))
  fewer true x xs ys id h = omega (arith, length-append (leaf_elements units by x) (elements units by xs), h)
  fewer false x xs ys id h =
      omega (
        arith,
        length-append (leaf_elements units by x) (elements units by xs),
        length-append (leaf_elements units by x) (elements units by ys),
        h,
      )

  -- as many as the leaves are long
  pub length-elements : (xs : List (ℕ × TreeLeaf C)) → length (elements units by xs) ≡ length_by (λ x. length (units x.content)) xs
  length-elements [] = refl
  length-elements (x ∷ xs) = omega (arith, length-append (leaf_elements units by x.1) (elements units by xs), length-leaf x.1, length-elements xs)

  seen_by : (b : Bool) (view : LenView) (x : TreeLeaf C) → sees_in view x.stamps ≡ b → len (seen_in view) (leaf_elements units by x) ≡ cond b (length (units x.content)) 0
  seen_by true view x h = leaf_seen view x h
  seen_by false view x h = leaf_unseen view x h

  -- what is seen of a leaf is all or nothing
  pub leaf-length : (view : LenView) (x : TreeLeaf C) → len (seen_in view) (leaf_elements units by x) ≡ leaf_length units view x
  leaf-length view x = seen_by (sees_in view x.stamps) view x refl
