-- A range of a list of leaves, cut out and changed.
use Rattle.std.proofs.Common.{◌≡◌, ℕ, ◌-◌, ◌≤◌, length, Bool, true, false, cond, List, [], ◌∷◌, ◌++◌, map, All, Option, subst, refl, sym, ◌∙◌, ap, arith}
use Rattle.std.proofs.lemmas.List.{map-append}
use Rattle.std.proofs.lemmas.List.Elements.{All-drop, All-head, All-take}
use Rattle.std.proofs.Math.Seq.{drop-append_seam, take-append_seam}
use Rattle.ft_base.specs.declared.stamps.Stamp.{Stamp}
use Rattle.ft_base.specs.declared.elements.Element.{Element as ElementStamps}
use Rattle.ft_base.specs.Visibility.{is_of_stage}
use Rattle.ft_props.specs.Overlay.{OverlayState, after_ack}
use Rattle.ft_block.specs.declared.leaves.LenView.{LenView}
use Rattle.ft_block.specs.Leaves.{ids, sees_in, times_leaf}
use Rattle.ft_tree_leaves.specs.declared.leaves.TreeLeaf.{TreeLeaf}
use Rattle.ft_tree_leaves.specs.Elements.{TreeElement, acked_element, acked_stamps, element_with, seen_in, with_overlay, with_stamps}
use Rattle.ft_tree_leaves.specs.LeafLists.{Extends, elements, leaf_elements}
use Rattle.ft_tree_leaves.specs.LeafLists.Extends.{kept, added}
use Rattle.ft_tree_leaves.specs.LeafChanges.{acked_leaf, acked_pair, with_leaf_overlay, with_leaf_stamps}
use Rattle.ft_tree_leaves.specs.Plain.{Acks}
use Rattle.ft_tree_leaves.proofs.RangeSplits.{where_seen}

-- nodes that are added again
pub extends_trans : (xs ys zs : List ℕ) → Extends xs ys → Extends ys zs → Extends xs zs
extends_trans xs [] [] h k = h
extends_trans xs (y ∷ ys) [] h k = elim k [ ]
extends_trans xs ys (z ∷ zs) h (added k) = added (extends_trans xs ys zs h k)
extends_trans (x ∷ xs) (y ∷ ys) (z ∷ zs) (kept h) (kept k) = kept (extends_trans xs ys zs h k)
extends_trans xs (y ∷ ys) (z ∷ zs) (added h) (kept k) = added (extends_trans xs ys zs h k)

module _ {C U : Type 0} (units : C → List U) (by : C → Option Stamp) where
  -- the elements of a leaf whose stamps are changed
  run_stamps : (f : ElementStamps → ElementStamps) (s : ElementStamps) (author : Option Stamp) (overlay : OverlayState) (us : List U)
      → map (element_with (f s) author overlay) us ≡ map (with_stamps f) (map (element_with s author overlay) us)
  run_stamps f s author overlay [] = refl
  run_stamps f s author overlay (u ∷ us) = ap (λ es. element_with (f s) author overlay u ∷ es) (run_stamps f s author overlay us)

  pub leaf-with_stamps : (f : ElementStamps → ElementStamps) (x : TreeLeaf C)
      → leaf_elements units by (with_leaf_stamps f x) ≡ map (with_stamps f) (leaf_elements units by x)
  leaf-with_stamps f x = run_stamps f x.stamps (by x.content) x.overlay (units x.content)

  -- and of one whose properties are
  run_overlay : (f : OverlayState → OverlayState) (s : ElementStamps) (author : Option Stamp) (overlay : OverlayState) (us : List U)
      → map (element_with s author (f overlay)) us ≡ map (with_overlay f) (map (element_with s author overlay) us)
  run_overlay f s author overlay [] = refl
  run_overlay f s author overlay (u ∷ us) = ap (λ es. element_with s author (f overlay) u ∷ es) (run_overlay f s author overlay us)

  pub leaf-with_overlay : (f : OverlayState → OverlayState) (x : TreeLeaf C)
      → leaf_elements units by (with_leaf_overlay f x) ≡ map (with_overlay f) (leaf_elements units by x)
  leaf-with_overlay f x = run_overlay f x.stamps (by x.content) x.overlay (units x.content)

  run_seen : (b : Bool) (view : LenView) (f : TreeElement U → TreeElement U) (s : ElementStamps) (author : Option Stamp) (overlay : OverlayState)
      (us : List U) → sees_in view s ≡ b
      → cond b (map f (map (element_with s author overlay) us)) (map (element_with s author overlay) us)
      ≡ map (where_seen (seen_in view) f) (map (element_with s author overlay) us)
  run_seen true view f s author overlay [] h = refl
  run_seen true view f s author overlay (u ∷ us) h = grind (arith, h, run_seen true view f s author overlay us h)
  run_seen false view f s author overlay [] h = refl
  run_seen false view f s author overlay (u ∷ us) h = grind (arith, h, run_seen false view f s author overlay us h)

  leaf_by : (b : Bool) (g : TreeLeaf C → TreeLeaf C) (x : TreeLeaf C)
      → leaf_elements units by (cond b (g x) x) ≡ cond b (leaf_elements units by (g x)) (leaf_elements units by x)
  leaf_by true g x = refl
  leaf_by false g x = refl

  module _ (g : TreeLeaf C → TreeLeaf C) (f : TreeElement U → TreeElement U)
      (acts : (x : TreeLeaf C) → leaf_elements units by (g x) ≡ map f (leaf_elements units by x)) (view : LenView) where
    pub leaf_changed : (x : TreeLeaf C) → leaf_elements units by (cond (sees_in view x.stamps) (g x) x) ≡ map (where_seen (seen_in view) f) (leaf_elements units by x)
    leaf_changed x =
        leaf_by (sees_in view x.stamps) g x ∙ ap (λ es. cond (sees_in view x.stamps) es (leaf_elements units by x)) (acts x)
        ∙ run_seen (sees_in view x.stamps) view f x.stamps (by x.content) x.overlay (units x.content) refl

  pub front_all : (P : TreeElement U → Type 0) (xs ys : List (TreeElement U)) → All P (xs ++ ys) → All P xs
  front_all P xs ys h = subst (All P) (take-append_seam xs ys) (All-take P (length xs) (xs ++ ys) h)

  pub rear_all : (P : TreeElement U → Type 0) (xs ys : List (TreeElement U)) → All P (xs ++ ys) → All P ys
  rear_all P xs ys h = subst (All P) (drop-append_seam xs ys) (All-drop P (length xs) (xs ++ ys) h)

  of_first : (P : OverlayState → Type 0) (s : ElementStamps) (author : Option Stamp) (overlay : OverlayState) (us : List U) → 1 ≤ length us
      → All (λ e. P e.overlay) (map (element_with s author overlay) us) → P overlay
  of_first P s author overlay [] some h = absurd (omega arith)
  of_first P s author overlay (u ∷ us) some h = All-head (λ (e : TreeElement U). P e.overlay) (element_with s author overlay u) (map (element_with s author overlay) us) h

  -- what holds of the properties of each element of a leaf holds of the leaf's
  pub leaf_overlay : (P : OverlayState → Type 0) (x : TreeLeaf C) → 1 ≤ length (units x.content) → All (λ e. P e.overlay) (leaf_elements units by x) → P x.overlay
  leaf_overlay P x some h = of_first P x.stamps (by x.content) x.overlay (units x.content) some h

module _ {C U : Type 0} (units : C → List U) (by : C → Option Stamp) (author : ℕ → ℕ → Option Stamp) (stamped : C → ℕ → ℕ → C)
    (stamped_units : (x : C) (s c : ℕ) → units (stamped x s c) ≡ units x) (stamped_by : (x : C) (s c : ℕ) → by (stamped x s c) ≡ author s c) (k s c : ℕ) where
  acked_run : (x : TreeLeaf C) (us : List U)
      → map (element_with (acked_stamps k s c x.stamps) (cond (is_of_stage k x.stamps.ins) (author s c) (by x.content)) (after_ack k x.overlay)) us
      ≡ map (acked_element k s c (author s c)) (map (element_with x.stamps (by x.content) x.overlay) us)
  acked_run x [] = refl
  acked_run x (u ∷ us) = ap (λ es. acked_element k s c (author s c) (element_with x.stamps (by x.content) x.overlay u) ∷ es) (acked_run x us)

  acked_by : (b : Bool) (x : C) → by (cond b (stamped x s c) x) ≡ cond b (author s c) (by x)
  acked_by true x = stamped_by x s c
  acked_by false x = refl

  acked_units : (b : Bool) (x : C) → units (cond b (stamped x s c) x) ≡ units x
  acked_units true x = stamped_units x s c
  acked_units false x = refl

  leaf-acked : (x : TreeLeaf C) → leaf_elements units by (acked_leaf stamped k s c x) ≡ map (acked_element k s c (author s c)) (leaf_elements units by x)
  leaf-acked x =
      ap (λ a. map (element_with (acked_stamps k s c x.stamps) a (after_ack k x.overlay)) (units (acked_leaf stamped k s c x).content))
      (acked_by (is_of_stage k x.stamps.ins) x.content)
      ∙ ap (map (element_with (acked_stamps k s c x.stamps) (cond (is_of_stage k x.stamps.ins) (author s c) (by x.content)) (after_ack k x.overlay)))
      (acked_units (is_of_stage k x.stamps.ins) x.content)
      ∙ acked_run x (units x.content)

  elements-acked : (xs : List (ℕ × TreeLeaf C)) → elements units by (map (acked_pair stamped k s c) xs) ≡ map (acked_element k s c (author s c)) (elements units by xs)
  elements-acked [] = refl
  elements-acked (x ∷ xs) =
      ap (λ es. es ++ elements units by (map (acked_pair stamped k s c) xs)) (leaf-acked x.1)
      ∙ ap (λ es. map (acked_element k s c (author s c)) (leaf_elements units by x.1) ++ es) (elements-acked xs)
      ∙ sym (map-append (acked_element k s c (author s c)) (leaf_elements units by x.1) (elements units by xs))

  ids-acked : (xs : List (ℕ × TreeLeaf C)) → ids (map (acked_pair stamped k s c) xs) ≡ ids xs
  ids-acked [] = refl
  ids-acked (x ∷ xs) = ap (λ zs. x.0 ∷ zs) (ids-acked xs)

  times-acked : (xs : List (ℕ × TreeLeaf C)) (id : ℕ) → times_leaf (map (acked_pair stamped k s c) xs) id ≡ times_leaf xs id
  times-acked [] id = refl
  times-acked (x ∷ xs) id = omega (arith, times-acked xs id)

  pub acks : (old now : List (ℕ × TreeLeaf C)) → now ≡ map (acked_pair stamped k s c) old → Acks units by k s c (author s c) old now
  acks old now e = record {
    list = ap (elements units by) e ∙ elements-acked old;
    nodes = ap ids e ∙ ids-acked old;
    times = λ id. ap (λ zs. times_leaf zs id) e ∙ times-acked old id;
  }
