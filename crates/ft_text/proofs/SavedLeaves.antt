-- A walk over the leaves of a text that makes the segments of a summary.
use Rattle.std.proofs.Common.{◌≡◌, ℕ, ◌≤◌, Bool, true, false, cond, not, List, [], ◌∷◌, ◌++◌, Option, Some, None, refl, sym, ◌∙◌, ap, subst, map, filter}
use Rattle.ft_arena.specs.Ids.{after, first}
use Rattle.ft_block.specs.Leaves.{IsLeafIn, IsPlaceIn, ids, times_leaf, value_at}
use Rattle.ft_tree_blocks.specs.Walks.{from_place}
use Rattle.ft_tree_blocks.proofs.Walks.{after_in_place, first_in_place, from_first}
use Rattle.ft_tree_leaves.specs.declared.leaves.TreeLeaf.{TreeLeaf}
use Rattle.ft_tree_leaves.specs.declared.text.TextContent.{TextContent}
use Rattle.ft_tree_leaves.specs.Elements.{TreeElement, element_with, elements_with}
use Rattle.ft_tree_leaves.specs.LeafLists.{elements, leaf_elements}
use Rattle.ft_tree_leaves.specs.declared.text.TextPiece.{TextPiece}
use Rattle.ft_tree_leaves.specs.declared.text.TextPiece.TheVariants.{Run, Marker}
use Rattle.ft_tree_leaves.specs.TextLeaves.{piece_text, piece_units, text_of, text_units}
use Rattle.ft_props.specs.Compaction.{has_collectable_removal}
use Rattle.ft_props.specs.Element.{Character, ElementContent}
use Rattle.ft_named.proofs.Lists.{filter-append, map-append}
use Rattle.ft_text.specs.Saved.{Adds, element_segment, head_of, joined_from, kept_segments, leaf_segments, segments_in, unit_segment, whole}
use Rattle.ft_text.specs.Texts.{TextLeaves}
use Rattle.ft_text.specs.declared.segments.Head.{Head}
use Rattle.ft_text.specs.declared.segments.Segments.{Segments}
use Rattle.ft_named.proofs.LeafWalks.{stands-next}

module _ (min : ℕ) where
  abbrev stays : TreeElement ElementContent → Bool
  stays e = not (has_collectable_removal min e.stamps.dels)

  abbrev own_elements : TreeLeaf TextContent → List (TreeElement ElementContent)
  own_elements x = leaf_elements text_units (λ (y : TextContent). y.by) x

  kept-one : (x : TreeLeaf TextContent) → kept_segments min (own_elements x) ≡ leaf_segments min x
  kept-one x = all (has_collectable_removal min x.stamps.dels) refl (text_units x.content)
    where
      all : (b : Bool) → has_collectable_removal min x.stamps.dels ≡ b → (us : List ElementContent)
          → kept_segments min (elements_with x.stamps x.content.by x.overlay us) ≡ cond b [] (map (unit_segment (head_of min x.stamps x.content.by x.overlay)) us)
      all true h [] = refl
      all false h [] = refl
      all true h (u ∷ us) =
          ap (λ b. map (element_segment min) (cond (not b) (element_with x.stamps x.content.by x.overlay u ∷ filter stays (elements_with x.stamps x.content.by x.overlay us))
          (filter stays (elements_with x.stamps x.content.by x.overlay us)))) h ∙ all true h us
      all false h (u ∷ us) =
          ap (λ b. map (element_segment min) (cond (not b) (element_with x.stamps x.content.by x.overlay u ∷ filter stays (elements_with x.stamps x.content.by x.overlay us))
          (filter stays (elements_with x.stamps x.content.by x.overlay us)))) h
          ∙ ap (λ segs. unit_segment (head_of min x.stamps x.content.by x.overlay) u ∷ segs) (all false h us)

  kept-step : (id : ℕ) (x : TreeLeaf TextContent) (xs : TextLeaves) → segments_in min ((id, x) ∷ xs) ≡ leaf_segments min x ++ segments_in min xs
  kept-step id x xs =
      ap (map (element_segment min)) (filter-append stays (own_elements x) (elements text_units (λ (y : TextContent). y.by) xs))
      ∙ map-append (element_segment min) (filter stays (own_elements x)) (filter stays (elements text_units (λ (y : TextContent). y.by) xs))
      ∙ ap (λ segs. segs ++ segments_in min xs) (kept-one x)

  -- the segments so far, with the elements from the next leaf on, are all
  pub record AtLeaf (all : TextLeaves) (next : Option ℕ) (s : Segments) : Type 0 where
    pub place : IsPlaceIn all next
    pub all_are : whole s (segments_in min (from_place all next)) ≡ joined_from 0 (segments_in min all)

  pub leaf-begin : (all : TextLeaves) (next : Option ℕ) (s : Segments) → next ≡ first (ids all)
      → s ≡ record { list = []; last = None; count = 0 } → AtLeaf all next s
  leaf-begin all next s e f =
      subst (λ n. AtLeaf all n s) (sym e) (record {
        place = first_in_place all;
        all_are = ap (λ (t : Segments). whole t (segments_in min (from_place all (first (ids all))))) f ∙ ap (λ xs. joined_from 0 (segments_in min xs)) (from_first all);
      })

  pub leaf-next : (all : TextLeaves) → ((i : ℕ) → times_leaf all i ≤ 1) → (next behind : Option ℕ) (id : ℕ) (old new : Segments)
      → AtLeaf all next old → next ≡ Some id
      → ((x : TreeLeaf TextContent) → value_at all id ≡ Some x → Adds (leaf_segments min x) old new) → behind ≡ after (ids all) id → AtLeaf all behind new
  leaf-next all once next behind id old new w e f g =
      let live : IsLeafIn all id = subst (λ n. IsPlaceIn all n) e w.place in
      let s = stands-next all once id live in
      let rest = from_place all (after (ids all) id) in
      subst (λ n. AtLeaf all n new) (sym g) (record {
        place = after_in_place all id;
        all_are = (f s.leaf s.value).goes (segments_in min rest) ∙ ap (whole old) (sym (ap (segments_in min) s.ahead ∙ kept-step id s.leaf rest))
            ∙ ap (λ n. whole old (segments_in min (from_place all n))) (sym e) ∙ w.all_are;
      })

  pub leaf-done : (all : TextLeaves) (next : Option ℕ) (s : Segments) → AtLeaf all next s → next ≡ None → whole s [] ≡ joined_from 0 (segments_in min all)
  leaf-done all next s w e = ap (λ n. whole s (segments_in min (from_place all n))) (sym e) ∙ w.all_are

-- ---- the elements of a run

run-units : (x : TextContent) (s : List ℕ) → Some s ≡ text_of x → text_units x ≡ map Character s
run-units x s = step x.piece
  where
    step : (p : TextPiece) → Some s ≡ piece_text p → piece_units p ≡ map Character s
    step (Run text) h = let same : text ≡ s = (cc) in ap (map Character) same
    step (Marker r) h = (cc)

one-by-one : (h : Head) (s : List ℕ) → map (unit_segment h) (map Character s) ≡ map (λ c. unit_segment h (Character c)) s
one-by-one h [] = refl
one-by-one h (c ∷ s) = ap (λ segs. unit_segment h (Character c) ∷ segs) (one-by-one h s)

pub adds-run : (h : Head) (x : TextContent) (s t : List ℕ) (old new : Segments) → Some s ≡ text_of x → t ≡ s
    → Adds (map (λ c. unit_segment h (Character c)) t) old new → Adds (map (unit_segment h) (text_units x)) old new
adds-run h x s t old new e f a =
    subst (λ segs. Adds segs old new) (ap (λ cs. map (λ c. unit_segment h (Character c)) cs) f ∙ sym (ap (map (unit_segment h)) (run-units x s e) ∙ one-by-one h s)) a
