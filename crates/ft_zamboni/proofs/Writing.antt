-- Elements as compaction may write them, and two leaves that are joined.
use Rattle.std.proofs.Common.{◌≡◌, ℕ, zero, suc, Bool, true, false, List, [], ◌∷◌, ◌++◌, length, slice_get, Option, IfSome, refl, sym, ◌∙◌, ap}
use Rattle.std.proofs.lemmas.List.{map-append}
use Rattle.ft_base.specs.declared.stamps.Stamp.{Stamp}
use Rattle.ft_base.specs.declared.stamps.Stamp.TheVariants.{Acked}
use Rattle.ft_base.specs.declared.elements.Element.{Element as ElementStamps}
use Rattle.ft_props.specs.Compaction.{is_insertion_at_or_below}
use Rattle.ft_props.specs.Overlay.{OverlayState}
use Rattle.ft_tree_leaves.specs.declared.leaves.TreeLeaf.{TreeLeaf}
use Rattle.ft_tree_leaves.specs.Edits.{IsBare, MayJoin, joined_leaf}
use Rattle.ft_tree_leaves.specs.Elements.{TreeElement, element_with, elements_with, universal_stamps}
use Rattle.ft_tree_leaves.specs.LeafLists.{leaf_elements}
use Rattle.ft_zamboni.specs.Scours.{Writes, is_collectable}
use Rattle.ft_zamboni.specs.Scours.Writes.{none, same, universal}

module _ {U : Type 0} (floor : ℕ) where
  pub writes-same : (es : List (TreeElement U)) → Writes floor es es
  writes-same [] = none
  writes-same (e ∷ es) = same (writes-same es)

  pub writes-append : {new old new' old' : List (TreeElement U)} → Writes floor new old → Writes floor new' old'
      → Writes floor (new ++ new') (old ++ old')
  writes-append none w = w
  writes-append (same h) w = same (writes-append h w)
  writes-append (universal below h) w = universal below (writes-append h w)

  pub writes-after : {new mid old : List (TreeElement U)} → Writes floor new mid → Writes floor mid old → Writes floor new old
  writes-after none w = w
  writes-after (same h) (same w) = same (writes-after h w)
  writes-after (same h) (universal below w) = universal below (writes-after h w)
  writes-after (universal below h) (same w) = universal below (writes-after h w)
  writes-after (universal below h) (universal first w) = universal first (writes-after h w)

  pub writes-length : {new old : List (TreeElement U)} → Writes floor new old → length new ≡ length old
  writes-length none = refl
  writes-length (same h) = ap (λ n. suc n) (writes-length h)
  writes-length (universal below h) = ap (λ n. suc n) (writes-length h)

  -- removals stay
  pub writes-clear : {new old : List (TreeElement U)} → Writes floor new old → (i : ℕ)
      → IfSome (slice_get old i) (λ e. is_collectable floor e.stamps ≡ false)
      → IfSome (slice_get new i) (λ e. is_collectable floor e.stamps ≡ false)
  writes-clear none i c = c
  writes-clear (same h) zero c = c
  writes-clear (same h) (suc i) c = writes-clear h i c
  writes-clear (universal below h) zero c = c
  writes-clear (universal below h) (suc i) c = writes-clear h i c

module _ {C U : Type 0} (units : C → List U) (by : C → Option Stamp) (floor : ℕ) where
  -- a leaf with the insertion that everybody sees
  abbrev universal_leaf : TreeLeaf C → List (TreeElement U)
  universal_leaf x = elements_with (universal_stamps x.stamps) (by x.content) x.overlay (units x.content)

  universal-units : (stamps : ElementStamps) (author : Option Stamp) (overlay : OverlayState) → is_insertion_at_or_below floor stamps.ins
      ≡ true → (us : List U)
      → Writes floor (elements_with (universal_stamps stamps) author overlay us) (elements_with stamps author overlay us)
  universal-units stamps author overlay below [] = none
  universal-units stamps author overlay below (u ∷ us) = universal below (universal-units stamps author overlay below us)

  bare_stamps : (x : TreeLeaf C) → IsBare floor x → universal_stamps x.stamps ≡ record { ins = Acked 0 0; dels = [] }
  bare_stamps x b = ap (λ (dels : List Stamp). let e : ElementStamps = record { ins = Acked 0 0; dels = dels } in e) b.kept

  settled : (x : TreeLeaf C) → IsBare floor x → x.overlay ≡ record { acked = x.overlay.acked; pending = [] }
  settled x b = ap (λ p. let o : OverlayState = record { acked = x.overlay.acked; pending = p } in o) b.settled

  module _ (joins : C → C → Bool) (joined : C → C → C) (v w : TreeLeaf C) (m : MayJoin joins floor v w)
      (joined_units : units (joined v.content w.content) ≡ units v.content ++ units w.content)
      (joined_by : by (joined v.content w.content) ≡ by v.content) (joins_by : by w.content ≡ by v.content) where
    same_stamps : universal_stamps v.stamps ≡ universal_stamps w.stamps
    same_stamps = bare_stamps v m.front ∙ sym (bare_stamps w m.rear)

    same_overlay : v.overlay ≡ w.overlay
    same_overlay =
        settled v m.front ∙ ap (λ p. let o : OverlayState = record { acked = p; pending = [] } in o) m.props ∙ sym (settled w m.rear)

    joined-elements : leaf_elements units by (joined_leaf joined v w) ≡ universal_leaf v ++ universal_leaf w
    joined-elements =
        ap (λ a. elements_with (universal_stamps v.stamps) a v.overlay (units (joined v.content w.content))) joined_by
        ∙ ap (λ us. elements_with (universal_stamps v.stamps) (by v.content) v.overlay us) joined_units
        ∙ map-append (element_with (universal_stamps v.stamps) (by v.content) v.overlay) (units v.content) (units w.content)
        ∙ ap (λ es. universal_leaf v ++ es) (
        ap (λ s. elements_with s (by v.content) v.overlay (units w.content)) same_stamps
        ∙ ap (λ a. elements_with (universal_stamps w.stamps) a v.overlay (units w.content)) (sym joins_by)
        ∙ ap (λ o. elements_with (universal_stamps w.stamps) (by w.content) o (units w.content)) same_overlay
        )

    -- two leaves in one
    pub writes-joined : Writes floor (leaf_elements units by (joined_leaf joined v w))
        (leaf_elements units by v ++ leaf_elements units by w)
    writes-joined = rw joined-elements
        (writes-append floor (universal-units v.stamps (by v.content) v.overlay m.front.insertion (units v.content))
        (universal-units w.stamps (by w.content) w.overlay m.rear.insertion (units w.content)))
