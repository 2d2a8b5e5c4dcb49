-- The places of references that are shown are those of elements.
use Rattle.std.proofs.Common.{◌≡◌, ℕ, ◌<◌, ◌≤◌, Bool, List, length, Option, Some, None, option_and_then, option_map, refl, sym, ◌∙◌, ap, arith}
use Rattle.ft_base.specs.declared.stamps.Stamp.{Stamp}
use Rattle.ft_block.specs.Leaves.{times_leaf}
use Rattle.ft_tree_leaves.specs.declared.leaves.TreeLeaf.{TreeLeaf}
use Rattle.ft_tree_leaves.specs.declared.references.Reference.{Reference}
use Rattle.ft_tree_leaves.specs.LeafLists.{elements}
use Rattle.ft_tree_leaves.specs.References.{reference_place}
use Rattle.ft_refs.specs.declared.numbers.Place.{Place}
use Rattle.ft_refs.specs.RefLists.{entry, place_of_entry}
use Rattle.ft_tree_blocks.specs.Anchors.{AnchorLists, AreAnchored, is_acked_at, reference_on, references_on}
use Rattle.ft_tree_blocks.specs.LeafPlaces.{place_on}
use Rattle.ft_tree_blocks.proofs.AnchoredLeaves.{reference_at-on}
use Rattle.ft_tree_blocks.proofs.CountedWalks.{offset_within}

module _ {C U : Type 0} (units : C → List U) (by : C → Option Stamp) (xs : List (ℕ × TreeLeaf C)) (a : AnchorLists) (once : (i : ℕ) → times_leaf xs i ≤ 1)
    (anchored : AreAnchored units xs a) where
  entry_inside : (r j : ℕ) (flag : Bool) (q : Option (Option Place)) → entry a.refs r ≡ q
      → option_and_then (λ (x : Reference). x.place) (option_map (reference_on units by xs flag) q) ≡ Some j → j < length (elements units by xs)
  entry_inside r j flag None e h = absurd (cc)
  entry_inside r j flag (Some None) e h = absurd (cc)
  entry_inside r j flag (Some (Some p)) e h =
      let at : place_on units by xs p ≡ j = (cc) in
      omega (arith, at, offset_within units by xs p once (anchored.on r p (ap place_of_entry e)))

  pub places_inside : (r j : ℕ) → reference_place (references_on units by xs a) r ≡ Some j → j < length (elements units by xs)
  places_inside r j h =
      entry_inside r j (is_acked_at a r) (entry a.refs r) refl (sym (ap (option_and_then (λ (x : Reference). x.place)) (reference_at-on units by xs a r)) ∙ h)
