-- What stands before an element on a leaf.
use Rattle.std.proofs.Common.{◌≡◌, ℕ, ◌+◌, ◌<◌, ◌≤◌, Bool, true, false, List, ◌∷◌, ◌++◌, length, take, Option, Some, IsSomeAnd, subst, ◌∙◌, ap, arith}
use Rattle.ft_arena.specs.Ids.{after}
use Rattle.ft_base.specs.declared.stamps.Stamp.{Stamp}
use Rattle.ft_base.specs.Scan.{len}
use Rattle.ft_block.specs.declared.leaves.LenView.{LenView}
use Rattle.ft_block.specs.Leaves.{ids, left_of, sees_in, times_leaf, value_at}
use Rattle.ft_tree_leaves.specs.declared.leaves.TreeLeaf.{TreeLeaf}
use Rattle.ft_tree_leaves.specs.Elements.{TreeElement, element_with, seen_in}
use Rattle.ft_tree_leaves.specs.LeafLists.{elements, leaf_elements}
use Rattle.ft_tree_leaves.specs.Places.{seen_before}
use Rattle.ft_tree_leaves.proofs.LeafRuns.{elements-append}
use Rattle.ft_tree_leaves.proofs.Numbered.{taken_past, taken_seen, taken_unseen}
use Rattle.ft_refs.specs.declared.numbers.Place.{Place}
use Rattle.ft_tree_blocks.specs.LeafPlaces.{IsOnLeaf, place_on}
use Rattle.ft_tree_blocks.specs.Walks.{from_place}
use Rattle.ft_tree_steps.proofs.FoundOffsets.{len-most}
use Rattle.ft_tree_blocks.proofs.CountedWalks.{offset_within}
use Rattle.ft_tree_blocks.proofs.Walks.{stands}

module _ {C U : Type 0} (units : C → List U) (by : C → Option Stamp) (xs : List (ℕ × TreeLeaf C)) (at : Place) where
  module _ (v : TreeLeaf C) (once : (i : ℕ) → times_leaf xs i ≤ 1) (is : value_at xs at.owner ≡ Some v) (on : IsOnLeaf units xs at) where
    abbrev left : List (TreeElement U)
    left = elements units by (left_of xs at.owner)

    abbrev rest : List (TreeElement U)
    rest = elements units by (from_place xs (after (ids xs) at.owner))

    abbrev of_leaf : U → TreeElement U
    of_leaf u = element_with v.stamps (by v.content) v.overlay u

    whole : elements units by xs ≡ left ++ (leaf_elements units by v ++ rest)
    whole =
        ap (elements units by) (stands xs at.owner v once is).whole
        ∙ elements-append units by (left_of xs at.owner) ((at.owner, v) ∷ from_place xs (after (ids xs) at.owner))

    less : at.offset < length (units v.content)
    less = subst (λ o. IsSomeAnd o (λ w. at.offset < length (units w.content))) is on

    before_by : (seen : TreeElement U → Bool) → seen_before seen (elements units by xs) (place_on units by xs at)
        ≡ len seen left + len seen (take at.offset (leaf_elements units by v ++ rest))
    before_by seen =
        ap (λ es. len seen (take (length left + at.offset) es)) whole
        ∙ taken_past seen left (leaf_elements units by v ++ rest) (length left + at.offset) at.offset (omega arith)

    -- the seen ones before it are those left of its leaf, and those before it there
    pub before_seen : (view : LenView) → sees_in view v.stamps ≡ true
        → len (seen_in view) left + at.offset ≡ seen_before (seen_in view) (elements units by xs) (place_on units by xs at)
    before_seen view h =
        omega (arith, before_by (seen_in view), taken_seen (seen_in view) of_leaf (λ u. h) (units v.content) at.offset rest (omega (arith, less)))

    -- if its leaf is seen
    pub before_unseen : (view : LenView) → sees_in view v.stamps ≡ false
        → len (seen_in view) left ≡ seen_before (seen_in view) (elements units by xs) (place_on units by xs at)
    before_unseen view h =
        omega (arith, before_by (seen_in view), taken_unseen (seen_in view) of_leaf (λ u. h) (units v.content) at.offset rest (omega (arith, less)))

  -- no more seen ones stand before it than there are elements
  pub seen_within : (view : LenView) → ((i : ℕ) → times_leaf xs i ≤ 1) → IsOnLeaf units xs at
      → len (seen_in {U = U} view) (elements units by (left_of xs at.owner)) + at.offset < length (elements units by xs)
  seen_within view once on = omega (arith, offset_within units by xs at once on, len-most (seen_in {U = U} view) (elements units by (left_of xs at.owner)))
