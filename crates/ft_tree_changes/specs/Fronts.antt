-- Where a walk over the leaves of a range begins, and how it counts a leaf.
use Rattle.std.specs.Prelude.{◌≡◌, ℕ, ◌≤◌, cond, List, Option}
use Rattle.ft_base.specs.declared.stamps.Stamp.{Stamp}
use Rattle.ft_base.specs.Scan.{len}
use Rattle.ft_block.specs.declared.leaves.LenView.{LenView}
use Rattle.ft_block.specs.Leaves.{IsLeafIn, left_of, sees_in}
use Rattle.ft_tree_leaves.specs.declared.leaves.TreeLeaf.{TreeLeaf}
use Rattle.ft_tree_leaves.specs.Elements.{seen_in}
use Rattle.ft_tree_leaves.specs.LeafLists.{elements, leaf_length}
use Rattle.ft_tree_changes.specs.declared.fronts.Front.{Front}

-- how many elements of a leaf both views see
abbrev pub both_length : {C U : Type 0} → (C → List U) → LenView → LenView → TreeLeaf C → ℕ
both_length units view shown x = cond (sees_in view x.stamps) (leaf_length units shown x) 0

-- before the leaf so many elements are seen and shown, and no more than p are seen
pub record IsFront {C U : Type 0} (units : C → List U) (by : C
    → Option Stamp) (xs : List (ℕ × TreeLeaf C)) (view shown : LenView) (p : ℕ) (front : Front) : Type 0 where
  pub live : IsLeafIn xs front.leaf
  pub seen : front.seen ≡ len (seen_in view) (elements units by (left_of xs front.leaf))
  pub shown_before : front.shown ≡ len (seen_in shown) (elements units by (left_of xs front.leaf))
  pub few : front.seen ≤ p
