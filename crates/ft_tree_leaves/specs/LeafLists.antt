-- Lists of leaves, each with its node: their elements, how many of them a view sees, and which nodes stayed.
use Rattle.std.specs.Prelude.{ℕ, List, [], ◌∷◌, Option, flat_map, length, not}
use Rattle.ft_base.specs.declared.stamps.Stamp.{Stamp}
use Rattle.ft_base.specs.Scan.{len}
use Rattle.ft_base.specs.Visibility.{is_acked}
use Rattle.ft_block.specs.declared.leaves.LenView.{LenView}
use Rattle.ft_block.specs.Leaves.{removed_length, seen_length}
use Rattle.ft_tree_leaves.specs.declared.leaves.TreeLeaf.{TreeLeaf}
use Rattle.ft_tree_leaves.specs.Elements.{TreeElement, elements_with}

module _ {C U : Type 0} where
  -- the elements of a leaf, where `units` and `by` tell those of a content
  abbrev pub leaf_elements : (C → List U) → (C → Option Stamp) → TreeLeaf C → List (TreeElement U)
  leaf_elements units by x = elements_with x.stamps (by x.content) x.overlay (units x.content)

  -- the elements of all leaves in order
  abbrev pub elements : (C → List U) → (C → Option Stamp) → List (ℕ × TreeLeaf C) → List (TreeElement U)
  elements units by xs = flat_map (λ x. leaf_elements units by x.1) xs

-- how many elements of a leaf the view sees
abbrev pub leaf_length : {C U : Type 0} → (C → List U) → LenView → TreeLeaf C → ℕ
leaf_length {C} units view x = seen_length (λ (y : TreeLeaf C). length (units y.content)) (λ (y : TreeLeaf C). y.stamps) view x

-- how many elements of a leaf have a sequenced removal first
abbrev pub leaf_removed : {C U : Type 0} → (C → List U) → TreeLeaf C → ℕ
leaf_removed {C} units x = removed_length (λ (y : TreeLeaf C). length (units y.content)) (λ (y : TreeLeaf C). y.stamps) x

-- the nodes of before stand among the nodes of now in their order
pub data Extends : List ℕ → List ℕ → Type 0 where
  none : Extends [] []
  kept : {id : ℕ} {old new : List ℕ} → Extends old new → Extends (id ∷ old) (id ∷ new)
  added : {id : ℕ} {old new : List ℕ} → Extends old new → Extends old (id ∷ new)

-- how many leaves have a pending insertion
abbrev pub pending_leaves : {C : Type 0} → List (ℕ × TreeLeaf C) → ℕ
pending_leaves xs = len (λ x. not (is_acked x.1.stamps.ins)) xs
