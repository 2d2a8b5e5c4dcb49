-- Elements as they stand on leaves: their places in the whole list.
use Rattle.std.specs.Prelude.{ℕ, ◌+◌, ◌-◌, ◌<◌, Bool, false, List, Option, IsSomeAnd, length}
use Rattle.std.specs.Option.{option_map_or}
use Rattle.ft_base.specs.declared.stamps.Stamp.{Stamp}
use Rattle.ft_block.specs.Leaves.{left_of, value_at}
use Rattle.ft_tree_leaves.specs.declared.leaves.Standing.{Standing}
use Rattle.ft_tree_leaves.specs.declared.leaves.TreeLeaf.{TreeLeaf}
use Rattle.ft_tree_leaves.specs.Edits.{up_to_leaf}
use Rattle.ft_tree_leaves.specs.LeafLists.{elements}
use Rattle.ft_tree_leaves.specs.Settling.{allows}
use Rattle.ft_refs.specs.declared.numbers.Place.{Place}

-- the leaf stands there, and has an element at the offset
abbrev pub IsOnLeaf : {C U : Type 0} → (C → List U) → List (ℕ × TreeLeaf C) → Place → Type 0
IsOnLeaf units xs at = IsSomeAnd (value_at xs at.owner) (λ v. at.offset < length (units v.content))

-- whether a reference may stand on the elements of the leaf of this node
abbrev pub stands_at : {C : Type 0} → Standing → List (ℕ × TreeLeaf C) → ℕ → Bool
stands_at test xs id = option_map_or (λ v. allows test v.stamps) (value_at xs id) false

module _ {C U : Type 0} (units : C → List U) (by : C → Option Stamp) where
  -- the place of that element
  abbrev pub place_on : List (ℕ × TreeLeaf C) → Place → ℕ
  place_on xs at = length (elements units by (left_of xs at.owner)) + at.offset

  -- the place of the first element of the leaf of this node
  abbrev pub leaf_start : List (ℕ × TreeLeaf C) → ℕ → ℕ
  leaf_start xs id = length (elements units by (left_of xs id))

  -- the place of the last element of the leaf of this node
  abbrev pub leaf_end : List (ℕ × TreeLeaf C) → ℕ → ℕ
  leaf_end xs id = length (elements units by (up_to_leaf xs id)) - 1
