-- Where references on leaves go after sequenced removals.
use Rattle.std.specs.Prelude.{◌≡◌, ℕ, ◌≤◌, Bool, true, false, nat_eq, List, Some}
use Rattle.std.specs.Option.{option_map_or}
use Rattle.ft_arena.specs.Ids.{times}
use Rattle.ft_tree_leaves.specs.declared.leaves.Standing.{Standing}
use Rattle.ft_tree_leaves.specs.declared.leaves.Standing.TheVariants.{Unremoved}
use Rattle.ft_tree_leaves.specs.declared.leaves.TreeLeaf.{TreeLeaf}
use Rattle.ft_refs.specs.declared.numbers.Place.{Place}
use Rattle.ft_refs.specs.RefLists.{owner_of, place_of_reference}
use Rattle.ft_tree_blocks.specs.Anchors.{AnchorLists, is_acked_at}
use Rattle.ft_tree_blocks.specs.LeafPlaces.{IsOnLeaf, stands_at}

-- whether the elements of the leaf of this node are unremoved: an acknowledged reference may stand on them
abbrev pub is_unremoved_at : {C : Type 0} → List (ℕ × TreeLeaf C) → ℕ → Bool
is_unremoved_at leaves id = stands_at Unremoved leaves id

-- the place is on an unremoved element
abbrev pub IsOnUnremoved : {C U : Type 0} → (C → List U) → List (ℕ × TreeLeaf C) → Place → Type 0
IsOnUnremoved units leaves p = IsOnLeaf units leaves p × (is_unremoved_at leaves p.owner ≡ true)

-- each acknowledged reference is detached, or stands on an unremoved element, or on the leaf of one of these nodes
abbrev pub AreSettledBut : {C : Type 0} → List (ℕ × TreeLeaf C) → List ℕ → AnchorLists → Type 0
AreSettledBut leaves nodes a =
    (r : ℕ) (p : Place) → place_of_reference a.refs r ≡ Some p → is_acked_at a r ≡ true → is_unremoved_at leaves p.owner ≡ false → 1 ≤ times nodes p.owner

-- whether the reference of this number stands on the leaf of this node
abbrev pub is_on : AnchorLists → ℕ → ℕ → Bool
is_on a id r = option_map_or (λ owner. nat_eq owner id) (owner_of a.refs r) false

-- the test tells of each leaf whether acknowledged references may stand on it
abbrev pub TellsUnremoved : {C : Type 0} → List (ℕ × TreeLeaf C) → Standing → Type 0
TellsUnremoved leaves test = (id : ℕ) → stands_at test leaves id ≡ is_unremoved_at leaves id
