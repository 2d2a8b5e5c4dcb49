-- References that stand on leaves, and the list of references that a tree shows of them.
use Rattle.std.specs.Prelude.{◌≡◌, ◌≢◌, ℕ, ◌+◌, Bool, false, cond, ◌&&◌, nat_eq, List, [], ◌∷◌, Option, Some, None, option_map, slice_index_or}
use Rattle.ft_base.specs.declared.stamps.Stamp.{Stamp}
use Rattle.ft_block.specs.Leaves.{IsLeafIn}
use Rattle.ft_tree_leaves.specs.declared.leaves.TreeLeaf.{TreeLeaf}
use Rattle.ft_tree_leaves.specs.declared.references.Reference.{Reference}
use Rattle.ft_tree_blocks.specs.LeafPlaces.{IsOnLeaf, place_on}
use Rattle.ft_refs.specs.declared.numbers.Place.{Place}
use Rattle.ft_refs.specs.RefLists.{ChangesOne, IsHeld, RefLists, entry, place_of_reference}

-- for each leaf its references, for each reference its place, and by its number whether it is acknowledged
pub record AnchorLists : Type 0 where
  pub refs : RefLists
  pub acked : List Bool

-- whether the reference of this number is acknowledged
abbrev pub is_acked_at : AnchorLists → ℕ → Bool
is_acked_at a r = slice_index_or a.acked r false

-- each live reference of these entries, of which the first has number n
abbrev pub numbered : (ℕ → Option Place → Reference) → ℕ → List (Option (Option Place)) → List (ℕ × Reference)
numbered f n [] = []
numbered f n (None ∷ ps) = numbered f (n + 1) ps
numbered f n (Some p ∷ ps) = (n, f n p) ∷ numbered f (n + 1) ps

module _ {C U : Type 0} (units : C → List U) (by : C → Option Stamp) where
  -- a reference as a tree shows it
  abbrev pub reference_on : List (ℕ × TreeLeaf C) → Bool → Option Place → Reference
  reference_on leaves acked p = record { place = option_map (place_on units by leaves) p; acked = acked }

  -- the references as a tree shows them, each under its number
  abbrev pub references_on : List (ℕ × TreeLeaf C) → AnchorLists → List (ℕ × Reference)
  references_on leaves a = numbered (λ r p. reference_on leaves (is_acked_at a r) p) 0 a.refs.refs

-- each attached reference stands on an element of a leaf, and there is room for the references of each leaf
pub record AreAnchored {C U : Type 0} (units : C → List U) (leaves : List (ℕ × TreeLeaf C)) (a : AnchorLists) : Type 0 where
  pub on : (r : ℕ) (p : Place) → place_of_reference a.refs r ≡ Some p → IsOnLeaf units leaves p
  pub held : (id : ℕ) → IsLeafIn leaves id → IsHeld a.refs id

-- each live reference goes on by this change of its place, and no other is live
pub record MovesAnchors (g : Place → Place) (old new : AnchorLists) : Type 0 where
  pub places : (r : ℕ) → entry new.refs r ≡ option_map (option_map g) (entry old.refs r)
  pub acked : new.acked ≡ old.acked
  pub held : (owner : ℕ) → IsHeld old.refs owner → IsHeld new.refs owner

-- the reference of this number has this entry and this flag, and each other stays
pub record ChangesAnchor (r : ℕ) (now : Option (Option Place)) (acked : Bool) (old new : AnchorLists) : Type 0 where
  pub places : ChangesOne old.refs new.refs r now
  pub flag : is_acked_at new r ≡ acked
  pub flags : (other : ℕ) → other ≢ r → is_acked_at new other ≡ is_acked_at old other
  pub held : (owner : ℕ) → IsHeld old.refs owner → IsHeld new.refs owner

-- a place after the acknowledged references of `from` went to `to`, or nowhere
abbrev pub sent_place : Bool → ℕ → Option Place → Option Place → Option Place
sent_place acked from to None = None
sent_place acked from to (Some p) = cond (acked && nat_eq p.owner from) to (Some p)
