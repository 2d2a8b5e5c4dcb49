-- The ends of intervals as references of a tree, and the places where these stand.
use Rattle.std.specs.Prelude.{◌≡◌, ◌≢◌, ℕ, ◌≤◌, Bool, true, false, ◌||◌, nat_eq, List, [], ◌∷◌, Option, Some, None, ⊤, option_and_then, option_map, ℤ, pos, negsuc}
use Rattle.ft_base.specs.Scan.{len}
use Rattle.ft_op.specs.declared.operations.Ends.{Ends}
use Rattle.ft_tree_leaves.specs.declared.references.Reference.{Reference}
use Rattle.ft_tree_leaves.specs.Elements.{TreeElement, is_unremoved}
use Rattle.ft_tree_leaves.specs.Places.{place_at, settled_place}
use Rattle.ft_tree_leaves.specs.References.{IsReferenceIn, reference_place, reference_at}
use Rattle.ft_interval_store.specs.declared.intervals.EndPair.{EndPair}

-- references, each under its number
abbrev pub References : Type 0
References = List (ℕ × Reference)

-- no ends
abbrev pub no_ends : {T : Type 0} → EndPair T
no_ends = record { start = None; end = None }

-- f of both ends
abbrev pub map_ends : (Option ℕ → Option ℕ) → EndPair ℕ → EndPair ℕ
map_ends f e = record { start = f e.start; end = f e.end }

-- the place of an end that is a reference, none where it is detached
abbrev pub place_of_end : References → Option ℕ → Option ℕ
place_of_end refs end = option_and_then (reference_place refs) end

-- the places of both
abbrev pub places_of_ends : References → EndPair ℕ → EndPair ℕ
places_of_ends refs e = map_ends (place_of_end refs) e

-- whether an end is this reference
abbrev pub is_reference : ℕ → Option ℕ → Bool
is_reference r None = false
is_reference r (Some x) = nat_eq x r

-- both ends, one after the other
abbrev pub both_ends : EndPair ℕ → List (Option ℕ)
both_ends e = e.start ∷ e.end ∷ []

-- whether one of the ends is this reference
abbrev pub holds_end : ℕ → EndPair ℕ → Bool
holds_end r e = is_reference r e.start || is_reference r e.end

-- an end is detached, or a live reference
abbrev pub IsLiveEnd : References → Option ℕ → Type 0
IsLiveEnd refs None = ⊤
IsLiveEnd refs (Some r) = IsReferenceIn refs r

-- both ends are
abbrev pub AreLiveEnds : References → EndPair ℕ → Type 0
AreLiveEnds refs e = IsLiveEnd refs e.start × IsLiveEnd refs e.end

-- the ends aren't one reference
abbrev pub AreDistinctEnds : EndPair ℕ → Type 0
AreDistinctEnds e = (r : ℕ) → len (is_reference r) (both_ends e) ≤ 1

module _ {U : Type 0} where
  -- the place of the element at a position of an operation, among those that pass the test
  abbrev pub place_of_position : (TreeElement U → Bool) → List (TreeElement U) → ℤ → Option ℕ
  place_of_position seen xs (pos p) = place_at seen p xs
  place_of_position seen xs (negsuc p) = None

  -- the places of the ends that an operation gives, if it gives some
  abbrev pub places_of_given : (TreeElement U → Bool) → List (TreeElement U) → Option Ends → EndPair ℕ
  places_of_given seen xs None = no_ends
  places_of_given seen xs (Some ends) = record { start = place_of_position seen xs ends.start; end = place_of_position seen xs ends.end }

  -- where an end slides: its element if no removal of that is sequenced, else the next sequenced one without, else the last
  -- before it, else none
  abbrev pub slid_end : List (TreeElement U) → Option ℕ → Option ℕ
  slid_end xs end = option_and_then (settled_place is_unremoved xs) end

-- a new pending reference on this place; a detached end has none
abbrev pub IsAddedEnd : Option ℕ → References → References → Option ℕ → Type 0
IsAddedEnd place old new None = (place ≡ None) × (new ≡ old)
IsAddedEnd place old new (Some r) =
    (reference_at old r ≡ None) × (reference_at new r ≡ Some (record { place = place; acked = false }))
    × ((x : ℕ) → x ≢ r → reference_at new x ≡ reference_at old x)

-- the references of both ends are new ones at these places, and all others stay
pub record AreAddedEnds (places : EndPair ℕ) (old new : References) (e : EndPair ℕ) : Type 0 where
  pub places_are : places_of_ends new e ≡ places
  pub live : AreLiveEnds new e
  pub once : AreDistinctEnds e
  pub pending : (r : ℕ) → holds_end r e ≡ true → option_map (λ (x : Reference). x.acked) (reference_at new r) ≡ Some false
  pub fresh : (r : ℕ) → holds_end r e ≡ true → reference_at old r ≡ None
  pub others : (r : ℕ) → holds_end r e ≡ false → reference_at new r ≡ reference_at old r
