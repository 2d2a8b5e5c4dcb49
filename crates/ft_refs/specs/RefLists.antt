-- What a contract sees of `Refs`.
use Rattle.std.specs.Prelude.{◌≡◌, ◌≢◌, ℕ, ◌+◌, ◌-◌, ◌<◌, nat_eq, nat_lt, cond, List, [], ◌∷◌, map, length, Option, Some, None, option_and_then, slice_index_or}
use Rattle.ft_arena.specs.Ids.{times, points, after}
use Rattle.ft_refs.specs.declared.numbers.Place.{Place}

-- for each owner its references in order, each with its offset; and at each number no reference, a detached one, or one
-- that stands at a place
pub record RefLists : Type 0 where
  pub lists : List (List (ℕ × ℕ))
  pub refs : List (Option (Option Place))

-- the reference of this number, if it is live: its place, or none where it is detached
abbrev pub entry : RefLists → ℕ → Option (Option Place)
entry s r = slice_index_or s.refs r None

-- the references of an owner in order, each with its offset
abbrev pub references_of : RefLists → ℕ → List (ℕ × ℕ)
references_of s owner = slice_index_or s.lists owner []

-- the references of a list without their offsets
abbrev pub ids : List (ℕ × ℕ) → List ℕ
ids xs = map (λ x. x.0) xs

-- the references of an owner in order
abbrev pub ids_of : RefLists → ℕ → List ℕ
ids_of s owner = ids (references_of s owner)

-- there is room for a list of this owner
abbrev pub IsHeld : RefLists → ℕ → Type 0
IsHeld s owner = owner < length s.lists

-- where an entry stands
abbrev pub place_of_entry : Option (Option Place) → Option Place
place_of_entry None = None
place_of_entry (Some p) = p

-- where a reference stands, if it is attached
abbrev pub place_of_reference : RefLists → ℕ → Option Place
place_of_reference s r = place_of_entry (entry s r)

abbrev pub owner_of_place : Option Place → Option ℕ
owner_of_place None = None
owner_of_place (Some p) = Some p.owner

abbrev pub offset_of_place : Option Place → Option ℕ
offset_of_place None = None
offset_of_place (Some p) = Some p.offset

-- the owner and the offset of an attached reference
abbrev pub owner_of : RefLists → ℕ → Option ℕ
owner_of s r = owner_of_place (place_of_reference s r)

abbrev pub offset_of : RefLists → ℕ → Option ℕ
offset_of s r = offset_of_place (place_of_reference s r)

-- the reference after this one in the list of its owner
abbrev pub next_of : RefLists → ℕ → Option ℕ
next_of s r = option_and_then (λ owner. after (ids_of s owner) r) (owner_of s r)

-- the list without a reference
abbrev pub without_reference : List (ℕ × ℕ) → ℕ → List (ℕ × ℕ)
without_reference [] r = []
without_reference (x ∷ xs) r = cond (nat_eq x.0 r) (without_reference xs r) (x ∷ without_reference xs r)

-- each reference of the list stands on this owner at its offset
abbrev pub AreOn : RefLists → ℕ → List (ℕ × ℕ) → Type 0
AreOn s owner [] = Unit {0}
AreOn s owner (x ∷ xs) = (entry s x.0 ≡ Some (Some record { owner = owner; offset = x.1 })) × AreOn s owner xs

-- an attached reference stands once in the list of its owner, at its offset, and in no other list; its owner is held
pub record IsRefs (s : RefLists) : Type 0 where
  pub once : (owner r : ℕ) → times (ids_of s owner) r ≡ points (owner_of s r) owner
  pub on : (owner : ℕ) → AreOn s owner (references_of s owner)
  pub held : (owner r : ℕ) → owner_of s r ≡ Some owner → IsHeld s owner

-- this reference has this entry, and every other keeps what it had
pub record ChangesOne (old new : RefLists) (r : ℕ) (now : Option (Option Place)) : Type 0 where
  pub changed : entry new r ≡ now
  pub others : (other : ℕ) → other ≢ r → entry new other ≡ entry old other

-- the owner is held, each owner of before still is, and nothing else changes
pub record Holds (old new : RefLists) (owner : ℕ) : Type 0 where
  pub held : IsHeld new owner
  pub still : (o : ℕ) → IsHeld old o → IsHeld new o
  pub lists : (o : ℕ) → references_of new o ≡ references_of old o
  pub refs : new.refs ≡ old.refs

-- the references of a list below an offset
abbrev pub below : ℕ → List (ℕ × ℕ) → List (ℕ × ℕ)
below at [] = []
below at (x ∷ xs) = cond (nat_lt x.1 at) (x ∷ below at xs) (below at xs)

-- those at or above it, lowered by it
abbrev pub from_on : ℕ → List (ℕ × ℕ) → List (ℕ × ℕ)
from_on at [] = []
from_on at (x ∷ xs) = cond (nat_lt x.1 at) (from_on at xs) ((x.0, x.1 - at) ∷ from_on at xs)

-- each reference of a list, with its offset raised
abbrev pub raised : ℕ → List (ℕ × ℕ) → List (ℕ × ℕ)
raised add xs = map (λ x. (x.0, x.1 + add)) xs

-- a place after the references of `from` at or above `at` went to `to`
abbrev pub split_place : ℕ → ℕ → ℕ → Place → Place
split_place from at to p =
    cond (nat_eq p.owner from) (cond (nat_lt p.offset at) p record { owner = to; offset = p.offset - at }) p

-- a place after the references of `from` went to `to`, raised
abbrev pub raised_place : ℕ → ℕ → ℕ → Place → Place
raised_place from to add p = cond (nat_eq p.owner from) record { owner = to; offset = p.offset + add } p

-- each offset, raised, is below this bound
abbrev pub AllBelow : ℕ → ℕ → List (ℕ × ℕ) → Type 0
AllBelow add bound [] = Unit {0}
AllBelow add bound (x ∷ xs) = (x.1 + add < bound) × AllBelow add bound xs
