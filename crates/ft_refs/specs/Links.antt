-- How `Refs` keeps its lists. No public clause cites this module.
use Rattle.std.specs.Prelude.{◌≡◌, ◌≢◌, ℕ, ◌<◌, ◌≤◌, List, map, length, Option, Some, None, option_map, slice_index_or}
use Rattle.slab.specs.Slab.{Slab, get, ContainsKey}
use Rattle.ft_arena.specs.Ids.{points, times}
use Rattle.ft_arena.specs.Links.{walk, IsWalk, IsRing}
use Rattle.ft_refs.specs.declared.numbers.Place.{Place}
use Rattle.ft_refs.specs.declared.numbers.Slot.{Slot}
use Rattle.ft_refs.specs.declared.numbers.Ends.{Ends}
use Rattle.ft_refs.specs.RefLists.{RefLists, place_of_entry, owner_of_place}
use Rattle.ft_refs.specs.declared.refs.Refs.TheInside.{Inside}

abbrev pub next_of_slot : Option Slot → Option ℕ
next_of_slot None = None
next_of_slot (Some slot) = slot.next

abbrev pub prev_of_slot : Option Slot → Option ℕ
prev_of_slot None = None
prev_of_slot (Some slot) = slot.prev

-- the reference after this one; the first one is after none
abbrev pub next_slot : Slab Slot → Option ℕ → Option ℕ → Option ℕ
next_slot s first None = first
next_slot s first (Some r) = next_of_slot (get s r)

-- the reference before this one; the last one is before none
abbrev pub prev_of : Slab Slot → Option ℕ → Option ℕ → Option ℕ
prev_of s last None = last
prev_of s last (Some r) = prev_of_slot (get s r)

abbrev pub place_of_slot : Slot → Option Place
place_of_slot slot = slot.place

-- what a slot shows of its reference
abbrev pub entries_of : Slab Slot → List (Option (Option Place))
entries_of s = map (option_map place_of_slot) s.slots

abbrev pub owner_at : Slab Slot → ℕ → Option ℕ
owner_at s r = owner_of_place (place_of_entry (slice_index_or (entries_of s) r None))

abbrev pub offset_or : Option Place → ℕ
offset_or None = 0
offset_or (Some p) = p.offset

-- a reference with its offset
abbrev pub with_offset : Slab Slot → ℕ → ℕ × ℕ
with_offset s r = (r, offset_or (place_of_entry (slice_index_or (entries_of s) r None)))

-- the references that the links lead along from this first one
abbrev pub refs_from : Slab Slot → Option ℕ → List ℕ
refs_from s first = walk (length s.slots) (next_slot s first) first

abbrev pub list_from : Slab Slot → Option ℕ → List (ℕ × ℕ)
list_from s first = map (with_offset s) (refs_from s first)

-- 1 for None and for a reference of this owner
abbrev pub live_on : Slab Slot → ℕ → Option ℕ → ℕ
live_on s owner None = 1
live_on s owner (Some r) = points (owner_at s r) owner

-- an owner without references
abbrev pub no_ends : Ends
no_ends = record { first = None; last = None }

abbrev pub ends_at : List Ends → ℕ → Ends
ends_at es owner = slice_index_or es owner no_ends

-- the references of an owner lead from one to the next and back
pub record AreLinks (s : Slab Slot) (owner : ℕ) (e : Ends) : Type 0 where
  pub walks : IsWalk (next_slot s e.first) e.first (refs_from s e.first)
  pub ring : IsRing (live_on s owner) (next_slot s e.first) (prev_of s e.last)
  pub once : (r : ℕ) → times (refs_from s e.first) r ≡ live_on s owner (Some r)

-- what contracts see of these slots and ends
abbrev pub shown_lists : Slab Slot → List Ends → RefLists
shown_lists s es = record { lists = map (λ (e : Ends). list_from s e.first) es; refs = entries_of s }

abbrev pub view_of : Inside → RefLists
view_of a = shown_lists a.slots a.ends.items

-- the lists are linked, and each owner of a reference is held
pub record AreLists (s : Slab Slot) (es : List Ends) : Type 0 where
  pub links : (owner : ℕ) → AreLinks s owner (ends_at es owner)
  pub held : (owner r : ℕ) → owner_at s r ≡ Some owner → owner < length es

abbrev pub IsSound : Inside → Type 0
IsSound a = AreLists a.slots a.ends.items

-- there is an owner of this number, and the others are as before
pub record MakesRoom (old new : List Ends) (owner : ℕ) : Type 0 where
  pub held : owner < length new
  pub longer : length old ≤ length new
  pub same : (o : ℕ) → ends_at new o ≡ ends_at old o

-- the one place has this next, and nothing else changes
pub record SetsNext (old : Slab Slot) (old_first : Option ℕ) (new : Slab Slot) (new_first at to : Option ℕ) : Type 0 where
  pub changed : next_slot new new_first at ≡ to
  pub others : (p : Option ℕ) → p ≢ at → next_slot new new_first p ≡ next_slot old old_first p
  pub prevs : (last p : Option ℕ) → prev_of new last p ≡ prev_of old last p
  pub entries : entries_of new ≡ entries_of old

-- the one place has this prev, and nothing else changes
pub record SetsPrev (old : Slab Slot) (old_last : Option ℕ) (new : Slab Slot) (new_last at to : Option ℕ) : Type 0 where
  pub changed : prev_of new new_last at ≡ to
  pub others : (p : Option ℕ) → p ≢ at → prev_of new new_last p ≡ prev_of old old_last p
  pub nexts : (first p : Option ℕ) → next_slot new first p ≡ next_slot old first p
  pub entries : entries_of new ≡ entries_of old

-- the place is None or has a slot
abbrev pub HasPlace : Slab Slot → Option ℕ → Type 0
HasPlace s None = Unit {0}
HasPlace s (Some r) = ContainsKey s r
