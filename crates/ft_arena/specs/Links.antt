-- How an `Arena` keeps its nodes, their links and its list of leaves. No public clause cites this module.
use Rattle.std.specs.Prelude.{◌≡◌, ◌≢◌, ℕ, zero, suc, ◌-◌, ◌<◌, ◌≤◌, List, []}
use Rattle.std.specs.Prelude.{◌∷◌, map, length, Option, Some, None, option_map, slice_index_or, slice_set}
use Rattle.slab.specs.Slab.{Slab, get, slab_len, ContainsKey}
use Rattle.ft_arena.specs.declared.nodes.Node.{Node}
use Rattle.ft_arena.specs.declared.links.Links.{Links}
use Rattle.ft_arena.specs.Forest.{Forest, Entry, IsForest, count_some, leaf_of_entry}
use Rattle.ft_arena.specs.declared.arena.Arena.TheInside.{Inside}

-- links to nothing
abbrev pub no_links : Links
no_links = record { parent = None; prev = None; next = None }

-- the links under a number
abbrev pub links_under : List Links → ℕ → Links
links_under ls id = slice_index_or ls id no_links

-- the number has these links, and every other keeps what it had
pub record PutsLinks (old new : List Links) (id : ℕ) (to : Links) : Type 0 where
  pub changed : links_under new id ≡ to
  pub others : (other : ℕ) → other ≢ id → links_under new other ≡ links_under old other
  pub long : length new ≡ length old

abbrev pub next_changed : Links → Option ℕ → Links
next_changed l to = record { parent = l.parent; prev = l.prev; next = to }

abbrev pub prev_changed : Links → Option ℕ → Links
prev_changed l to = record { parent = l.parent; prev = to; next = l.next }

abbrev pub parent_changed : Links → Option ℕ → Links
parent_changed l to = record { parent = to; prev = l.prev; next = l.next }

-- the links after a write of what follows a place, or stands before it
abbrev pub with_next : List Links → Option ℕ → Option ℕ → List Links
with_next ls None to = ls
with_next ls (Some id) to = slice_set ls id (next_changed (links_under ls id) to)

abbrev pub with_prev : List Links → Option ℕ → Option ℕ → List Links
with_prev ls None to = ls
with_prev ls (Some id) to = slice_set ls id (prev_changed (links_under ls id) to)

-- the first leaf after a write of what follows a place, or the last one after a write of what stands before it
abbrev pub end_with : Option ℕ → Option ℕ → Option ℕ → Option ℕ
end_with end None to = to
end_with end (Some id) to = end

-- what follows a place by the links; the first leaf follows none
abbrev pub next_in : List Links → Option ℕ → Option ℕ → Option ℕ
next_in ls head None = head
next_in ls head (Some id) = (links_under ls id).next

-- the place is None or one of so many numbers
abbrev pub IsWithin : ℕ → Option ℕ → Type 0
IsWithin n None = Unit {0}
IsWithin n (Some id) = id < n

-- the place is None or has a value
abbrev pub HasPlace : {T : Type 0} → Slab T → Option ℕ → Type 0
HasPlace s None = Unit {0}
HasPlace s (Some id) = ContainsKey s id

-- each value stands at one of so many numbers
abbrev pub AreNumbered : {T : Type 0} → Slab T → ℕ → Type 0
AreNumbered s n = (id : ℕ) → ContainsKey s id → id < n

-- a node with its links
pub record Slot (L B : Type 0) : Type 0 where
  pub node : Node L B
  pub parent : Option ℕ
  pub prev : Option ℕ
  pub next : Option ℕ

module _ {L B : Type 0} where
  abbrev pub slot_of : Node L B → Links → Slot L B
  slot_of n l = record { node = n; parent = l.parent; prev = l.prev; next = l.next }

  abbrev pub slot_at : Option (Node L B) → Links → Option (Slot L B)
  slot_at None l = None
  slot_at (Some n) l = Some (slot_of n l)

  -- each node with the links at its number
  abbrev pub zipped : List (Option (Node L B)) → List Links → List (Option (Slot L B))
  zipped [] ls = []
  zipped (n ∷ ns) [] = slot_at n no_links ∷ zipped ns []
  zipped (n ∷ ns) (l ∷ ls) = slot_at n l ∷ zipped ns ls

  abbrev pub slots_of : Slab (Node L B) → List Links → Slab (Slot L B)
  slots_of s ls = record { slots = zipped s.slots ls; vacant_key = s.vacant_key; capacity = s.capacity }

  abbrev pub entry_of : Slot L B → Entry L B
  entry_of slot = record { node = slot.node; parent = slot.parent }

  abbrev pub entries_of : Slab (Slot L B) → List (Option (Entry L B))
  entries_of s = map (option_map entry_of) s.slots

  abbrev pub next_of_slot : Option (Slot L B) → Option ℕ
  next_of_slot None = None
  next_of_slot (Some slot) = slot.next

  abbrev pub prev_of_slot : Option (Slot L B) → Option ℕ
  prev_of_slot None = None
  prev_of_slot (Some slot) = slot.prev

  -- the leaf after this one; the first one is after none
  abbrev pub next_of : Slab (Slot L B) → Option ℕ → Option ℕ → Option ℕ
  next_of s head None = head
  next_of s head (Some id) = next_of_slot (get s id)

  -- the leaf before this one; the last one is before none
  abbrev pub prev_of : Slab (Slot L B) → Option ℕ → Option ℕ → Option ℕ
  prev_of s tail None = tail
  prev_of s tail (Some id) = prev_of_slot (get s id)

-- at most n numbers, each found from the one before it
abbrev pub walk : ℕ → (Option ℕ → Option ℕ) → Option ℕ → List ℕ
walk zero next at = []
walk (suc n) next None = []
walk (suc n) next (Some id) = id ∷ walk n next (next (Some id))

-- from this start each number of the list leads to the next, and the last to none
abbrev pub IsWalk : (Option ℕ → Option ℕ) → Option ℕ → List ℕ → Type 0
IsWalk next at [] = at ≡ None
IsWalk next at (id ∷ rest) = (at ≡ Some id) × IsWalk next (next (Some id)) rest

-- each live place leads to a live place and back; None stands before the first leaf and after the last
pub record IsRing (live : Option ℕ → ℕ) (next prev : Option ℕ → Option ℕ) : Type 0 where
  pub next_live : (p : Option ℕ) → live p ≡ 1 → live (next p) ≡ 1
  pub prev_live : (p : Option ℕ) → live p ≡ 1 → live (prev p) ≡ 1
  pub back : (p : Option ℕ) → live p ≡ 1 → prev (next p) ≡ p
  pub forth : (p : Option ℕ) → live p ≡ 1 → next (prev p) ≡ p

-- the slots of an arena, and where its list of leaves begins and ends
pub record Chain (L B : Type 0) : Type 0 where
  pub slots : Slab (Slot L B)
  pub head : Option ℕ
  pub tail : Option ℕ

module _ {L B : Type 0} where
  -- 1 for None and for a live leaf
  abbrev pub live_of : List (Option (Entry L B)) → Option ℕ → ℕ
  live_of nodes None = 1
  live_of nodes (Some id) = count_some (leaf_of_entry (slice_index_or nodes id None))

  abbrev pub leaves_of : Slab (Slot L B) → Option ℕ → List ℕ
  leaves_of s head = walk (length s.slots) (next_of s head) head

  -- the leaves lead from one to the next and back
  pub record AreLinks (s : Slab (Slot L B)) (head tail : Option ℕ) : Type 0 where
    pub walks : IsWalk (next_of s head) head (leaves_of s head)
    pub ring : IsRing (live_of (entries_of s)) (next_of s head) (prev_of s tail)

  -- the list of leaves and the nodes, with this many spare
  abbrev pub forest_of : Chain L B → ℕ → Forest L B
  forest_of a spare = record { leaves = leaves_of a.slots a.head; nodes = entries_of a.slots; spare = spare }

  -- the same with none spare, which no law on the leaves and the nodes looks at
  abbrev pub nodes_of : Chain L B → Forest L B
  nodes_of a = forest_of a 0

  abbrev pub IsChain : Chain L B → Type 0
  IsChain a = AreLinks a.slots a.head a.tail × IsForest (nodes_of a)

  abbrev pub chain_of : Inside L B → Chain L B
  chain_of a = record { slots = slots_of a.nodes a.links.items; head = a.head; tail = a.tail }

  abbrev pub view_of : Inside L B → Forest L B
  view_of a = forest_of (chain_of a) a.spare

  -- there are links at so many numbers: at each that a node has, and at each that one of so many nodes more may get
  pub record HaveRoom (nodes : Slab (Node L B)) (numbers spare : ℕ) : Type 0 where
    pub numbered : AreNumbered nodes numbers
    pub nodes_fit : spare ≤ nodes.capacity - slab_len nodes
    pub links_fit : 1 ≤ spare → nodes.capacity ≤ numbers

  -- the leaves are a chain, and there is room for as many nodes as are spare
  abbrev pub IsSound : Inside L B → Type 0
  IsSound a = IsChain (chain_of a) × HaveRoom a.nodes (length a.links.items) a.spare
