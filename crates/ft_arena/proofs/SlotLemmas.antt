-- What nodes and the links beside them show as slots.
use Rattle.std.proofs.Common.{◌≡◌, ◌≢◌, ℕ, zero, suc, ◌<◌, ◌≤◌, List, [], ◌∷◌, ◌+◌, length, drop, get_or, set, Option}
use Rattle.std.proofs.Common.{Some, None, IsSome, refl, sym, ap, subst, ◌∙◌, inl, inr, arith, length-set, cond, is_some, true≢false}
use Rattle.std.specs.Prelude.{count_by, max}
use Rattle.std.proofs.lemmas.Bool.{cases_eq}
use Rattle.std.proofs.lemmas.List.{get_or_read}
use Rattle.std.proofs.lemmas.List.Sums.{sum_by-set}
use Rattle.slab.specs.Slab.{Slab, get, slab_len, HasRoomFor, ContainsKey, with_value, Updates}
use Rattle.slab.proofs.SlabLemmas.{ContainsKey-within, Updates-with_value}
use Rattle.ft_arena.specs.declared.nodes.Node.{Node}
use Rattle.ft_arena.specs.declared.nodes.Node.TheVariants.{Leaf, Block}
use Rattle.ft_arena.specs.declared.links.Links.{Links}
use Rattle.ft_arena.specs.Links.{no_links, links_under, next_changed, prev_changed, with_next, with_prev, end_with, next_in}
use Rattle.ft_arena.specs.Links.{IsWithin, AreNumbered, HasPlace, Slot, slot_of, slot_at, zipped, slots_of, next_of}
use Rattle.ft_arena.specs.Links.{next_of_slot, prev_of, prev_of_slot, entries_of, entry_of, live_of, HaveRoom}
use Rattle.ft_arena.specs.Forest.{Entry, parent_of_entry, leaf_of_entry, block_of_entry, leaf_of_node, block_of_node, kids_of_node, kids_of_entry}
use Rattle.std.specs.Option.{option_map}
use Rattle.ft_arena.proofs.ArenaLemmas.{SetsNext, SetsPrev, sets_next, sets_prev, leaf_has_slot, entries_at}

-- what was read at a number that has links
pub links_read : (ls : List Links) (id : ℕ) (l : Links) → id < length ls → l ≡ get_or ls id l → l ≡ links_under ls id
links_read ls id l within read = get_or_read ls id l within read no_links

pub length-with_next : (ls : List Links) (at to : Option ℕ) → length (with_next ls at to) ≡ length ls
length-with_next ls None to = refl
length-with_next ls (Some id) to = length-set ls id (next_changed (links_under ls id) to)

pub length-with_prev : (ls : List Links) (at to : Option ℕ) → length (with_prev ls at to) ≡ length ls
length-with_prev ls None to = refl
length-with_prev ls (Some id) to = length-set ls id (prev_changed (links_under ls id) to)

pub some_value : {X : Type 0} (o : Option X) → IsSome o → (x : X) × (o ≡ Some x)
some_value None h = cc
some_value (Some x) h = (x, refl)

-- a place with a value is one of the numbers
pub place_within : {T : Type 0} (s : Slab T) (n : ℕ) (p : Option ℕ) → AreNumbered s n → HasPlace s p → IsWithin n p
place_within s n None e h = tt
place_within s n (Some id) e h = e id h

-- the same at as many numbers
pub numbered_as : {T : Type 0} (s : Slab T) (n n' : ℕ) → n' ≡ n → AreNumbered s n → AreNumbered s n'
numbered_as s n n' e h = subst (AreNumbered s) (sym e) h

-- the others, where one value was taken out
pub numbered_still : {T : Type 0} (s s' : Slab T) (key n : ℕ) → Updates s s' key None → AreNumbered s n → AreNumbered s' n
numbered_still {T} s s' key n u h id there = elim (cases_eq id key) [
  | inl e ↦ absurd (true≢false (sym there ∙ ap (λ (z : ℕ). is_some (get s' z)) e ∙ ap is_some u.changed))
  | inr d ↦ h id (subst (λ (o : Option T). IsSome o) (u.others id d) there)
]

module _ {T : Type 0} (s s' : Slab T) where
  pub same_numbered : (n n' : ℕ) → s'.slots ≡ s.slots → n ≤ n' → AreNumbered s n → AreNumbered s' n'
  same_numbered n n' e k h id there = omega (arith, k, h id (subst (λ (os : List (Option T)). IsSome (get_or os id None)) e there))

  -- what keeps all values keeps all places
  pub kept_place : ((x : ℕ) → ContainsKey s x → ContainsKey s' x) → (p : Option ℕ) → HasPlace s p → HasPlace s' p
  kept_place k None h = tt
  kept_place k (Some id) h = k id h

module _ {T : Type 0} (s : Slab T) (id : ℕ) (old new : T) (found : get s id ≡ Some old) where
  -- a write of a value takes none away
  pub still_there : (x : ℕ) → ContainsKey s x → ContainsKey (with_value s id new) x
  still_there x h =
      let u : Updates s (with_value s id new) id (Some new) = Updates-with_value s id new (rw found refl) in
      elim (cases_eq x id) [
        | inl e ↦ subst (λ (z : ℕ). IsSome (get (with_value s id new) z)) (sym e) (rw u.changed refl)
        | inr d ↦ subst (λ (o : Option T). IsSome o) (sym (u.others x d)) h
      ]

  pub was_there : (x : ℕ) → ContainsKey (with_value s id new) x → ContainsKey s x
  was_there x h =
      let u : Updates s (with_value s id new) id (Some new) = Updates-with_value s id new (rw found refl) in
      elim (cases_eq x id) [
        | inl e ↦ subst (λ (z : ℕ). IsSome (get s z)) (sym e) (rw found refl)
        | inr d ↦ subst (λ (o : Option T). IsSome o) (u.others x d) h
      ]

  len_kept : slab_len (with_value s id new) ≡ slab_len s
  len_kept =
      let l : id < length s.slots = ContainsKey-within s id (rw found refl) in
      let e = sum_by-set (λ (o : Option T). cond (is_some o) 1 0) s.slots id (Some new) None l in
      let one : ℕ = 1 in let f : cond (is_some (get s id)) 1 0 ≡ one = rw found refl in
      omega (arith, e, f)

module _ {L B : Type 0} where
  pub less_room : (s : Slab (Node L B)) (n spare less : ℕ) → less ≤ spare → HaveRoom s n spare → HaveRoom s n less
  less_room s n spare less le h =
      record { numbered = h.numbered; nodes_fit = omega (arith, h.nodes_fit, le); links_fit = λ one. h.links_fit (omega (arith, one, le)) }

  -- as many nodes are spare after a write of one
  pub room_written : (s : Slab (Node L B)) (n n' spare id : ℕ) (old new : Node L B) → get s id ≡ Some old → n' ≡ n → HaveRoom s n spare
      → HaveRoom (with_value s id new) n' spare
  room_written s n n' spare id old new found same h =
      record {
        numbered = λ x there. omega (arith, same, h.numbered x (was_there s id old new found x there));
        nodes_fit = omega (arith, h.nodes_fit, len_kept s id old new found);
        links_fit = λ one. omega (arith, same, h.links_fit one);
      }

  -- as many links
  pub kept_room : (s : Slab (Node L B)) (n n' spare : ℕ) → n' ≡ n → HaveRoom s n spare → HaveRoom s n' spare
  kept_room s n n' spare e h = rw e h

  -- a node fewer
  pub room_freed : (s s' : Slab (Node L B)) (key n n' spare : ℕ) → Updates s s' key None → slab_len s' + 1 ≡ slab_len s → s'.capacity ≡ s.capacity → n' ≡ n
      → HaveRoom s n spare → HaveRoom s' n' spare
  room_freed s s' key n n' spare gone len room links h =
      record {
        numbered = numbered_as s' n n' links (numbered_still s s' key n gone h.numbered);
        nodes_fit = omega (arith, len, room, h.nodes_fit);
        links_fit = λ one. omega (arith, room, links, h.links_fit one);
      }

  -- none spare
  pub none_spare : (s s' : Slab (Node L B)) (n n' spare : ℕ) → s'.slots ≡ s.slots → n' ≡ n → HaveRoom s n spare → HaveRoom s' n' 0
  none_spare s s' n n' spare e same h =
      record { numbered = same_numbered s s' n n' e (omega (arith, same)) h.numbered; nodes_fit = omega arith; links_fit = λ one. absurd (omega (arith, one)) }

  -- room for so many nodes more, and for those that there was room for
  pub room_made : (s s' : Slab (Node L B)) (numbers numbers' spare n : ℕ) → s'.slots ≡ s.slots → s.capacity ≤ s'.capacity → HasRoomFor s' n
      → numbers' ≡ max numbers s'.capacity → HaveRoom s numbers spare → HaveRoom s' numbers' (max spare n)
  room_made s s' numbers numbers' spare n e grown room made h =
      let len : slab_len s' ≡ slab_len s = ap (λ (os : List (Option (Node L B))). count_by is_some os) e in
      record {
        numbered = same_numbered s s' numbers numbers' e (omega (arith, made)) h.numbered;
        nodes_fit = omega (arith, h.nodes_fit, len, grown, room);
        links_fit = λ one. omega (arith, made);
      }

  -- the same nodes, and links that are the same at each number
  pub zipped-same : (ns : List (Option (Node L B))) (ls ls' : List Links) → ((id : ℕ) → links_under ls' id ≡ links_under ls id) → zipped ns ls' ≡ zipped ns ls
  zipped-same [] ls ls' same = refl
  zipped-same (n ∷ ns) ls ls' same =
      zipped-step n ns ls' ∙ ap (λ l. slot_at n l ∷ zipped ns (drop 1 ls')) (same 0)
      ∙ ap (λ zs. slot_at n (links_under ls 0) ∷ zs) (zipped-same ns (drop 1 ls) (drop 1 ls') (λ id. rest ls' id ∙ same (suc id) ∙ sym (rest ls id)))
      ∙ sym (zipped-step n ns ls)
    where
      zipped-step : (n : Option (Node L B)) (ns : List (Option (Node L B))) (ls : List Links)
          → zipped (n ∷ ns) ls ≡ slot_at n (links_under ls 0) ∷ zipped ns (drop 1 ls)
      zipped-step n ns [] = refl
      zipped-step n ns (l ∷ ls) = refl

      rest : (ls : List Links) (id : ℕ) → links_under (drop 1 ls) id ≡ links_under ls (suc id)
      rest [] id = refl
      rest (l ∷ ls) id = refl

  pub grown_slots : (s s' : Slab (Node L B)) (ls ls' : List Links) → s'.slots ≡ s.slots → ((id : ℕ) → links_under ls' id ≡ links_under ls id)
      → (slots_of s' ls').slots ≡ (slots_of s ls).slots
  grown_slots s s' ls ls' e same = ap (λ ns. zipped ns ls') e ∙ zipped-same s.slots ls ls' same

  -- the same nodes and links, whatever room there is
  pub same_slots : (s s' : Slab (Node L B)) (ls ls' : List Links) → s'.slots ≡ s.slots → ls' ≡ ls → (slots_of s' ls').slots ≡ (slots_of s ls).slots
  same_slots s s' ls ls' e k = ap (λ ns. zipped ns ls') e ∙ ap (zipped s.slots) k

  pub length-zipped : (ns : List (Option (Node L B))) (ls : List Links) → length (zipped ns ls) ≡ length ns
  length-zipped [] ls = refl
  length-zipped (n ∷ ns) [] = omega (arith, length-zipped ns [])
  length-zipped (n ∷ ns) (l ∷ ls) = omega (arith, length-zipped ns ls)

  zipped-at : (ns : List (Option (Node L B))) (ls : List Links) (id : ℕ) → get_or (zipped ns ls) id None ≡ slot_at (get_or ns id None) (links_under ls id)
  zipped-at [] ls id = refl
  zipped-at (n ∷ ns) [] zero = refl
  zipped-at (n ∷ ns) (l ∷ ls) zero = refl
  zipped-at (n ∷ ns) [] (suc id) = zipped-at ns [] id
  zipped-at (n ∷ ns) (l ∷ ls) (suc id) = zipped-at ns ls id

  zipped-set_node : (ns : List (Option (Node L B))) (ls : List Links) (id : ℕ) (n : Node L B)
      → zipped (set ns id (Some n)) ls ≡ set (zipped ns ls) id (Some (slot_of n (links_under ls id)))
  zipped-set_node [] ls id n = refl
  zipped-set_node (o ∷ ns) [] zero n = refl
  zipped-set_node (o ∷ ns) (l ∷ ls) zero n = refl
  zipped-set_node (o ∷ ns) [] (suc id) n = ap (λ t. slot_at o no_links ∷ t) (zipped-set_node ns [] id n)
  zipped-set_node (o ∷ ns) (l ∷ ls) (suc id) n = ap (λ t. slot_at o l ∷ t) (zipped-set_node ns ls id n)

  zipped-set_links : (ns : List (Option (Node L B))) (ls : List Links) (id : ℕ) (l : Links) → id < length ls
      → zipped ns (set ls id l) ≡ set (zipped ns ls) id (slot_at (get_or ns id None) l)
  zipped-set_links [] ls id l within = refl
  zipped-set_links (o ∷ ns) [] id l within = absurd (omega arith)
  zipped-set_links (o ∷ ns) (k ∷ ls) zero l within = refl
  zipped-set_links (o ∷ ns) (k ∷ ls) (suc id) l within = ap (λ t. slot_at o k ∷ t) (zipped-set_links ns ls id l (omega arith))

  -- the slot at a number is that of the node there
  pub slots_at : (s : Slab (Node L B)) (ls : List Links) (id : ℕ) → get (slots_of s ls) id ≡ slot_at (get s id) (links_under ls id)
  slots_at s ls id = zipped-at s.slots ls id

  pub found_slot : (s : Slab (Node L B)) (ls : List Links) (id : ℕ) (n : Node L B) → get s id ≡ Some n
      → get (slots_of s ls) id ≡ Some (slot_of n (links_under ls id))
  found_slot s ls id n found = slots_at s ls id ∙ ap (λ o. slot_at o (links_under ls id)) found

  pub has_node : (s : Slab (Node L B)) (ls : List Links) (id : ℕ) → ContainsKey (slots_of s ls) id → ContainsKey s id
  has_node s ls id h = of_slot (get s id) (subst IsSome (slots_at s ls id) h)
    where
      of_slot : (o : Option (Node L B)) → IsSome (slot_at o (links_under ls id)) → IsSome o
      of_slot None h = h
      of_slot (Some n) h = refl

  pub node_place : (s : Slab (Node L B)) (ls : List Links) (p : Option ℕ) → HasPlace (slots_of s ls) p → HasPlace s p
  node_place s ls None h = tt
  node_place s ls (Some id) h = has_node s ls id h

  -- a live place has a node
  pub live_place : (s : Slab (Node L B)) (ls : List Links) (p : Option ℕ) → live_of (entries_of (slots_of s ls)) p ≡ 1 → HasPlace s p
  live_place s ls None h = tt
  live_place s ls (Some id) h = has_node s ls id (leaf_has_slot (slots_of s ls) id h)

  -- a write of a node that is there, or of its links
  pub slots-with_node : (s : Slab (Node L B)) (ls : List Links) (id : ℕ) (n : Node L B)
      → slots_of (with_value s id n) ls ≡ with_value (slots_of s ls) id (slot_of n (links_under ls id))
  slots-with_node s ls id n =
      let f : List (Option (Slot L B)) → Slab (Slot L B) = λ zs. record { slots = zs; vacant_key = s.vacant_key; capacity = s.capacity } in
      ap f (zipped-set_node s.slots ls id n)

  pub slots-with_links : (s : Slab (Node L B)) (ls : List Links) (id : ℕ) (l : Links) (n : Node L B) → get s id ≡ Some n → id < length ls
      → slots_of s (set ls id l) ≡ with_value (slots_of s ls) id (slot_of n l)
  slots-with_links s ls id l n found within =
      let f : List (Option (Slot L B)) → Slab (Slot L B) = λ zs. record { slots = zs; vacant_key = s.vacant_key; capacity = s.capacity } in
      ap f (zipped-set_links s.slots ls id l within ∙ ap (λ o. set (zipped s.slots ls) id (slot_at o l)) found)

  -- a change at one number
  pub slots-updates : (s s' : Slab (Node L B)) (ls ls' : List Links) (id : ℕ) (o : Option (Node L B)) (l : Links) → Updates s s' id o → links_under ls' id ≡ l
      → ((x : ℕ) → x ≢ id → links_under ls' x ≡ links_under ls x) → Updates (slots_of s ls) (slots_of s' ls') id (slot_at o l)
  slots-updates s s' ls ls' id o l u here others =
      record {
        changed = slots_at s' ls' id ∙ ap (λ p. slot_at p (links_under ls' id)) u.changed ∙ ap (slot_at o) here;
        others = λ x d. slots_at s' ls' x ∙ ap (λ p. slot_at p (links_under ls' x)) (u.others x d) ∙ ap (slot_at (get s x)) (others x d) ∙ sym (slots_at s ls x);
      }

  -- what follows a place that has a node
  pub next_shown : (s : Slab (Node L B)) (ls : List Links) (head p : Option ℕ) → HasPlace s p → next_in ls head p ≡ next_of (slots_of s ls) head p
  next_shown s ls head None h = refl
  next_shown s ls head (Some id) h = let n = some_value (get s id) h in sym (ap next_of_slot (found_slot s ls id n.0 n.1))

  -- a write of one link, seen at the slots
  pub slots_next : (s : Slab (Node L B)) (ls ls' : List Links) (head head' at to : Option ℕ) → AreNumbered s (length ls) → HasPlace s at
      → ls' ≡ with_next ls at to
      → head' ≡ end_with head at to → SetsNext (slots_of s ls) head (slots_of s ls') head' at to
  slots_next s ls ls' head head' None to long h e k =
      rw (e, k) record { changed = refl; others = elim [ None ↦ λ d. absurd (d refl) | Some x ↦ λ d. refl ]; prevs = λ tail p. refl; entries = refl }
  slots_next s ls ls' head head' (Some id) to long h e k =
      let n = some_value (get s id) h in
      let l : Links = links_under ls id in
      rw (e, k, slots-with_links s ls id (next_changed l to) n.0 n.1 (long id h))
      (sets_next (slots_of s ls) head to id (slot_of n.0 l) (found_slot s ls id n.0 n.1))

  pub slots_prev : (s : Slab (Node L B)) (ls ls' : List Links) (tail tail' at to : Option ℕ) → AreNumbered s (length ls) → HasPlace s at
      → ls' ≡ with_prev ls at to
      → tail' ≡ end_with tail at to → SetsPrev (slots_of s ls) tail (slots_of s ls') tail' at to
  slots_prev s ls ls' tail tail' None to long h e k =
      rw (e, k) record { changed = refl; others = elim [ None ↦ λ d. absurd (d refl) | Some x ↦ λ d. refl ]; nexts = λ head p. refl; entries = refl }
  slots_prev s ls ls' tail tail' (Some id) to long h e k =
      let n = some_value (get s id) h in
      let l : Links = links_under ls id in
      rw (e, k, slots-with_links s ls id (prev_changed l to) n.0 n.1 (long id h))
      (sets_prev (slots_of s ls) tail to id (slot_of n.0 l) (found_slot s ls id n.0 n.1))

  -- what stands before a leaf, and above a node
  pub prev_shown : (s : Slab (Node L B)) (ls : List Links) (tail : Option ℕ) (id : ℕ) → ContainsKey s id
      → (links_under ls id).prev ≡ prev_of (slots_of s ls) tail (Some id)
  prev_shown s ls tail id h = let n = some_value (get s id) h in sym (ap prev_of_slot (found_slot s ls id n.0 n.1))

  pub entry_is : (s : Slab (Node L B)) (ls : List Links) (id : ℕ) (n : Node L B) → get s id ≡ Some n
      → get_or (entries_of (slots_of s ls)) id None ≡ Some (entry_of (slot_of n (links_under ls id)))
  entry_is s ls id n found = entries_at (slots_of s ls) id ∙ ap (option_map entry_of) (found_slot s ls id n found)

  pub parent_shown : (s : Slab (Node L B)) (ls : List Links) (id : ℕ) → ContainsKey s id
      → (links_under ls id).parent ≡ parent_of_entry (get_or (entries_of (slots_of s
      ls)) id None)
  parent_shown s ls id h = let n = some_value (get s id) h in sym (ap parent_of_entry (entry_is s ls id n.0 n.1))

  pub entry_shown : (s : Slab (Node L B)) (ls : List Links) (id : ℕ) (n : Node L B) → get s id ≡ Some n
      → get_or (entries_of (slots_of s ls)) id None ≡ Some record { node = n; parent = parent_of_entry (get_or (entries_of (slots_of s ls)) id None) }
  entry_shown s ls id n found =
      let f : Option ℕ → Option (Entry L B) = λ o. Some record { node = n; parent = o } in
      let e = entry_is s ls id n found in
      e ∙ ap f (sym (ap parent_of_entry e))

  -- a live number has a node
  pub entry_node : (s : Slab (Node L B)) (ls : List Links) (id : ℕ) → IsSome (get_or (entries_of (slots_of s ls)) id None) → ContainsKey s id
  entry_node s ls id h = has (get s id) (subst (λ (o : Option (Entry L B)). IsSome o) (entries_at (slots_of s ls) id ∙ ap (option_map entry_of) (slots_at s ls id)) h)
    where
      has : (o : Option (Node L B)) → IsSome (option_map entry_of (slot_at o (links_under ls id))) → IsSome o
      has None h = h
      has (Some n) h = refl

  pub block_node : (s : Slab (Node L B)) (ls : List Links) (id : ℕ) → IsSome (block_of_entry (get_or (entries_of (slots_of s ls)) id None)) → ContainsKey s id
  block_node s ls id h = entry_node s ls id (has (get_or (entries_of (slots_of s ls)) id None) h)
    where
      has : (o : Option (Entry L B)) → IsSome (block_of_entry o) → IsSome o
      has None h = h
      has (Some e) h = refl

  -- what the arena shows of a node, read at the node
  pub leaf_here : (s : Slab (Node L B)) (ls : List Links) (id : ℕ) (n : Node L B) → get s id ≡ Some n
      → IsSome (leaf_of_entry (get_or (entries_of (slots_of s ls)) id None)) → IsSome (leaf_of_node n)
  leaf_here s ls id n found h = subst (λ (o : Option (Entry L B)). IsSome (leaf_of_entry o)) (entry_is s ls id n found) h

  pub block_here : (s : Slab (Node L B)) (ls : List Links) (id : ℕ) (n : Node L B) → get s id ≡ Some n
      → IsSome (block_of_entry (get_or (entries_of (slots_of s ls)) id None)) → IsSome (block_of_node n)
  block_here s ls id n found h = subst (λ (o : Option (Entry L B)). IsSome (block_of_entry o)) (entry_is s ls id n found) h

  pub vacant_shown : (s : Slab (Node L B)) (ls : List Links) (id : ℕ) → get s id ≡ None → get_or (entries_of (slots_of s ls)) id None ≡ None
  vacant_shown s ls id vacant =
      entries_at (slots_of s ls) id ∙ ap (option_map entry_of) (slots_at s ls id ∙ ap (λ o. slot_at o (links_under ls id)) vacant)

  -- what has children is a block
  pub block_from_entry : (o : Option (Entry L B)) (at : ℕ) → at < length (kids_of_entry o) → IsSome (block_of_entry o)
  block_from_entry None at h = absurd (omega arith)
  block_from_entry (Some e) at h = of_node e.node h
    where
      of_node : (n : Node L B) → at < length (kids_of_node n) → IsSome (block_of_node n)
      of_node (Leaf v) h = absurd (omega arith)
      of_node (Block ks v) h = refl

  pub empty_slots : (s : Slab (Node L B)) (ls : List Links) → s.slots ≡ [] → (slots_of s ls).slots ≡ []
  empty_slots s ls e = ap (λ ns. zipped ns ls) e
