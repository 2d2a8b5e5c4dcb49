-- What `put_child`, `take_child` and `leaf_mut` leave.
use Rattle.std.proofs.Common.{IsSome, insert, remove, slice_get, ◌≡◌, ◌≢◌, ℕ, ◌<◌, ◌≤◌, List, length, set, Option, Some, None, refl, sym, ap, subst, ◌∙◌, arith}
use Rattle.std.specs.Option.{option_map}
use Rattle.slab.specs.Slab.{Slab, get, Updates, with_value, ContainsKey}
use Rattle.slab.proofs.SlabLemmas.{Updates-with_value}
use Rattle.std.proofs.lemmas.List.{map-set}
use Rattle.std.proofs.lemmas.Option.{slice_get_within}
use Rattle.ft_arena.specs.Links.{Slot}
use Rattle.ft_arena.specs.declared.nodes.Node.{Node}
use Rattle.ft_arena.specs.declared.nodes.Node.TheVariants.{Leaf, Block}
use Rattle.ft_arena.specs.Ids.{points}
use Rattle.ft_arena.specs.Forest.{Forest, Entry, IsForest, Changes, count_some, leaf_of_entry, kids_of_entry, parent_of_entry, block_of_entry, entry, kids_of, parent_of}
use Rattle.ft_arena.specs.Forest.{leaf_value, block_value, leaf_of_node, block_of_node, kids_of_node, with_kids, with_leaf, with_block, with_block_entry, PutsChild}
use Rattle.ft_arena.specs.Forest.{TakesChild}
use Rattle.ft_arena.specs.declared.links.Links.{Links}
use Rattle.ft_arena.specs.Links.{entries_of, entry_of, leaves_of, nodes_of, Chain, IsChain, links_under, parent_changed, slot_of, slots_of}
use Rattle.ft_arena.proofs.IdLemmas.{times-remove, same_refl}
use Rattle.ft_arena.proofs.ArenaLemmas.{entries_at, forest_eq}
use Rattle.ft_arena.proofs.SlotLemmas.{some_value, still_there, has_node, found_slot, slots-with_node, slots-with_links}
use Rattle.ft_arena.proofs.KidLemmas.{Linked, Linked-from, links_at, Changes-at, kept, IsForest-puts, IsForest-takes, sound_at}

module _ {L B : Type 0} where
  pub leaf_with_kids : (n : Node L B) (ks : List ℕ) → leaf_of_node (with_kids n ks) ≡ leaf_of_node n
  leaf_with_kids (Leaf v) ks = refl
  leaf_with_kids (Block k v) ks = refl

  pub block_with_kids : (n : Node L B) (ks : List ℕ) → block_of_node (with_kids n ks) ≡ block_of_node n
  block_with_kids (Leaf v) ks = refl
  block_with_kids (Block k v) ks = refl

  pub kids_with_kids : (n : Node L B) (ks : List ℕ) → IsSome (block_of_node n) → kids_of_node (with_kids n ks) ≡ ks
  kids_with_kids (Leaf v) ks h = cc
  kids_with_kids (Block k v) ks h = refl

  pub block_from_kids : (n : Node L B) (at : ℕ) → at < length (kids_of_node n) → IsSome (block_of_node n)
  block_from_kids (Leaf v) at h = absurd (omega arith)
  block_from_kids (Block k v) at h = refl

  pub leaf_is : (n : Node L B) (v : L) → leaf_of_node n ≡ Some v → n ≡ Leaf v
  leaf_is (Leaf w) v h = ap Leaf (cc)
  leaf_is (Block k w) v h = cc

  -- the slot with this node, or with this parent
  abbrev pub with_node : Slot L B → Node L B → Slot L B
  with_node s n = record { node = n; parent = s.parent; prev = s.prev; next = s.next }

  abbrev pub with_parent : Slot L B → Option ℕ → Slot L B
  with_parent s p = record { node = s.node; parent = p; prev = s.prev; next = s.next }

module _ {L B : Type 0} (s0 : Slab (Slot L B)) (h t : Option ℕ) (block child : ℕ) (slot1 slot2 : Slot L B) (node : Node L B) (ks : List ℕ) (par : Option ℕ)
    (links : Linked s0 h t) (found1 : get s0 block ≡ Some slot1) (is_block : IsSome (block_of_node slot1.node)) (rest : node ≡ with_kids slot1.node ks)
    (found2 : get (with_value s0 block (with_node slot1 node)) child ≡ Some slot2) where
  abbrev s1 : Slab (Slot L B)
  s1 = with_value s0 block (with_node slot1 node)

  abbrev s2 : Slab (Slot L B)
  s2 = with_value s1 child (with_parent slot2 par)

  abbrev a0 : Forest L B
  a0 = nodes_of record { slots = s0; head = h; tail = t }

  abbrev a1 : Forest L B
  a1 = nodes_of record { slots = s1; head = h; tail = t }

  abbrev a2 : Forest L B
  a2 = nodes_of record { slots = s2; head = h; tail = t }

  u1 : Updates s0 s1 block (Some (with_node slot1 node))
  u1 = Updates-with_value s0 block (with_node slot1 node) (rw found1 refl)

  u2 : Updates s1 s2 child (Some (with_parent slot2 par))
  u2 = Updates-with_value s1 child (with_parent slot2 par) (rw found2 refl)

  c1 : Changes a0 a1 block (Some (entry_of (with_node slot1 node)))
  c1 = Changes-at s0 s1 h t h t block (Some (with_node slot1 node)) u1

  c2 : Changes a1 a2 child (Some (entry_of (with_parent slot2 par)))
  c2 = Changes-at s1 s2 h t h t child (Some (with_parent slot2 par)) u2

  e1 : Some (entry_of slot1) ≡ entry a0 block
  e1 = ap (option_map entry_of) (sym found1) ∙ sym (entries_at s0 block)

  e2 : Some (entry_of slot2) ≡ entry a1 child
  e2 = ap (option_map entry_of) (sym found2) ∙ sym (entries_at s1 child)

  leaf1 : leaf_of_node node ≡ leaf_of_node slot1.node
  leaf1 = ap leaf_of_node rest ∙ leaf_with_kids slot1.node ks

  block1 : block_of_node node ≡ block_of_node slot1.node
  block1 = ap block_of_node rest ∙ block_with_kids slot1.node ks

  pub both_links : Linked s2 h t × (leaves_of s2 h ≡ leaves_of s0 h)
  both_links =
      let r = links_at s0 s1 h t block (Some slot1) (Some (with_node slot1 node)) found1 u1 refl refl (ap count_some leaf1) links in
      let q = links_at s1 s2 h t child (Some slot2) (Some (with_parent slot2 par)) found2 u2 refl refl refl r.0 in (
        q.0,
        q.1 ∙ r.1,
      )

  pub both_kids : kids_of a2 block ≡ ks
  both_kids = kept kids_of_entry a1 a2 child _ c2 (ap kids_of_entry e2) block ∙ ap kids_of_entry c1.changed ∙ ap kids_of_node rest ∙ kids_with_kids slot1.node ks is_block

  pub both_other_kids : (b : ℕ) → b ≢ block → kids_of a2 b ≡ kids_of a0 b
  both_other_kids b d = kept kids_of_entry a1 a2 child _ c2 (ap kids_of_entry e2) b ∙ ap kids_of_entry (c1.others b d)

  pub both_parent : parent_of a2 child ≡ par
  both_parent = ap parent_of_entry c2.changed

  pub both_other_parents : (id : ℕ) → id ≢ child → parent_of a2 id ≡ parent_of a0 id
  both_other_parents id d = ap parent_of_entry (c2.others id d) ∙ kept parent_of_entry a0 a1 block _ c1 (ap parent_of_entry e1) id

  pub both_leaf_values : (id : ℕ) → leaf_value a2 id ≡ leaf_value a0 id
  both_leaf_values id = kept leaf_of_entry a1 a2 child _ c2 (ap leaf_of_entry e2) id ∙ kept leaf_of_entry a0 a1 block _ c1 (leaf1 ∙ ap leaf_of_entry e1) id

  pub both_block_values : (id : ℕ) → block_value a2 id ≡ block_value a0 id
  both_block_values id = kept block_of_entry a1 a2 child _ c2 (ap block_of_entry e2) id ∙ kept block_of_entry a0 a1 block _ c1 (block1 ∙ ap block_of_entry e1) id

module _ {L B : Type 0} where
  -- a write of a leaf's value
  pub written_sound : (s : Slab (Slot L B)) (h t : Option ℕ) (id : ℕ) (slot : Slot L B) (v w : L) → get s id ≡ Some slot → leaf_of_node slot.node ≡ Some v
      → IsChain record { slots = s; head = h; tail = t } → IsChain record {
        slots = with_value s id (with_node slot (Leaf w));
        head = h;
        tail =
            t;
      } × (nodes_of record {
        slots = with_value s id (with_node slot (Leaf w));
        head = h;
        tail =
            t;
      } ≡ with_leaf (nodes_of record { slots = s; head = h; tail = t }) id w)
  written_sound s h t id slot v w found leaf f =
      let n : slot.node ≡ Leaf v = leaf_is slot.node v leaf in
      let new : Slot L B = with_node slot (Leaf w) in
      let r = sound_at s (with_value s id new) h t id (Some slot) (Some new) found (Updates-with_value s id new (rw found refl)) refl refl (sym (ap count_some leaf))
      (sym (ap kids_of_node n)) refl f in
      let p : parent_of (nodes_of record { slots = s; head = h; tail = t }) id ≡ slot.parent = ap parent_of_entry (entries_at s id ∙ ap (option_map entry_of) found) in
      let e : Option ℕ → Option (Entry L B) = λ o. Some record { node = Leaf w; parent = o } in (
        r.0,
        forest_eq _ _ r.1 (map-set (option_map entry_of) s.slots id (Some new) ∙ ap (λ (o : Option ℕ). set (entries_of s) id (e o)) (sym p)) refl,
      )

module _ {L B : Type 0} where
  pub block_is : (n : Node L B) (v : B) → block_of_node n ≡ Some v → n ≡ Block (kids_of_node n) v
  block_is (Leaf w) v h = cc
  block_is (Block k w) v h = ap (Block k) (cc)

  -- a write of a block's value
  pub block_written_sound : (s : Slab (Slot L B)) (h t : Option ℕ) (id : ℕ) (slot : Slot L B) (v w : B) → get s id ≡ Some slot
      → block_of_node slot.node ≡ Some v
      → IsChain record { slots = s; head = h; tail = t } → IsChain record {
        slots = with_value s id (with_node slot (Block (kids_of_node slot.node) w));
        head = h;
        tail =
            t;
      } × (nodes_of record {
        slots = with_value s id (with_node slot (Block (kids_of_node slot.node) w));
        head = h;
        tail =
            t;
      } ≡ with_block (nodes_of record { slots = s; head = h; tail = t }) id w)
  block_written_sound s h t id slot v w found block f =
      let n : slot.node ≡ Block (kids_of_node slot.node) v = block_is slot.node v block in
      let new : Slot L B = with_node slot (Block (kids_of_node slot.node) w) in
      let r = sound_at s (with_value s id new) h t id (Some slot) (Some new) found (Updates-with_value s id new (rw found refl)) refl refl
      (sym (ap (λ z. count_some (leaf_of_node z)) n)) refl refl f in
      let p : entry (nodes_of record { slots = s; head = h; tail = t }) id ≡ Some (entry_of slot) = entries_at s id ∙ ap (option_map entry_of) found in (
        r.0,
        forest_eq _ _ r.1 (map-set (option_map entry_of) s.slots id (Some new) ∙ ap (λ (o : Option (Entry L B)). set (entries_of s) id (with_block_entry o w)) (sym p)) refl,
      )

-- the links and the forest make a sound arena
both_sound : {L B : Type 0} (s : Slab (Slot L B)) (h t : Option ℕ) → Linked s h t → IsForest (nodes_of record { slots = s; head = h; tail = t })
    → IsChain record { slots = s; head = h; tail = t }
both_sound s h t l f = (l.links, f)

module _ {L B : Type 0} (s0 : Slab (Slot L B)) (h t : Option ℕ) (block at child : ℕ) (slot1 slot2 : Slot L B) (node : Node L B) (sound : IsChain record {
  slots =
      s0;
  head = h;
  tail = t;
}) (found1 : get s0 block ≡ Some slot1) (found2 : get (with_value s0 block (with_node slot1 node)) child ≡ Some slot2) where
  abbrev before : Forest L B
  before = nodes_of record { slots = s0; head = h; tail = t }

  abbrev slots_after : Option ℕ → Slab (Slot L B)
  slots_after par = with_value (with_value s0 block (with_node slot1 node)) child (with_parent slot2 par)

  abbrev after : Option ℕ → Forest L B
  after par = nodes_of record { slots = slots_after par; head = h; tail = t }

  block_entry : entry before block ≡ Some (entry_of slot1)
  block_entry = entries_at s0 block ∙ ap (option_map entry_of) found1

  old_kids : kids_of before block ≡ kids_of_node slot1.node
  old_kids = ap kids_of_entry block_entry

  pub put_done : node ≡ with_kids slot1.node (insert (kids_of_node slot1.node) at child) → IsSome (block_value before block)
      → at ≤ length (kids_of before block)
      → length (kids_of before block) < 8 → parent_of before child ≡ None → IsChain record {
        slots = slots_after (Some block);
        head = h;
        tail =
            t;
      } × (leaves_of (slots_after (Some block)) h ≡ leaves_of s0 h) × PutsChild before (after (Some block)) block at child
  put_done rest is_block within room alone =
      let links = Linked-from s0 h t sound in
      let b : IsSome (block_of_node slot1.node) = subst (λ (o : Option (Entry L B)). IsSome (block_of_entry o)) block_entry is_block in
      let ks : List ℕ = insert (kids_of_node slot1.node) at child in
      let r = both_links s0 h t block child slot1 slot2 node ks (Some block) links found1 b rest found2 in
      let p : PutsChild before (after (Some block)) block at child = record {
        kids = both_kids s0 h t block child slot1 slot2 node ks (Some block) links found1 b rest found2 ∙ ap (λ (zs : List ℕ). insert zs at child) (sym old_kids);
        other_kids = both_other_kids s0 h t block child slot1 slot2 node ks (Some block) links found1 b rest found2;
        parent = both_parent s0 h t block child slot1 slot2 node ks (Some block) links found1 b rest found2;
        other_parents = both_other_parents s0 h t block child slot1 slot2 node ks (Some block) links found1 b rest found2;
        leaf_values = both_leaf_values s0 h t block child slot1 slot2 node ks (Some block) links found1 b rest found2;
        block_values = both_block_values s0 h t block child slot1 slot2 node ks (Some block) links found1 b rest found2;
      } in (
        both_sound (slots_after (Some block)) h t r.0 (IsForest-puts before (after (Some block)) block at child r.1 p within room alone sound.1),
        r.1,
        p,
      )

  pub take_done : node ≡ with_kids slot1.node (remove (kids_of_node slot1.node) at) → slice_get (kids_of before block) at ≡ Some child
      → IsChain record {
        slots = slots_after None;
        head = h;
        tail =
            t;
      } × (leaves_of (slots_after None) h ≡ leaves_of s0 h) × TakesChild before (after None) block at child
  take_done rest found =
      let links = Linked-from s0 h t sound in
      let b : IsSome (block_of_node slot1.node) =
      block_from_kids slot1.node at (subst (λ (zs : List ℕ). at < length zs) old_kids (slice_get_within (kids_of before block) at child found)) in
      let ks : List ℕ = remove (kids_of_node slot1.node) at in
      let r = both_links s0 h t block child slot1 slot2 node ks None links found1 b rest found2 in
      let p : TakesChild before (after None) block at child = record {
        kids = both_kids s0 h t block child slot1 slot2 node ks None links found1 b rest found2 ∙ ap (λ (zs : List ℕ). remove zs at) (sym old_kids);
        other_kids = both_other_kids s0 h t block child slot1 slot2 node ks None links found1 b rest found2;
        parent = both_parent s0 h t block child slot1 slot2 node ks None links found1 b rest found2;
        other_parents = both_other_parents s0 h t block child slot1 slot2 node ks None links found1 b rest found2;
        leaf_values = both_leaf_values s0 h t block child slot1 slot2 node ks None links found1 b rest found2;
        block_values = both_block_values s0 h t block child slot1 slot2 node ks None links found1 b rest found2;
      } in (
        both_sound (slots_after None) h t r.0 (IsForest-takes before (after None) block at child r.1 p found sound.1),
        r.1,
        p,
      )

module _ {L B : Type 0} (s : Slab (Node L B)) (ls : List Links) (h t : Option ℕ) (sound : IsChain record { slots = slots_of s ls; head = h; tail = t }) where
  abbrev linked : Slab (Slot L B) → Chain L B
  linked z = record { slots = z; head = h; tail = t }

  abbrev shown : Slab (Slot L B) → Forest L B
  shown z = nodes_of (linked z)

  -- a child has a node
  pub child_has_node : (block at child : ℕ) → slice_get (kids_of (shown (slots_of s ls)) block) at ≡ Some child → ContainsKey s child
  child_has_node block at child there =
      let a : Forest L B = shown (slots_of s ls) in
      let one : 1 ≤ points (parent_of a child) block = omega (arith, sound.1.child_once block child, times-remove (kids_of a block) at child child there, same_refl child) in
      has_node s ls child (has block (get (slots_of s ls) child) (subst (λ (o : Option (Entry L B)). 1 ≤ points (parent_of_entry o) block) (entries_at (slots_of s ls)
      child) one))
    where
      has : (block : ℕ) (o : Option (Slot L B)) → 1 ≤ points (parent_of_entry (option_map entry_of o)) block → IsSome o
      has block None h = absurd (omega arith)
      has block (Some x) h = refl

  module _ (block child : ℕ) (old node : Node L B) (links : Links) (found : get s block ≡ Some old) (there : ContainsKey s child) (within : child < length ls)
      (read : links ≡ links_under ls child) where
    last : (n : Node L B) × (get (with_value s block node) child ≡ Some n)
    last = some_value (get (with_value s block node) child) (still_there s block old node found child there)

    block_found : get (slots_of s ls) block ≡ Some (slot_of old (links_under ls block))
    block_found = found_slot s ls block old found

    child_found : get (with_value (slots_of s ls) block (with_node (slot_of old (links_under ls block)) node)) child
        ≡ Some (slot_of last.0 (links_under ls child))
    child_found = subst (λ (z : Slab (Slot L B)). get z child ≡ Some (slot_of last.0 (links_under ls child))) (slots-with_node s ls block node)
        (found_slot (with_value s block node) ls child last.0 last.1)

    -- the node of the block and the links of the child, both written
    both_written : (par : Option ℕ) → slots_of (with_value s block node) (set ls child (parent_changed links par))
        ≡ slots_after (slots_of s ls) h t block 0 child (slot_of old (links_under ls block)) (slot_of last.0 (links_under ls child)) node sound block_found child_found par
    both_written par = ap (λ l. slots_of (with_value s block node) (set ls child (parent_changed l par))) read
        ∙ slots-with_links (with_value s block node) ls child (parent_changed (links_under ls child) par) last.0 last.1 within
        ∙ ap (λ z. with_value z child (slot_of last.0 (parent_changed (links_under ls child) par))) (slots-with_node s ls block node)

    pub put_written : (at : ℕ) → node ≡ with_kids old (insert (kids_of_node old) at child) → IsSome (block_value (shown (slots_of s ls)) block)
        → at ≤ length (kids_of (shown (slots_of s ls)) block) → length (kids_of (shown (slots_of s ls)) block) < 8
        → parent_of (shown (slots_of s ls)) child ≡ None
        → IsChain (linked (slots_of (with_value s block node) (set ls child (parent_changed links (Some block)))))
        × (leaves_of (slots_of (with_value s block node) (set ls child (parent_changed links (Some block)))) h ≡ leaves_of (slots_of s ls) h)
        × PutsChild (shown (slots_of s ls)) (shown (slots_of (with_value s block node) (set ls child (parent_changed links (Some block))))) block at child
    put_written at rest is_block fits room alone =
        subst (λ (z : Slab (Slot L B)). IsChain (linked z) × (leaves_of z h ≡ leaves_of (slots_of s ls) h) × PutsChild (shown (slots_of s ls)) (shown z) block at child)
        (sym (both_written (Some block))) (put_done (slots_of s ls) h t block at child (slot_of old (links_under ls block)) (slot_of last.0 (links_under ls child)) node sound
        block_found child_found rest is_block fits room alone)

    pub take_written : (at : ℕ) → node ≡ with_kids old (remove (kids_of_node old) at) → slice_get (kids_of (shown (slots_of s ls)) block) at ≡ Some child
        → IsChain (linked (slots_of (with_value s block node) (set ls child (parent_changed links None))))
        × (leaves_of (slots_of (with_value s block node) (set ls child (parent_changed links None))) h ≡ leaves_of (slots_of s ls) h)
        × TakesChild (shown (slots_of s ls)) (shown (slots_of (with_value s block node) (set ls child (parent_changed links None)))) block at child
    take_written at rest taken =
        subst (λ (z : Slab (Slot L B)). IsChain (linked z) × (leaves_of z h ≡ leaves_of (slots_of s ls) h) × TakesChild (shown (slots_of s ls)) (shown z) block at child)
        (sym (both_written None)) (take_done (slots_of s ls) h t block at child (slot_of old (links_under ls block)) (slot_of last.0 (links_under ls child)) node sound
        block_found child_found rest taken)

  -- a write of a leaf's value
  pub leaf_written : (id : ℕ) (n : Node L B) (v w : L) → get s id ≡ Some n → leaf_of_node n ≡ Some v → IsChain (linked (slots_of (with_value s id (Leaf w)) ls))
      × (shown (slots_of (with_value s id (Leaf w)) ls) ≡ with_leaf (shown (slots_of s ls)) id w)
  leaf_written id n v w found leaf = subst (λ (z : Slab (Slot L B)). IsChain (linked z) × (shown z ≡ with_leaf (shown (slots_of s ls)) id w))
      (sym (slots-with_node s ls id (Leaf w))) (written_sound (slots_of s ls) h t id (slot_of n (links_under ls id)) v w (found_slot s ls id n found) leaf sound)

  -- a write of a block's value
  pub block_written : (id : ℕ) (n : Node L B) (v w : B) → get s id ≡ Some n → block_of_node n ≡ Some v
      → IsChain (linked (slots_of (with_value s id (Block (kids_of_node n) w)) ls))
      × (shown (slots_of (with_value s id (Block (kids_of_node n) w)) ls) ≡ with_block (shown (slots_of s ls)) id w)
  block_written id n v w found block = subst (λ (z : Slab (Slot L B)). IsChain (linked z) × (shown z ≡ with_block (shown (slots_of s ls)) id w))
      (sym (slots-with_node s ls id (Block (kids_of_node n) w))) (block_written_sound (slots_of s ls) h t id (slot_of n (links_under ls id)) v w (found_slot s ls id n
      found) block sound)
