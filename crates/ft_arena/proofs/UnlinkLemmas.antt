-- What `unlink` leaves.
use Rattle.std.proofs.Common.{◌≡◌, ◌≢◌, ℕ, List, [], length, get_or, Option, Some, None, refl, sym, ap, ◌∙◌, arith}
use Rattle.std.specs.Option.{option_map}
use Rattle.slab.specs.Slab.{Slab, get, Updates}
use Rattle.ft_arena.specs.Links.{Slot}
use Rattle.ft_arena.specs.declared.nodes.Node.{Node}
use Rattle.ft_arena.specs.declared.nodes.Node.TheVariants.{Leaf, Block}
use Rattle.ft_arena.specs.declared.links.Links.{Links}
use Rattle.ft_arena.specs.Links.{AreNumbered, links_under, with_next, with_prev, end_with, slot_of, slots_of}
use Rattle.ft_arena.specs.Ids.{without}
use Rattle.ft_arena.specs.Forest.{Forest, Entry, Changes, count_some, leaf_of_entry, kids_of_entry, parent_of_entry, entry, leaf_of_node, kids_of_node}
use Rattle.ft_arena.specs.Links.{IsChain, entries_of, entry_of, leaves_of, live_of, next_of, prev_of, nodes_of, next_of_slot, prev_of_slot, HasPlace}
use Rattle.ft_arena.proofs.ArenaLemmas.{SetsNext, SetsPrev, entries_at}
use Rattle.ft_arena.proofs.KidLemmas.{kept}
use Rattle.ft_arena.proofs.SlotLemmas.{node_place, numbered_as, found_slot, slots-updates, slots_next, slots_prev, length-with_next, length-with_prev}
use Rattle.ft_arena.proofs.HookLemmas.{IsLinked, unhooked, next_apart, linked_from, leaves_from, sound_from, placed}

no_kids : {L B : Type 0} (o : Option (Entry L B)) → count_some (leaf_of_entry o) ≡ 1 → kids_of_entry o ≡ []
no_kids {L} {B} None h = refl
no_kids {L} {B} (Some e) h = of_node e.node h
  where
    of_node : (n : Node L B) → count_some (leaf_of_node n) ≡ 1 → kids_of_node n ≡ []
    of_node (Leaf v) h = refl
    of_node (Block ks v) h = absurd (omega arith)

module _ {L B : Type 0} (s0 s1 s2 s3 : Slab (Slot L B)) (h0 t0 h2 t3 : Option ℕ) (id : ℕ) (slot : Slot L B) (sound : IsChain record { slots = s0; head = h0; tail = t0 })
    (found : get s0 id ≡ Some slot) (leaf : live_of (entries_of s0) (Some id) ≡ 1) (ups : Updates s0 s1 id None) where
  next0 : next_of s0 h0 (Some id) ≡ slot.next
  next0 = ap next_of_slot found

  prev0 : prev_of s0 t0 (Some id) ≡ slot.prev
  prev0 = ap prev_of_slot found

  apart : next_of s0 h0 (Some id) ≢ Some id
  apart = next_apart (live_of (entries_of s0)) (next_of s0 h0) (prev_of s0 t0) (leaves_of s0 h0) id (linked_from s0 h0 t0 sound) leaf

  apart' : prev_of s0 t0 (Some id) ≢ Some id
  apart' = λ e. apart (ap (next_of s0 h0) (sym e) ∙ sound.0.ring.forth (Some id) leaf)

  there1 : (s : Slab (Slot L B)) → entries_of s ≡ entries_of s1 → (x : ℕ) → x ≢ id → get_or (entries_of s) x None ≡ get_or (entries_of s0) x None
  there1 s e x d = ap (λ es. get_or es x None) e ∙ entries_at s1 x ∙ ap (option_map entry_of) (ups.others x d) ∙ sym (entries_at s0 x)

  lives1 : (s : Slab (Slot L B)) → entries_of s ≡ entries_of s1 → (p : Option ℕ) → p ≢ Some id → live_of (entries_of s) p ≡ live_of (entries_of s0) p
  lives1 s e None d = refl
  lives1 s e (Some x) d = ap (λ o. count_some (leaf_of_entry o)) (there1 s e x (λ q. d (ap Some q)))

  pub prev_has_place : HasPlace s1 slot.prev
  prev_has_place = placed s0 s1 slot.prev (lives1 s1 refl slot.prev (λ e. apart' (prev0 ∙ e))) (ap (live_of (entries_of s0)) (sym prev0) ∙ sound.0.ring.prev_live (Some id) leaf)

  nexts1 : (p : Option ℕ) → p ≢ Some id → next_of s1 h0 p ≡ next_of s0 h0 p
  nexts1 None d = refl
  nexts1 (Some x) d = ap next_of_slot (ups.others x (λ e. d (ap Some e)))

  prevs1 : (p : Option ℕ) → p ≢ Some id → prev_of s1 t0 p ≡ prev_of s0 t0 p
  prevs1 None d = refl
  prevs1 (Some x) d = ap prev_of_slot (ups.others x (λ e. d (ap Some e)))

  module _ (nx : SetsNext s1 h0 s2 h2 slot.prev slot.next) where
    pub next_has_place : HasPlace s2 slot.next
    next_has_place = placed s0 s2 slot.next (lives1 s2 nx.entries slot.next (λ e. apart (next0 ∙ e))) (ap (live_of (entries_of s0)) (sym next0)
        ∙ sound.0.ring.next_live (Some id) leaf)

    module _ (pv : SetsPrev s2 t0 s3 t3 slot.next slot.prev) where
      entries3 : entries_of s3 ≡ entries_of s1
      entries3 = pv.entries ∙ nx.entries

      pub unlinked_changes : Changes (nodes_of record { slots = s0; head = h0; tail = t0 }) (nodes_of record { slots = s3; head = h2; tail = t3 }) id None
      unlinked_changes = record { changed = ap (λ es. get_or es id None) entries3 ∙ entries_at s1 id ∙ ap (option_map entry_of) ups.changed; others = there1 s3 entries3 }

      links : IsLinked (live_of (entries_of s3)) (next_of s3 h2) (prev_of s3 t3) (without (leaves_of s0 h0) id)
      links =
          unhooked (live_of (entries_of s0)) (next_of s0 h0) (prev_of s0 t0) (live_of (entries_of s3)) (next_of s3 h2) (prev_of s3 t3) (leaves_of s0 h0) id
          (linked_from s0 h0 t0 sound) leaf (ap (λ o. count_some (leaf_of_entry o)) unlinked_changes.changed) (lives1 s3 entries3) (ap (next_of s3 h2) prev0
          ∙ pv.nexts h2 slot.prev ∙ nx.changed ∙ sym next0) (λ p a d. pv.nexts h2 p ∙ nx.others p (λ e. a (e ∙ sym prev0)) ∙ nexts1 p d) (ap (prev_of s3 t3) next0
          ∙ pv.changed ∙ sym prev0) (λ p a d. pv.others p (λ e. a (e ∙ sym next0)) ∙ nx.prevs t0 p ∙ prevs1 p d)

      pub unlinked_leaves : leaves_of s3 h2 ≡ without (leaves_of s0 h0) id
      unlinked_leaves = leaves_from s3 h2 t3 _ links

      pub unlinked_sound : slot.parent ≡ None → IsChain record { slots = s3; head = h2; tail = t3 }
      unlinked_sound alone =
          let a : Forest L B = nodes_of record { slots = s0; head = h0; tail = t0 } in
          let b : Forest L B = nodes_of record { slots = s3; head = h2; tail = t3 } in
          let was : entry a id ≡ Some (entry_of slot) = entries_at s0 id ∙ ap (option_map entry_of) found in
          sound_from s0 s3 h0 t0 h2 t3 _ sound links (kept kids_of_entry a b id None unlinked_changes (sym (no_kids (entry a id) leaf)))
          (kept parent_of_entry a b id None unlinked_changes (sym alone ∙ sym (ap parent_of_entry was)))

-- the same of nodes and the links beside them
module _ {L B : Type 0} (n0 n1 : Slab (Node L B)) (l0 : List Links) (h0 t0 : Option ℕ) (id : ℕ) (node : Node L B) (links : Links)
    (sound : IsChain record { slots = slots_of n0 l0; head = h0; tail = t0 }) (found : get n0 id ≡ Some node) (read : links ≡ links_under l0 id)
    (leaf : live_of (entries_of (slots_of n0 l0)) (Some id) ≡ 1) (gone : Updates n0 n1 id None) (long : AreNumbered n1 (length l0)) where
  pub found_links : get (slots_of n0 l0) id ≡ Some (slot_of node links)
  found_links = found_slot n0 l0 id node found ∙ ap (λ l. Some (slot_of node l)) (sym read)

  ups : Updates (slots_of n0 l0) (slots_of n1 l0) id None
  ups = slots-updates n0 n1 l0 l0 id None (links_under l0 id) gone refl (λ x d. refl)

  pub prev_has_node : HasPlace n1 links.prev
  prev_has_node = node_place n1 l0 links.prev
      (prev_has_place (slots_of n0 l0) (slots_of n1 l0) (slots_of n1 l0) (slots_of n1 l0) h0 t0 h0 t0 id (slot_of node links) sound found_links leaf ups)

  module _ (l2 : List Links) (h2 : Option ℕ) (first : l2 ≡ with_next l0 links.prev links.next) (head : h2 ≡ end_with h0 links.prev links.next) where
    nx : SetsNext (slots_of n1 l0) h0 (slots_of n1 l2) h2 links.prev links.next
    nx = slots_next n1 l0 l2 h0 h2 links.prev links.next long prev_has_node first head

    pub long2 : AreNumbered n1 (length l2)
    long2 = numbered_as n1 _ _ (ap length first ∙ length-with_next l0 links.prev links.next) long

    pub next_has_node : HasPlace n1 links.next
    next_has_node = node_place n1 l2 links.next
        (next_has_place (slots_of n0 l0) (slots_of n1 l0) (slots_of n1 l2) (slots_of n1 l2) h0 t0 h2 t0 id (slot_of node links) sound found_links leaf ups nx)

    module _ (l3 : List Links) (t3 : Option ℕ) (second : l3 ≡ with_prev l2 links.next links.prev) (tail : t3 ≡ end_with t0 links.next links.prev) where
      pv : SetsPrev (slots_of n1 l2) t0 (slots_of n1 l3) t3 links.next links.prev
      pv = slots_prev n1 l2 l3 t0 t3 links.next links.prev long2 next_has_node second tail

      pub unhooked_length : length l3 ≡ length l0
      unhooked_length = ap length second ∙ length-with_prev l2 links.next links.prev ∙ ap length first ∙ length-with_next l0 links.prev links.next

      pub unhooked_changes : Changes (nodes_of record { slots = slots_of n0 l0; head = h0; tail = t0 })
          (nodes_of record { slots = slots_of n1 l3; head = h2; tail = t3 }) id None
      unhooked_changes = unlinked_changes (slots_of n0 l0) (slots_of n1 l0) (slots_of n1 l2) (slots_of n1 l3) h0 t0 h2 t3 id (slot_of node links) sound found_links leaf ups nx pv

      pub unhooked_leaves : leaves_of (slots_of n1 l3) h2 ≡ without (leaves_of (slots_of n0 l0) h0) id
      unhooked_leaves = unlinked_leaves (slots_of n0 l0) (slots_of n1 l0) (slots_of n1 l2) (slots_of n1 l3) h0 t0 h2 t3 id (slot_of node links) sound found_links leaf ups nx pv

      pub unhooked_sound : links.parent ≡ None → IsChain record { slots = slots_of n1 l3; head = h2; tail = t3 }
      unhooked_sound = unlinked_sound (slots_of n0 l0) (slots_of n1 l0) (slots_of n1 l2) (slots_of n1 l3) h0 t0 h2 t3 id (slot_of node links) sound found_links leaf ups nx pv
