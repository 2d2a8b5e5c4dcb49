-- What `link_after` leaves.
use Rattle.std.proofs.Common.{◌≡◌, ◌≢◌, ℕ, List, length, get_or, Option, Some, None, refl, sym, ap, ◌∙◌, arith}
use Rattle.std.specs.Option.{option_map}
use Rattle.slab.specs.Slab.{Slab, get, ContainsKey, Updates}
use Rattle.ft_arena.specs.Links.{Slot}
use Rattle.ft_arena.specs.declared.nodes.Node.{Node}
use Rattle.ft_arena.specs.declared.nodes.Node.TheVariants.{Leaf}
use Rattle.ft_arena.specs.declared.links.Links.{Links}
use Rattle.ft_arena.specs.Links.{AreNumbered, links_under, with_next, with_prev, end_with, next_in, slot_of, slot_at, slots_of}
use Rattle.ft_arena.specs.Ids.{put_after}
use Rattle.ft_arena.specs.Forest.{Forest, Changes, count_some, leaf_of_entry, kids_of_entry, parent_of_entry, entry}
use Rattle.ft_arena.specs.Links.{IsChain, entries_of, entry_of, leaves_of, live_of, next_of, prev_of, nodes_of, next_of_slot, prev_of_slot, HasPlace}
use Rattle.ft_arena.proofs.ArenaLemmas.{SetsNext, SetsPrev, entries_at}
use Rattle.ft_arena.proofs.KidLemmas.{kept}
use Rattle.ft_arena.proofs.SlotLemmas.{kept_place, numbered_as, live_place, node_place, next_shown, slots_at, slots_next, slots_prev, length-with_next, length-with_prev}
use Rattle.ft_arena.proofs.HookLemmas.{IsLinked, hooked, linked_from, leaves_from, sound_from, placed}

module _ {L B : Type 0} (s0 s1 s2 s3 : Slab (Slot L B)) (h0 t0 h2 t3 at next : Option ℕ) (id : ℕ) (leaf : L) (sound : IsChain record { slots = s0; head = h0; tail = t0 })
    (place : live_of (entries_of s0) at ≡ 1) (follows : next ≡ next_of s0 h0 at) (vacant : get s0 id ≡ None)
    (ups : Updates s0 s1 id (Some record { node = Leaf leaf; parent = None; prev = at; next = next })) (nx : SetsNext s1 h0 s2 h2 at (Some id)) where
  fresh : live_of (entries_of s0) (Some id) ≡ 0
  fresh = ap (λ o. count_some (leaf_of_entry o)) (entries_at s0 id ∙ ap (option_map entry_of) vacant)

  next_is_live : live_of (entries_of s0) next ≡ 1
  next_is_live = ap (live_of (entries_of s0)) follows ∙ sound.0.ring.next_live at place

  at_apart : Some id ≢ at
  at_apart = λ e. omega (arith, fresh, place, ap (live_of (entries_of s0)) e)

  next_apart : Some id ≢ next
  next_apart = λ e. omega (arith, fresh, next_is_live, ap (live_of (entries_of s0)) e)

  nexts1 : (p : Option ℕ) → p ≢ Some id → next_of s1 h0 p ≡ next_of s0 h0 p
  nexts1 None d = refl
  nexts1 (Some x) d = ap next_of_slot (ups.others x (λ e. d (ap Some e)))

  prevs1 : (p : Option ℕ) → p ≢ Some id → prev_of s1 t0 p ≡ prev_of s0 t0 p
  prevs1 None d = refl
  prevs1 (Some x) d = ap prev_of_slot (ups.others x (λ e. d (ap Some e)))

  there1 : (s : Slab (Slot L B)) → entries_of s ≡ entries_of s1 → (x : ℕ) → x ≢ id → get_or (entries_of s) x None ≡ get_or (entries_of s0) x None
  there1 s e x d = ap (λ es. get_or es x None) e ∙ entries_at s1 x ∙ ap (option_map entry_of) (ups.others x d) ∙ sym (entries_at s0 x)

  lives1 : (s : Slab (Slot L B)) → entries_of s ≡ entries_of s1 → (p : Option ℕ) → p ≢ Some id → live_of (entries_of s) p ≡ live_of (entries_of s0) p
  lives1 s e None d = refl
  lives1 s e (Some x) d = ap (λ o. count_some (leaf_of_entry o)) (there1 s e x (λ q. d (ap Some q)))

  -- the slot after the new one has its place when `set_prev` is called
  pub next_has_place : HasPlace s2 next
  next_has_place = placed s0 s2 next (lives1 s2 nx.entries next (λ e. next_apart (sym e))) next_is_live

  module _ (pv : SetsPrev s2 t0 s3 t3 next (Some id)) where
    entries3 : entries_of s3 ≡ entries_of s1
    entries3 = pv.entries ∙ nx.entries

    pub linked_changes : Changes (nodes_of record { slots = s0; head = h0; tail = t0 }) (nodes_of record { slots = s3; head = h2; tail = t3 }) id (Some record {
      node =
          Leaf leaf;
      parent = None;
    })
    linked_changes = record { changed = ap (λ es. get_or es id None) entries3 ∙ entries_at s1 id ∙ ap (option_map entry_of) ups.changed; others = there1 s3 entries3 }

    links : IsLinked (live_of (entries_of s3)) (next_of s3 h2) (prev_of s3 t3) (put_after (leaves_of s0 h0) at id)
    links =
        hooked (live_of (entries_of s0)) (next_of s0 h0) (prev_of s0 t0) (live_of (entries_of s3)) (next_of s3 h2) (prev_of s3 t3) (leaves_of s0 h0) id
        (linked_from s0 h0 t0 sound) at place fresh (ap (λ o. count_some (leaf_of_entry o)) linked_changes.changed) (lives1 s3 entries3) (pv.nexts h2 at
        ∙ nx.changed) (pv.nexts h2 (Some id) ∙ nx.others (Some id) at_apart ∙ ap next_of_slot ups.changed ∙ follows) (λ p a d. pv.nexts h2 p ∙ nx.others p a
        ∙ nexts1 p d) (ap (prev_of s3 t3) (sym follows) ∙ pv.changed) (pv.others (Some id) next_apart ∙ nx.prevs t0 (Some id)
        ∙ ap prev_of_slot ups.changed) (λ p a d. pv.others p (λ e. a (e ∙ follows)) ∙ nx.prevs t0 p ∙ prevs1 p d)

    pub linked_leaves : leaves_of s3 h2 ≡ put_after (leaves_of s0 h0) at id
    linked_leaves = leaves_from s3 h2 t3 _ links

    pub linked_sound : IsChain record { slots = s3; head = h2; tail = t3 }
    linked_sound =
        let a : Forest L B = nodes_of record { slots = s0; head = h0; tail = t0 } in
        let b : Forest L B = nodes_of record { slots = s3; head = h2; tail = t3 } in
        let none : entry a id ≡ None = entries_at s0 id ∙ ap (option_map entry_of) vacant in
        sound_from s0 s3 h0 t0 h2 t3 _ sound links (kept kids_of_entry a b id _ linked_changes (sym (ap kids_of_entry none)))
        (kept parent_of_entry a b id _ linked_changes (sym (ap parent_of_entry none)))

-- the same of nodes and the links beside them
module _ {L B : Type 0} (n0 n1 : Slab (Node L B)) (l0 l1 l2 : List Links) (h0 t0 h2 at next : Option ℕ) (id : ℕ) (leaf : L)
    (sound : IsChain record { slots = slots_of n0 l0; head = h0; tail = t0 }) (place : live_of (entries_of (slots_of n0 l0)) at ≡ 1) (follows : next ≡ next_in l0 h0 at)
    (vacant : get n0 id ≡ None) (ups : Updates (slots_of n0 l0) (slots_of n1 l1) id (Some (slot_of (Leaf leaf) record { parent = None; prev = at; next = next })))
    (others : (x : ℕ) → ContainsKey n0 x → ContainsKey n1 x) (long : AreNumbered n1 (length l1)) (first : l2 ≡ with_next l1 at (Some id)) (head : h2 ≡ end_with h0 at
    (Some id)) where
  pub at_has_node : HasPlace n1 at
  at_has_node = kept_place n0 n1 others at (live_place n0 l0 at place)

  nx : SetsNext (slots_of n1 l1) h0 (slots_of n1 l2) h2 at (Some id)
  nx = slots_next n1 l1 l2 h0 h2 at (Some id) long at_has_node first head

  leads : next ≡ next_of (slots_of n0 l0) h0 at
  leads = follows ∙ next_shown n0 l0 h0 at (live_place n0 l0 at place)

  gone : get (slots_of n0 l0) id ≡ None
  gone = slots_at n0 l0 id ∙ ap (λ o. slot_at o (links_under l0 id)) vacant

  pub long2 : AreNumbered n1 (length l2)
  long2 = numbered_as n1 _ _ (ap length first ∙ length-with_next l1 at (Some id)) long

  pub next_has_node : HasPlace n1 next
  next_has_node = node_place n1 l2 next
      (next_has_place (slots_of n0 l0) (slots_of n1 l1) (slots_of n1 l2) (slots_of n1 l2) h0 t0 h2 t0 at next id leaf sound place leads gone ups nx)

  module _ (l3 : List Links) (t3 : Option ℕ) (second : l3 ≡ with_prev l2 next (Some id)) (tail : t3 ≡ end_with t0 next (Some id)) where
    pv : SetsPrev (slots_of n1 l2) t0 (slots_of n1 l3) t3 next (Some id)
    pv = slots_prev n1 l2 l3 t0 t3 next (Some id) long2 next_has_node second tail

    pub hooked_length : length l3 ≡ length l1
    hooked_length = ap length second ∙ length-with_prev l2 next (Some id) ∙ ap length first ∙ length-with_next l1 at (Some id)

    pub hooked_changes : Changes (nodes_of record { slots = slots_of n0 l0; head = h0; tail = t0 })
        (nodes_of record { slots = slots_of n1 l3; head = h2; tail = t3 }) id
        (Some record { node = Leaf leaf; parent = None })
    hooked_changes = linked_changes (slots_of n0 l0) (slots_of n1 l1) (slots_of n1 l2) (slots_of n1 l3) h0 t0 h2 t3 at next id leaf sound place leads gone ups nx pv

    pub hooked_leaves : leaves_of (slots_of n1 l3) h2 ≡ put_after (leaves_of (slots_of n0 l0) h0) at id
    hooked_leaves = linked_leaves (slots_of n0 l0) (slots_of n1 l1) (slots_of n1 l2) (slots_of n1 l3) h0 t0 h2 t3 at next id leaf sound place leads gone ups nx pv

    pub hooked_sound : IsChain record { slots = slots_of n1 l3; head = h2; tail = t3 }
    hooked_sound = linked_sound (slots_of n0 l0) (slots_of n1 l1) (slots_of n1 l2) (slots_of n1 l3) h0 t0 h2 t3 at next id leaf sound place leads gone ups nx pv
