-- What `move_after` leaves.
use Rattle.std.proofs.Common.{◌-◌, ◌≡◌, ◌≢◌, ℕ, List, length, get_or, Option, Some, None, refl, sym, ap, subst, ◌∙◌, arith}
use Rattle.slab.specs.Slab.{Slab, get}
use Rattle.ft_arena.specs.declared.nodes.Node.{Node}
use Rattle.ft_arena.specs.declared.links.Links.{Links}
use Rattle.ft_arena.specs.Links.{AreNumbered, links_under, with_next, with_prev, end_with, next_in, slots_of, next_of_slot, prev_of_slot}
use Rattle.ft_arena.specs.Links.{Slot}
use Rattle.ft_arena.specs.Ids.{points, put_after, without}
use Rattle.ft_arena.specs.Forest.{Entry, kids_of_entry, parent_of_entry}
use Rattle.ft_arena.specs.Links.{IsChain, entries_of, leaves_of, live_of, next_of, prev_of, HasPlace}
use Rattle.ft_arena.proofs.IdLemmas.{same_refl, same_other}
use Rattle.ft_arena.proofs.ArenaLemmas.{SetsNext, SetsPrev}
use Rattle.ft_arena.proofs.SlotLemmas.{some_value, numbered_as, live_place, found_slot, next_shown, slots_next, slots_prev, length-with_next, length-with_prev}
use Rattle.ft_arena.proofs.HookLemmas.{IsLinked, unhooked, hooked, live_bound, linked_from, leaves_from, sound_from}

points_not : (p : Option ℕ) (id : ℕ) → p ≢ Some id → points p id ≡ 0
points_not None id d = refl
points_not (Some x) id d = same_other x id (λ e. d (ap Some e))

module _ {L B : Type 0} (s0 s1 s2 s3 s4 s5 s6 : Slab (Slot L B)) (h0 t0 h1 t2 h3 t4 h5 t6 at prev next after : Option ℕ) (id : ℕ) (sound : IsChain record {
  slots =
      s0;
  head = h0;
  tail = t0;
}) (leaf : live_of (entries_of s0) (Some id) ≡ 1) (place : live_of (entries_of s0) at ≡ 1) (differ : at ≢ Some id)
    (prev_is : prev ≡ prev_of s0 t0 (Some id)) (next_is : next ≡ next_of s0 h0 (Some id)) where
  -- live, but not that leaf
  abbrev live1 : Option ℕ → ℕ
  live1 p = live_of (entries_of s0) p - points p id

  module _ (e1 : SetsNext s0 h0 s1 h1 prev next) (e2 : SetsPrev s1 t0 s2 t2 next prev) where
    linked2 : IsLinked live1 (next_of s2 h1) (prev_of s2 t2) (without (leaves_of s0 h0) id)
    linked2 =
        unhooked (live_of (entries_of s0)) (next_of s0 h0) (prev_of s0 t0) live1 (next_of s2 h1) (prev_of s2 t2) (leaves_of s0 h0) id (linked_from s0 h0 t0 sound) leaf
        (omega (arith, leaf, same_refl id)) (λ p d. omega (arith, points_not p id d)) (ap (next_of s2 h1) (sym prev_is) ∙ e2.nexts h1 prev ∙ e1.changed
        ∙ next_is) (λ p a d. e2.nexts h1 p ∙ e1.others p (λ q. a (q ∙ prev_is))) (ap (prev_of s2 t2) (sym next_is) ∙ e2.changed
        ∙ prev_is) (λ p a d. e2.others p (λ q. a (q ∙ next_is)) ∙ e1.prevs t0 p)

    at1 : live1 at ≡ 1
    at1 = omega (arith, place, points_not at id differ)

    module _ (after_is : after ≡ next_of s2 h1 at) where
      after1 : live1 after ≡ 1
      after1 = ap live1 after_is ∙ linked2.ring.next_live at at1

      pub after_live : live_of (entries_of s0) after ≡ 1
      after_live = omega (arith, after1, live_bound s0 after)

      after_apart : after ≢ Some id
      after_apart = λ e. omega (arith, ap live1 e, after1, leaf, same_refl id)

      module _ (e3 : SetsNext s2 h1 s3 h3 (Some id) after) (e4 : SetsPrev s3 t2 s4 t4 (Some id) at) (e5 : SetsNext s4 h3 s5 h5 at (Some id))
          (e6 : SetsPrev s5 t4 s6 t6 after (Some id)) where
        pub moved_entries : entries_of s6 ≡ entries_of s0
        moved_entries = e6.entries ∙ e5.entries ∙ e4.entries ∙ e3.entries ∙ e2.entries ∙ e1.entries

        linked6 : IsLinked (live_of (entries_of s0)) (next_of s6 h5) (prev_of s6 t6) (put_after (without (leaves_of s0 h0) id) at id)
        linked6 =
            hooked live1 (next_of s2 h1) (prev_of s2 t2) (live_of (entries_of s0)) (next_of s6 h5) (prev_of s6 t6) (without (leaves_of s0 h0) id) id linked2 at at1
            (omega (arith, leaf, same_refl id)) leaf (λ p d. omega (arith, points_not p id d)) (e6.nexts h5 at ∙ e5.changed) (e6.nexts h5 (Some id)
            ∙ e5.others (Some id) (λ q. differ (sym q)) ∙ e4.nexts h3 (Some id) ∙ e3.changed ∙ after_is) (λ p a d. e6.nexts h5 p ∙ e5.others p a ∙ e4.nexts h3 p
            ∙ e3.others p d) (ap (prev_of s6 t6) (sym after_is) ∙ e6.changed) (e6.others (Some id) (λ q. after_apart (sym q)) ∙ e5.prevs t4 (Some id)
            ∙ e4.changed) (λ p a d. e6.others p (λ q. a (q ∙ after_is)) ∙ e5.prevs t4 p ∙ e4.others p d ∙ e3.prevs t2 p)

        there : IsLinked (live_of (entries_of s6)) (next_of s6 h5) (prev_of s6 t6) (put_after (without (leaves_of s0 h0) id) at id)
        there = subst (λ (es : List (Option (Entry L B))). IsLinked (live_of es) (next_of s6 h5) (prev_of s6 t6) (put_after (without (leaves_of s0 h0) id) at id))
            (sym moved_entries) linked6

        pub moved_leaves : leaves_of s6 h5 ≡ put_after (without (leaves_of s0 h0) id) at id
        moved_leaves = leaves_from s6 h5 t6 _ there

        pub moved_sound : IsChain record { slots = s6; head = h5; tail = t6 }
        moved_sound = sound_from s0 s6 h0 t0 h5 t6 _ sound there (λ x. ap (λ (es : List (Option (Entry L B))). kids_of_entry (get_or es x None)) moved_entries)
            (λ x. ap (λ (es : List (Option (Entry L B))). parent_of_entry (get_or es x None)) moved_entries)

-- the same of nodes and the links beside them
module _ {L B : Type 0} (n : Slab (Node L B)) (l0 : List Links) (h0 t0 at : Option ℕ) (id : ℕ) (links : Links)
    (sound : IsChain record { slots = slots_of n l0; head = h0; tail = t0 }) (leaf : live_of (entries_of (slots_of n l0)) (Some id) ≡ 1)
    (place : live_of (entries_of (slots_of n l0)) at ≡ 1) (differ : at ≢ Some id) (read : links ≡ links_under l0 id) (long : AreNumbered n (length l0)) where
  its_node : (x : Node L B) × (get n id ≡ Some x)
  its_node = some_value (get n id) (live_place n l0 (Some id) leaf)

  pub prev_is : links.prev ≡ prev_of (slots_of n l0) t0 (Some id)
  prev_is = ap (λ l. l.prev) read ∙ sym (ap prev_of_slot (found_slot n l0 id its_node.0 its_node.1))

  pub next_is : links.next ≡ next_of (slots_of n l0) h0 (Some id)
  next_is = ap (λ l. l.next) read ∙ sym (ap next_of_slot (found_slot n l0 id its_node.0 its_node.1))

  pub id_has_node : HasPlace n (Some id)
  id_has_node = live_place n l0 (Some id) leaf

  pub at_has_node : HasPlace n at
  at_has_node = live_place n l0 at place

  pub prev_has_node : HasPlace n links.prev
  prev_has_node = live_place n l0 links.prev (ap (live_of (entries_of (slots_of n l0))) prev_is ∙ sound.0.ring.prev_live (Some id) leaf)

  pub next_has_node : HasPlace n links.next
  next_has_node = live_place n l0 links.next (ap (live_of (entries_of (slots_of n l0))) next_is ∙ sound.0.ring.next_live (Some id) leaf)

  module _ (l1 l2 : List Links) (h1 t2 after : Option ℕ) (e1 : l1 ≡ with_next l0 links.prev links.next) (k1 : h1 ≡ end_with h0 links.prev links.next)
      (e2 : l2 ≡ with_prev l1 links.next links.prev) (k2 : t2 ≡ end_with t0 links.next links.prev) (follows : after ≡ next_in l2 h1 at) where
    pub long1 : AreNumbered n (length l1)
    long1 = numbered_as n _ _ (ap length e1 ∙ length-with_next l0 links.prev links.next) long

    pub long2 : AreNumbered n (length l2)
    long2 = numbered_as n _ _ (ap length e2 ∙ length-with_prev l1 links.next links.prev) long1

    s1 : SetsNext (slots_of n l0) h0 (slots_of n l1) h1 links.prev links.next
    s1 = slots_next n l0 l1 h0 h1 links.prev links.next long prev_has_node e1 k1

    s2 : SetsPrev (slots_of n l1) t0 (slots_of n l2) t2 links.next links.prev
    s2 = slots_prev n l1 l2 t0 t2 links.next links.prev long1 next_has_node e2 k2

    after_is : after ≡ next_of (slots_of n l2) h1 at
    after_is = follows ∙ next_shown n l2 h1 at at_has_node

    pub after_has_node : HasPlace n after
    after_has_node = live_place n l0 after
        (after_live (slots_of n l0) (slots_of n l1) (slots_of n l2) (slots_of n l2) (slots_of n l2) (slots_of n l2) (slots_of n l2) h0 t0 h1 t2 h1 t2 h1 t2 at links.prev
        links.next after id sound leaf place differ prev_is next_is s1 s2 after_is)

    module _ (l3 l4 l5 l6 : List Links) (h3 t4 h5 t6 : Option ℕ) (e3 : l3 ≡ with_next l2 (Some id) after) (k3 : h3 ≡ h1) (e4 : l4 ≡ with_prev l3 (Some id) at) (k4 : t4 ≡ t2)
        (e5 : l5 ≡ with_next l4 at (Some id)) (k5 : h5 ≡ end_with h3 at (Some id)) (e6 : l6 ≡ with_prev l5 after (Some id)) (k6 : t6 ≡ end_with t4 after (Some id)) where
      pub long3 : AreNumbered n (length l3)
      long3 = numbered_as n _ _ (ap length e3 ∙ length-with_next l2 (Some id) after) long2

      pub long4 : AreNumbered n (length l4)
      long4 = numbered_as n _ _ (ap length e4 ∙ length-with_prev l3 (Some id) at) long3

      pub long5 : AreNumbered n (length l5)
      long5 = numbered_as n _ _ (ap length e5 ∙ length-with_next l4 at (Some id)) long4

      pub rehooked_length : length l6 ≡ length l0
      rehooked_length = ap length e6 ∙ length-with_prev l5 after (Some id) ∙ ap length e5 ∙ length-with_next l4 at (Some id) ∙ ap length e4 ∙ length-with_prev l3 (Some id) at
          ∙ ap length e3 ∙ length-with_next l2 (Some id) after ∙ ap length e2 ∙ length-with_prev l1 links.next links.prev ∙ ap length e1
          ∙ length-with_next l0 links.prev links.next

      s3 : SetsNext (slots_of n l2) h1 (slots_of n l3) h3 (Some id) after
      s3 = slots_next n l2 l3 h1 h3 (Some id) after long2 id_has_node e3 k3

      s4 : SetsPrev (slots_of n l3) t2 (slots_of n l4) t4 (Some id) at
      s4 = slots_prev n l3 l4 t2 t4 (Some id) at long3 id_has_node e4 k4

      s5 : SetsNext (slots_of n l4) h3 (slots_of n l5) h5 at (Some id)
      s5 = slots_next n l4 l5 h3 h5 at (Some id) long4 at_has_node e5 k5

      s6 : SetsPrev (slots_of n l5) t4 (slots_of n l6) t6 after (Some id)
      s6 = slots_prev n l5 l6 t4 t6 after (Some id) long5 after_has_node e6 k6

      pub rehooked_entries : entries_of (slots_of n l6) ≡ entries_of (slots_of n l0)
      rehooked_entries = moved_entries (slots_of n l0) (slots_of n l1) (slots_of n l2) (slots_of n l3) (slots_of n l4) (slots_of n l5) (slots_of n l6) h0 t0 h1 t2 h3 t4 h5 t6 at
          links.prev links.next after id sound leaf place differ prev_is next_is s1 s2 after_is s3 s4 s5 s6

      pub rehooked_leaves : leaves_of (slots_of n l6) h5 ≡ put_after (without (leaves_of (slots_of n l0) h0) id) at id
      rehooked_leaves = moved_leaves (slots_of n l0) (slots_of n l1) (slots_of n l2) (slots_of n l3) (slots_of n l4) (slots_of n l5) (slots_of n l6) h0 t0 h1 t2 h3 t4 h5 t6 at
          links.prev links.next after id sound leaf place differ prev_is next_is s1 s2 after_is s3 s4 s5 s6

      pub rehooked_sound : IsChain record { slots = slots_of n l6; head = h5; tail = t6 }
      rehooked_sound = moved_sound (slots_of n l0) (slots_of n l1) (slots_of n l2) (slots_of n l3) (slots_of n l4) (slots_of n l5) (slots_of n l6) h0 t0 h1 t2 h3 t4 h5 t6 at
          links.prev links.next after id sound leaf place differ prev_is next_is s1 s2 after_is s3 s4 s5 s6
