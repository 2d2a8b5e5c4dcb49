use Rattle.std.proofs.Common.{◌≡◌, ◌≢◌, ℕ, get_or, Option, Some, None, refl, ap, subst, ◌∙◌, arith}
use Rattle.slab.proofs.SlabLemmas.{Updates-with_value}
use Rattle.std.specs.Option.{option_map}
use Rattle.ft_refs.specs.declared.numbers.Place.{Place}
use Rattle.ft_refs.specs.Links.{place_of_slot}
use Rattle.ft_refs.specs.RefLists.{place_of_entry, owner_of_place}
use Rattle.ft_refs.proofs.ListLemmas.{read_at, seen_sound, owner_in, slot_at, idle_without, entries_at}
use Rattle.ft_refs.proofs.DetachLemmas.{before_place, after_place, detached_lists, detached_list, detached_changes}
use Rattle.ft_refs.proofs.refs.Refs.detach.Goals as goal

pub returns-in_default-clause-sound : goal.returns-in_default-clause-sound
returns-in_default-clause-sound c = rw (← c.self.view_is) (seen_sound c.self.inside.slots c.self.inside.ends.items c.self.invariant)

no_place : (z : Option Place) → ((p : Place) → z ≢ Some p) → owner_of_place z ≡ None
no_place None h = refl
no_place (Some p) h = absurd (h p refl)

pub returns-in_default-clause-lists : goal.returns-in_default-clause-lists
returns-in_default-clause-lists c =
    rw (← c.self.view_is, ← c.r.view_is) (idle_without _ c.r.inside.0 (seen_sound c.self.inside.slots c.self.inside.ends.items c.self.invariant) (ap (λ z. owner_of_place (place_of_entry z)) (entries_at c.self.inside.slots c.r.inside.0 ∙ ap (option_map place_of_slot) c.index-slot.ensures) ∙ no_place _ c.in_default.not-Some))

pub index-requires : goal.index-requires
index-requires c = let e = ap (λ (p : Place). p.owner) c.place.view_is in let w = (owner_in c.self.inside.slots c.self.inside.ends.items c.r.inside.0 c.index-slot.result.now c.in-Some.place c.self.invariant c.index-slot.ensures c.in-Some.is) in omega (arith, e, w, c.self.inside.ends.ok.0)

pub index_mut-requires-2 : goal.index_mut-requires-2
index_mut-requires-2 c = let e = ap (λ (p : Place). p.owner) c.place.view_is in let w = (owner_in c.self.inside.slots c.self.inside.ends.items c.r.inside.0 c.index-slot.result.now c.in-Some.place c.self.invariant c.index-slot.ensures c.in-Some.is) in omega (arith, e, w, c.self.inside.ends.ok.0)

pub set_next-requires : goal.set_next-requires
set_next-requires c =
    before_place c.self.inside.slots _ c.self.inside.slots c.self.inside.slots c.self.inside.ends.items c.index.result.now None None
    c.r.inside.0 c.in-Some.place.owner c.in-Some.place.offset c.index-slot.result.now.prev c.index-slot.result.now.next c.self.invariant
    (read_at c.self.inside.ends.items c.in-Some.place.owner c.index.result.now (owner_in c.self.inside.slots c.self.inside.ends.items c.r.inside.0 c.index-slot.result.now c.in-Some.place c.self.invariant c.index-slot.ensures c.in-Some.is) (subst (λ (i : ℕ). c.index.result.now ≡ get_or c.self.inside.ends.items i c.index.result.now) (ap (λ (p : Place). p.owner) c.place.view_is) c.index.ensures))
    (slot_at c.self.inside.slots c.r.inside.0 c.index-slot.result.now c.in-Some.place c.index-slot.ensures c.in-Some.is)
    (Updates-with_value c.self.inside.slots c.r.inside.0 _ (rw c.index_mut.ensures.value refl))

pub set_prev-requires : goal.set_prev-requires
set_prev-requires c =
    after_place c.self.inside.slots _ c.set_next.new.slots c.self.inside.slots c.self.inside.ends.items c.index.result.now
    c.set_next.new.first None c.r.inside.0 c.in-Some.place.owner c.in-Some.place.offset c.index-slot.result.now.prev
    c.index-slot.result.now.next c.self.invariant
    (read_at c.self.inside.ends.items c.in-Some.place.owner c.index.result.now (owner_in c.self.inside.slots c.self.inside.ends.items c.r.inside.0 c.index-slot.result.now c.in-Some.place c.self.invariant c.index-slot.ensures c.in-Some.is) (subst (λ (i : ℕ). c.index.result.now ≡ get_or c.self.inside.ends.items i c.index.result.now) (ap (λ (p : Place). p.owner) c.place.view_is) c.index.ensures))
    (slot_at c.self.inside.slots c.r.inside.0 c.index-slot.result.now c.in-Some.place c.index-slot.ensures c.in-Some.is)
    (Updates-with_value c.self.inside.slots c.r.inside.0 _ (rw c.index_mut.ensures.value refl)) c.set_next.ensures

pub invariant_of-self : goal.invariant_of-self
invariant_of-self c =
    rw (ap (λ (p : Place). p.owner) c.place.view_is) (detached_lists c.self.inside.slots _ c.set_next.new.slots c.set_prev.new.slots c.self.inside.ends.items c.index.result.now c.set_next.new.first c.set_prev.new.last c.r.inside.0 c.in-Some.place.owner c.in-Some.place.offset c.index-slot.result.now.prev c.index-slot.result.now.next c.self.invariant
    (read_at c.self.inside.ends.items c.in-Some.place.owner c.index.result.now (owner_in c.self.inside.slots c.self.inside.ends.items c.r.inside.0 c.index-slot.result.now c.in-Some.place c.self.invariant c.index-slot.ensures c.in-Some.is) (subst (λ (i : ℕ). c.index.result.now ≡ get_or c.self.inside.ends.items i c.index.result.now) (ap (λ (p : Place). p.owner) c.place.view_is) c.index.ensures))
    (slot_at c.self.inside.slots c.r.inside.0 c.index-slot.result.now c.in-Some.place c.index-slot.ensures c.in-Some.is)
    (Updates-with_value c.self.inside.slots c.r.inside.0 _ (rw c.index_mut.ensures.value refl)) c.set_next.ensures c.set_prev.ensures)

pub returns-clause-sound : goal.returns-clause-sound
returns-clause-sound c = seen_sound _ _ (invariant_of-self c)

pub returns-clause-lists : goal.returns-clause-lists
returns-clause-lists c =
    rw (← c.self.view_is, ← c.r.view_is, ap (λ (p : Place). p.owner) c.place.view_is) (detached_list c.self.inside.slots _ c.set_next.new.slots c.set_prev.new.slots c.self.inside.ends.items c.index.result.now c.set_next.new.first c.set_prev.new.last c.r.inside.0 c.in-Some.place.owner c.in-Some.place.offset c.index-slot.result.now.prev c.index-slot.result.now.next c.self.invariant
    (read_at c.self.inside.ends.items c.in-Some.place.owner c.index.result.now (owner_in c.self.inside.slots c.self.inside.ends.items c.r.inside.0 c.index-slot.result.now c.in-Some.place c.self.invariant c.index-slot.ensures c.in-Some.is) (subst (λ (i : ℕ). c.index.result.now ≡ get_or c.self.inside.ends.items i c.index.result.now) (ap (λ (p : Place). p.owner) c.place.view_is) c.index.ensures))
    (slot_at c.self.inside.slots c.r.inside.0 c.index-slot.result.now c.in-Some.place c.index-slot.ensures c.in-Some.is)
    (Updates-with_value c.self.inside.slots c.r.inside.0 _ (rw c.index_mut.ensures.value refl)) c.set_next.ensures c.set_prev.ensures)

pub returns-clause-changes : goal.returns-clause-changes
returns-clause-changes c =
    rw (← c.self.view_is, ← c.r.view_is, ap (λ (p : Place). p.owner) c.place.view_is) (detached_changes c.self.inside.slots _ c.set_next.new.slots c.set_prev.new.slots c.self.inside.ends.items c.index.result.now c.set_next.new.first c.set_prev.new.last c.r.inside.0 c.in-Some.place.owner c.in-Some.place.offset c.index-slot.result.now.prev c.index-slot.result.now.next c.self.invariant
    (read_at c.self.inside.ends.items c.in-Some.place.owner c.index.result.now (owner_in c.self.inside.slots c.self.inside.ends.items c.r.inside.0 c.index-slot.result.now c.in-Some.place c.self.invariant c.index-slot.ensures c.in-Some.is) (subst (λ (i : ℕ). c.index.result.now ≡ get_or c.self.inside.ends.items i c.index.result.now) (ap (λ (p : Place). p.owner) c.place.view_is) c.index.ensures))
    (slot_at c.self.inside.slots c.r.inside.0 c.index-slot.result.now c.in-Some.place c.index-slot.ensures c.in-Some.is)
    (Updates-with_value c.self.inside.slots c.r.inside.0 _ (rw c.index_mut.ensures.value refl)) c.set_next.ensures c.set_prev.ensures)
