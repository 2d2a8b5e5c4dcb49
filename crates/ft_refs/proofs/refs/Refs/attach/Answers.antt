use Rattle.std.proofs.Common.{◌++◌, ◌∷◌, [], List, refl, ap, sym, subst, ◌∙◌}
use Rattle.std.specs.Option.{option_map}
use Rattle.slab.specs.Slab.{Slab}
use Rattle.ft_refs.specs.declared.numbers.Slot.{Slot}
use Rattle.ft_refs.specs.declared.numbers.Ends.{Ends}
use Rattle.ft_refs.specs.Links.{AreLists, place_of_slot}
use Rattle.ft_refs.specs.RefLists.{RefLists, references_of, entry, place_of_entry, owner_of_place}
use Rattle.ft_refs.proofs.ListLemmas.{seen_sound, lists_same, shown_same, lists_longer, idle_lists, made_list, entries_at, entries_other}
use Rattle.ft_refs.proofs.refs.Refs.attach.Goals as goal

pub invariant_of-self : goal.invariant_of-self
invariant_of-self c = lists_same c.self.inside.slots c.reserve.new.self c.self.inside.ends.items (ap (λ (z : Slab Slot). z.slots) c.reserve.ensures.rest_kept) c.self.invariant

pub returns-in_err-reserve-clause-sound : goal.returns-in_err-reserve-clause-sound
returns-in_err-reserve-clause-sound c = seen_sound _ _ (invariant_of-self c)

pub invariant_of-self-in_err-make_room : goal.invariant_of-self-in_err-make_room
invariant_of-self-in_err-make_room c =
    subst (λ (es : List Ends). AreLists c.reserve.new.self es) (sym c.in_err-make_room.ensures.refused)
    (lists_same c.self.inside.slots c.reserve.new.self c.self.inside.ends.items
    (ap (λ (z : Slab Slot). z.slots) c.reserve.ensures.rest_kept) c.self.invariant)

pub returns-in_err-make_room-clause-sound : goal.returns-in_err-make_room-clause-sound
returns-in_err-make_room-clause-sound c = seen_sound _ _ (invariant_of-self-in_err-make_room c)

pub invariant_of-self-2 : goal.invariant_of-self-2
invariant_of-self-2 c =
    idle_lists c.reserve.new.self c.insert_reserved.new.self c.make_room.new.ends.items c.insert_reserved.result _
    (lists_longer c.reserve.new.self c.self.inside.ends.items c.make_room.new.ends.items c.args.owner c.in_ok-make_room.ensures.room
    (lists_same c.self.inside.slots c.reserve.new.self c.self.inside.ends.items
    (ap (λ (z : Slab Slot). z.slots) c.reserve.ensures.rest_kept) c.self.invariant))
    (ap (λ z. owner_of_place (place_of_entry z)) (entries_at c.reserve.new.self c.insert_reserved.result ∙ ap (option_map place_of_slot) c.insert_reserved.ensures.was_vacant))
    c.insert_reserved.ensures.updates refl

pub returns-clause-list : goal.returns-clause-list
returns-clause-list c =
    c.push.ensures.list ∙ ap (λ xs. xs ++ (c.insert_reserved.result, c.args.offset) ∷ []) (made_list c.self.inside.slots c.reserve.new.self c.insert_reserved.new.self c.self.inside.ends.items c.make_room.new.ends.items c.args.owner c.insert_reserved.result _ (ap (λ (z : Slab Slot). z.slots) c.reserve.ensures.rest_kept) c.self.invariant c.in_ok-make_room.ensures.room c.insert_reserved.ensures.was_vacant c.insert_reserved.ensures.updates refl c.args.owner ∙ ap (λ (v : RefLists). references_of v c.args.owner) c.self.view_is)

pub returns-clause-others : goal.returns-clause-others
returns-clause-others c =
    λ o d. c.push.ensures.others o d ∙ made_list c.self.inside.slots c.reserve.new.self c.insert_reserved.new.self c.self.inside.ends.items c.make_room.new.ends.items c.args.owner c.insert_reserved.result _ (ap (λ (z : Slab Slot). z.slots) c.reserve.ensures.rest_kept) c.self.invariant c.in_ok-make_room.ensures.room c.insert_reserved.ensures.was_vacant c.insert_reserved.ensures.updates refl o ∙ ap (λ (v : RefLists). references_of v o) c.self.view_is

pub returns-clause-changes : goal.returns-clause-changes
returns-clause-changes c =
    record {
      changed = c.push.ensures.changes.changed;
      others = λ x d. c.push.ensures.changes.others x d ∙ entries_other c.reserve.new.self c.insert_reserved.new.self c.insert_reserved.result _ c.insert_reserved.ensures.updates x d ∙ ap (λ (v : RefLists). entry v x) (shown_same c.self.inside.slots c.reserve.new.self c.self.inside.ends.items (ap (λ (z : Slab Slot). z.slots) c.reserve.ensures.rest_kept)) ∙ ap (λ (v : RefLists). entry v x) c.self.view_is;
    }
