use Rattle.std.proofs.Common.{◌≡◌, Some, None, refl, ap, ◌∙◌}
use Rattle.ft_refs.specs.RefLists.{RefLists, references_of, entry, place_of_entry, owner_of_place}
use Rattle.ft_refs.proofs.ListLemmas.{seen_sound, idle_lists, idle_list, entries_here, entries_other, at_view}
use Rattle.ft_refs.proofs.refs.Refs.release.Goals as goal

pub invariant_of-self : goal.invariant_of-self
invariant_of-self c =
    idle_lists c.self.inside.slots c.remove.new.self c.self.inside.ends.items c.r.inside.0 None c.self.invariant (ap (λ z. owner_of_place (place_of_entry z)) (at_view (λ s i. entry s i ≡ Some None) c.self.inside.slots c.self.inside.ends.items c.detach.new.self c.r.inside.0 c.args.r c.self.view_is c.r.view_is c.detach.ensures.changes.changed)) c.remove.ensures.updates refl

pub returns-clause-sound : goal.returns-clause-sound
returns-clause-sound c = seen_sound _ _ (invariant_of-self c)

pub returns-clause-lists : goal.returns-clause-lists
returns-clause-lists c =
    λ o. idle_list c.self.inside.slots c.remove.new.self c.self.inside.ends.items c.r.inside.0 None c.self.invariant (ap (λ z. owner_of_place (place_of_entry z)) (at_view (λ s i. entry s i ≡ Some None) c.self.inside.slots c.self.inside.ends.items c.detach.new.self c.r.inside.0 c.args.r c.self.view_is c.r.view_is c.detach.ensures.changes.changed)) c.remove.ensures.updates refl o
    ∙ ap (λ (v : RefLists). references_of v o) c.self.view_is ∙ c.detach.ensures.lists o

pub returns-clause-changes : goal.returns-clause-changes
returns-clause-changes c =
    record {
      changed = rw (← c.r.view_is) (entries_here c.self.inside.slots c.remove.new.self c.r.inside.0 None c.remove.ensures.updates);
      others = λ x d. entries_other c.self.inside.slots c.remove.new.self c.r.inside.0 None c.remove.ensures.updates x
          (λ e. d (e ∙ c.r.view_is)) ∙ ap (λ (v : RefLists). entry v x) c.self.view_is ∙ c.detach.ensures.changes.others x d;
    }
