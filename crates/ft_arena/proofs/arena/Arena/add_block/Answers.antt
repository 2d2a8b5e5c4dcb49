use Rattle.std.proofs.Common.{◌-◌, arith, None, refl, ap, ◌∙◌}
use Rattle.ft_arena.specs.Links.{links_under, slot_at, slots_of}
use Rattle.ft_arena.proofs.ArenaLemmas.{IsForest-spare, Changes-spare}
use Rattle.ft_arena.proofs.SlotLemmas.{less_room, slots_at, vacant_shown}
use Rattle.ft_arena.proofs.KidLemmas.{sound_at, Changes-at}
use Rattle.ft_arena.proofs.arena.Arena.add_block.Goals as goal

pub insert-id-requires : goal.insert-id-requires
insert-id-requires g c = less_room _ _ _ 1 (rw (← c.self.view_is) at c.requires) c.self.invariant.1

pub returns-clause-fresh : goal.returns-clause-fresh
returns-clause-fresh g c = rw (← c.self.view_is) (vacant_shown c.self.inside.nodes c.self.inside.links.items c.insert-id.result c.insert-id.ensures.was_vacant)

pub invariant_of-self : goal.invariant_of-self
invariant_of-self g c = (
  (sound_at (slots_of c.self.inside.nodes c.self.inside.links.items) (slots_of c.insert-id.new.nodes c.insert-id.new.links.items) c.self.inside.head c.self.inside.tail
      c.insert-id.result None _ (slots_at c.self.inside.nodes c.self.inside.links.items c.insert-id.result ∙ ap (λ o. slot_at o (links_under c.self.inside.links.items
      c.insert-id.result)) c.insert-id.ensures.was_vacant)
      c.insert-id.ensures.updates refl refl refl c.new.ensures refl c.self.invariant.0).0,
  c.insert-id.ensures.room (c.self.inside.spare - 1) (less_room _ _ _ _ (omega (arith, rw (← c.self.view_is) at c.requires)) c.self.invariant.1),
)

pub returns-clause-sound : goal.returns-clause-sound
returns-clause-sound g c = IsForest-spare _ _ (invariant_of-self g c).0.1

pub returns-clause-leaves : goal.returns-clause-leaves
returns-clause-leaves g c = rw (← c.self.view_is) ((sound_at (slots_of c.self.inside.nodes c.self.inside.links.items) (slots_of c.insert-id.new.nodes
    c.insert-id.new.links.items) c.self.inside.head c.self.inside.tail c.insert-id.result None _ (slots_at c.self.inside.nodes c.self.inside.links.items
    c.insert-id.result ∙ ap (λ o. slot_at o (links_under c.self.inside.links.items c.insert-id.result)) c.insert-id.ensures.was_vacant)
    c.insert-id.ensures.updates refl refl refl c.new.ensures refl c.self.invariant.0).1)

pub returns-clause-changes : goal.returns-clause-changes
returns-clause-changes g c = rw (← c.self.view_is, ← c.new.ensures) (Changes-spare _ _ _ _ _ _ (Changes-at (slots_of c.self.inside.nodes c.self.inside.links.items)
    (slots_of c.insert-id.new.nodes c.insert-id.new.links.items) c.self.inside.head c.self.inside.tail c.self.inside.head c.self.inside.tail
    c.insert-id.result _ c.insert-id.ensures.updates))
