use Rattle.std.proofs.Common.{◌-◌, arith}
use Rattle.ft_arena.specs.Links.{view_of}
use Rattle.ft_arena.proofs.ArenaLemmas.{place_is_live, IsForest-spare, Changes-spare}
use Rattle.ft_arena.proofs.SlotLemmas.{kept_room, less_room, place_within, live_place, kept_place, vacant_shown}
use Rattle.ft_arena.proofs.LinkLemmas.{next_has_node, long2, hooked_length, hooked_leaves, hooked_changes, hooked_sound}
use Rattle.ft_arena.proofs.arena.Arena.link_after.Goals as goal

pub raw-at-requires : goal.raw-at-requires
raw-at-requires g c = live_place c.self.inside.nodes c.self.inside.links.items c.args.at (place_is_live (view_of c.self.inside) c.args.at (rw c.self.view_is c.requires.place))

pub returns-clause-fresh : goal.returns-clause-fresh
returns-clause-fresh g c = rw (← c.self.view_is) (vacant_shown c.self.inside.nodes c.self.inside.links.items c.insert-id.result c.insert-id.ensures.was_vacant)

pub next_at-next-requires : goal.next_at-next-requires
next_at-next-requires g c = place_within c.self.inside.nodes _ c.raw-at.result c.self.invariant.1.numbered (live_place c.self.inside.nodes c.self.inside.links.items
    c.raw-at.result
    (place_is_live (view_of c.self.inside) c.raw-at.result (rw (c.self.view_is, c.raw-at.ensures) c.requires.place)))

pub insert-id-requires : goal.insert-id-requires
insert-id-requires g c = less_room _ _ _ 1 (rw (← c.self.view_is) at c.requires.room) c.self.invariant.1

pub raw-here-requires : goal.raw-here-requires
raw-here-requires g c = c.insert-id.ensures.there

pub set_next-requires : goal.set_next-requires
set_next-requires g c = place_within c.insert-id.new.nodes _ c.raw-at.result (c.insert-id.ensures.room 0 (less_room _ _ _ 1 (rw (← c.self.view_is) at c.requires.room)
    c.self.invariant.1)).numbered
    (kept_place c.self.inside.nodes c.insert-id.new.nodes c.insert-id.ensures.others c.raw-at.result (live_place c.self.inside.nodes c.self.inside.links.items c.raw-at.result
    (place_is_live (view_of c.self.inside) c.raw-at.result (rw (c.self.view_is, c.raw-at.ensures) c.requires.place))))

pub set_prev-requires : goal.set_prev-requires
set_prev-requires g c = place_within c.insert-id.new.nodes _ c.next_at-next.result (long2 c.self.inside.nodes c.insert-id.new.nodes c.self.inside.links.items
    c.insert-id.new.links.items c.set_next.new.links.items c.self.inside.head c.self.inside.tail c.set_next.new.head c.raw-at.result
    c.next_at-next.result c.insert-id.result c.args.leaf c.self.invariant.0
    (place_is_live (view_of c.self.inside) c.raw-at.result (rw (c.self.view_is, c.raw-at.ensures) c.requires.place)) c.next_at-next.ensures
    c.insert-id.ensures.was_vacant c.insert-id.ensures.updates c.insert-id.ensures.others (c.insert-id.ensures.room 0 (less_room _ _ _ 1 (rw (← c.self.view_is) at
    c.requires.room) c.self.invariant.1)).numbered
    (rw c.raw-here.ensures at c.set_next.ensures.links) (rw c.raw-here.ensures at c.set_next.ensures.head)) (next_has_node c.self.inside.nodes c.insert-id.new.nodes
    c.self.inside.links.items c.insert-id.new.links.items c.set_next.new.links.items c.self.inside.head c.self.inside.tail c.set_next.new.head c.raw-at.result
    c.next_at-next.result c.insert-id.result c.args.leaf c.self.invariant.0
    (place_is_live (view_of c.self.inside) c.raw-at.result (rw (c.self.view_is, c.raw-at.ensures) c.requires.place)) c.next_at-next.ensures
    c.insert-id.ensures.was_vacant c.insert-id.ensures.updates c.insert-id.ensures.others (c.insert-id.ensures.room 0 (less_room _ _ _ 1 (rw (← c.self.view_is) at
    c.requires.room) c.self.invariant.1)).numbered
    (rw c.raw-here.ensures at c.set_next.ensures.links) (rw c.raw-here.ensures at c.set_next.ensures.head))

pub invariant_of-self : goal.invariant_of-self
invariant_of-self g c =
    let room = c.insert-id.ensures.room (c.self.inside.spare - 1) (less_room _ _ _ _ (omega (arith, rw (← c.self.view_is) at c.requires.room)) c.self.invariant.1) in (
      hooked_sound c.self.inside.nodes c.insert-id.new.nodes c.self.inside.links.items c.insert-id.new.links.items c.set_next.new.links.items c.self.inside.head
          c.self.inside.tail c.set_next.new.head c.raw-at.result
          c.next_at-next.result c.insert-id.result c.args.leaf c.self.invariant.0
          (place_is_live (view_of c.self.inside) c.raw-at.result (rw (c.self.view_is, c.raw-at.ensures) c.requires.place)) c.next_at-next.ensures
          c.insert-id.ensures.was_vacant c.insert-id.ensures.updates c.insert-id.ensures.others (c.insert-id.ensures.room 0 (less_room _ _ _ 1 (rw (← c.self.view_is)
          at c.requires.room) c.self.invariant.1)).numbered
          (rw c.raw-here.ensures at c.set_next.ensures.links) (rw c.raw-here.ensures at c.set_next.ensures.head) c.set_prev.new.links.items c.set_prev.new.tail
          (rw c.raw-here.ensures at c.set_prev.ensures.links) (rw c.raw-here.ensures at c.set_prev.ensures.tail),
      kept_room c.insert-id.new.nodes _ _ _ (hooked_length c.self.inside.nodes c.insert-id.new.nodes c.self.inside.links.items c.insert-id.new.links.items c.set_next.new.links.items
          c.self.inside.head c.self.inside.tail c.set_next.new.head c.raw-at.result
          c.next_at-next.result c.insert-id.result c.args.leaf c.self.invariant.0
          (place_is_live (view_of c.self.inside) c.raw-at.result (rw (c.self.view_is, c.raw-at.ensures) c.requires.place)) c.next_at-next.ensures
          c.insert-id.ensures.was_vacant c.insert-id.ensures.updates c.insert-id.ensures.others (c.insert-id.ensures.room 0 (less_room _ _ _ 1 (rw (← c.self.view_is)
          at c.requires.room) c.self.invariant.1)).numbered
          (rw c.raw-here.ensures at c.set_next.ensures.links) (rw c.raw-here.ensures at c.set_next.ensures.head) c.set_prev.new.links.items c.set_prev.new.tail
          (rw c.raw-here.ensures at c.set_prev.ensures.links) (rw c.raw-here.ensures at c.set_prev.ensures.tail)) room,
    )

pub returns-clause-sound : goal.returns-clause-sound
returns-clause-sound g c = IsForest-spare _ _ (invariant_of-self g c).0.1

pub returns-clause-leaves : goal.returns-clause-leaves
returns-clause-leaves g c = rw (← c.self.view_is, ← c.raw-at.ensures) (hooked_leaves c.self.inside.nodes c.insert-id.new.nodes c.self.inside.links.items
    c.insert-id.new.links.items c.set_next.new.links.items c.self.inside.head c.self.inside.tail c.set_next.new.head c.raw-at.result
    c.next_at-next.result c.insert-id.result c.args.leaf c.self.invariant.0
    (place_is_live (view_of c.self.inside) c.raw-at.result (rw (c.self.view_is, c.raw-at.ensures) c.requires.place)) c.next_at-next.ensures
    c.insert-id.ensures.was_vacant c.insert-id.ensures.updates c.insert-id.ensures.others (c.insert-id.ensures.room 0 (less_room _ _ _ 1 (rw (← c.self.view_is) at
    c.requires.room) c.self.invariant.1)).numbered
    (rw c.raw-here.ensures at c.set_next.ensures.links) (rw c.raw-here.ensures at c.set_next.ensures.head) c.set_prev.new.links.items c.set_prev.new.tail
    (rw c.raw-here.ensures at c.set_prev.ensures.links) (rw c.raw-here.ensures at c.set_prev.ensures.tail))

pub returns-clause-changes : goal.returns-clause-changes
returns-clause-changes g c = rw (← c.self.view_is) (Changes-spare _ _ _ _ _ _ (hooked_changes c.self.inside.nodes c.insert-id.new.nodes c.self.inside.links.items
    c.insert-id.new.links.items c.set_next.new.links.items c.self.inside.head c.self.inside.tail c.set_next.new.head c.raw-at.result
    c.next_at-next.result c.insert-id.result c.args.leaf c.self.invariant.0
    (place_is_live (view_of c.self.inside) c.raw-at.result (rw (c.self.view_is, c.raw-at.ensures) c.requires.place)) c.next_at-next.ensures
    c.insert-id.ensures.was_vacant c.insert-id.ensures.updates c.insert-id.ensures.others (c.insert-id.ensures.room 0 (less_room _ _ _ 1 (rw (← c.self.view_is) at
    c.requires.room) c.self.invariant.1)).numbered
    (rw c.raw-here.ensures at c.set_next.ensures.links) (rw c.raw-here.ensures at c.set_next.ensures.head) c.set_prev.new.links.items c.set_prev.new.tail
    (rw c.raw-here.ensures at c.set_prev.ensures.links) (rw c.raw-here.ensures at c.set_prev.ensures.tail)))
