use Rattle.std.proofs.Common.{◌≡◌, ◌≤◌, ◌<◌, Some, None, IsSome, length, ap, sym, subst, arith, length-set}
use Rattle.slab.proofs.SlabLemmas.{ContainsKey-within}
use Rattle.ft_arena.specs.Forest.{Forest, entry, block_value, parent_of, kids_of, kids_of_entry}
use Rattle.ft_arena.proofs.ArenaLemmas.{at_view, IsForest-spare, PutsChild-spare}
use Rattle.ft_arena.proofs.SlotLemmas.{links_read, place_within, entry_node, entry_is, block_node, block_here, room_written}
use Rattle.ft_arena.proofs.ChildLemmas.{put_written}
use Rattle.ft_arena.proofs.arena.Arena.put_child.Goals as goal

pub put_kid-requires-clause-fits : goal.put_kid-requires-clause-fits
put_kid-requires-clause-fits g c = omega (
  arith,
  (ContainsKey-within c.self.inside.nodes c.child.inside.0 (entry_node c.self.inside.nodes c.self.inside.links.items c.child.inside.0
      (at_view (λ s i. IsSome (entry s i)) c.self.inside c.args.self.now c.child.inside.0 c.args.child c.self.view_is c.child.view_is c.requires.child))),
  c.capacity-capacity.ensures.few,
)

pub index_mut-requires-2 : goal.index_mut-requires-2
index_mut-requires-2 g c = omega (
  arith,
  (place_within c.self.inside.nodes _ (Some c.child.inside.0) c.self.invariant.1.numbered (entry_node c.self.inside.nodes
      c.self.inside.links.items c.child.inside.0 (at_view (λ s i. IsSome (entry s i)) c.self.inside c.args.self.now c.child.inside.0 c.args.child c.self.view_is
      c.child.view_is c.requires.child))),
  c.self.inside.links.ok.0,
)

pub raw-parent-requires : goal.raw-parent-requires
raw-parent-requires g c = block_node c.self.inside.nodes c.self.inside.links.items c.args.block
    (subst (λ (s : Forest g.row.L.Denot g.row.B.Denot). IsSome (block_value s c.args.block)) (sym c.self.view_is) c.requires.block)

pub index_mut-requires : goal.index_mut-requires
index_mut-requires g c = block_node c.self.inside.nodes c.self.inside.links.items c.block.inside.0 (at_view (λ s i. IsSome (block_value s i)) c.self.inside
    c.args.self.now c.block.inside.0 c.args.block c.self.view_is c.block.view_is c.requires.block)

pub put_kid-requires-clause-block : goal.put_kid-requires-clause-block
put_kid-requires-clause-block g c = block_here c.self.inside.nodes c.self.inside.links.items c.block.inside.0 c.index_mut.result.now c.index_mut.ensures.value (at_view
    (λ s i. IsSome (block_value s i)) c.self.inside c.args.self.now c.block.inside.0 c.args.block c.self.view_is c.block.view_is c.requires.block)

pub put_kid-requires-clause-at : goal.put_kid-requires-clause-at
put_kid-requires-clause-at g c = omega (
  arith,
  ap (λ o. length (kids_of_entry o)) (entry_is c.self.inside.nodes c.self.inside.links.items c.block.inside.0 c.index_mut.result.now c.index_mut.ensures.value),
  (at_view (λ s i. c.args.at ≤ length (kids_of s i)) c.self.inside c.args.self.now c.block.inside.0 c.args.block c.self.view_is c.block.view_is c.requires.at),
)

pub put_kid-requires-clause-room : goal.put_kid-requires-clause-room
put_kid-requires-clause-room g c = omega (
  arith,
  ap (λ o. length (kids_of_entry o)) (entry_is c.self.inside.nodes c.self.inside.links.items c.block.inside.0 c.index_mut.result.now c.index_mut.ensures.value),
  (at_view (λ s i. length (kids_of s i) < 8) c.self.inside c.args.self.now c.block.inside.0 c.args.block c.self.view_is c.block.view_is c.requires.room),
)

pub invariant_of-self : goal.invariant_of-self
invariant_of-self g c = (
  rw (c.raw-parent.ensures, ← c.block.view_is) ((put_written c.self.inside.nodes c.self.inside.links.items c.self.inside.head c.self.inside.tail c.self.invariant.0
      c.block.inside.0 c.child.inside.0 c.index_mut.result.now c.put_kid.new.self c.index_mut-2.result.now
      c.index_mut.ensures.value (entry_node c.self.inside.nodes c.self.inside.links.items c.child.inside.0 (at_view (λ s i. IsSome (entry s i)) c.self.inside
      c.args.self.now c.child.inside.0 c.args.child c.self.view_is c.child.view_is c.requires.child))
      (place_within c.self.inside.nodes _ (Some c.child.inside.0) c.self.invariant.1.numbered (entry_node c.self.inside.nodes c.self.inside.links.items c.child.inside.0
      (at_view (λ s i. IsSome (entry s i)) c.self.inside c.args.self.now c.child.inside.0 c.args.child c.self.view_is c.child.view_is c.requires.child)))
      (links_read c.self.inside.links.items c.child.inside.0 c.index_mut-2.result.now (place_within c.self.inside.nodes _ (Some c.child.inside.0)
      c.self.invariant.1.numbered (entry_node c.self.inside.nodes c.self.inside.links.items c.child.inside.0 (at_view (λ s i. IsSome (entry s i)) c.self.inside
      c.args.self.now c.child.inside.0 c.args.child c.self.view_is c.child.view_is c.requires.child))) c.index_mut-2.ensures.value) c.args.at c.put_kid.ensures
      (at_view (λ s i. IsSome (block_value s i)) c.self.inside c.args.self.now c.block.inside.0 c.args.block c.self.view_is c.block.view_is c.requires.block)
      (at_view (λ s i. c.args.at ≤ length (kids_of s i)) c.self.inside c.args.self.now c.block.inside.0 c.args.block c.self.view_is c.block.view_is c.requires.at)
      (at_view (λ s i. length (kids_of s i) < 8) c.self.inside c.args.self.now c.block.inside.0 c.args.block c.self.view_is c.block.view_is c.requires.room)
      (at_view (λ s i. parent_of s i ≡ None) c.self.inside c.args.self.now c.child.inside.0 c.args.child c.self.view_is c.child.view_is c.requires.alone)).0),
  room_written c.self.inside.nodes _ _ c.self.inside.spare c.block.inside.0 c.index_mut.result.now _ c.index_mut.ensures.value (length-set c.self.inside.links.items
      c.child.inside.0 _) c.self.invariant.1,
)

pub returns-clause-sound : goal.returns-clause-sound
returns-clause-sound g c = IsForest-spare _ _ (invariant_of-self g c).0.1

pub returns-clause-leaves : goal.returns-clause-leaves
returns-clause-leaves g c = rw (← c.self.view_is, c.raw-parent.ensures, ← c.block.view_is)
    ((put_written c.self.inside.nodes c.self.inside.links.items c.self.inside.head c.self.inside.tail c.self.invariant.0 c.block.inside.0 c.child.inside.0
    c.index_mut.result.now c.put_kid.new.self c.index_mut-2.result.now
    c.index_mut.ensures.value (entry_node c.self.inside.nodes c.self.inside.links.items c.child.inside.0 (at_view (λ s i. IsSome (entry s i)) c.self.inside
    c.args.self.now c.child.inside.0 c.args.child c.self.view_is c.child.view_is c.requires.child))
    (place_within c.self.inside.nodes _ (Some c.child.inside.0) c.self.invariant.1.numbered (entry_node c.self.inside.nodes c.self.inside.links.items c.child.inside.0
    (at_view (λ s i. IsSome (entry s i)) c.self.inside c.args.self.now c.child.inside.0 c.args.child c.self.view_is c.child.view_is c.requires.child)))
    (links_read c.self.inside.links.items c.child.inside.0 c.index_mut-2.result.now (place_within c.self.inside.nodes _ (Some c.child.inside.0)
    c.self.invariant.1.numbered (entry_node c.self.inside.nodes c.self.inside.links.items c.child.inside.0 (at_view (λ s i. IsSome (entry s i)) c.self.inside
    c.args.self.now c.child.inside.0 c.args.child c.self.view_is c.child.view_is c.requires.child))) c.index_mut-2.ensures.value) c.args.at c.put_kid.ensures
    (at_view (λ s i. IsSome (block_value s i)) c.self.inside c.args.self.now c.block.inside.0 c.args.block c.self.view_is c.block.view_is c.requires.block)
    (at_view (λ s i. c.args.at ≤ length (kids_of s i)) c.self.inside c.args.self.now c.block.inside.0 c.args.block c.self.view_is c.block.view_is c.requires.at)
    (at_view (λ s i. length (kids_of s i) < 8) c.self.inside c.args.self.now c.block.inside.0 c.args.block c.self.view_is c.block.view_is c.requires.room)
    (at_view (λ s i. parent_of s i ≡ None) c.self.inside c.args.self.now c.child.inside.0 c.args.child c.self.view_is c.child.view_is c.requires.alone)).1)

pub returns-clause-puts : goal.returns-clause-puts
returns-clause-puts g c = rw (← c.self.view_is, c.raw-parent.ensures, ← c.block.view_is, ← c.child.view_is)
    (PutsChild-spare _ _ _ _ _ _ _ ((put_written c.self.inside.nodes c.self.inside.links.items c.self.inside.head c.self.inside.tail c.self.invariant.0 c.block.inside.0
    c.child.inside.0 c.index_mut.result.now c.put_kid.new.self c.index_mut-2.result.now
    c.index_mut.ensures.value (entry_node c.self.inside.nodes c.self.inside.links.items c.child.inside.0 (at_view (λ s i. IsSome (entry s i)) c.self.inside
    c.args.self.now c.child.inside.0 c.args.child c.self.view_is c.child.view_is c.requires.child))
    (place_within c.self.inside.nodes _ (Some c.child.inside.0) c.self.invariant.1.numbered (entry_node c.self.inside.nodes c.self.inside.links.items c.child.inside.0
    (at_view (λ s i. IsSome (entry s i)) c.self.inside c.args.self.now c.child.inside.0 c.args.child c.self.view_is c.child.view_is c.requires.child)))
    (links_read c.self.inside.links.items c.child.inside.0 c.index_mut-2.result.now (place_within c.self.inside.nodes _ (Some c.child.inside.0)
    c.self.invariant.1.numbered (entry_node c.self.inside.nodes c.self.inside.links.items c.child.inside.0 (at_view (λ s i. IsSome (entry s i)) c.self.inside
    c.args.self.now c.child.inside.0 c.args.child c.self.view_is c.child.view_is c.requires.child))) c.index_mut-2.ensures.value) c.args.at c.put_kid.ensures
    (at_view (λ s i. IsSome (block_value s i)) c.self.inside c.args.self.now c.block.inside.0 c.args.block c.self.view_is c.block.view_is c.requires.block)
    (at_view (λ s i. c.args.at ≤ length (kids_of s i)) c.self.inside c.args.self.now c.block.inside.0 c.args.block c.self.view_is c.block.view_is c.requires.at)
    (at_view (λ s i. length (kids_of s i) < 8) c.self.inside c.args.self.now c.block.inside.0 c.args.block c.self.view_is c.block.view_is c.requires.room)
    (at_view (λ s i. parent_of s i ≡ None) c.self.inside c.args.self.now c.child.inside.0 c.args.child c.self.view_is c.child.view_is c.requires.alone)).2))
