use Rattle.std.proofs.Common.{arith, ◌≡◌, Some, None, IsSome, ap, ◌∙◌}
use Rattle.ft_arena.specs.Forest.{leaf_value, leaf_of_entry, parent_of}
use Rattle.ft_arena.proofs.ArenaLemmas.{at_view, count_is_some, IsForest-spare, Changes-spare}
use Rattle.ft_arena.proofs.SlotLemmas.{links_read, place_within, numbered_still, room_freed, live_place, entry_is, leaf_here, parent_shown}
use Rattle.ft_arena.proofs.UnlinkLemmas.{prev_has_node, next_has_node, long2, unhooked_length, unhooked_leaves, unhooked_changes, unhooked_sound}
use Rattle.ft_arena.proofs.arena.Arena.unlink.Goals as goal

pub index-links-requires : goal.index-links-requires
index-links-requires g c = omega (
  arith,
  place_within c.self.inside.nodes _ (Some c.id.inside.0) c.self.invariant.1.numbered (live_place c.self.inside.nodes
      c.self.inside.links.items (Some c.id.inside.0) (count_is_some _ (at_view (λ s i. IsSome (leaf_value s i)) c.self.inside c.args.self.now c.id.inside.0 c.args.id
      c.self.view_is c.id.view_is c.requires.live))),
  c.self.inside.links.ok.0,
)

pub remove-node-requires : goal.remove-node-requires
remove-node-requires g c = live_place c.self.inside.nodes c.self.inside.links.items (Some c.id.inside.0) (count_is_some _ (at_view (λ s i. IsSome (leaf_value s i))
    c.self.inside c.args.self.now c.id.inside.0 c.args.id c.self.view_is c.id.view_is c.requires.live))

pub into_leaf-requires : goal.into_leaf-requires
into_leaf-requires g c = leaf_here c.self.inside.nodes c.self.inside.links.items c.id.inside.0 c.remove-node.result c.remove-node.ensures.value
    (at_view (λ s i. IsSome (leaf_value s i)) c.self.inside c.args.self.now c.id.inside.0 c.args.id c.self.view_is c.id.view_is c.requires.live)

pub returns-clause-value : goal.returns-clause-value
returns-clause-value g c = rw (← c.self.view_is, ← c.id.view_is) (ap leaf_of_entry (entry_is c.self.inside.nodes c.self.inside.links.items c.id.inside.0
    c.remove-node.result c.remove-node.ensures.value) ∙ c.into_leaf.ensures)

pub set_next-requires : goal.set_next-requires
set_next-requires g c = place_within c.remove-node.new.self _ c.index-links.result.now.prev (numbered_still _ _ _ _ c.remove-node.ensures.updates c.self.invariant.1.numbered)
    (prev_has_node c.self.inside.nodes c.remove-node.new.self c.self.inside.links.items c.self.inside.head c.self.inside.tail c.id.inside.0 c.remove-node.result
    c.index-links.result.now c.self.invariant.0 c.remove-node.ensures.value
    (links_read c.self.inside.links.items c.id.inside.0 c.index-links.result.now (place_within c.self.inside.nodes _ (Some c.id.inside.0) c.self.invariant.1.numbered
    (live_place c.self.inside.nodes c.self.inside.links.items (Some c.id.inside.0) (count_is_some _ (at_view (λ s i. IsSome (leaf_value s i)) c.self.inside
    c.args.self.now c.id.inside.0 c.args.id c.self.view_is c.id.view_is c.requires.live)))) c.index-links.ensures)
    (count_is_some _ (at_view (λ s i. IsSome (leaf_value s i)) c.self.inside c.args.self.now c.id.inside.0 c.args.id c.self.view_is c.id.view_is c.requires.live))
    c.remove-node.ensures.updates (numbered_still _ _ _ _ c.remove-node.ensures.updates c.self.invariant.1.numbered))

pub set_prev-requires : goal.set_prev-requires
set_prev-requires g c = place_within c.remove-node.new.self _ c.index-links.result.now.next (long2 c.self.inside.nodes c.remove-node.new.self c.self.inside.links.items
    c.self.inside.head c.self.inside.tail c.id.inside.0 c.remove-node.result c.index-links.result.now c.self.invariant.0 c.remove-node.ensures.value
    (links_read c.self.inside.links.items c.id.inside.0 c.index-links.result.now (place_within c.self.inside.nodes _ (Some c.id.inside.0) c.self.invariant.1.numbered
    (live_place c.self.inside.nodes c.self.inside.links.items (Some c.id.inside.0) (count_is_some _ (at_view (λ s i. IsSome (leaf_value s i)) c.self.inside
    c.args.self.now c.id.inside.0 c.args.id c.self.view_is c.id.view_is c.requires.live)))) c.index-links.ensures)
    (count_is_some _ (at_view (λ s i. IsSome (leaf_value s i)) c.self.inside c.args.self.now c.id.inside.0 c.args.id c.self.view_is c.id.view_is c.requires.live))
    c.remove-node.ensures.updates (numbered_still _ _ _ _ c.remove-node.ensures.updates c.self.invariant.1.numbered) c.set_next.new.links.items c.set_next.new.head
    c.set_next.ensures.links c.set_next.ensures.head)
    (next_has_node c.self.inside.nodes c.remove-node.new.self c.self.inside.links.items c.self.inside.head c.self.inside.tail c.id.inside.0 c.remove-node.result
    c.index-links.result.now c.self.invariant.0 c.remove-node.ensures.value
    (links_read c.self.inside.links.items c.id.inside.0 c.index-links.result.now (place_within c.self.inside.nodes _ (Some c.id.inside.0) c.self.invariant.1.numbered
    (live_place c.self.inside.nodes c.self.inside.links.items (Some c.id.inside.0) (count_is_some _ (at_view (λ s i. IsSome (leaf_value s i)) c.self.inside
    c.args.self.now c.id.inside.0 c.args.id c.self.view_is c.id.view_is c.requires.live)))) c.index-links.ensures)
    (count_is_some _ (at_view (λ s i. IsSome (leaf_value s i)) c.self.inside c.args.self.now c.id.inside.0 c.args.id c.self.view_is c.id.view_is c.requires.live))
    c.remove-node.ensures.updates (numbered_still _ _ _ _ c.remove-node.ensures.updates c.self.invariant.1.numbered) c.set_next.new.links.items c.set_next.new.head
    c.set_next.ensures.links c.set_next.ensures.head)

pub invariant_of-self : goal.invariant_of-self
invariant_of-self g c =
    let alone = ap (λ l. l.parent) (links_read c.self.inside.links.items c.id.inside.0 c.index-links.result.now (place_within c.self.inside.nodes _ (Some c.id.inside.0)
    c.self.invariant.1.numbered (live_place c.self.inside.nodes c.self.inside.links.items (Some c.id.inside.0) (count_is_some _ (at_view (λ s i. IsSome
    (leaf_value s i)) c.self.inside c.args.self.now c.id.inside.0 c.args.id c.self.view_is c.id.view_is c.requires.live)))) c.index-links.ensures)
    ∙ parent_shown c.self.inside.nodes c.self.inside.links.items c.id.inside.0 (live_place c.self.inside.nodes c.self.inside.links.items (Some c.id.inside.0)
    (count_is_some _ (at_view (λ s i. IsSome (leaf_value s i)) c.self.inside c.args.self.now c.id.inside.0 c.args.id c.self.view_is c.id.view_is c.requires.live)))
    ∙ (at_view (λ s i. parent_of s i ≡ None) c.self.inside c.args.self.now c.id.inside.0 c.args.id c.self.view_is c.id.view_is c.requires.alone) in (
      unhooked_sound c.self.inside.nodes c.remove-node.new.self c.self.inside.links.items c.self.inside.head c.self.inside.tail c.id.inside.0 c.remove-node.result
          c.index-links.result.now c.self.invariant.0 c.remove-node.ensures.value
          (links_read c.self.inside.links.items c.id.inside.0 c.index-links.result.now (place_within c.self.inside.nodes _ (Some c.id.inside.0)
          c.self.invariant.1.numbered (live_place c.self.inside.nodes c.self.inside.links.items (Some c.id.inside.0) (count_is_some _ (at_view (λ s i. IsSome
          (leaf_value s i)) c.self.inside c.args.self.now c.id.inside.0 c.args.id c.self.view_is c.id.view_is c.requires.live)))) c.index-links.ensures)
          (count_is_some _ (at_view (λ s i. IsSome (leaf_value s i)) c.self.inside c.args.self.now c.id.inside.0 c.args.id c.self.view_is c.id.view_is c.requires.live))
          c.remove-node.ensures.updates (numbered_still _ _ _ _ c.remove-node.ensures.updates c.self.invariant.1.numbered) c.set_next.new.links.items c.set_next.new.head
          c.set_next.ensures.links c.set_next.ensures.head
          c.set_prev.new.links.items c.set_prev.new.tail c.set_prev.ensures.links c.set_prev.ensures.tail alone,
      room_freed c.self.inside.nodes c.remove-node.new.self c.id.inside.0 _ _ c.self.inside.spare c.remove-node.ensures.updates c.remove-node.ensures.len c.remove-node.ensures.capacity
          (unhooked_length c.self.inside.nodes c.remove-node.new.self c.self.inside.links.items c.self.inside.head c.self.inside.tail c.id.inside.0
          c.remove-node.result c.index-links.result.now c.self.invariant.0 c.remove-node.ensures.value
          (links_read c.self.inside.links.items c.id.inside.0 c.index-links.result.now (place_within c.self.inside.nodes _ (Some c.id.inside.0)
          c.self.invariant.1.numbered (live_place c.self.inside.nodes c.self.inside.links.items (Some c.id.inside.0) (count_is_some _ (at_view (λ s i. IsSome
          (leaf_value s i)) c.self.inside c.args.self.now c.id.inside.0 c.args.id c.self.view_is c.id.view_is c.requires.live)))) c.index-links.ensures)
          (count_is_some _ (at_view (λ s i. IsSome (leaf_value s i)) c.self.inside c.args.self.now c.id.inside.0 c.args.id c.self.view_is c.id.view_is
          c.requires.live)) c.remove-node.ensures.updates (numbered_still _ _ _ _ c.remove-node.ensures.updates c.self.invariant.1.numbered) c.set_next.new.links.items
          c.set_next.new.head c.set_next.ensures.links c.set_next.ensures.head
          c.set_prev.new.links.items c.set_prev.new.tail c.set_prev.ensures.links c.set_prev.ensures.tail) c.self.invariant.1,
    )

pub returns-clause-sound : goal.returns-clause-sound
returns-clause-sound g c = IsForest-spare _ _ (invariant_of-self g c).0.1

pub returns-clause-leaves : goal.returns-clause-leaves
returns-clause-leaves g c = rw (← c.self.view_is, ← c.id.view_is) (unhooked_leaves c.self.inside.nodes c.remove-node.new.self c.self.inside.links.items
    c.self.inside.head c.self.inside.tail c.id.inside.0 c.remove-node.result c.index-links.result.now c.self.invariant.0 c.remove-node.ensures.value
    (links_read c.self.inside.links.items c.id.inside.0 c.index-links.result.now (place_within c.self.inside.nodes _ (Some c.id.inside.0) c.self.invariant.1.numbered
    (live_place c.self.inside.nodes c.self.inside.links.items (Some c.id.inside.0) (count_is_some _ (at_view (λ s i. IsSome (leaf_value s i)) c.self.inside
    c.args.self.now c.id.inside.0 c.args.id c.self.view_is c.id.view_is c.requires.live)))) c.index-links.ensures)
    (count_is_some _ (at_view (λ s i. IsSome (leaf_value s i)) c.self.inside c.args.self.now c.id.inside.0 c.args.id c.self.view_is c.id.view_is c.requires.live))
    c.remove-node.ensures.updates (numbered_still _ _ _ _ c.remove-node.ensures.updates c.self.invariant.1.numbered) c.set_next.new.links.items c.set_next.new.head
    c.set_next.ensures.links c.set_next.ensures.head
    c.set_prev.new.links.items c.set_prev.new.tail c.set_prev.ensures.links c.set_prev.ensures.tail)

pub returns-clause-changes : goal.returns-clause-changes
returns-clause-changes g c = rw (← c.self.view_is, ← c.id.view_is) (Changes-spare _ _ _ _ _ _
    (unhooked_changes c.self.inside.nodes c.remove-node.new.self c.self.inside.links.items c.self.inside.head c.self.inside.tail c.id.inside.0 c.remove-node.result
    c.index-links.result.now c.self.invariant.0 c.remove-node.ensures.value
    (links_read c.self.inside.links.items c.id.inside.0 c.index-links.result.now (place_within c.self.inside.nodes _ (Some c.id.inside.0) c.self.invariant.1.numbered
    (live_place c.self.inside.nodes c.self.inside.links.items (Some c.id.inside.0) (count_is_some _ (at_view (λ s i. IsSome (leaf_value s i)) c.self.inside
    c.args.self.now c.id.inside.0 c.args.id c.self.view_is c.id.view_is c.requires.live)))) c.index-links.ensures)
    (count_is_some _ (at_view (λ s i. IsSome (leaf_value s i)) c.self.inside c.args.self.now c.id.inside.0 c.args.id c.self.view_is c.id.view_is c.requires.live))
    c.remove-node.ensures.updates (numbered_still _ _ _ _ c.remove-node.ensures.updates c.self.invariant.1.numbered) c.set_next.new.links.items c.set_next.new.head
    c.set_next.ensures.links c.set_next.ensures.head
    c.set_prev.new.links.items c.set_prev.new.tail c.set_prev.ensures.links c.set_prev.ensures.tail))
