use Rattle.std.proofs.Common.{◌<◌, Some, ap, ◌∙◌, length, slice_get, length-set, arith}
use Rattle.ft_arena.specs.Forest.{kids_of, kids_of_entry}
use Rattle.ft_arena.proofs.ArenaLemmas.{at_view, IsForest-spare, TakesChild-spare}
use Rattle.ft_arena.proofs.SlotLemmas.{links_read, place_within, entry_is, block_node, block_from_entry, room_written}
use Rattle.ft_arena.proofs.ChildLemmas.{take_written, child_has_node}
use Rattle.ft_arena.proofs.arena.Arena.take_child.Goals as goal

pub index_mut-requires : goal.index_mut-requires
index_mut-requires g c = block_node c.self.inside.nodes c.self.inside.links.items c.block.inside.0 (block_from_entry _ c.args.at (at_view (λ s i. c.args.at < length
    (kids_of s i)) c.self.inside c.args.self.now c.block.inside.0 c.args.block c.self.view_is c.block.view_is c.requires))

pub take_kid-child-requires : goal.take_kid-child-requires
take_kid-child-requires g c = omega (
  arith,
  ap (λ o. length (kids_of_entry o)) (entry_is c.self.inside.nodes c.self.inside.links.items c.block.inside.0 c.index_mut.result.now c.index_mut.ensures.value),
  (at_view (λ s i. c.args.at < length (kids_of s i)) c.self.inside c.args.self.now c.block.inside.0 c.args.block c.self.view_is c.block.view_is c.requires),
)

pub returns-clause-child : goal.returns-clause-child
returns-clause-child g c = rw (← c.self.view_is, ← c.block.view_is) (ap (λ o. slice_get (kids_of_entry o) c.args.at) (entry_is c.self.inside.nodes
    c.self.inside.links.items c.block.inside.0 c.index_mut.result.now c.index_mut.ensures.value)
    ∙ c.take_kid-child.ensures.value)

pub index_mut-requires-2 : goal.index_mut-requires-2
index_mut-requires-2 g c = omega (
  arith,
  (place_within c.self.inside.nodes _ (Some c.take_kid-child.result) c.self.invariant.1.numbered (child_has_node c.self.inside.nodes c.self.inside.links.items
      c.self.inside.head c.self.inside.tail c.self.invariant.0 c.block.inside.0 c.args.at c.take_kid-child.result
      (ap (λ o. slice_get (kids_of_entry o) c.args.at) (entry_is c.self.inside.nodes c.self.inside.links.items c.block.inside.0 c.index_mut.result.now c.index_mut.ensures.value)
      ∙ c.take_kid-child.ensures.value))),
  c.self.inside.links.ok.0,
)

pub invariant_of-self : goal.invariant_of-self
invariant_of-self g c = (
  (take_written c.self.inside.nodes c.self.inside.links.items c.self.inside.head c.self.inside.tail c.self.invariant.0 c.block.inside.0 c.take_kid-child.result
      c.index_mut.result.now c.take_kid-child.new.self c.index_mut-2.result.now
      c.index_mut.ensures.value (child_has_node c.self.inside.nodes c.self.inside.links.items c.self.inside.head c.self.inside.tail c.self.invariant.0 c.block.inside.0
      c.args.at c.take_kid-child.result
      (ap (λ o. slice_get (kids_of_entry o) c.args.at) (entry_is c.self.inside.nodes c.self.inside.links.items c.block.inside.0 c.index_mut.result.now c.index_mut.ensures.value)
      ∙ c.take_kid-child.ensures.value))
      (place_within c.self.inside.nodes _ (Some c.take_kid-child.result) c.self.invariant.1.numbered (child_has_node c.self.inside.nodes c.self.inside.links.items
      c.self.inside.head c.self.inside.tail c.self.invariant.0 c.block.inside.0 c.args.at c.take_kid-child.result
      (ap (λ o. slice_get (kids_of_entry o) c.args.at) (entry_is c.self.inside.nodes c.self.inside.links.items c.block.inside.0 c.index_mut.result.now c.index_mut.ensures.value)
      ∙ c.take_kid-child.ensures.value)))
      (links_read c.self.inside.links.items c.take_kid-child.result c.index_mut-2.result.now (place_within c.self.inside.nodes _ (Some c.take_kid-child.result)
      c.self.invariant.1.numbered (child_has_node c.self.inside.nodes c.self.inside.links.items c.self.inside.head c.self.inside.tail c.self.invariant.0
      c.block.inside.0 c.args.at c.take_kid-child.result
      (ap (λ o. slice_get (kids_of_entry o) c.args.at) (entry_is c.self.inside.nodes c.self.inside.links.items c.block.inside.0 c.index_mut.result.now c.index_mut.ensures.value)
      ∙ c.take_kid-child.ensures.value))) c.index_mut-2.ensures.value) c.args.at
      c.take_kid-child.ensures.rest
      (ap (λ o. slice_get (kids_of_entry o) c.args.at) (entry_is c.self.inside.nodes c.self.inside.links.items c.block.inside.0 c.index_mut.result.now c.index_mut.ensures.value)
      ∙ c.take_kid-child.ensures.value)).0,
  room_written c.self.inside.nodes _ _ c.self.inside.spare c.block.inside.0 c.index_mut.result.now _ c.index_mut.ensures.value (length-set c.self.inside.links.items
      c.take_kid-child.result _) c.self.invariant.1,
)

pub returns-clause-sound : goal.returns-clause-sound
returns-clause-sound g c = IsForest-spare _ _ (invariant_of-self g c).0.1

pub returns-clause-leaves : goal.returns-clause-leaves
returns-clause-leaves g c = rw (← c.self.view_is) ((take_written c.self.inside.nodes c.self.inside.links.items c.self.inside.head c.self.inside.tail c.self.invariant.0
    c.block.inside.0 c.take_kid-child.result c.index_mut.result.now c.take_kid-child.new.self c.index_mut-2.result.now
    c.index_mut.ensures.value (child_has_node c.self.inside.nodes c.self.inside.links.items c.self.inside.head c.self.inside.tail c.self.invariant.0 c.block.inside.0
    c.args.at c.take_kid-child.result
    (ap (λ o. slice_get (kids_of_entry o) c.args.at) (entry_is c.self.inside.nodes c.self.inside.links.items c.block.inside.0 c.index_mut.result.now c.index_mut.ensures.value)
    ∙ c.take_kid-child.ensures.value))
    (place_within c.self.inside.nodes _ (Some c.take_kid-child.result) c.self.invariant.1.numbered (child_has_node c.self.inside.nodes c.self.inside.links.items
    c.self.inside.head c.self.inside.tail c.self.invariant.0 c.block.inside.0 c.args.at c.take_kid-child.result
    (ap (λ o. slice_get (kids_of_entry o) c.args.at) (entry_is c.self.inside.nodes c.self.inside.links.items c.block.inside.0 c.index_mut.result.now c.index_mut.ensures.value)
    ∙ c.take_kid-child.ensures.value)))
    (links_read c.self.inside.links.items c.take_kid-child.result c.index_mut-2.result.now (place_within c.self.inside.nodes _ (Some c.take_kid-child.result)
    c.self.invariant.1.numbered (child_has_node c.self.inside.nodes c.self.inside.links.items c.self.inside.head c.self.inside.tail c.self.invariant.0
    c.block.inside.0 c.args.at c.take_kid-child.result
    (ap (λ o. slice_get (kids_of_entry o) c.args.at) (entry_is c.self.inside.nodes c.self.inside.links.items c.block.inside.0 c.index_mut.result.now c.index_mut.ensures.value)
    ∙ c.take_kid-child.ensures.value))) c.index_mut-2.ensures.value) c.args.at
    c.take_kid-child.ensures.rest
    (ap (λ o. slice_get (kids_of_entry o) c.args.at) (entry_is c.self.inside.nodes c.self.inside.links.items c.block.inside.0 c.index_mut.result.now c.index_mut.ensures.value)
    ∙ c.take_kid-child.ensures.value)).1)

pub returns-clause-takes : goal.returns-clause-takes
returns-clause-takes g c = rw (← c.self.view_is, ← c.block.view_is)
    (TakesChild-spare _ _ _ _ _ _ _ ((take_written c.self.inside.nodes c.self.inside.links.items c.self.inside.head c.self.inside.tail c.self.invariant.0
    c.block.inside.0 c.take_kid-child.result c.index_mut.result.now c.take_kid-child.new.self c.index_mut-2.result.now
    c.index_mut.ensures.value (child_has_node c.self.inside.nodes c.self.inside.links.items c.self.inside.head c.self.inside.tail c.self.invariant.0 c.block.inside.0
    c.args.at c.take_kid-child.result
    (ap (λ o. slice_get (kids_of_entry o) c.args.at) (entry_is c.self.inside.nodes c.self.inside.links.items c.block.inside.0 c.index_mut.result.now c.index_mut.ensures.value)
    ∙ c.take_kid-child.ensures.value))
    (place_within c.self.inside.nodes _ (Some c.take_kid-child.result) c.self.invariant.1.numbered (child_has_node c.self.inside.nodes c.self.inside.links.items
    c.self.inside.head c.self.inside.tail c.self.invariant.0 c.block.inside.0 c.args.at c.take_kid-child.result
    (ap (λ o. slice_get (kids_of_entry o) c.args.at) (entry_is c.self.inside.nodes c.self.inside.links.items c.block.inside.0 c.index_mut.result.now c.index_mut.ensures.value)
    ∙ c.take_kid-child.ensures.value)))
    (links_read c.self.inside.links.items c.take_kid-child.result c.index_mut-2.result.now (place_within c.self.inside.nodes _ (Some c.take_kid-child.result)
    c.self.invariant.1.numbered (child_has_node c.self.inside.nodes c.self.inside.links.items c.self.inside.head c.self.inside.tail c.self.invariant.0
    c.block.inside.0 c.args.at c.take_kid-child.result
    (ap (λ o. slice_get (kids_of_entry o) c.args.at) (entry_is c.self.inside.nodes c.self.inside.links.items c.block.inside.0 c.index_mut.result.now c.index_mut.ensures.value)
    ∙ c.take_kid-child.ensures.value))) c.index_mut-2.ensures.value) c.args.at
    c.take_kid-child.ensures.rest
    (ap (λ o. slice_get (kids_of_entry o) c.args.at) (entry_is c.self.inside.nodes c.self.inside.links.items c.block.inside.0 c.index_mut.result.now c.index_mut.ensures.value)
    ∙ c.take_kid-child.ensures.value)).2))
