use Rattle.std.proofs.Common.{[], ◌≡◌, Some, None, IsSome, refl, ap, sym, ◌∙◌}
use Rattle.ft_arena.specs.Forest.{block_value, block_of_entry, parent_of, kids_of, block_of_node, kids_of_entry, parent_of_entry, leaf_of_node, count_some}
use Rattle.ft_arena.specs.Links.{entry_of, links_under, slot_of, slots_of}
use Rattle.std.specs.Option.{option_map}
use Rattle.ft_arena.proofs.ArenaLemmas.{at_view, entries_at, IsForest-spare, Changes-spare}
use Rattle.ft_arena.specs.declared.nodes.Node.{Node}
use Rattle.ft_arena.specs.declared.nodes.Node.TheVariants.{Leaf, Block}
use Rattle.ft_arena.proofs.SlotLemmas.{found_slot, room_freed, slots-updates, block_node, block_here, entry_is}
use Rattle.ft_arena.proofs.KidLemmas.{sound_gone, Changes-at}
use Rattle.ft_arena.proofs.arena.Arena.drop_block.Goals as goal

pub remove-node-requires : goal.remove-node-requires
remove-node-requires g c = block_node c.self.inside.nodes c.self.inside.links.items c.id.inside.0 (at_view (λ s i. IsSome (block_value s i)) c.self.inside
    c.args.self.now c.id.inside.0 c.args.id c.self.view_is c.id.view_is c.requires.block)

pub into_block-requires : goal.into_block-requires
into_block-requires g c = block_here c.self.inside.nodes c.self.inside.links.items c.id.inside.0 c.remove-node.result c.remove-node.ensures.value (at_view (λ s i. IsSome
    (block_value s i)) c.self.inside c.args.self.now c.id.inside.0 c.args.id c.self.view_is c.id.view_is c.requires.block)

pub returns-clause-value : goal.returns-clause-value
returns-clause-value g c = rw (← c.self.view_is, ← c.id.view_is) (ap block_of_entry (entry_is c.self.inside.nodes c.self.inside.links.items c.id.inside.0
    c.remove-node.result c.remove-node.ensures.value) ∙ c.into_block.ensures)

dead_block : {L B : Type 0} (n : Node L B) (v : B) → block_of_node n ≡ Some v → count_some (leaf_of_node n) ≡ 0
dead_block (Leaf w) v e = cc
dead_block (Block ks w) v e = refl

pub invariant_of-self : goal.invariant_of-self
invariant_of-self g c = (
  (sound_gone (slots_of c.self.inside.nodes c.self.inside.links.items) (slots_of c.remove-node.new.self c.self.inside.links.items) c.self.inside.head c.self.inside.tail
      c.id.inside.0 (slot_of c.remove-node.result (links_under c.self.inside.links.items c.id.inside.0))
      (found_slot c.self.inside.nodes c.self.inside.links.items c.id.inside.0 c.remove-node.result c.remove-node.ensures.value)
      (slots-updates c.self.inside.nodes c.remove-node.new.self c.self.inside.links.items c.self.inside.links.items c.id.inside.0 None (links_under
      c.self.inside.links.items c.id.inside.0) c.remove-node.ensures.updates refl (λ x d. refl))
      (dead_block c.remove-node.result _ c.into_block.ensures)
      (ap kids_of_entry (sym (ap (option_map entry_of) (found_slot c.self.inside.nodes c.self.inside.links.items c.id.inside.0 c.remove-node.result
      c.remove-node.ensures.value)) ∙ sym (entries_at (slots_of c.self.inside.nodes c.self.inside.links.items) c.id.inside.0))
      ∙ (at_view (λ s i. kids_of s i ≡ []) c.self.inside c.args.self.now c.id.inside.0 c.args.id c.self.view_is c.id.view_is c.requires.empty))
      (ap parent_of_entry (sym (ap (option_map entry_of) (found_slot c.self.inside.nodes c.self.inside.links.items c.id.inside.0 c.remove-node.result
      c.remove-node.ensures.value)) ∙ sym (entries_at (slots_of c.self.inside.nodes c.self.inside.links.items) c.id.inside.0))
      ∙ (at_view (λ s i. parent_of s i ≡ None) c.self.inside c.args.self.now c.id.inside.0 c.args.id c.self.view_is c.id.view_is c.requires.alone)) c.self.invariant.0).0,
  room_freed c.self.inside.nodes c.remove-node.new.self c.id.inside.0 _ _ c.self.inside.spare c.remove-node.ensures.updates c.remove-node.ensures.len
      c.remove-node.ensures.capacity refl c.self.invariant.1,
)

pub returns-clause-sound : goal.returns-clause-sound
returns-clause-sound g c = IsForest-spare _ _ (invariant_of-self g c).0.1

pub returns-clause-leaves : goal.returns-clause-leaves
returns-clause-leaves g c = rw (← c.self.view_is) ((sound_gone (slots_of c.self.inside.nodes c.self.inside.links.items) (slots_of c.remove-node.new.self
    c.self.inside.links.items) c.self.inside.head c.self.inside.tail c.id.inside.0 (slot_of c.remove-node.result (links_under c.self.inside.links.items c.id.inside.0))
    (found_slot c.self.inside.nodes c.self.inside.links.items c.id.inside.0 c.remove-node.result c.remove-node.ensures.value)
    (slots-updates c.self.inside.nodes c.remove-node.new.self c.self.inside.links.items c.self.inside.links.items c.id.inside.0 None (links_under
    c.self.inside.links.items c.id.inside.0) c.remove-node.ensures.updates refl (λ x d. refl))
    (dead_block c.remove-node.result _ c.into_block.ensures)
    (ap kids_of_entry (sym (ap (option_map entry_of) (found_slot c.self.inside.nodes c.self.inside.links.items c.id.inside.0 c.remove-node.result
    c.remove-node.ensures.value)) ∙ sym (entries_at (slots_of c.self.inside.nodes c.self.inside.links.items) c.id.inside.0))
    ∙ (at_view (λ s i. kids_of s i ≡ []) c.self.inside c.args.self.now c.id.inside.0 c.args.id c.self.view_is c.id.view_is c.requires.empty))
    (ap parent_of_entry (sym (ap (option_map entry_of) (found_slot c.self.inside.nodes c.self.inside.links.items c.id.inside.0 c.remove-node.result
    c.remove-node.ensures.value)) ∙ sym (entries_at (slots_of c.self.inside.nodes c.self.inside.links.items) c.id.inside.0))
    ∙ (at_view (λ s i. parent_of s i ≡ None) c.self.inside c.args.self.now c.id.inside.0 c.args.id c.self.view_is c.id.view_is c.requires.alone)) c.self.invariant.0).1)

pub returns-clause-changes : goal.returns-clause-changes
returns-clause-changes g c = rw (← c.self.view_is, ← c.id.view_is)
    (Changes-spare _ _ _ _ _ _ (Changes-at (slots_of c.self.inside.nodes c.self.inside.links.items) (slots_of c.remove-node.new.self c.self.inside.links.items)
    c.self.inside.head c.self.inside.tail c.self.inside.head c.self.inside.tail c.id.inside.0 None
    (slots-updates c.self.inside.nodes c.remove-node.new.self c.self.inside.links.items c.self.inside.links.items c.id.inside.0 None (links_under
    c.self.inside.links.items c.id.inside.0) c.remove-node.ensures.updates refl (λ x d. refl))))
