use Rattle.std.proofs.Common.{IsSome, refl, ap, ◌∙◌}
use Rattle.ft_arena.specs.Forest.{Forest, block_of_entry, block_value}
use Rattle.ft_arena.proofs.ArenaLemmas.{with_spare, at_view}
use Rattle.ft_arena.proofs.SlotLemmas.{entry_is, room_written, block_here, block_node}
use Rattle.ft_arena.proofs.ChildLemmas.{block_written}
use Rattle.ft_arena.proofs.arena.Arena.block_mut.Goals as goal

pub index_mut-requires : goal.index_mut-requires
index_mut-requires g c = block_node c.self.inside.nodes c.self.inside.links.items c.id.inside.0 (at_view (λ s i. IsSome (block_value s i)) c.self.inside c.args.self.now
    c.id.inside.0 c.args.id c.self.view_is c.id.view_is c.requires)

pub block_mut-requires : goal.block_mut-requires
block_mut-requires g c = block_here c.self.inside.nodes c.self.inside.links.items c.id.inside.0 c.index_mut.result.now c.index_mut.ensures.value (at_view (λ s i. IsSome
    (block_value s i)) c.self.inside c.args.self.now c.id.inside.0 c.args.id c.self.view_is c.id.view_is c.requires)

pub invariant_of-self-lent : goal.invariant_of-self-lent
invariant_of-self-lent g c w = (
  (block_written c.self.inside.nodes c.self.inside.links.items c.self.inside.head c.self.inside.tail c.self.invariant.0 c.id.inside.0 c.index_mut.result.now
      c.block_mut.result.now w c.index_mut.ensures.value c.block_mut.ensures.value).0,
  room_written c.self.inside.nodes _ _ c.self.inside.spare c.id.inside.0 c.index_mut.result.now _ c.index_mut.ensures.value refl c.self.invariant.1,
)

pub returns : goal.returns
returns g c = (
  (
    refl,
    λ w. rw (← c.self.view_is, ← c.id.view_is)
        (ap (λ (s : Forest g.row.L.Denot g.row.B.Denot). with_spare s c.self.inside.spare)
        ((block_written c.self.inside.nodes c.self.inside.links.items c.self.inside.head c.self.inside.tail c.self.invariant.0 c.id.inside.0 c.index_mut.result.now
        c.block_mut.result.now w c.index_mut.ensures.value c.block_mut.ensures.value).1)),
  ),
  record {
    writes_back = tt;
    value = rw (← c.self.view_is, ← c.id.view_is)
        (ap block_of_entry (entry_is c.self.inside.nodes c.self.inside.links.items c.id.inside.0 _ c.index_mut.ensures.value) ∙ c.block_mut.ensures.value);
  },
)
