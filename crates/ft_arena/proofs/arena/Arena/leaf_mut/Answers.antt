use Rattle.std.proofs.Common.{Some, IsSome, refl, ap, ◌∙◌}
use Rattle.ft_arena.specs.Forest.{Forest, leaf_of_entry, leaf_value}
use Rattle.ft_arena.proofs.ArenaLemmas.{with_spare, at_view, count_is_some}
use Rattle.ft_arena.proofs.SlotLemmas.{entry_is, room_written, leaf_here, live_place}
use Rattle.ft_arena.proofs.ChildLemmas.{leaf_written}
use Rattle.ft_arena.proofs.arena.Arena.leaf_mut.Goals as goal

pub index_mut-requires : goal.index_mut-requires
index_mut-requires g c = live_place c.self.inside.nodes c.self.inside.links.items (Some c.id.inside.0) (count_is_some _ (at_view (λ s i. IsSome (leaf_value s i))
    c.self.inside c.args.self.now c.id.inside.0 c.args.id c.self.view_is c.id.view_is c.requires))

pub leaf_mut-requires : goal.leaf_mut-requires
leaf_mut-requires g c = leaf_here c.self.inside.nodes c.self.inside.links.items c.id.inside.0 c.index_mut.result.now c.index_mut.ensures.value (at_view (λ s i. IsSome
    (leaf_value s i)) c.self.inside c.args.self.now c.id.inside.0 c.args.id c.self.view_is c.id.view_is c.requires)

pub invariant_of-self-lent : goal.invariant_of-self-lent
invariant_of-self-lent g c w = (
  (leaf_written c.self.inside.nodes c.self.inside.links.items c.self.inside.head c.self.inside.tail c.self.invariant.0 c.id.inside.0 c.index_mut.result.now
      c.leaf_mut.result.now w c.index_mut.ensures.value c.leaf_mut.ensures.value).0,
  room_written c.self.inside.nodes _ _ c.self.inside.spare c.id.inside.0 c.index_mut.result.now _ c.index_mut.ensures.value refl c.self.invariant.1,
)

pub returns : goal.returns
returns g c = (
  (
    refl,
    λ w. rw (← c.self.view_is, ← c.id.view_is)
        (ap (λ (s : Forest g.row.L.Denot g.row.B.Denot). with_spare s c.self.inside.spare)
        ((leaf_written c.self.inside.nodes c.self.inside.links.items c.self.inside.head c.self.inside.tail c.self.invariant.0 c.id.inside.0 c.index_mut.result.now
        c.leaf_mut.result.now w c.index_mut.ensures.value c.leaf_mut.ensures.value).1)),
  ),
  record {
    writes_back = tt;
    value = rw (← c.self.view_is, ← c.id.view_is)
        (ap leaf_of_entry (entry_is c.self.inside.nodes c.self.inside.links.items c.id.inside.0 _ c.index_mut.ensures.value) ∙ c.leaf_mut.ensures.value);
  },
)
