use Rattle.std.proofs.Common.{Option, Some, IsSome, refl, subst, inl, inr, arith}
use Rattle.std.proofs.lemmas.Bool.{cases_eq}
use Rattle.ft_arena.proofs.SlotLemmas.{slots-updates}
use Rattle.ft_arena.specs.declared.nodes.Node.{Node}
use Rattle.ft_arena.proofs.arena.insert.Goals as goal

pub put_links-requires : goal.put_links-requires
put_links-requires g c = omega (arith, c.requires.links_fit (omega arith), c.insert_reserved-id.ensures.within, c.insert_reserved-id.ensures.capacity)

pub returns-clause-updates : goal.returns-clause-updates
returns-clause-updates g c =
    slots-updates c.args.nodes.now c.insert_reserved-id.new.self c.args.links.now.items c.put_links.new.links.items c.insert_reserved-id.result (Some c.args.node) c.args.to
    c.insert_reserved-id.ensures.updates c.put_links.ensures.changed c.put_links.ensures.others

pub returns-clause-there : goal.returns-clause-there
returns-clause-there g c = rw c.insert_reserved-id.ensures.updates.changed refl

pub returns-clause-others : goal.returns-clause-others
returns-clause-others g c = λ other h. elim (cases_eq other c.insert_reserved-id.result) [
  | inl e ↦ rw (e, c.insert_reserved-id.ensures.updates.changed) refl
  | inr d ↦ rw (c.insert_reserved-id.ensures.updates.others other d) h
]

pub returns-clause-room : goal.returns-clause-room
returns-clause-room g c = λ n h.
    record {
      numbered = λ id there. elim (cases_eq id c.insert_reserved-id.result) [
        | inl e ↦ omega (
          arith,
          e,
          h.links_fit (omega arith),
          c.insert_reserved-id.ensures.within,
          c.insert_reserved-id.ensures.capacity,
          c.put_links.ensures.long,
        )
        | inr d ↦ omega (
          arith,
          c.put_links.ensures.long,
          h.numbered id (subst (λ (o : Option (Node g.row.L.Denot g.row.B.Denot)). IsSome o) (c.insert_reserved-id.ensures.updates.others id d) there),
        )
      ];
      nodes_fit = omega (arith, h.nodes_fit, c.insert_reserved-id.ensures.len, c.insert_reserved-id.ensures.capacity);
      links_fit = λ one. omega (arith, h.links_fit (omega arith), c.insert_reserved-id.ensures.capacity, c.put_links.ensures.long);
    }
