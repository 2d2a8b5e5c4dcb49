use Rattle.std.proofs.Common.{Some, IsSome, ap, ◌∙◌, arith}
use Rattle.ft_arena.specs.Forest.{entry}
use Rattle.ft_arena.proofs.ArenaLemmas.{at_view}
use Rattle.ft_arena.proofs.SlotLemmas.{links_read, place_within, entry_node, parent_shown}
use Rattle.ft_arena.proofs.arena.Arena.parent.Goals as goal

pub index-requires : goal.index-requires
index-requires g c = omega (
  arith,
  place_within c.self.inside.nodes _ (Some c.id.inside.0) c.self.invariant.1.numbered
      (entry_node c.self.inside.nodes c.self.inside.links.items c.id.inside.0 (at_view (λ s i. IsSome (entry s i)) c.self.inside c.args.self.now c.id.inside.0 c.args.id
      c.self.view_is c.id.view_is c.requires)),
  c.self.inside.links.ok.0,
)

pub returns : goal.returns
returns g c = rw (← c.self.view_is, ← c.id.view_is) (c.wrap.ensures ∙ ap (λ l. l.parent) (links_read c.self.inside.links.items c.id.inside.0 c.index.result.now
    (place_within c.self.inside.nodes _ (Some c.id.inside.0) c.self.invariant.1.numbered
    (entry_node c.self.inside.nodes c.self.inside.links.items c.id.inside.0 (at_view (λ s i. IsSome (entry s i)) c.self.inside c.args.self.now c.id.inside.0 c.args.id
    c.self.view_is c.id.view_is c.requires))) c.index.ensures)
    ∙ parent_shown c.self.inside.nodes c.self.inside.links.items c.id.inside.0 (entry_node c.self.inside.nodes c.self.inside.links.items c.id.inside.0 (at_view (λ s i.
    IsSome (entry s i)) c.self.inside c.args.self.now c.id.inside.0 c.args.id c.self.view_is c.id.view_is c.requires)))
