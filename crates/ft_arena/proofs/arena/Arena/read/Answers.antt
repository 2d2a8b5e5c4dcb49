use Rattle.std.proofs.Common.{IsSome}
use Rattle.ft_arena.specs.Forest.{entry}
use Rattle.ft_arena.proofs.ArenaLemmas.{at_view}
use Rattle.ft_arena.proofs.SlotLemmas.{entry_node, entry_shown}
use Rattle.ft_arena.proofs.arena.Arena.read.Goals as goal

pub index-requires : goal.index-requires
index-requires g c = entry_node c.self.inside.nodes c.self.inside.links.items c.id.inside.0 (at_view (λ s i. IsSome (entry s i)) c.self.inside c.args.self.now
    c.id.inside.0 c.args.id c.self.view_is c.id.view_is c.requires)

pub returns-clause-node : goal.returns-clause-node
returns-clause-node g c = rw (← c.self.view_is, ← c.id.view_is) (entry_shown c.self.inside.nodes c.self.inside.links.items c.id.inside.0 c.index.result.now c.index.ensures)
