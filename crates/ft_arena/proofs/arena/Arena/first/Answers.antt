use Rattle.std.proofs.Common.{length, ap, arith}
use Rattle.ft_arena.specs.Forest.{Forest}
use Rattle.ft_arena.specs.Links.{slots_of}
use Rattle.ft_arena.proofs.ArenaLemmas.{leaves_fit}
use Rattle.ft_arena.proofs.SlotLemmas.{length-zipped}
use Rattle.ft_arena.proofs.arena.Arena.first.Goals as goal

pub returns-clause-few : goal.returns-clause-few
returns-clause-few g c =
    let e = ap (λ (s : Forest g.row.L.Denot g.row.B.Denot). length s.leaves) c.self.view_is in
    omega (
      arith,
      e,
      leaves_fit (slots_of c.self.inside.nodes c.self.inside.links.items) c.self.inside.head c.self.inside.tail c.self.invariant.0,
      length-zipped
          c.self.inside.nodes.slots c.self.inside.links.items,
      c.capacity-capacity.ensures.few,
    )
