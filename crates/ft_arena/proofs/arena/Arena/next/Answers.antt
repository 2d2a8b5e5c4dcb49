use Rattle.std.proofs.Common.{◌≤◌, Some, IsSome, ap, ◌∙◌, arith}
use Rattle.ft_arena.specs.Forest.{leaf_value}
use Rattle.ft_arena.specs.Ids.{times}
use Rattle.ft_arena.specs.Links.{next_of, leaves_of, slots_of}
use Rattle.ft_arena.proofs.RingLemmas.{IsWalk-after}
use Rattle.ft_arena.proofs.ArenaLemmas.{at_view, count_is_some}
use Rattle.ft_arena.proofs.SlotLemmas.{links_read, place_within, live_place, next_shown}
use Rattle.ft_arena.proofs.arena.Arena.next.Goals as goal

pub index-requires : goal.index-requires
index-requires g c =
    let live = (count_is_some _ (at_view (λ s i. IsSome (leaf_value s i)) c.self.inside c.args.self.now c.id.inside.0 c.args.id c.self.view_is c.id.view_is c.requires)) in
    omega (
      arith,
      place_within c.self.inside.nodes _ (Some c.id.inside.0) c.self.invariant.1.numbered (live_place c.self.inside.nodes c.self.inside.links.items (Some
          c.id.inside.0) live),
      c.self.inside.links.ok.0,
    )

pub returns : goal.returns
returns g c =
    let live = (count_is_some _ (at_view (λ s i. IsSome (leaf_value s i)) c.self.inside c.args.self.now c.id.inside.0 c.args.id c.self.view_is c.id.view_is c.requires)) in
    let s = slots_of c.self.inside.nodes c.self.inside.links.items in
    let once : 1 ≤ times (leaves_of s c.self.inside.head) c.id.inside.0 = omega (arith, c.self.invariant.0.1.leaf_once c.id.inside.0, live) in
    rw (← c.self.view_is, ← c.id.view_is) (c.wrap.ensures ∙ ap (λ l. l.next) (links_read c.self.inside.links.items c.id.inside.0 c.index.result.now (place_within
    c.self.inside.nodes _ (Some c.id.inside.0) c.self.invariant.1.numbered (live_place c.self.inside.nodes c.self.inside.links.items (Some c.id.inside.0) live))
    c.index.ensures)
    ∙ next_shown c.self.inside.nodes c.self.inside.links.items c.self.inside.head (Some c.id.inside.0) (live_place c.self.inside.nodes c.self.inside.links.items (Some
    c.id.inside.0) live)
    ∙ IsWalk-after (next_of s c.self.inside.head) c.self.inside.head (leaves_of s c.self.inside.head) c.id.inside.0 c.self.invariant.0.0.walks once)
