use Rattle.std.proofs.Common.{◌≡◌, ℕ, Option, Some, IsSome, ap, sym, subst, ◌∙◌, arith}
use Rattle.ft_arena.specs.Forest.{leaf_value}
use Rattle.ft_arena.specs.Links.{view_of, slots_of}
use Rattle.std.specs.Option.{MatchOption}
use Rattle.ft_arena.specs.Ids.{first, after}
use Rattle.ft_arena.proofs.ArenaLemmas.{at_view, count_is_some, before_is}
use Rattle.ft_arena.proofs.SlotLemmas.{links_read, place_within, live_place, prev_shown}
use Rattle.ft_arena.proofs.arena.Arena.prev.Goals as goal

pub index-requires : goal.index-requires
index-requires g c =
    let live = (count_is_some _ (at_view (λ s i. IsSome (leaf_value s i)) c.self.inside c.args.self.now c.id.inside.0 c.args.id c.self.view_is c.id.view_is c.requires)) in
    omega (
      arith,
      place_within c.self.inside.nodes _ (Some c.id.inside.0) c.self.invariant.1.numbered (live_place c.self.inside.nodes c.self.inside.links.items (Some
          c.id.inside.0) live),
      c.self.inside.links.ok.0,
    )

pub returns : goal.returns
returns g c =
    let live = (count_is_some _ (at_view (λ s i. IsSome (leaf_value s i)) c.self.inside c.args.self.now c.id.inside.0 c.args.id c.self.view_is c.id.view_is c.requires)) in
    let b = before_is (slots_of c.self.inside.nodes c.self.inside.links.items) c.self.inside.head c.self.inside.tail c.id.inside.0 c.self.invariant.0 live in
    let read = links_read c.self.inside.links.items c.id.inside.0 c.index.result.now (place_within c.self.inside.nodes _ (Some c.id.inside.0) c.self.invariant.1.numbered
    (live_place c.self.inside.nodes c.self.inside.links.items (Some c.id.inside.0) live)) c.index.ensures in
    rw (← c.self.view_is, ← c.id.view_is) (subst
    (λ (q : Option ℕ). MatchOption q (first (view_of c.self.inside).leaves ≡ Some c.id.inside.0) (λ p. after (view_of c.self.inside).leaves p ≡ Some c.id.inside.0))
    (sym (c.wrap.ensures ∙ ap (λ l. l.prev) read ∙ prev_shown c.self.inside.nodes c.self.inside.links.items c.self.inside.tail c.id.inside.0 (live_place
    c.self.inside.nodes c.self.inside.links.items (Some c.id.inside.0) live))) b)
