use Rattle.std.proofs.Common.{arith, Some, IsSome, length, refl, ap, sym, ◌∙◌}
use Rattle.ft_arena.specs.Forest.{leaf_value}
use Rattle.ft_arena.specs.Links.{view_of, next_in}
use Rattle.ft_arena.proofs.ArenaLemmas.{at_view, count_is_some, place_is_live, IsForest-spare}
use Rattle.ft_arena.proofs.SlotLemmas.{links_read, kept_room, place_within, live_place, length-with_next, length-with_prev}
use Rattle.ft_arena.proofs.MoveLemmas.{prev_has_node, next_has_node, id_has_node, at_has_node, after_has_node, long2, rehooked_length, rehooked_entries, rehooked_leaves, rehooked_sound}
use Rattle.ft_arena.proofs.arena.Arena.move_after.Goals as goal

pub raw-at-requires : goal.raw-at-requires
raw-at-requires g c = live_place c.self.inside.nodes c.self.inside.links.items c.args.at (place_is_live (view_of c.self.inside) c.args.at (rw c.self.view_is c.requires.place))

pub raw-here-requires : goal.raw-here-requires
raw-here-requires g c = live_place c.self.inside.nodes c.self.inside.links.items (Some c.id.inside.0) (count_is_some _ (at_view (λ s i. IsSome (leaf_value s i))
    c.self.inside c.args.self.now c.id.inside.0 c.args.id c.self.view_is c.id.view_is c.requires.live))

pub index-links-requires : goal.index-links-requires
index-links-requires g c = omega (
  arith,
  place_within c.self.inside.nodes _ (Some c.id.inside.0) c.self.invariant.1.numbered (live_place c.self.inside.nodes
      c.self.inside.links.items (Some c.id.inside.0) (count_is_some _ (at_view (λ s i. IsSome (leaf_value s i)) c.self.inside c.args.self.now c.id.inside.0 c.args.id
      c.self.view_is c.id.view_is c.requires.live))),
  c.self.inside.links.ok.0,
)

pub set_next-requires : goal.set_next-requires
set_next-requires g c = place_within c.self.inside.nodes _ c.index-links.result.now.prev c.self.invariant.1.numbered
    (prev_has_node c.self.inside.nodes c.self.inside.links.items c.self.inside.head c.self.inside.tail c.raw-at.result c.id.inside.0 c.index-links.result.now c.self.invariant.0
    (count_is_some _ (at_view (λ s i. IsSome (leaf_value s i)) c.self.inside c.args.self.now c.id.inside.0 c.args.id c.self.view_is c.id.view_is c.requires.live))
    (place_is_live (view_of c.self.inside) c.raw-at.result (rw (c.self.view_is, c.raw-at.ensures) c.requires.place))
    (λ e. c.requires.differ (sym c.raw-at.ensures ∙ e ∙ ap Some c.id.view_is))
    (links_read c.self.inside.links.items c.id.inside.0 c.index-links.result.now (place_within c.self.inside.nodes _ (Some c.id.inside.0) c.self.invariant.1.numbered
    (live_place c.self.inside.nodes c.self.inside.links.items (Some c.id.inside.0) (count_is_some _ (at_view (λ s i. IsSome (leaf_value s i)) c.self.inside
    c.args.self.now c.id.inside.0 c.args.id c.self.view_is c.id.view_is c.requires.live)))) c.index-links.ensures) c.self.invariant.1.numbered)

pub set_prev-requires : goal.set_prev-requires
set_prev-requires g c = place_within c.self.inside.nodes _ c.index-links.result.now.next
    (omega (
      arith,
      ap length c.set_next.ensures.links,
      length-with_next c.self.inside.links.items c.index-links.result.now.prev c.index-links.result.now.next,
      c.self.invariant.1.numbered,
    ))
    (next_has_node c.self.inside.nodes c.self.inside.links.items c.self.inside.head c.self.inside.tail c.raw-at.result c.id.inside.0 c.index-links.result.now c.self.invariant.0
    (count_is_some _ (at_view (λ s i. IsSome (leaf_value s i)) c.self.inside c.args.self.now c.id.inside.0 c.args.id c.self.view_is c.id.view_is c.requires.live))
    (place_is_live (view_of c.self.inside) c.raw-at.result (rw (c.self.view_is, c.raw-at.ensures) c.requires.place))
    (λ e. c.requires.differ (sym c.raw-at.ensures ∙ e ∙ ap Some c.id.view_is))
    (links_read c.self.inside.links.items c.id.inside.0 c.index-links.result.now (place_within c.self.inside.nodes _ (Some c.id.inside.0) c.self.invariant.1.numbered
    (live_place c.self.inside.nodes c.self.inside.links.items (Some c.id.inside.0) (count_is_some _ (at_view (λ s i. IsSome (leaf_value s i)) c.self.inside
    c.args.self.now c.id.inside.0 c.args.id c.self.view_is c.id.view_is c.requires.live)))) c.index-links.ensures) c.self.invariant.1.numbered)

pub next_at-after-requires : goal.next_at-after-requires
next_at-after-requires g c = place_within c.self.inside.nodes _ c.raw-at.result (long2 c.self.inside.nodes c.self.inside.links.items c.self.inside.head
    c.self.inside.tail c.raw-at.result c.id.inside.0 c.index-links.result.now c.self.invariant.0
    (count_is_some _ (at_view (λ s i. IsSome (leaf_value s i)) c.self.inside c.args.self.now c.id.inside.0 c.args.id c.self.view_is c.id.view_is c.requires.live))
    (place_is_live (view_of c.self.inside) c.raw-at.result (rw (c.self.view_is, c.raw-at.ensures) c.requires.place))
    (λ e. c.requires.differ (sym c.raw-at.ensures ∙ e ∙ ap Some c.id.view_is))
    (links_read c.self.inside.links.items c.id.inside.0 c.index-links.result.now (place_within c.self.inside.nodes _ (Some c.id.inside.0) c.self.invariant.1.numbered
    (live_place c.self.inside.nodes c.self.inside.links.items (Some c.id.inside.0) (count_is_some _ (at_view (λ s i. IsSome (leaf_value s i)) c.self.inside
    c.args.self.now c.id.inside.0 c.args.id c.self.view_is c.id.view_is c.requires.live)))) c.index-links.ensures) c.self.invariant.1.numbered
    c.set_next.new.links.items c.set_prev.new.links.items c.set_next.new.head c.set_prev.new.tail (next_in c.set_prev.new.links.items c.set_next.new.head c.raw-at.result)
    c.set_next.ensures.links c.set_next.ensures.head c.set_prev.ensures.links c.set_prev.ensures.tail refl)
    (at_has_node c.self.inside.nodes c.self.inside.links.items c.self.inside.head c.self.inside.tail c.raw-at.result c.id.inside.0 c.index-links.result.now c.self.invariant.0
    (count_is_some _ (at_view (λ s i. IsSome (leaf_value s i)) c.self.inside c.args.self.now c.id.inside.0 c.args.id c.self.view_is c.id.view_is c.requires.live))
    (place_is_live (view_of c.self.inside) c.raw-at.result (rw (c.self.view_is, c.raw-at.ensures) c.requires.place))
    (λ e. c.requires.differ (sym c.raw-at.ensures ∙ e ∙ ap Some c.id.view_is))
    (links_read c.self.inside.links.items c.id.inside.0 c.index-links.result.now (place_within c.self.inside.nodes _ (Some c.id.inside.0) c.self.invariant.1.numbered
    (live_place c.self.inside.nodes c.self.inside.links.items (Some c.id.inside.0) (count_is_some _ (at_view (λ s i. IsSome (leaf_value s i)) c.self.inside
    c.args.self.now c.id.inside.0 c.args.id c.self.view_is c.id.view_is c.requires.live)))) c.index-links.ensures) c.self.invariant.1.numbered)

pub set_next-requires-2 : goal.set_next-requires-2
set_next-requires-2 g c = rw c.raw-here.ensures (place_within c.self.inside.nodes _ (Some c.id.inside.0) (long2 c.self.inside.nodes c.self.inside.links.items
    c.self.inside.head c.self.inside.tail c.raw-at.result c.id.inside.0 c.index-links.result.now c.self.invariant.0
    (count_is_some _ (at_view (λ s i. IsSome (leaf_value s i)) c.self.inside c.args.self.now c.id.inside.0 c.args.id c.self.view_is c.id.view_is c.requires.live))
    (place_is_live (view_of c.self.inside) c.raw-at.result (rw (c.self.view_is, c.raw-at.ensures) c.requires.place))
    (λ e. c.requires.differ (sym c.raw-at.ensures ∙ e ∙ ap Some c.id.view_is))
    (links_read c.self.inside.links.items c.id.inside.0 c.index-links.result.now (place_within c.self.inside.nodes _ (Some c.id.inside.0) c.self.invariant.1.numbered
    (live_place c.self.inside.nodes c.self.inside.links.items (Some c.id.inside.0) (count_is_some _ (at_view (λ s i. IsSome (leaf_value s i)) c.self.inside
    c.args.self.now c.id.inside.0 c.args.id c.self.view_is c.id.view_is c.requires.live)))) c.index-links.ensures) c.self.invariant.1.numbered
    c.set_next.new.links.items c.set_prev.new.links.items c.set_next.new.head c.set_prev.new.tail c.next_at-after.result
    c.set_next.ensures.links c.set_next.ensures.head c.set_prev.ensures.links c.set_prev.ensures.tail c.next_at-after.ensures)
    (id_has_node c.self.inside.nodes c.self.inside.links.items c.self.inside.head c.self.inside.tail c.raw-at.result c.id.inside.0 c.index-links.result.now c.self.invariant.0
    (count_is_some _ (at_view (λ s i. IsSome (leaf_value s i)) c.self.inside c.args.self.now c.id.inside.0 c.args.id c.self.view_is c.id.view_is c.requires.live))
    (place_is_live (view_of c.self.inside) c.raw-at.result (rw (c.self.view_is, c.raw-at.ensures) c.requires.place))
    (λ e. c.requires.differ (sym c.raw-at.ensures ∙ e ∙ ap Some c.id.view_is))
    (links_read c.self.inside.links.items c.id.inside.0 c.index-links.result.now (place_within c.self.inside.nodes _ (Some c.id.inside.0) c.self.invariant.1.numbered
    (live_place c.self.inside.nodes c.self.inside.links.items (Some c.id.inside.0) (count_is_some _ (at_view (λ s i. IsSome (leaf_value s i)) c.self.inside
    c.args.self.now c.id.inside.0 c.args.id c.self.view_is c.id.view_is c.requires.live)))) c.index-links.ensures) c.self.invariant.1.numbered))

pub set_prev-requires-2 : goal.set_prev-requires-2
set_prev-requires-2 g c = rw c.raw-here.ensures (place_within c.self.inside.nodes _ (Some c.id.inside.0) (omega (
  arith,
  ap length (rw c.raw-here.ensures at c.set_next-2.ensures.links),
  length-with_next c.set_prev.new.links.items (Some c.id.inside.0) c.next_at-after.result,
  long2 c.self.inside.nodes c.self.inside.links.items c.self.inside.head
      c.self.inside.tail c.raw-at.result c.id.inside.0 c.index-links.result.now c.self.invariant.0
      (count_is_some _ (at_view (λ s i. IsSome (leaf_value s i)) c.self.inside c.args.self.now c.id.inside.0 c.args.id c.self.view_is c.id.view_is c.requires.live))
      (place_is_live (view_of c.self.inside) c.raw-at.result (rw (c.self.view_is, c.raw-at.ensures) c.requires.place))
      (λ e. c.requires.differ (sym c.raw-at.ensures ∙ e ∙ ap Some c.id.view_is))
      (links_read c.self.inside.links.items c.id.inside.0 c.index-links.result.now (place_within c.self.inside.nodes _ (Some c.id.inside.0) c.self.invariant.1.numbered
      (live_place c.self.inside.nodes c.self.inside.links.items (Some c.id.inside.0) (count_is_some _ (at_view (λ s i. IsSome (leaf_value s i)) c.self.inside
      c.args.self.now c.id.inside.0 c.args.id c.self.view_is c.id.view_is c.requires.live)))) c.index-links.ensures) c.self.invariant.1.numbered
      c.set_next.new.links.items c.set_prev.new.links.items c.set_next.new.head c.set_prev.new.tail c.next_at-after.result
      c.set_next.ensures.links c.set_next.ensures.head c.set_prev.ensures.links c.set_prev.ensures.tail c.next_at-after.ensures,
))
    (id_has_node c.self.inside.nodes c.self.inside.links.items c.self.inside.head c.self.inside.tail c.raw-at.result c.id.inside.0 c.index-links.result.now c.self.invariant.0
    (count_is_some _ (at_view (λ s i. IsSome (leaf_value s i)) c.self.inside c.args.self.now c.id.inside.0 c.args.id c.self.view_is c.id.view_is c.requires.live))
    (place_is_live (view_of c.self.inside) c.raw-at.result (rw (c.self.view_is, c.raw-at.ensures) c.requires.place))
    (λ e. c.requires.differ (sym c.raw-at.ensures ∙ e ∙ ap Some c.id.view_is))
    (links_read c.self.inside.links.items c.id.inside.0 c.index-links.result.now (place_within c.self.inside.nodes _ (Some c.id.inside.0) c.self.invariant.1.numbered
    (live_place c.self.inside.nodes c.self.inside.links.items (Some c.id.inside.0) (count_is_some _ (at_view (λ s i. IsSome (leaf_value s i)) c.self.inside
    c.args.self.now c.id.inside.0 c.args.id c.self.view_is c.id.view_is c.requires.live)))) c.index-links.ensures) c.self.invariant.1.numbered))

pub set_next-requires-3 : goal.set_next-requires-3
set_next-requires-3 g c = place_within c.self.inside.nodes _ c.raw-at.result (omega (
  arith,
  ap length (rw c.raw-here.ensures at c.set_prev-2.ensures.links),
  length-with_prev
      c.set_next-2.new.links.items (Some c.id.inside.0) c.raw-at.result,
  ap length (rw c.raw-here.ensures at c.set_next-2.ensures.links),
  length-with_next
      c.set_prev.new.links.items (Some c.id.inside.0) c.next_at-after.result,
  long2 c.self.inside.nodes c.self.inside.links.items c.self.inside.head c.self.inside.tail
      c.raw-at.result c.id.inside.0 c.index-links.result.now c.self.invariant.0
      (count_is_some _ (at_view (λ s i. IsSome (leaf_value s i)) c.self.inside c.args.self.now c.id.inside.0 c.args.id c.self.view_is c.id.view_is c.requires.live))
      (place_is_live (view_of c.self.inside) c.raw-at.result (rw (c.self.view_is, c.raw-at.ensures) c.requires.place))
      (λ e. c.requires.differ (sym c.raw-at.ensures ∙ e ∙ ap Some c.id.view_is))
      (links_read c.self.inside.links.items c.id.inside.0 c.index-links.result.now (place_within c.self.inside.nodes _ (Some c.id.inside.0) c.self.invariant.1.numbered
      (live_place c.self.inside.nodes c.self.inside.links.items (Some c.id.inside.0) (count_is_some _ (at_view (λ s i. IsSome (leaf_value s i)) c.self.inside
      c.args.self.now c.id.inside.0 c.args.id c.self.view_is c.id.view_is c.requires.live)))) c.index-links.ensures) c.self.invariant.1.numbered
      c.set_next.new.links.items c.set_prev.new.links.items c.set_next.new.head c.set_prev.new.tail c.next_at-after.result
      c.set_next.ensures.links c.set_next.ensures.head c.set_prev.ensures.links c.set_prev.ensures.tail c.next_at-after.ensures,
))
    (at_has_node c.self.inside.nodes c.self.inside.links.items c.self.inside.head c.self.inside.tail c.raw-at.result c.id.inside.0 c.index-links.result.now c.self.invariant.0
    (count_is_some _ (at_view (λ s i. IsSome (leaf_value s i)) c.self.inside c.args.self.now c.id.inside.0 c.args.id c.self.view_is c.id.view_is c.requires.live))
    (place_is_live (view_of c.self.inside) c.raw-at.result (rw (c.self.view_is, c.raw-at.ensures) c.requires.place))
    (λ e. c.requires.differ (sym c.raw-at.ensures ∙ e ∙ ap Some c.id.view_is))
    (links_read c.self.inside.links.items c.id.inside.0 c.index-links.result.now (place_within c.self.inside.nodes _ (Some c.id.inside.0) c.self.invariant.1.numbered
    (live_place c.self.inside.nodes c.self.inside.links.items (Some c.id.inside.0) (count_is_some _ (at_view (λ s i. IsSome (leaf_value s i)) c.self.inside
    c.args.self.now c.id.inside.0 c.args.id c.self.view_is c.id.view_is c.requires.live)))) c.index-links.ensures) c.self.invariant.1.numbered)

pub set_prev-requires-3 : goal.set_prev-requires-3
set_prev-requires-3 g c = place_within c.self.inside.nodes _ c.next_at-after.result (omega (
  arith,
  ap length (rw c.raw-here.ensures at c.set_next-3.ensures.links),
  length-with_next
      c.set_prev-2.new.links.items c.raw-at.result (Some c.id.inside.0),
  ap length (rw c.raw-here.ensures at c.set_prev-2.ensures.links),
  length-with_prev
      c.set_next-2.new.links.items (Some c.id.inside.0) c.raw-at.result,
  ap length (rw c.raw-here.ensures at c.set_next-2.ensures.links),
  length-with_next
      c.set_prev.new.links.items (Some c.id.inside.0) c.next_at-after.result,
  long2 c.self.inside.nodes c.self.inside.links.items c.self.inside.head c.self.inside.tail
      c.raw-at.result c.id.inside.0 c.index-links.result.now c.self.invariant.0
      (count_is_some _ (at_view (λ s i. IsSome (leaf_value s i)) c.self.inside c.args.self.now c.id.inside.0 c.args.id c.self.view_is c.id.view_is c.requires.live))
      (place_is_live (view_of c.self.inside) c.raw-at.result (rw (c.self.view_is, c.raw-at.ensures) c.requires.place))
      (λ e. c.requires.differ (sym c.raw-at.ensures ∙ e ∙ ap Some c.id.view_is))
      (links_read c.self.inside.links.items c.id.inside.0 c.index-links.result.now (place_within c.self.inside.nodes _ (Some c.id.inside.0) c.self.invariant.1.numbered
      (live_place c.self.inside.nodes c.self.inside.links.items (Some c.id.inside.0) (count_is_some _ (at_view (λ s i. IsSome (leaf_value s i)) c.self.inside
      c.args.self.now c.id.inside.0 c.args.id c.self.view_is c.id.view_is c.requires.live)))) c.index-links.ensures) c.self.invariant.1.numbered
      c.set_next.new.links.items c.set_prev.new.links.items c.set_next.new.head c.set_prev.new.tail c.next_at-after.result
      c.set_next.ensures.links c.set_next.ensures.head c.set_prev.ensures.links c.set_prev.ensures.tail c.next_at-after.ensures,
))
    (after_has_node c.self.inside.nodes c.self.inside.links.items c.self.inside.head c.self.inside.tail c.raw-at.result c.id.inside.0 c.index-links.result.now c.self.invariant.0
    (count_is_some _ (at_view (λ s i. IsSome (leaf_value s i)) c.self.inside c.args.self.now c.id.inside.0 c.args.id c.self.view_is c.id.view_is c.requires.live))
    (place_is_live (view_of c.self.inside) c.raw-at.result (rw (c.self.view_is, c.raw-at.ensures) c.requires.place))
    (λ e. c.requires.differ (sym c.raw-at.ensures ∙ e ∙ ap Some c.id.view_is))
    (links_read c.self.inside.links.items c.id.inside.0 c.index-links.result.now (place_within c.self.inside.nodes _ (Some c.id.inside.0) c.self.invariant.1.numbered
    (live_place c.self.inside.nodes c.self.inside.links.items (Some c.id.inside.0) (count_is_some _ (at_view (λ s i. IsSome (leaf_value s i)) c.self.inside
    c.args.self.now c.id.inside.0 c.args.id c.self.view_is c.id.view_is c.requires.live)))) c.index-links.ensures) c.self.invariant.1.numbered
    c.set_next.new.links.items c.set_prev.new.links.items c.set_next.new.head c.set_prev.new.tail c.next_at-after.result
    c.set_next.ensures.links c.set_next.ensures.head c.set_prev.ensures.links c.set_prev.ensures.tail c.next_at-after.ensures)

pub invariant_of-self : goal.invariant_of-self
invariant_of-self g c = (
  rehooked_sound c.self.inside.nodes c.self.inside.links.items c.self.inside.head c.self.inside.tail c.raw-at.result c.id.inside.0 c.index-links.result.now c.self.invariant.0
      (count_is_some _ (at_view (λ s i. IsSome (leaf_value s i)) c.self.inside c.args.self.now c.id.inside.0 c.args.id c.self.view_is c.id.view_is c.requires.live))
      (place_is_live (view_of c.self.inside) c.raw-at.result (rw (c.self.view_is, c.raw-at.ensures) c.requires.place))
      (λ e. c.requires.differ (sym c.raw-at.ensures ∙ e ∙ ap Some c.id.view_is))
      (links_read c.self.inside.links.items c.id.inside.0 c.index-links.result.now (place_within c.self.inside.nodes _ (Some c.id.inside.0) c.self.invariant.1.numbered
      (live_place c.self.inside.nodes c.self.inside.links.items (Some c.id.inside.0) (count_is_some _ (at_view (λ s i. IsSome (leaf_value s i)) c.self.inside
      c.args.self.now c.id.inside.0 c.args.id c.self.view_is c.id.view_is c.requires.live)))) c.index-links.ensures) c.self.invariant.1.numbered
      c.set_next.new.links.items c.set_prev.new.links.items c.set_next.new.head c.set_prev.new.tail c.next_at-after.result
      c.set_next.ensures.links c.set_next.ensures.head c.set_prev.ensures.links c.set_prev.ensures.tail c.next_at-after.ensures
      c.set_next-2.new.links.items c.set_prev-2.new.links.items c.set_next-3.new.links.items c.set_prev-3.new.links.items c.set_next-2.new.head c.set_prev-2.new.tail
      c.set_next-3.new.head
      c.set_prev-3.new.tail
      (rw c.raw-here.ensures at c.set_next-2.ensures.links) (rw c.raw-here.ensures at c.set_next-2.ensures.head)
      (rw c.raw-here.ensures at c.set_prev-2.ensures.links) (rw c.raw-here.ensures at c.set_prev-2.ensures.tail)
      (rw c.raw-here.ensures at c.set_next-3.ensures.links) (rw c.raw-here.ensures at c.set_next-3.ensures.head)
      (rw c.raw-here.ensures at c.set_prev-3.ensures.links) (rw c.raw-here.ensures at c.set_prev-3.ensures.tail),
  kept_room c.self.inside.nodes _ _ c.self.inside.spare (rehooked_length c.self.inside.nodes c.self.inside.links.items c.self.inside.head c.self.inside.tail c.raw-at.result c.id.inside.0 c.index-links.result.now c.self.invariant.0
      (count_is_some _ (at_view (λ s i. IsSome (leaf_value s i)) c.self.inside c.args.self.now c.id.inside.0 c.args.id c.self.view_is c.id.view_is c.requires.live))
      (place_is_live (view_of c.self.inside) c.raw-at.result (rw (c.self.view_is, c.raw-at.ensures) c.requires.place))
      (λ e. c.requires.differ (sym c.raw-at.ensures ∙ e ∙ ap Some c.id.view_is))
      (links_read c.self.inside.links.items c.id.inside.0 c.index-links.result.now (place_within c.self.inside.nodes _ (Some c.id.inside.0) c.self.invariant.1.numbered
      (live_place c.self.inside.nodes c.self.inside.links.items (Some c.id.inside.0) (count_is_some _ (at_view (λ s i. IsSome (leaf_value s i)) c.self.inside
      c.args.self.now c.id.inside.0 c.args.id c.self.view_is c.id.view_is c.requires.live)))) c.index-links.ensures) c.self.invariant.1.numbered
      c.set_next.new.links.items c.set_prev.new.links.items c.set_next.new.head c.set_prev.new.tail c.next_at-after.result
      c.set_next.ensures.links c.set_next.ensures.head c.set_prev.ensures.links c.set_prev.ensures.tail c.next_at-after.ensures
      c.set_next-2.new.links.items c.set_prev-2.new.links.items c.set_next-3.new.links.items c.set_prev-3.new.links.items c.set_next-2.new.head c.set_prev-2.new.tail
      c.set_next-3.new.head
      c.set_prev-3.new.tail
      (rw c.raw-here.ensures at c.set_next-2.ensures.links) (rw c.raw-here.ensures at c.set_next-2.ensures.head)
      (rw c.raw-here.ensures at c.set_prev-2.ensures.links) (rw c.raw-here.ensures at c.set_prev-2.ensures.tail)
      (rw c.raw-here.ensures at c.set_next-3.ensures.links) (rw c.raw-here.ensures at c.set_next-3.ensures.head)
      (rw c.raw-here.ensures at c.set_prev-3.ensures.links) (rw c.raw-here.ensures at c.set_prev-3.ensures.tail))
      c.self.invariant.1,
)

pub returns-clause-sound : goal.returns-clause-sound
returns-clause-sound g c = IsForest-spare _ _ (invariant_of-self g c).0.1

pub returns-clause-nodes : goal.returns-clause-nodes
returns-clause-nodes g c = rw (← c.self.view_is) (rehooked_entries c.self.inside.nodes c.self.inside.links.items c.self.inside.head c.self.inside.tail c.raw-at.result
    c.id.inside.0 c.index-links.result.now c.self.invariant.0
    (count_is_some _ (at_view (λ s i. IsSome (leaf_value s i)) c.self.inside c.args.self.now c.id.inside.0 c.args.id c.self.view_is c.id.view_is c.requires.live))
    (place_is_live (view_of c.self.inside) c.raw-at.result (rw (c.self.view_is, c.raw-at.ensures) c.requires.place))
    (λ e. c.requires.differ (sym c.raw-at.ensures ∙ e ∙ ap Some c.id.view_is))
    (links_read c.self.inside.links.items c.id.inside.0 c.index-links.result.now (place_within c.self.inside.nodes _ (Some c.id.inside.0) c.self.invariant.1.numbered
    (live_place c.self.inside.nodes c.self.inside.links.items (Some c.id.inside.0) (count_is_some _ (at_view (λ s i. IsSome (leaf_value s i)) c.self.inside
    c.args.self.now c.id.inside.0 c.args.id c.self.view_is c.id.view_is c.requires.live)))) c.index-links.ensures) c.self.invariant.1.numbered
    c.set_next.new.links.items c.set_prev.new.links.items c.set_next.new.head c.set_prev.new.tail c.next_at-after.result
    c.set_next.ensures.links c.set_next.ensures.head c.set_prev.ensures.links c.set_prev.ensures.tail c.next_at-after.ensures
    c.set_next-2.new.links.items c.set_prev-2.new.links.items c.set_next-3.new.links.items c.set_prev-3.new.links.items c.set_next-2.new.head c.set_prev-2.new.tail
    c.set_next-3.new.head
    c.set_prev-3.new.tail
    (rw c.raw-here.ensures at c.set_next-2.ensures.links) (rw c.raw-here.ensures at c.set_next-2.ensures.head)
    (rw c.raw-here.ensures at c.set_prev-2.ensures.links) (rw c.raw-here.ensures at c.set_prev-2.ensures.tail)
    (rw c.raw-here.ensures at c.set_next-3.ensures.links) (rw c.raw-here.ensures at c.set_next-3.ensures.head)
    (rw c.raw-here.ensures at c.set_prev-3.ensures.links) (rw c.raw-here.ensures at c.set_prev-3.ensures.tail))

pub returns-clause-leaves : goal.returns-clause-leaves
returns-clause-leaves g c = rw (← c.self.view_is, ← c.raw-at.ensures, ← c.id.view_is)
    (rehooked_leaves c.self.inside.nodes c.self.inside.links.items c.self.inside.head c.self.inside.tail c.raw-at.result c.id.inside.0 c.index-links.result.now c.self.invariant.0
    (count_is_some _ (at_view (λ s i. IsSome (leaf_value s i)) c.self.inside c.args.self.now c.id.inside.0 c.args.id c.self.view_is c.id.view_is c.requires.live))
    (place_is_live (view_of c.self.inside) c.raw-at.result (rw (c.self.view_is, c.raw-at.ensures) c.requires.place))
    (λ e. c.requires.differ (sym c.raw-at.ensures ∙ e ∙ ap Some c.id.view_is))
    (links_read c.self.inside.links.items c.id.inside.0 c.index-links.result.now (place_within c.self.inside.nodes _ (Some c.id.inside.0) c.self.invariant.1.numbered
    (live_place c.self.inside.nodes c.self.inside.links.items (Some c.id.inside.0) (count_is_some _ (at_view (λ s i. IsSome (leaf_value s i)) c.self.inside
    c.args.self.now c.id.inside.0 c.args.id c.self.view_is c.id.view_is c.requires.live)))) c.index-links.ensures) c.self.invariant.1.numbered
    c.set_next.new.links.items c.set_prev.new.links.items c.set_next.new.head c.set_prev.new.tail c.next_at-after.result
    c.set_next.ensures.links c.set_next.ensures.head c.set_prev.ensures.links c.set_prev.ensures.tail c.next_at-after.ensures
    c.set_next-2.new.links.items c.set_prev-2.new.links.items c.set_next-3.new.links.items c.set_prev-3.new.links.items c.set_next-2.new.head c.set_prev-2.new.tail
    c.set_next-3.new.head
    c.set_prev-3.new.tail
    (rw c.raw-here.ensures at c.set_next-2.ensures.links) (rw c.raw-here.ensures at c.set_next-2.ensures.head)
    (rw c.raw-here.ensures at c.set_prev-2.ensures.links) (rw c.raw-here.ensures at c.set_prev-2.ensures.tail)
    (rw c.raw-here.ensures at c.set_next-3.ensures.links) (rw c.raw-here.ensures at c.set_next-3.ensures.head)
    (rw c.raw-here.ensures at c.set_prev-3.ensures.links) (rw c.raw-here.ensures at c.set_prev-3.ensures.tail))
