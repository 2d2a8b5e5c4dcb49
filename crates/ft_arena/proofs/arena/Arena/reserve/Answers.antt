use Rattle.std.proofs.Common.{ℕ, List, length, refl, ap, ◌∙◌, arith}
use Rattle.std.specs.Prelude.{max}
use Rattle.ft_arena.specs.declared.links.Links.{Links}
use Rattle.ft_arena.specs.Links.{links_under, slots_of}
use Rattle.ft_arena.proofs.ArenaLemmas.{shown_same, sound_same}
use Rattle.ft_arena.proofs.SlotLemmas.{grown_slots, none_spare, room_made, same_slots}
use Rattle.ft_arena.proofs.arena.Arena.reserve.Goals as goal

pub invariant_of-self : goal.invariant_of-self
invariant_of-self g c =
    let same = ap (λ s. s.slots) c.reserve.ensures.rest_kept in (
      sound_same (slots_of c.self.inside.nodes c.self.inside.links.items) (slots_of c.reserve.new.self c.self.inside.links.items) c.self.inside.head c.self.inside.tail
          (same_slots c.self.inside.nodes c.reserve.new.self c.self.inside.links.items c.self.inside.links.items same refl) c.self.invariant.0,
      rw c.replace-spare.ensures.after (none_spare c.self.inside.nodes c.reserve.new.self _ _ c.self.inside.spare same refl c.self.invariant.1),
    )

pub invariant_of-self-in_err-reserve-2 : goal.invariant_of-self-in_err-reserve-2
invariant_of-self-in_err-reserve-2 g c =
    let same = ap (λ s. s.slots) c.reserve.ensures.rest_kept in (
      sound_same (slots_of c.self.inside.nodes c.self.inside.links.items) (slots_of c.reserve.new.self c.reserve-2.new.self.items) c.self.inside.head c.self.inside.tail
          (same_slots c.self.inside.nodes c.reserve.new.self c.self.inside.links.items c.reserve-2.new.self.items same c.reserve-2.ensures.items) c.self.invariant.0,
      rw c.replace-spare.ensures.after (none_spare c.self.inside.nodes c.reserve.new.self _ _ c.self.inside.spare same (ap length c.reserve-2.ensures.items)
          c.self.invariant.1),
    )

pub lengthen-requires : goal.lengthen-requires
lengthen-requires g c = omega (
  arith,
  c.in_ok-reserve-2.ensures.ok,
  c.saturating_sub.ensures,
  c.len.ensures,
  ap length c.reserve-2.ensures.items,
)

pub invariant_of-self-2 : goal.invariant_of-self-2
invariant_of-self-2 g c =
    let same = ap (λ s. s.slots) c.reserve.ensures.rest_kept in
    let links = λ (id : ℕ). c.lengthen.ensures.same id ∙ ap (λ ls. links_under ls id) c.reserve-2.ensures.items in
    let long = c.lengthen.ensures.grown ∙ ap (λ (ls : List Links). max (length ls) c.capacity-numbers.result) c.reserve-2.ensures.items
    ∙ ap (max (length c.self.inside.links.items)) c.capacity-numbers.ensures.value in (
      sound_same (slots_of c.self.inside.nodes c.self.inside.links.items) (slots_of c.reserve.new.self c.lengthen.new.links.items) c.self.inside.head c.self.inside.tail
          (grown_slots c.self.inside.nodes c.reserve.new.self c.self.inside.links.items c.lengthen.new.links.items same links) c.self.invariant.0,
      rw (c.max-self-inside.ensures, c.replace-spare.ensures.value) (room_made c.self.inside.nodes c.reserve.new.self _ _ c.self.inside.spare c.args.n same
          c.in_ok-reserve.ensures.capacity c.in_ok-reserve.ensures.room long c.self.invariant.1),
    )

pub returns-clause-kept : goal.returns-clause-kept
returns-clause-kept g c =
    let same = ap (λ s. s.slots) c.reserve.ensures.rest_kept in
    let links = λ (id : ℕ). c.lengthen.ensures.same id ∙ ap (λ ls. links_under ls id) c.reserve-2.ensures.items in
    rw (← c.self.view_is) (shown_same (slots_of c.self.inside.nodes c.self.inside.links.items) (slots_of c.reserve.new.self c.lengthen.new.links.items)
    c.self.inside.head c.self.inside.tail c.max-self-inside.result
    (grown_slots c.self.inside.nodes c.reserve.new.self c.self.inside.links.items c.lengthen.new.links.items same links))
