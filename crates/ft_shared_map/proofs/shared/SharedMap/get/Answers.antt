use Rattle.std.proofs.Common.{◌≡◌, ◌-◌, ◌<◌, chars, deque_len, length, sym, ◌∙◌, ap, arith, rules}
use Rattle.ft_shared_map.specs.Maps.{MapState, shown_map, value_of, written}
use Rattle.ft_shared_map.proofs.MarkLaws.{shown-acked, shown-cleared, shown-marked, slice_get-index}
use Rattle.ft_shared_map.proofs.shared.SharedMap.get.Goals as goal

pub overflow_sub-number : goal.overflow_sub-number
overflow_sub-number c =
    let s = c.self.inside in
    (shown-marked (chars c.args.key.now) s.first s.pending.items s.marks s.acked c.self.invariant.2 c.self.invariant.0 c.in-Some.number (sym c.last_of.ensures ∙ c.in-Some.is)).0

pub index-requires : goal.index-requires
index-requires c =
    let s = c.self.inside in
    let m = shown-marked (chars c.args.key.now) s.first s.pending.items s.marks s.acked c.self.invariant.2 c.self.invariant.0 c.in-Some.number (sym c.last_of.ensures ∙ c.in-Some.is) in
    let len : deque_len s.pending ≡ length s.pending.items = search rules in
    omega (arith, len, m.0, m.1)

pub returns-in-Some : goal.returns-in-Some
returns-in-Some c =
    let s = c.self.inside in
    let key = chars c.args.key.now in
    let m = shown-marked key s.first s.pending.items s.marks s.acked c.self.invariant.2 c.self.invariant.0 c.in-Some.number (sym c.last_of.ensures ∙ c.in-Some.is) in
    let within : c.in-Some.number - s.first < length s.pending.items = omega (arith, m.0, m.1) in
    c.written.ensures ∙ ap written (sym (slice_get-index s.pending.items (c.in-Some.number - s.first) c.index.result.now within c.index.ensures)) ∙ sym m.2
    ∙ ap (λ (x : MapState). value_of key (shown_map x)) c.self.view_is

pub returns-in-Some-cleared : goal.returns-in-Some-cleared
returns-in-Some-cleared c =
    let s = c.self.inside in
    let key = chars c.args.key.now in
    sym
    (shown-cleared key s.first s.pending.items s.marks s.acked c.self.invariant.2 c.self.invariant.0 c.in-Some-cleared.field-0 (sym c.last_of.ensures ∙ c.in-None.is) (sym c.cleared.ensures ∙ c.in-Some-cleared.is))
    ∙ ap (λ (x : MapState). value_of key (shown_map x)) c.self.view_is

pub returns-in-None-cleared : goal.returns-in-None-cleared
returns-in-None-cleared c =
    let s = c.self.inside in
    let key = chars c.args.key.now in
    c.get.ensures
    ∙ sym (shown-acked key s.first s.pending.items s.marks s.acked c.self.invariant.2 c.self.invariant.0 (sym c.last_of.ensures ∙ c.in-None.is) (sym c.cleared.ensures ∙ c.in-None-cleared.is))
    ∙ ap (λ (x : MapState). value_of key (shown_map x)) c.self.view_is
