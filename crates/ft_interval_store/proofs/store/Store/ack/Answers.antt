use Rattle.std.proofs.Common.{ℕ, List, Some, refl, sym, ◌∙◌, ap, subst, arith}
use Rattle.std.specs.List.{remove}
use Rattle.std.proofs.lemmas.List.{get_or_read}
use Rattle.ft_interval_store.specs.declared.intervals.Interval.{Interval}
use Rattle.ft_interval_store.specs.declared.pending.Operation.{Operation}
use Rattle.ft_interval_store.specs.Intervals.{place_of_operation}
use Rattle.ft_interval_store.specs.State.{AreOwnEnds, CollectionsState, IsFirst, IsInOrder, text_elements}
use Rattle.ft_interval_store.proofs.AppliedEffect.{ack-in_order, ack-kept, ack-operation, ack-places, ack-references, first-split, some-first}
use Rattle.ft_interval_store.proofs.store.Store.ack.Goals as goal

pub index-first-requires : goal.index-first-requires
index-first-requires c =
    let is = c.self.inside.acked in
    let ps = c.self.inside.pending.items in
    let some = some-first c.args.stage is ps (subst (λ x. IsFirst c.args.stage x) (sym c.self.view_is) c.requires.first) in
    omega (arith, some, c.self.inside.pending.ok.0)

pub take_effect-requires-clause-kept : goal.take_effect-requires-clause-kept
take_effect-requires-clause-kept c =
    let is = c.self.inside.acked in
    let ps = c.self.inside.pending.items in
    let some = some-first c.args.stage is ps (subst (λ x. IsFirst c.args.stage x) (sym c.self.view_is) c.requires.first) in
    let t = c.index-first.result.now in
    let split = first-split ps t t (remove ps 0) some c.index-first.ensures refl in
    ack-kept is ps t (remove ps 0) split c.args.self.now c.self.view_is c.self.invariant c.args.tree.now.refs c.requires.live

pub take_effect-requires-clause-place : goal.take_effect-requires-clause-place
take_effect-requires-clause-place c =
    let is = c.self.inside.acked in
    let ps = c.self.inside.pending.items in
    let some = some-first c.args.stage is ps (subst (λ x. IsFirst c.args.stage x) (sym c.self.view_is) c.requires.first) in
    let t = c.index-first.result.now in
    let split = first-split ps t t (remove ps 0) some c.index-first.ensures refl in
    let first = ack-operation is ps t (remove ps 0) split c.args.self.now c.self.view_is c.self.invariant c.args.tree.now.refs c.requires.live in
    c.requires.found t.op first ∙ sym (ap (λ (x : CollectionsState). place_of_operation t.op x.acked) c.self.view_is)

pub invariant_of-self : goal.invariant_of-self
invariant_of-self c =
    subst (λ (is : List (Interval ℕ)). let x : CollectionsState = record { acked = is; pending = c.self.inside.pending.items } in IsInOrder x)
    (sym c.in_err-ends.ensures.err) c.self.invariant

pub invariant_of-self-2 : goal.invariant_of-self-2
invariant_of-self-2 c =
    let is = c.self.inside.acked in
    let ps = c.self.inside.pending.items in
    let some = some-first c.args.stage is ps (subst (λ x. IsFirst c.args.stage x) (sym c.self.view_is) c.requires.first) in
    let t = c.index-first.result.now in
    let ts = c.remove.new.self.items in
    let split = first-split ps t t ts some c.index-first.ensures c.in-Some.ensures.items in
    ack-in_order is ps t ts split c.args.self.now c.self.view_is c.self.invariant c.args.tree.now.refs c.requires.live
    c.take_effect.new.intervals c.take_effect.new.tree.refs c.in_ok-ends.ensures.refs

pub returns-clause-effect : goal.returns-clause-effect
returns-clause-effect c =
    let is = c.self.inside.acked in
    let ps = c.self.inside.pending.items in
    let some = some-first c.args.stage is ps (subst (λ x. IsFirst c.args.stage x) (sym c.self.view_is) c.requires.first) in
    let t = c.index-first.result.now in
    let ts = c.remove.new.self.items in
    let split = first-split ps t t ts some c.index-first.ensures c.in-Some.ensures.items in
    ack-places is ps t ts split c.args.self.now c.self.view_is c.self.invariant c.args.tree.now.refs c.requires.live
    (text_elements c.args.tree.now) c.take_effect.new.intervals c.take_effect.new.tree.refs c.in_ok-ends.ensures.refs c.in_ok-ends.ensures.placed

pub returns-clause-refs : goal.returns-clause-refs
returns-clause-refs c =
    let is = c.self.inside.acked in
    let ps = c.self.inside.pending.items in
    let some = some-first c.args.stage is ps (subst (λ x. IsFirst c.args.stage x) (sym c.self.view_is) c.requires.first) in
    let t = c.index-first.result.now in
    let ts = c.remove.new.self.items in
    let split = first-split ps t t ts some c.index-first.ensures c.in-Some.ensures.items in
    ack-references is ps t ts split c.args.self.now c.self.view_is c.self.invariant c.args.tree.now.refs c.requires.live
    c.take_effect.new.intervals c.take_effect.new.tree.refs c.in_ok-ends.ensures.refs

pub returns-clause-op : goal.returns-clause-op
returns-clause-op c =
    let is = c.self.inside.acked in
    let ps = c.self.inside.pending.items in
    let some = some-first c.args.stage is ps (subst (λ x. IsFirst c.args.stage x) (sym c.self.view_is) c.requires.first) in
    let t = c.index-first.result.now in
    let ts = c.remove.new.self.items in
    let split = first-split ps t t ts some c.index-first.ensures c.in-Some.ensures.items in
    let first = ack-operation is ps t ts split c.args.self.now c.self.view_is c.self.invariant c.args.tree.now.refs c.requires.live in
    first ∙ ap (λ (o : Operation). Some o.op) (get_or_read ps 0 t some c.index-first.ensures c.in-Some.field-0 ∙ sym c.in-Some.ensures.value)

pub returns-clause-ends : goal.returns-clause-ends
returns-clause-ends c =
    let is = c.self.inside.acked in
    let ps = c.self.inside.pending.items in
    let some = some-first c.args.stage is ps (subst (λ x. IsFirst c.args.stage x) (sym c.self.view_is) c.requires.first) in
    let t = c.index-first.result.now in
    let same = get_or_read ps 0 t some c.index-first.ensures c.in-Some.field-0 ∙ sym c.in-Some.ensures.value in
    subst (λ (o : Operation). AreOwnEnds o.op c.take_effect.new.intervals c.in_ok-ends.ends) same c.in_ok-ends.ensures.ends
