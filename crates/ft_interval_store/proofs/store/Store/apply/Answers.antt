use Rattle.std.proofs.Common.{◌≡◌, ℕ, List, sym, ◌∙◌, ap, subst}
use Rattle.ft_base.specs.Scan.{len}
use Rattle.ft_block.specs.declared.leaves.LenView.TheVariants.{At}
use Rattle.ft_tree_leaves.specs.Elements.{seen_in}
use Rattle.ft_op.specs.Document.{ends_of, given_ends_fit}
use Rattle.ft_interval_store.specs.declared.intervals.Interval.{Interval}
use Rattle.ft_interval_store.specs.Ends.{map_ends, places_of_ends, places_of_given, slid_end}
use Rattle.ft_interval_store.specs.Intervals.{after_operation, place_of_operation}
use Rattle.ft_interval_store.specs.State.{CollectionsState, IsInOrder, IsLive, KeepsReferences, placed, placed_intervals, text_elements, with_effect}
use Rattle.ft_interval_store.proofs.AppliedEffect.{applied-in_order, applied-kept_once, applied-places, applied-references}
use Rattle.ft_interval_store.proofs.store.Store.apply.Goals as goal

pub add_ends-requires-clause-fit : goal.add_ends-requires-clause-fit
add_ends-requires-clause-fit c =
    sym (ap (λ n. given_ends_fit n c.given_ends-given.result) c.length.ensures) ∙ sym c.given_ends_fit.ensures ∙ c.if-not-given_ends_fit.false

pub take_effect-requires-clause-kept : goal.take_effect-requires-clause-kept
take_effect-requires-clause-kept c =
    let old : CollectionsState = record { acked = c.self.inside.acked; pending = c.self.inside.pending.items } in
    let before = c.args.tree.now.refs in
    let live : IsLive before old = subst (λ x. IsLive before x) (sym c.self.view_is) c.requires.live in
    let places = places_of_given (seen_in (At c.args.at)) (text_elements c.args.tree.now) c.given_ends-given.result in
    applied-kept_once places old c.in_ok-ends.ends before c.add_ends.new.tree.refs live c.in_ok-ends.ensures.ends c.self.invariant

pub take_effect-requires-clause-place : goal.take_effect-requires-clause-place
take_effect-requires-clause-place c = c.requires.found ∙ sym (ap (λ (x : CollectionsState). place_of_operation c.args.op.now x.acked) c.self.view_is)

pub invariant_of-self-2 : goal.invariant_of-self-2
invariant_of-self-2 c =
    let old : CollectionsState = record { acked = c.self.inside.acked; pending = c.self.inside.pending.items } in
    let before = c.args.tree.now.refs in
    let live : IsLive before old = subst (λ x. IsLive before x) (sym c.self.view_is) c.requires.live in
    let places = places_of_given (seen_in (At c.args.at)) (text_elements c.args.tree.now) c.given_ends-given.result in
    applied-in_order places old c.in_ok-ends.ends before c.add_ends.new.tree.refs live c.in_ok-ends.ensures.ends
    c.take_effect.new.intervals c.take_effect.new.tree.refs c.self.invariant c.in_ok-take_effect.ensures.refs

pub returns-clause-fits : goal.returns-clause-fits
returns-clause-fits c =
    let xs = text_elements c.args.tree.now in
    let seen = seen_in (At c.args.at) in
    sym c.if-not-given_ends_fit.false ∙ c.given_ends_fit.ensures ∙ ap (λ n. given_ends_fit n c.given_ends-given.result) c.length.ensures
    ∙ ap (λ g. given_ends_fit (len seen xs) g) c.given_ends-given.ensures

pub returns-clause-effect : goal.returns-clause-effect
returns-clause-effect c = λ _.
    let old : CollectionsState = record { acked = c.self.inside.acked; pending = c.self.inside.pending.items } in
    let before = c.args.tree.now.refs in
    let mid = c.add_ends.new.tree.refs in
    let op = c.args.op.now in
    let xs = text_elements c.args.tree.now in
    let seen = seen_in (At c.args.at) in
    let live : IsLive before old = subst (λ x. IsLive before x) (sym c.self.view_is) c.requires.live in
    let places = places_of_given seen xs c.given_ends-given.result in
    let same : text_elements c.add_ends.new.tree ≡ xs = ap text_elements c.in_ok-ends.ensures.rest in
    let effect = c.in_ok-take_effect.ensures.placed
    ∙ ap (λ ys. after_operation op (map_ends (slid_end ys) (places_of_ends mid c.in_ok-ends.ends)) (placed_intervals mid old.acked)) same in
    applied-places places old c.in_ok-ends.ends before mid live c.in_ok-ends.ensures.ends
    c.take_effect.new.intervals c.take_effect.new.tree.refs c.self.invariant c.in_ok-take_effect.ensures.refs xs op effect
    ∙ ap (λ g. with_effect op (map_ends (slid_end xs) (places_of_given seen xs g)) (placed before old)) c.given_ends-given.ensures
    ∙ ap (λ x. with_effect op (map_ends (slid_end xs) (places_of_given seen xs (ends_of op))) (placed before x)) c.self.view_is

pub returns-clause-refs : goal.returns-clause-refs
returns-clause-refs c = λ _.
    let old : CollectionsState = record { acked = c.self.inside.acked; pending = c.self.inside.pending.items } in
    let now : CollectionsState = record { acked = c.take_effect.new.intervals; pending = c.self.inside.pending.items } in
    let before = c.args.tree.now.refs in
    let after = c.take_effect.new.tree.refs in
    let live : IsLive before old = subst (λ x. IsLive before x) (sym c.self.view_is) c.requires.live in
    let places = places_of_given (seen_in (At c.args.at)) (text_elements c.args.tree.now) c.given_ends-given.result in
    subst (λ x. KeepsReferences x now before after) c.self.view_is
    (applied-references places old c.in_ok-ends.ends before c.add_ends.new.tree.refs live c.in_ok-ends.ensures.ends
    c.take_effect.new.intervals after c.self.invariant c.in_ok-take_effect.ensures.refs)

pub invariant_of-self : goal.invariant_of-self
invariant_of-self c =
    subst (λ (is : List (Interval ℕ)). let x : CollectionsState = record { acked = is; pending = c.self.inside.pending.items } in IsInOrder x)
    (sym c.in_err-take_effect.ensures.err) c.self.invariant

pub returns-clause-ends : goal.returns-clause-ends
returns-clause-ends c = c.in_ok-take_effect.ensures.ends
