use Rattle.std.proofs.Common.{ℕ, refl, cond, None, IsSome, get_or, set, Some, option_map, sym, ◌∙◌, ap, subst, arith}
use Rattle.std.proofs.lemmas.List.{get_or-set_same}
use Rattle.ft_tree_leaves.specs.References.{reference_at}
use Rattle.ft_op.specs.declared.operations.TextOp.{TextOp}
use Rattle.ft_interval_store.specs.declared.intervals.EndPair.{EndPair}
use Rattle.ft_interval_store.specs.declared.pending.Operation.{Operation}
use Rattle.ft_interval_store.specs.Ends.{AreDistinctEnds, AreLiveEnds, holds_end, map_ends, places_of_ends}
use Rattle.ft_interval_store.specs.Numbers.{AreNumbers}
use Rattle.ft_interval_store.specs.Shown.{regenerated, settled_end}
use Rattle.ft_interval_store.specs.State.{CollectionsState, KeepsReferences, operation_at, placed, text_elements}
use Rattle.ft_interval_store.proofs.SettledOperation.{StandsPending, place-within, settle-distinct, settle-live, settle-live-mid, settle-operation, settle-own, settle-places, settle-references, settle-written, some-place}
use Rattle.ft_interval_store.proofs.store.Store.settle_op.Goals as goal

pub unreachable-requires : goal.unreachable-requires
unreachable-requires c =
    let none = sym c.place_of_stage.ensures ∙ c.in_default.is in
    some-place c.args.stage c.self.inside.pending.items none
    (subst (λ (x : CollectionsState). IsSome (operation_at c.args.stage x.pending)) (sym c.self.view_is) c.requires.pending)

pub index-requires : goal.index-requires
index-requires c =
    let ps = c.self.inside.pending.items in
    let found = sym c.place_of_stage.ensures ∙ c.in-Some.is in
    omega (arith, place-within c.args.stage c.in-Some.i ps found, c.self.inside.pending.ok.0)

pub settled_numbers-numbers-requires-clause-live : goal.settled_numbers-numbers-requires-clause-live
settled_numbers-numbers-requires-clause-live c =
    let ps = c.self.inside.pending.items in
    let found = sym c.place_of_stage.ensures ∙ c.in-Some.is in
    let stands : StandsPending c.self.inside.acked ps c.in-Some.i c.index.result.now c.args.stage c.args.self.now c.args.tree.now.refs =
    record { found = found; view = c.self.view_is; order = c.self.invariant; live = c.requires.live } in
    subst (λ (t : Operation). AreLiveEnds c.args.tree.now.refs t.ends) (sym c.index.ensures) (settle-live stands)

pub add_numbers-requires-clause-there : goal.add_numbers-requires-clause-there
add_numbers-requires-clause-there c =
    let f = map_ends (settled_end (text_elements c.args.tree.now) c.args.stage) in
    (f (places_of_ends c.args.tree.now.refs c.index.result.now.ends), c.settled_numbers-numbers.ensures)

pub drop_ends-requires-clause-live : goal.drop_ends-requires-clause-live
drop_ends-requires-clause-live c =
    let ps = c.self.inside.pending.items in
    let found = sym c.place_of_stage.ensures ∙ c.in-Some.is in
    let stands : StandsPending c.self.inside.acked ps c.in-Some.i c.index.result.now c.args.stage c.args.self.now c.args.tree.now.refs =
    record { found = found; view = c.self.view_is; order = c.self.invariant; live = c.requires.live } in
    let before = c.args.tree.now.refs in
    let xs = text_elements c.args.tree.now in
    let k = c.args.stage in
    let f = map_ends (settled_end xs k) in
    let own = get_or ps c.in-Some.i c.index.result.now in
    let places = f (places_of_ends before own.ends) in
    let numbers = subst (λ (t : Operation). AreNumbers xs k (f (places_of_ends before t.ends)) c.settled_numbers-numbers.result)
    c.index.ensures c.settled_numbers-numbers.ensures in
    let again = c.in_ok-again.again in
    let mid = c.add_numbers.new.tree.refs in
    let added = c.in_ok-again.ensures.ends places numbers in
    subst (λ (t : Operation). AreLiveEnds mid t.ends) (sym (settle-own stands c.index-2.result.now c.index-2.ensures))
    (settle-live-mid stands places again mid added)

pub drop_ends-requires-clause-once : goal.drop_ends-requires-clause-once
drop_ends-requires-clause-once c =
    let ps = c.self.inside.pending.items in
    let found = sym c.place_of_stage.ensures ∙ c.in-Some.is in
    let stands : StandsPending c.self.inside.acked ps c.in-Some.i c.index.result.now c.args.stage c.args.self.now c.args.tree.now.refs =
    record { found = found; view = c.self.view_is; order = c.self.invariant; live = c.requires.live } in
    subst (λ (t : Operation). AreDistinctEnds t.ends) (sym (settle-own stands c.index-2.result.now c.index-2.ensures)) (settle-distinct stands)

pub invariant_of-self : goal.invariant_of-self
invariant_of-self c =
    let ps = c.self.inside.pending.items in
    let found = sym c.place_of_stage.ensures ∙ c.in-Some.is in
    let stands : StandsPending c.self.inside.acked ps c.in-Some.i c.index.result.now c.args.stage c.args.self.now c.args.tree.now.refs =
    record { found = found; view = c.self.view_is; order = c.self.invariant; live = c.requires.live } in
    let xs = text_elements c.args.tree.now in
    let k = c.args.stage in
    let f = map_ends (settled_end xs k) in
    let places : Operation → EndPair ℕ = λ t. f (places_of_ends c.args.tree.now.refs t.ends) in
    let numbers = subst (λ (t : Operation). AreNumbers xs k (places t) c.settled_numbers-numbers.result) c.index.ensures
    c.settled_numbers-numbers.ensures in
    let own = places (get_or ps c.in-Some.i c.index.result.now) in
    settle-written stands own c.in_ok-again.again c.add_numbers.new.tree.refs (c.in_ok-again.ensures.ends own numbers)
    c.index_mut.result.now c.index_mut.ensures.value

pub invariant_of-self-2 : goal.invariant_of-self-2
invariant_of-self-2 c =
    let ps = c.self.inside.pending.items in
    let found = sym c.place_of_stage.ensures ∙ c.in-Some.is in
    let stands : StandsPending c.self.inside.acked ps c.in-Some.i c.index.result.now c.args.stage c.args.self.now c.args.tree.now.refs =
    record { found = found; view = c.self.view_is; order = c.self.invariant; live = c.requires.live } in
    let xs = text_elements c.args.tree.now in
    let k = c.args.stage in
    let f = map_ends (settled_end xs k) in
    let places : Operation → EndPair ℕ = λ t. f (places_of_ends c.args.tree.now.refs t.ends) in
    let numbers = subst (λ (t : Operation). AreNumbers xs k (places t) c.settled_numbers-numbers.result) c.index.ensures
    c.settled_numbers-numbers.ensures in
    let own = places (get_or ps c.in-Some.i c.index.result.now) in
    settle-written stands own c.in_ok-again.again c.add_numbers.new.tree.refs (c.in_ok-again.ensures.ends own numbers)
    c.index_mut.result.now c.index_mut.ensures.value

pub returns-clause-op : goal.returns-clause-op
returns-clause-op c =
    let ps = c.self.inside.pending.items in
    let found = sym c.place_of_stage.ensures ∙ c.in-Some.is in
    let stands : StandsPending c.self.inside.acked ps c.in-Some.i c.index.result.now c.args.stage c.args.self.now c.args.tree.now.refs =
    record { found = found; view = c.self.view_is; order = c.self.invariant; live = c.requires.live } in
    let before = c.args.tree.now.refs in
    let xs = text_elements c.args.tree.now in
    let k = c.args.stage in
    let f = map_ends (settled_end xs k) in
    let own = get_or ps c.in-Some.i c.index.result.now in
    let places = f (places_of_ends before own.ends) in
    let numbers = subst (λ (t : Operation). AreNumbers xs k (f (places_of_ends before t.ends)) c.settled_numbers-numbers.result)
    c.index.ensures c.settled_numbers-numbers.ensures in
    let with = λ (t : Operation). (let x : Operation = record t { ends = c.in_ok-again.again } in x) in
    let was = settle-own stands c.index_mut.result.now c.index_mut.ensures.value in
    let written = with c.index_mut.result.now in
    let own-op = c.index-3.ensures ∙ get_or-set_same ps c.in-Some.i written c.index-3.result.now (place-within k c.in-Some.i ps found)
    ∙ ap with was in
    ap (λ (o : TextOp). Some o) (c.in-Ok.ensures xs k places numbers ∙ ap (λ (t : Operation). regenerated xs k places t.op) own-op)
    ∙ sym (ap (option_map (λ (t : Operation). regenerated xs k (f t.ends) t.op)) (settle-operation stands))

pub returns-clause-settled : goal.returns-clause-settled
returns-clause-settled c =
    let ps = c.self.inside.pending.items in
    let found = sym c.place_of_stage.ensures ∙ c.in-Some.is in
    let stands : StandsPending c.self.inside.acked ps c.in-Some.i c.index.result.now c.args.stage c.args.self.now c.args.tree.now.refs =
    record { found = found; view = c.self.view_is; order = c.self.invariant; live = c.requires.live } in
    let before = c.args.tree.now.refs in
    let xs = text_elements c.args.tree.now in
    let k = c.args.stage in
    let f = map_ends (settled_end xs k) in
    let own = get_or ps c.in-Some.i c.index.result.now in
    let places = f (places_of_ends before own.ends) in
    let numbers = subst (λ (t : Operation). AreNumbers xs k (f (places_of_ends before t.ends)) c.settled_numbers-numbers.result)
    c.index.ensures c.settled_numbers-numbers.ensures in
    let again = c.in_ok-again.again in
    let mid = c.add_numbers.new.tree.refs in
    let added = c.in_ok-again.ensures.ends places numbers in
    let after = c.drop_ends.new.tree.refs in
    let dropped = λ (r : ℕ). c.drop_ends.ensures.refs r
    ∙ ap (λ (t : Operation). cond (holds_end r t.ends) None (reference_at mid r)) (settle-own stands c.index-2.result.now c.index-2.ensures) in
    let was = settle-own stands c.index_mut.result.now c.index_mut.ensures.value in
    let with = λ (t : Operation).
    (let x : CollectionsState = record { acked = c.self.inside.acked; pending = set ps c.in-Some.i (record t { ends = again }) } in x) in
    ap (λ (t : Operation). placed after (with t)) was ∙ settle-places stands places again mid added after dropped f refl

pub returns-clause-refs : goal.returns-clause-refs
returns-clause-refs c =
    let ps = c.self.inside.pending.items in
    let found = sym c.place_of_stage.ensures ∙ c.in-Some.is in
    let stands : StandsPending c.self.inside.acked ps c.in-Some.i c.index.result.now c.args.stage c.args.self.now c.args.tree.now.refs =
    record { found = found; view = c.self.view_is; order = c.self.invariant; live = c.requires.live } in
    let before = c.args.tree.now.refs in
    let xs = text_elements c.args.tree.now in
    let k = c.args.stage in
    let f = map_ends (settled_end xs k) in
    let own = get_or ps c.in-Some.i c.index.result.now in
    let places = f (places_of_ends before own.ends) in
    let numbers = subst (λ (t : Operation). AreNumbers xs k (f (places_of_ends before t.ends)) c.settled_numbers-numbers.result)
    c.index.ensures c.settled_numbers-numbers.ensures in
    let again = c.in_ok-again.again in
    let mid = c.add_numbers.new.tree.refs in
    let added = c.in_ok-again.ensures.ends places numbers in
    let after = c.drop_ends.new.tree.refs in
    let dropped = λ (r : ℕ). c.drop_ends.ensures.refs r
    ∙ ap (λ (t : Operation). cond (holds_end r t.ends) None (reference_at mid r)) (settle-own stands c.index-2.result.now c.index-2.ensures) in
    let was = settle-own stands c.index_mut.result.now c.index_mut.ensures.value in
    let with = λ (t : Operation).
    (let x : CollectionsState = record { acked = c.self.inside.acked; pending = set ps c.in-Some.i (record t { ends = again }) } in x) in
    subst (λ (t : Operation). KeepsReferences c.args.self.now (with t) before after) (sym was)
    (settle-references stands places again mid added after dropped)
