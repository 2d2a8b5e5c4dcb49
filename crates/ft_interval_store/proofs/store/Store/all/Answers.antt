use Rattle.std.proofs.Common.{List, map, refl, subst, sym, ◌∙◌, ap}
use Rattle.std.proofs.lemmas.Result.{IfOk-weaker}
use Rattle.ft_interval_store.specs.declared.pending.Operation.{Operation}
use Rattle.ft_interval_store.specs.Shown.{settled_interval, shown_intervals, shown_record}
use Rattle.ft_interval_store.specs.State.{CollectionsState, IsLive, placed_intervals, placed_operations, text_elements}
use Rattle.ft_interval_store.proofs.KeptEnds.{live-intervals, live-operations}
use Rattle.ft_interval_store.proofs.store.Store.all.Goals as goal

pub first_places-requires-clause-live : goal.first_places-requires-clause-live
first_places-requires-clause-live c =
    let old : CollectionsState = record { acked = c.self.inside.acked; pending = c.self.inside.pending.items } in
    live-intervals c.args.tree.now.refs old (subst (λ x. IsLive c.args.tree.now.refs x) (sym c.self.view_is) c.requires.live)

pub shown_behind-requires-clause-pending : goal.shown_behind-requires-clause-pending
shown_behind-requires-clause-pending c =
    let old : CollectionsState = record { acked = c.self.inside.acked; pending = c.self.inside.pending.items } in
    live-operations c.args.tree.now.refs old (subst (λ x. IsLive c.args.tree.now.refs x) (sym c.self.view_is) c.requires.live)

pub shown_behind-requires-clause-shown : goal.shown_behind-requires-clause-shown
shown_behind-requires-clause-shown c =
    (map (settled_interval (text_elements c.args.tree.now) 0) (placed_intervals c.args.tree.now.refs c.self.inside.acked), c.in_ok-first_places.ensures)

pub returns : goal.returns
returns c =
    let xs = text_elements c.args.tree.now in
    let refs = c.args.tree.now.refs in
    let is = placed_intervals refs c.self.inside.acked in
    let same = ap (λ (x : CollectionsState). map (shown_record xs) (shown_intervals xs (placed_intervals refs x.acked) (placed_operations refs x.pending))) c.self.view_is in
    IfOk-weaker c.shown_behind.result _ _ (λ all e. e ∙ same) (c.shown_behind.ensures (map (settled_interval xs 0) is) c.in_ok-first_places.ensures)

pub returns-then-is_at_rest : goal.returns-then-is_at_rest
returns-then-is_at_rest c =
    let xs = text_elements c.args.tree.now in
    let refs = c.args.tree.now.refs in
    let is = placed_intervals refs c.self.inside.acked in
    let none = sym (c.if-is_at_rest.ensures refl).0 in
    let same = ap (λ (ps : List Operation). map (shown_record xs) (shown_intervals xs is (placed_operations refs ps))) none
    ∙ ap (λ (x : CollectionsState). map (shown_record xs) (shown_intervals xs (placed_intervals refs x.acked) (placed_operations refs x.pending))) c.self.view_is in
    IfOk-weaker c.acked_records.result _ _ (λ all e. e ∙ same) c.acked_records.ensures

pub acked_records-requires-clause-live : goal.acked_records-requires-clause-live
acked_records-requires-clause-live c =
    let old : CollectionsState = record { acked = c.self.inside.acked; pending = c.self.inside.pending.items } in
    live-intervals c.args.tree.now.refs old (subst (λ x. IsLive c.args.tree.now.refs x) (sym c.self.view_is) c.requires.live)

pub acked_records-requires-clause-still : goal.acked_records-requires-clause-still
acked_records-requires-clause-still c = (c.if-is_at_rest.ensures refl).1
