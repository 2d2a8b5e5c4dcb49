use Rattle.std.proofs.Common.{◌||◌, filter, map, sym, ◌∙◌, ap, subst}
use Rattle.std.proofs.lemmas.Result.{IfOk-weaker}
use Rattle.ft_interval_store.specs.Gathered.{is_on_any}
use Rattle.ft_interval_store.specs.Named.{is_operation_on, name_of_record}
use Rattle.ft_interval_store.specs.Shown.{shown_intervals, shown_record}
use Rattle.ft_interval_store.specs.State.{CollectionsState, IsLive, placed_intervals, placed_operations, text_elements}
use Rattle.ft_interval_store.proofs.KeptEnds.{live-intervals, live-operations}
use Rattle.ft_interval_store.proofs.store.Store.shown_around.Goals as goal

pub shown_around-requires-clause-acked : goal.shown_around-requires-clause-acked
shown_around-requires-clause-acked c =
    let old : CollectionsState = record { acked = c.self.inside.acked; pending = c.self.inside.pending.items } in
    live-intervals c.args.tree.now.refs old (subst (λ x. IsLive c.args.tree.now.refs x) (sym c.self.view_is) c.requires.live)

pub shown_around-requires-clause-pending : goal.shown_around-requires-clause-pending
shown_around-requires-clause-pending c =
    let old : CollectionsState = record { acked = c.self.inside.acked; pending = c.self.inside.pending.items } in
    live-operations c.args.tree.now.refs old (subst (λ x. IsLive c.args.tree.now.refs x) (sym c.self.view_is) c.requires.live)

pub returns : goal.returns
returns c =
    let xs = text_elements c.args.tree.now in
    let refs = c.args.tree.now.refs in
    let op = c.args.op.now in
    let same = ap (λ (x : CollectionsState). filter (λ i. is_on_any (name_of_record i) x.pending || is_operation_on (name_of_record i) op) (map (shown_record xs) (shown_intervals xs (placed_intervals refs x.acked) (placed_operations refs x.pending)))) c.self.view_is in
    IfOk-weaker c.shown_around.result _ _ (λ some e. e ∙ same) c.shown_around.ensures
