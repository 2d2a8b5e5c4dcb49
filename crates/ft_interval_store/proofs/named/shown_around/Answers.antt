use Rattle.std.proofs.Common.{◌||◌, map, refl, ◌∙◌}
use Rattle.std.proofs.lemmas.Result.{IfOk-weaker}
use Rattle.ft_interval_store.specs.Ends.{places_of_ends}
use Rattle.ft_interval_store.specs.Gathered.{is_on_any}
use Rattle.ft_interval_store.specs.Intervals.{Name}
use Rattle.ft_interval_store.specs.Named.{is_operation_on}
use Rattle.ft_interval_store.specs.Shown.{settled_interval}
use Rattle.ft_interval_store.specs.State.{placed_intervals, placed_operations, text_elements, with_mapped_ends}
use Rattle.ft_interval_store.proofs.Gathered.{on-placed}
use Rattle.ft_interval_store.proofs.NamedIntervals.{around-shown, neither, no-other-shown}
use Rattle.ft_interval_store.proofs.OneInterval.{NamesRise-map}
use Rattle.ft_interval_store.proofs.named.shown_around.Goals as goal

pub shown_behind-requires-clause-shown : goal.shown_behind-requires-clause-shown
shown_behind-requires-clause-shown c =
    let w = c.in_ok-all.ensures.part in
    let r = c.in_ok-add_operation.ensures.gathers w.0 (λ n. is_on_any n c.args.pending.now.items) w.1 w.2 in
    (r.0, r.1)

pub returns : goal.returns
returns c =
    let tree = c.args.tree.now in
    let xs = text_elements tree in
    let refs = tree.refs in
    let ts = c.args.pending.now.items in
    let op = c.args.op.now in
    let from = map (settled_interval xs 0) (placed_intervals refs c.args.acked.now) in
    let w = c.in_ok-all.ensures.part in
    let pending = λ (n : Name). is_on_any n ts in
    let wanted = λ (n : Name). is_on_any n ts || is_operation_on n op in
    let r = c.in_ok-add_operation.ensures.gathers w.0 pending w.1 w.2 in
    let only = c.in_ok-add_operation.ensures.only pending c.in_ok-all.ensures.only in
    let rise = NamesRise-map (settled_interval xs 0) (placed_intervals refs c.args.acked.now) (λ i. refl)
    (NamesRise-map (with_mapped_ends (places_of_ends refs)) c.args.acked.now (λ i. refl) c.pages-all.ensures.rising) in
    let same = around-shown xs (placed_operations refs ts) from r.0 wanted rise r.2.rising
    (no-other-shown tree 0 r.0 c.add_operation.new.all wanted r.1 only) r.2.there
    (λ n h. on-placed refs n ts ∙ (neither (is_on_any n ts) (is_operation_on n op) h).0) in
    IfOk-weaker c.shown_behind.result _ _ (λ all e. e ∙ same) (c.shown_behind.ensures r.0 r.1)
