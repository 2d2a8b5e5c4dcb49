use Rattle.std.proofs.Common.{◌≡◌, ◌∙◌, ap, filter, map, subst, sym}
use Rattle.std.specs.Prelude.{IfOk}
use Rattle.ft_op.specs.declared.operations.ChannelOp.{ChannelOp}
use Rattle.ft_interval_store.specs.Named.{is_operation_on, name_of_record}
use Rattle.ft_interval_store.specs.Shown.{shown_intervals, shown_record}
use Rattle.ft_interval_store.specs.State.{placed_intervals, placed_operations, text_elements}
use Rattle.ft_interval_store.proofs.NamedIntervals.{filter-none}
use Rattle.ft_interval_store.proofs.named.shown_of.Goals as goal

pub returns-in-Text : goal.returns-in-Text
returns-in-Text c =
    let xs = text_elements c.args.tree.now in
    let refs = c.args.tree.now.refs in
    let all = map (shown_record xs) (shown_intervals xs (placed_intervals refs c.args.acked.now) (placed_operations refs c.args.pending.now.items)) in
    subst (λ (o : ChannelOp). IfOk c.shown_of_text.result (λ some. some.items ≡ filter (λ i. is_operation_on (name_of_record i) o) all)) (sym c.in-Text.is)
    c.shown_of_text.ensures

pub returns-in-Grid : goal.returns-in-Grid
returns-in-Grid c =
    let xs = text_elements c.args.tree.now in
    let refs = c.args.tree.now.refs in
    let all = map (shown_record xs) (shown_intervals xs (placed_intervals refs c.args.acked.now) (placed_operations refs c.args.pending.now.items)) in
    c.new.ensures.items ∙ sym (ap (λ (o : ChannelOp). filter (λ i. is_operation_on (name_of_record i) o) all) c.in-Grid.is ∙ filter-none all)
