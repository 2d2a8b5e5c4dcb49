use Rattle.std.proofs.Common.{map, sym, subst}
use Rattle.std.specs.Prelude.{OnOk}
use Rattle.ft_op.specs.declared.operations.ChannelOp.{ChannelOp}
use Rattle.ft_interval_store.specs.Gathered.{Gathers}
use Rattle.ft_interval_store.specs.Named.{AddsNoOther, is_operation_on}
use Rattle.ft_interval_store.specs.Shown.{settled_interval}
use Rattle.ft_interval_store.specs.State.{placed_intervals, text_elements}
use Rattle.ft_interval_store.proofs.NamedIntervals.{none-added, none-gathered}
use Rattle.ft_interval_store.proofs.named.add_operation.Goals as goal

pub returns-in-Text-clause-gathers : goal.returns-in-Text-clause-gathers
returns-in-Text-clause-gathers c =
    let from = map (settled_interval (text_elements c.args.tree.now) 0) (placed_intervals c.args.tree.now.refs c.args.acked.now) in
    subst (λ (o : ChannelOp). OnOk c.add_changed.result (Gathers c.args.tree.now from (λ n. is_operation_on n o) c.args.all.now c.add_changed.new.all)) (sym c.in-Text.is) c.add_changed.ensures.gathers

pub returns-in-Text-clause-only : goal.returns-in-Text-clause-only
returns-in-Text-clause-only c =
    subst (λ (o : ChannelOp). OnOk c.add_changed.result (AddsNoOther (λ n. is_operation_on n o) c.args.all.now c.add_changed.new.all)) (sym c.in-Text.is) c.add_changed.ensures.only

pub returns-in-Grid-clause-gathers : goal.returns-in-Grid-clause-gathers
returns-in-Grid-clause-gathers c =
    let from = map (settled_interval (text_elements c.args.tree.now) 0) (placed_intervals c.args.tree.now.refs c.args.acked.now) in
    subst (λ (o : ChannelOp). Gathers c.args.tree.now from (λ n. is_operation_on n o) c.args.all.now c.args.all.now) (sym c.in-Grid.is)
    (none-gathered c.args.tree.now from c.args.all.now)

pub returns-in-Grid-clause-only : goal.returns-in-Grid-clause-only
returns-in-Grid-clause-only c =
    subst (λ (o : ChannelOp). AddsNoOther (λ n. is_operation_on n o) c.args.all.now c.args.all.now) (sym c.in-Grid.is) (none-added _ c.args.all.now)
