use Rattle.std.proofs.Common.{◌≡◌, false, subst, sym}
use Rattle.ft_op.specs.declared.operations.ChannelOp.{ChannelOp}
use Rattle.ft_op.specs.Operation.{sub_operations}
use Rattle.ft_changes.specs.Beside.{is_changed_by}
use Rattle.ft_changes.proofs.NamedIntervals.{changed_by_grid}
use Rattle.ft_changes.proofs.named.is_changed_by.Goals as goal

pub returns-in-Grid : goal.returns-in-Grid
returns-in-Grid c =
    let i = c.args.interval.now in
    subst (λ (o : ChannelOp). false ≡ is_changed_by (sub_operations o) i) (sym c.in-Grid.is) (changed_by_grid c.in-Grid.field-0 i)
