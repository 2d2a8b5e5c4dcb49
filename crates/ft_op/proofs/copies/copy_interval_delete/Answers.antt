use Rattle.std.proofs.Common.{◌≡◌, ap₂}
use Rattle.std.proofs.lemmas.Result.{IfOk-at_ok}
use Rattle.ft_op.specs.declared.operations.TextOp.TheVariants.{IntervalDelete}
use Rattle.ft_op.proofs.copies.copy_interval_delete.Goals as goal

pub returns : goal.returns
returns c =
    let copies = c.in_ok-label.ensures in
    let label = IfOk-at_ok (λ t. t ≡ c.args.label.now) copies.first c.copy.ensures in
    let id = IfOk-at_ok (λ t. t ≡ c.args.id.now) copies.second c.copy-2.ensures in
    ap₂ IntervalDelete label id
