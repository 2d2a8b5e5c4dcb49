use Rattle.std.proofs.Common.{◌≡◌, ap₂}
use Rattle.std.proofs.lemmas.Result.{IfOk-at_ok}
use Rattle.ft_op.specs.declared.operations.BaseOp.TheVariants.{Insert}
use Rattle.ft_op.proofs.copies.copy_insertion.Goals as goal

pub returns : goal.returns
returns c =
    let copies = c.in_ok-seg.ensures in
    let seg = IfOk-at_ok (λ s. s ≡ c.args.seg.now) copies.first c.copy.ensures in
    let props = IfOk-at_ok (λ ps. ps ≡ c.args.props.now) copies.second c.copy-2.ensures in
    ap₂ (Insert c.args.pos) seg props
