use Rattle.std.proofs.Common.{◌≡◌, ◌∙◌, ap, sym}
use Rattle.std.proofs.lemmas.Result.{IfOk-weaker}
use Rattle.ft_op.specs.declared.operations.TextOp.TheVariants.{IntervalAdd}
use Rattle.ft_op.specs.Pieces.{interval_piece}
use Rattle.ft_plain_document.proofs.documents.pieces.interval_piece.Goals as goal

pub returns-in-IntervalAdd : goal.returns-in-IntervalAdd
returns-in-IntervalAdd c =
    let of = interval_piece c.args.stage c.args.items.now c.args.names.now in
    let op = c.in-IntervalAdd in
    IfOk-weaker c.copy_interval_add.result (λ piece. piece ≡ IntervalAdd op.label op.id c.ends_in.result op.props)
    (λ piece. piece ≡ of c.args.op.now)
    (λ piece e. e ∙ ap (λ ends. IntervalAdd op.label op.id ends op.props) c.ends_in.ensures ∙ sym (ap of op.is)) c.copy_interval_add.ensures
