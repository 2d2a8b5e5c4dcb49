use Rattle.std.proofs.Common.{◌≡◌, ◌∙◌, ap, map, sym}
use Rattle.std.proofs.lemmas.Result.{IfOk-weaker}
use Rattle.ft_op.specs.declared.operations.BaseOp.TheVariants.{Insert}
use Rattle.ft_op.specs.Pieces.{text_pieces}
use Rattle.ft_plain_document.specs.SubOperations.{sub_operation_of}
use Rattle.ft_plain_document.proofs.documents.pieces.text_pieces.Goals as goal

pub returns-in-Insert : goal.returns-in-Insert
returns-in-Insert c =
    let of = text_pieces c.args.stage c.args.items.now in
    IfOk-weaker c.segment_piece.result (λ v. map sub_operation_of v.items ≡ of (Insert c.in-Insert.pos c.in-Insert.seg c.in-Insert.props))
    (λ v. map sub_operation_of v.items ≡ of c.args.op.now)
    (λ v e. e ∙ ap of (sym c.in-Insert.is)) (c.segment_piece.ensures c.in-Insert.pos)
