use Rattle.std.proofs.Common.{◌≡◌, ◌∙◌, ap, map, sym}
use Rattle.std.proofs.lemmas.Result.{IfOk-weaker}
use Rattle.ft_op.specs.declared.operations.CellOp.TheVariants.{Set}
use Rattle.ft_op.specs.Pieces.{grid_pieces}
use Rattle.ft_plain_document.specs.SubOperations.{sub_operation_of}
use Rattle.ft_plain_document.proofs.documents.PlainDocument.grid_pieces.Goals as goal

pub returns-in-Set : goal.returns-in-Set
returns-in-Set c =
    let of = grid_pieces c.args.stage c.args.self.now c.args.names.now in
    IfOk-weaker c.cell_piece.result (λ v. map sub_operation_of v.items ≡ of (Set c.in-Set.row c.in-Set.col c.in-Set.value))
    (λ v. map sub_operation_of v.items ≡ of c.args.op.now)
    (λ v e. e ∙ ap of (sym c.in-Set.is)) (c.cell_piece.ensures c.in-Set.row c.in-Set.col)
