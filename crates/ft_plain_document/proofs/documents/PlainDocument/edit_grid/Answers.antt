use Rattle.std.proofs.Common.{sym, subst}
use Rattle.ft_op.specs.declared.operations.CellOp.{CellOp}
use Rattle.ft_msg.specs.Client.{local_grid}
use Rattle.ft_plain_document.specs.OwnEdits.{AnswersSubOperation}
use Rattle.ft_plain_document.proofs.documents.PlainDocument.edit_grid.Goals as goal

pub returns-in-Set : goal.returns-in-Set
returns-in-Set c =
    let doc = c.args.self.now in
    subst (λ (op : CellOp). AnswersSubOperation (local_grid doc c.args.stage op) doc doc c.name_own_cell.result) (sym c.in-Set.is) (c.name_own_cell.ensures c.in-Set.value)
