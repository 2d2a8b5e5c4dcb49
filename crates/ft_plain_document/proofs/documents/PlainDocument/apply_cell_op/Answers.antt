use Rattle.std.proofs.Common.{◌∙◌, ap, sym}
use Rattle.std.proofs.lemmas.Result.{on_ok_weaker}
use Rattle.ft_op.specs.Document.{grid_effect}
use Rattle.ft_plain_document.proofs.documents.PlainDocument.apply_cell_op.Goals as goal

pub returns-in-Set : goal.returns-in-Set
returns-in-Set c =
    on_ok_weaker c.set_cell.result (λ made. made ∙ ap (grid_effect c.args.self.now c.args.seq c.args.at.c c.args.at.r) (sym c.in-Set.is)) (c.set_cell.ensures c.args.seq)
