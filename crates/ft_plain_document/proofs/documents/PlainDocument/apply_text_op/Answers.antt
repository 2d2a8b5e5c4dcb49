use Rattle.std.proofs.Common.{◌∙◌, ap, sym}
use Rattle.std.proofs.lemmas.Result.{on_ok_weaker}
use Rattle.ft_op.specs.Document.{text_effect}
use Rattle.ft_plain_document.proofs.documents.PlainDocument.apply_text_op.Goals as goal

pub returns-in-Annotate : goal.returns-in-Annotate
returns-in-Annotate c =
    on_ok_weaker c.annotate_text.result (λ made. made ∙ ap (text_effect c.args.self.now c.args.seq c.args.at.c c.args.at.r) (sym c.in-Annotate.is))
    (c.annotate_text.ensures c.args.seq)
