use Rattle.std.proofs.Common.{◌∙◌, ap, sym}
use Rattle.std.proofs.lemmas.Result.{on_ok_weaker}
use Rattle.ft_op.specs.Operation.{text_sub_operations}
use Rattle.ft_op.specs.Document.{effects}
use Rattle.ft_plain_document.proofs.documents.PlainDocument.apply_to_text.Goals as goal

pub returns-in-IntervalDelete-clause-applied : goal.returns-in-IntervalDelete-clause-applied
returns-in-IntervalDelete-clause-applied c =
    on_ok_weaker c.delete_interval.result
    (λ made. made ∙ ap (λ op. effects c.args.self.now c.args.seq c.args.at.c c.args.at.r (text_sub_operations op)) (sym c.in-IntervalDelete.is))
    (c.delete_interval.ensures c.args.at.c c.args.at.r)
