use Rattle.std.proofs.Common.{map}
use Rattle.ft_msg.specs.Client.{local_sub_operations}
use Rattle.ft_plain_document.specs.SubOperations.{sub_operation_of}
use Rattle.ft_plain_document.proofs.OwnAnswers.{refusal-left, stages-answered}
use Rattle.ft_plain_document.proofs.documents.PlainDocument.edit_all.Goals as goal

pub returns-clause-answers : goal.returns-clause-answers
returns-clause-answers c =
    let steps = local_sub_operations c.args.self.now c.args.pending.now c.args.first (map sub_operation_of c.args.ops.items) in
    let done = c.take_all-done in
    stages-answered steps done.new.self done.new.stages done.result c.after.result done.ensures.taken done.ensures.answers
    c.after.ensures.done c.after.ensures.value c.after.ensures.err

pub returns-clause-refused : goal.returns-clause-refused
returns-clause-refused c few =
    let done = c.take_all-done in
    refusal-left c.args.self.now done.new.self done.result c.after.result (done.ensures.refused few) c.after.ensures.err
