use Rattle.std.proofs.Common.{◌≡◌, ap, map, subst, sym}
use Rattle.std.proofs.lemmas.Result.{IfOk-at_ok}
use Rattle.std.specs.Prelude.{OnOk}
use Rattle.ft_msg.specs.Client.{local_sub_operations}
use Rattle.ft_plain_document.specs.OwnEdits.{AnswersSteps}
use Rattle.ft_plain_document.specs.SubOperations.{sub_operation_of}
use Rattle.ft_plain_document.proofs.OwnAnswers.{copy-answered, copy-left}
use Rattle.ft_plain_document.proofs.documents.PlainDocument.edit_copy.Goals as goal

pub returns-clause-answers : goal.returns-clause-answers
returns-clause-answers c =
    let old = c.args.self.now in
    let pending = c.args.pending.now in
    let made = c.edit_all-stages.result in
    let copy = c.edit_all-stages.new.self in
    let new = c.fill_with.new.place in
    let same = c.fill_with.ensures.same in
    let equal = IfOk-at_ok (λ d. d ≡ old) c.in_ok-copy.ensures.made c.copy.ensures in
    let filled = subst (λ r. OnOk r (new ≡ copy)) same c.fill_with.ensures.ok in
    let by_copy = subst (λ d. AnswersSteps (local_sub_operations d pending c.args.first (map sub_operation_of c.in_ok-copy.ops.items)) copy made)
    equal
    c.edit_all-stages.ensures.answers in
    let by_ops = subst (λ ops. AnswersSteps (local_sub_operations old pending c.args.first (map sub_operation_of ops)) copy made)
    (ap (λ ops. ops.items) c.in_ok-copy.ensures.value) by_copy in
    let steps = local_sub_operations old pending c.args.first (map sub_operation_of c.args.ops.items) in
    subst (λ r. AnswersSteps steps new r) (sym same) (copy-answered steps copy new made by_ops filled)

pub returns-clause-refused : goal.returns-clause-refused
returns-clause-refused c =
    let old = c.args.self.now in
    copy-left old c.fill_with.new.place c.fill_with.result c.fill_with.ensures.err
