use Rattle.std.proofs.Common.{ℕ, [], ◌∷◌, ◌++◌, ◌∙◌, ap, subst}
use Rattle.ft_op.specs.Intervals.{NamedElements}
use Rattle.ft_op.specs.Stages.{Stage}
use Rattle.ft_msg.specs.Client.{local_sub_operation}
use Rattle.ft_plain_document.specs.declared.stages.SubOp.{SubOp}
use Rattle.ft_plain_document.specs.OwnEdits.{AnswersSubOperation}
use Rattle.ft_plain_document.specs.SubOperations.{sub_operation_of}
use Rattle.ft_plain_document.proofs.documents.PlainDocument.take_one.Goals as goal

-- the stage of a sub-operation
abbrev staged : ℕ → NamedElements → SubOp → Stage
staged k names op = record { stage = k; sub_operation = sub_operation_of op; names = names }

pub returns-clause-taken : goal.returns-clause-taken
returns-clause-taken c =
    let old = c.args.self.now in
    let new = c.edit_one-names.new.self in
    let before = c.args.stages.now in
    let k = c.args.stage in
    let names = c.in_ok-names.names in
    let sub = sub_operation_of c.args.op in
    let made = c.in_ok-names.ensures.made in
    let named = subst (λ xs. AnswersSubOperation (local_sub_operation old (c.args.pending.now ++ xs) k sub) old new c.edit_one-names.result)
    c.as_slice.ensures c.edit_one-names.ensures in
    record {
      names = names;
      takes = subst (λ r. AnswersSubOperation (local_sub_operation old (c.args.pending.now ++ before) k sub) old new r) made named;
      adds = c.in_ok-push.ensures.ok ∙ ap (λ (t : Stage). before ++ (t ∷ [])) (c.new.ensures ∙ ap (staged k names) c.in_ok-names.ensures.value);
    }
