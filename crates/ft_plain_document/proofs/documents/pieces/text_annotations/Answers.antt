use Rattle.std.proofs.Common.{◌≡◌, ℕ, ◌∙◌, ap, map}
use Rattle.std.proofs.lemmas.Result.{IfOk-weaker}
use Rattle.ft_op.specs.declared.operations.BaseOp.TheVariants.{Annotate}
use Rattle.ft_props.specs.Steps.{is_annotated_by, marked_runs}
use Rattle.ft_op.specs.Operation.{OnText, SubOperation}
use Rattle.ft_plain_document.specs.SubOperations.{sub_operation_of}
use Rattle.ft_plain_document.proofs.documents.pieces.text_annotations.Goals as goal

pub returns : goal.returns
returns c =
    let f : ℕ × ℕ → SubOperation = λ r. OnText (Annotate r.0 r.1 c.args.changes.now) in
    IfOk-weaker c.annotations_of.result (λ v. map sub_operation_of v.items ≡ map f c.as_slice.result.now)
    (λ v. map sub_operation_of v.items ≡ map f (marked_runs c.args.stage (is_annotated_by c.args.stage) c.args.items.now))
    (λ v e. e ∙ ap (map f) (c.as_slice.ensures.value ∙ c.in_ok-runs.ensures)) c.annotations_of.ensures
