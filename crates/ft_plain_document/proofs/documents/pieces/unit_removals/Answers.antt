use Rattle.std.proofs.Common.{◌≡◌, ℕ, ◌∙◌, ap, map}
use Rattle.std.proofs.lemmas.Result.{IfOk-weaker}
use Rattle.ft_op.specs.declared.operations.CellOp.TheVariants.{SpliceOut}
use Rattle.ft_props.specs.Steps.{is_removed_by, lowered_runs, marked_runs}
use Rattle.ft_op.specs.Operation.{OnGrid, SubOperation}
use Rattle.ft_plain_document.specs.SubOperations.{sub_operation_of}
use Rattle.ft_plain_document.proofs.documents.pieces.unit_removals.Goals as goal

pub returns : goal.returns
returns c =
    let f : ℕ × ℕ → SubOperation = λ r. OnGrid (SpliceOut c.args.target r.0 r.1) in
    let lowered = c.in_ok-lowered.ensures ∙ ap (lowered_runs 0) (c.as_slice.ensures.value ∙ c.in_ok-runs.ensures) in
    IfOk-weaker c.splices_of.result (λ v. map sub_operation_of v.items ≡ map f c.as_slice-2.result.now)
    (λ v. map sub_operation_of v.items ≡ map f (lowered_runs 0 (marked_runs c.args.stage (is_removed_by c.args.stage) c.args.items.now)))
    (λ v e. e ∙ ap (map f) (c.as_slice-2.ensures.value ∙ lowered)) c.splices_of.ensures
