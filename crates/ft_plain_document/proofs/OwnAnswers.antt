-- What is answered to an edit of the client's own, as it is handed on.
use Rattle.std.proofs.Common.{◌≡◌, List, Result, Ok, Err, sym, ◌∙◌, ap}
use Rattle.std.proofs.lemmas.Result.{IfErr-at_err, IfOk-at_ok}
use Rattle.std.specs.Prelude.{IfErr, IfOk, OnErr, OnOk}
use Rattle.ft_op.specs.Document.{Document}
use Rattle.ft_op.specs.Stages.{Stage}
use Rattle.ft_plain_document.specs.declared.documents.own_edits.NotTaken.{NotTaken}
use Rattle.ft_plain_document.specs.declared.documents.own_edits.NotTaken.TheVariants.{OutOfMemory, Refused}
use Rattle.ft_plain_document.specs.OwnEdits.{AnswersSteps, LeavesRefused, StepsResult}

-- the stages are handed on where all sub-operations were taken
pub stages-answered : {U : Type 0} (steps : StepsResult) (new : Document) (stages : List Stage) (done : Result U NotTaken)
    (r : Result (List Stage) NotTaken) → OnOk done (steps ≡ Ok (new, stages)) → IfErr done (λ why. AnswersSteps steps new (Err why))
    → OnOk r ((u : U) × (done ≡ Ok u)) → IfOk r (λ given. given ≡ stages) → IfErr r (λ why. done ≡ Err why) → AnswersSteps steps new r
stages-answered steps new stages done (Ok given) taken refused is_done same failed =
    IfOk-at_ok (λ _. steps ≡ Ok (new, stages)) is_done.1 taken ∙ ap (λ s. Ok (new, s)) (sym same)
stages-answered steps new stages done (Err why) taken refused is_done same failed = IfErr-at_err (λ w. AnswersSteps steps new (Err w)) failed refused

-- a refusal among them is handed on
pub refusal-left : {U : Type 0} (old new : Document) (done : Result U NotTaken) (r : Result (List Stage) NotTaken)
    → IfErr done (λ why. LeavesRefused old new (Err why)) → IfErr r (λ why. done ≡ Err why) → LeavesRefused old new r
refusal-left old new done (Ok stages) left failed = tt
refusal-left old new done (Err why) left failed = IfErr-at_err (λ w. LeavesRefused old new (Err w)) failed left

-- what a copy answers is answered by what takes its place
pub copy-answered : (steps : StepsResult) (copy new : Document) (made : Result (List Stage) NotTaken) → AnswersSteps steps copy made
    → OnOk made (new ≡ copy) → AnswersSteps steps new made
copy-answered steps copy new (Ok stages) answers filled = answers ∙ ap (λ d. Ok (d, stages)) (sym filled)
copy-answered steps copy new (Err OutOfMemory) answers filled = tt
copy-answered steps copy new (Err (Refused fault)) answers filled = answers

pub copy-left : (old new : Document) (made : Result (List Stage) NotTaken) → OnErr made (new ≡ old) → LeavesRefused old new made
copy-left old new (Ok stages) left = tt
copy-left old new (Err OutOfMemory) left = tt
copy-left old new (Err (Refused fault)) left = left
