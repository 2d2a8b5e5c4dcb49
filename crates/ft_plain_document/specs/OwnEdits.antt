-- What a document answers to the client's own sub-operations. Of the document after OutOfMemory the answers say nothing.
use Rattle.std.specs.Prelude.{◌≡◌, ⊤, ℕ, List, [], ◌∷◌, ◌++◌, Result, Ok, Err, codes}
use Rattle.ft_msg.specs.declared.faults.EditFault.{EditFault}
use Rattle.ft_op.specs.Document.{Document}
use Rattle.ft_op.specs.Intervals.{NamedElements}
use Rattle.ft_op.specs.Operation.{SubOperation}
use Rattle.ft_op.specs.Stages.{Stage}
use Rattle.ft_msg.specs.Client.{EditResult}
use Rattle.ft_msg.specs.FaultTexts.{edit_fault_text}
use Rattle.ft_plain_document.specs.declared.documents.own_edits.NotTaken.{NotTaken}
use Rattle.ft_plain_document.specs.declared.documents.own_edits.NotTaken.TheVariants.{OutOfMemory, Refused}

-- what is written of a sub-operation that isn't taken: as which edit it is refused
abbrev pub not_taken_text : NotTaken → List ℕ
not_taken_text OutOfMemory = codes "OutOfMemory"
not_taken_text (Refused fault) = edit_fault_text fault

-- the answer to a sub-operation: the elements that it names, where the step makes the new document; or the step's refusal, and then
-- nothing changed
abbrev pub AnswersSubOperation : EditResult → Document → Document → Result NamedElements NotTaken → Type 0
AnswersSubOperation step old new (Ok names) = step ≡ Ok (new, names)
AnswersSubOperation step old new (Err OutOfMemory) = ⊤
AnswersSubOperation step old new (Err (Refused fault)) = (new ≡ old) × (step ≡ Err fault)

-- a sub-operation is taken: the step makes the new document and names elements, and its stage stands behind those before
pub record TakesStage (step : EditResult) (k : ℕ) (sub : SubOperation) (new : Document) (before after : List Stage) : Type 0 where
  pub names : NamedElements
  pub takes : step ≡ Ok (new, names)
  pub adds : let here : Stage = record { stage = k; sub_operation = sub; names = names } in after ≡ before ++ (here ∷ [])

-- what the sub-operations of an edit make: a document with their stages, or the refusal of the first that can't be taken
abbrev pub StepsResult : Type 0
StepsResult = Result (Document × List Stage) EditFault

-- the answer to the sub-operations of an edit: their stages, where the steps make them and the new document; or the refusal
abbrev pub AnswersSteps : StepsResult → Document → Result (List Stage) NotTaken → Type 0
AnswersSteps steps new (Ok stages) = steps ≡ Ok (new, stages)
AnswersSteps steps new (Err OutOfMemory) = ⊤
AnswersSteps steps new (Err (Refused fault)) = steps ≡ Err fault

-- a refusal leaves the document as it was
abbrev pub LeavesRefused : Document → Document → Result (List Stage) NotTaken → Type 0
LeavesRefused old new (Err (Refused fault)) = new ≡ old
LeavesRefused old new _ = ⊤

-- what the steps make, with these stages before theirs
abbrev pub with_stages : List Stage → StepsResult → StepsResult
with_stages stages (Ok taken) = Ok (taken.0, stages ++ taken.1)
with_stages stages (Err fault) = Err fault
