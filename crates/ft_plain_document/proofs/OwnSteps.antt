-- What the sub-operations of an edit make, after one of them.
use Rattle.std.proofs.Common.{◌≡◌, ℕ, ◌+◌, List, [], ◌∷◌, ◌++◌, Ok, Err, refl, ap, sym, ◌∙◌, append_assoc}
use Rattle.ft_op.specs.Document.{Document}
use Rattle.ft_op.specs.Intervals.{NamedElements}
use Rattle.ft_op.specs.Operation.{SubOperation}
use Rattle.ft_op.specs.Stages.{Stage}
use Rattle.ft_msg.specs.Client.{local_sub_operation, local_sub_operations}
use Rattle.ft_changes.specs.Told.{told_local, told_locals}
use Rattle.ft_plain_document.specs.OwnEdits.{StepsResult, with_stages}

-- a stage that stands at the end of those before, or first of those that the steps make
with_first : (before : List Stage) (here : Stage) (steps : StepsResult)
    → with_stages before (elim steps [ Err fault ↦ Err fault | Ok rest ↦ Ok (rest.0, here ∷ rest.1) ]) ≡ with_stages (before ++ (here ∷ [])) steps
with_first before here (Ok rest) = ap (λ stages. Ok (rest.0, stages)) (sym (append_assoc before (here ∷ []) rest.1))
with_first before here (Err fault) = refl

-- the first sub-operation is taken
pub first_taken : (doc : Document) (pending before : List Stage) (k : ℕ) (sub : SubOperation) (rest : List SubOperation) (taken : Document × NamedElements)
    → local_sub_operation doc (pending ++ before) k sub ≡ Ok taken
    → let here : Stage = record { stage = k; sub_operation = sub; names = taken.1 } in
    with_stages before (local_sub_operations doc (pending ++ before) k (sub ∷ rest))
    ≡ with_stages (before ++ (here ∷ [])) (local_sub_operations taken.0 (pending ++ (before ++ (here ∷ []))) (k + 1) rest)
first_taken doc pending before k sub rest taken takes =
    let here : Stage = record { stage = k; sub_operation = sub; names = taken.1 } in
    rw (takes, with_stages) (with_first before here (local_sub_operations taken.0 ((pending ++ before) ++ (here ∷ [])) (k + 1) rest)
    ∙ ap (λ stages. with_stages (before ++ (here ∷ [])) (local_sub_operations taken.0 stages (k + 1) rest)) (append_assoc pending before (here ∷ [])))

-- what is told of it, and then of the others
pub first_told : (doc : Document) (pending before : List Stage) (k : ℕ) (sub : SubOperation) (rest : List SubOperation) (taken : Document × NamedElements)
    → local_sub_operation doc (pending ++ before) k sub ≡ Ok taken
    → let here : Stage = record { stage = k; sub_operation = sub; names = taken.1 } in
    told_locals doc (pending ++ before) k (sub ∷ rest) ≡ told_local k doc sub ++ told_locals taken.0 (pending ++ (before ++ (here ∷ []))) (k + 1) rest
first_told doc pending before k sub rest taken takes =
    let here : Stage = record { stage = k; sub_operation = sub; names = taken.1 } in
    rw (takes, told_locals) (ap (λ stages. told_local k doc sub ++ told_locals taken.0 stages (k + 1) rest) (append_assoc pending before (here ∷ [])))
