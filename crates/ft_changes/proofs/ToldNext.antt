-- What is told of the sub-operations of an edit: of the first one, and then of the others.
use Rattle.std.proofs.Common.{◌≡◌, ℕ, ◌+◌, List, [], ◌∷◌, ◌++◌, Result, Ok, Err, ap}
use Rattle.ft_msg.specs.declared.faults.EditFault.{EditFault}
use Rattle.ft_msg.specs.Client.{local_sub_operation}
use Rattle.ft_op.specs.Document.{Document}
use Rattle.ft_op.specs.Intervals.{NamedElements}
use Rattle.ft_op.specs.Operation.{SubOperation}
use Rattle.ft_op.specs.Stages.{Stage}
use Rattle.ft_changes.specs.declared.changes.ViewChange.{ViewChange}
use Rattle.ft_changes.specs.Told.{told_local, told_locals}

-- the first one is taken
pub told-next : (doc later : Document) (stages : List Stage) (k : ℕ) (o : SubOperation) (os : List SubOperation) (names : NamedElements)
    → local_sub_operation doc stages k o ≡ Ok (later, names)
    → told_locals doc stages k (o ∷ os)
    ≡ told_local k doc o ++ told_locals later (stages ++ (record { stage = k; sub_operation = o; names = names } ∷ [])) (k + 1) os
told-next doc later stages k o os names h = ap rest h
  where
    rest : Result (Document × NamedElements) EditFault → List ViewChange
    rest r = elim r as (λ _. List ViewChange) [
      | Err fault ↦ []
      | Ok taken ↦
          let here : Stage = record { stage = k; sub_operation = o; names = taken.1 } in
          told_local k doc o ++ told_locals taken.0 (stages ++ (here ∷ [])) (k + 1) os
    ]
