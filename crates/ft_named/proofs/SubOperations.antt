-- What the definitions make of sub-operations of the client's own edit one after another: the first one, and then the rest.
use Rattle.std.proofs.Common.{◌≡◌, ℕ, ◌+◌, List, [], ◌∷◌, ◌++◌, Result, Ok, Err, ◌∙◌, ap}
use Rattle.ft_msg.specs.declared.faults.EditFault.{EditFault}
use Rattle.ft_msg.specs.Client.{local_sub_operation, local_sub_operations}
use Rattle.ft_op.specs.Document.{Document}
use Rattle.ft_op.specs.Intervals.{NamedElements}
use Rattle.ft_op.specs.Operation.{SubOperation}
use Rattle.ft_op.specs.Stages.{Stage}

-- the stage before the rest of the stages
abbrev with_here : Stage → Result (Document × List Stage) EditFault → Result (Document × List Stage) EditFault
with_here here r = elim r as (λ _. Result (Document × List Stage) EditFault) [ Err fault ↦ Err fault | Ok rest ↦ Ok (rest.0, here ∷ rest.1) ]

-- what the definitions make of sub-operations behind the first one
abbrev rest_of : List Stage → ℕ → SubOperation → List SubOperation → Result (Document × NamedElements) EditFault → Result (Document × List Stage) EditFault
rest_of stages k o os r = elim r as (λ _. Result (Document × List Stage) EditFault) [
  | Err fault ↦ Err fault
  | Ok taken ↦
      let here : Stage = record { stage = k; sub_operation = o; names = taken.1 } in
      with_here here (local_sub_operations taken.0 (stages ++ (here ∷ [])) (k + 1) os)
]

pub next-taken : (doc d after : Document) (stages more : List Stage) (k : ℕ) (o : SubOperation) (os : List SubOperation) (names : NamedElements)
    → local_sub_operation doc stages k o ≡ Ok (d, names)
    → local_sub_operations d (stages ++ (record { stage = k; sub_operation = o; names = names } ∷ [])) (k + 1) os ≡ Ok (after, more)
    → local_sub_operations doc stages k (o ∷ os) ≡ Ok (after, record { stage = k; sub_operation = o; names = names } ∷ more)
next-taken doc d after stages more k o os names h g =
    let here : Stage = record { stage = k; sub_operation = o; names = names } in ap (rest_of stages k o os) h ∙ ap (with_here here) g

pub next-refused : (doc d : Document) (stages : List Stage) (k : ℕ) (o : SubOperation) (os : List SubOperation) (names : NamedElements) (fault : EditFault)
    → local_sub_operation doc stages k o ≡ Ok (d, names)
    → local_sub_operations d (stages ++ (record { stage = k; sub_operation = o; names = names } ∷ [])) (k + 1) os ≡ Err fault
    → local_sub_operations doc stages k (o ∷ os) ≡ Err fault
next-refused doc d stages k o os names fault h g =
    let here : Stage = record { stage = k; sub_operation = o; names = names } in ap (rest_of stages k o os) h ∙ ap (with_here here) g

pub first-refused : (doc : Document) (stages : List Stage) (k : ℕ) (o : SubOperation) (os : List SubOperation) (fault : EditFault)
    → local_sub_operation doc stages k o ≡ Err fault → local_sub_operations doc stages k (o ∷ os) ≡ Err fault
first-refused doc stages k o os fault h = ap (rest_of stages k o os) h
