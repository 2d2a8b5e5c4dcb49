-- A client that stops at the first OutOfMemory, and tells its numbers from before.
use Rattle.std.specs.Prelude.{◌≡◌, ℕ, max, Option, Some, None, option_map, Result, Ok, Err}
use Rattle.ft_msg.specs.declared.faults.ProcessFault.{ProcessFault}
use Rattle.ft_msg.specs.declared.messages.Entry.{Entry}
use Rattle.ft_msg.specs.Answers.{FaultKind, WantOfMemory, StoppedBefore, Refusal, process_fault_kind, view_fault_kind}
use Rattle.ft_msg.specs.declared.faults.ViewFault.{ViewFault}
use Rattle.ft_msg.specs.Client.{NaiveClient}
use Rattle.ft_msg.specs.Process.{process}
use Rattle.ft_replica.specs.declared.document.OwnNumbers.{OwnNumbers}
use Rattle.ft_replica.specs.Linked.{KeepsLink, LinkedState, Refuses, Takes, TakesCompaction, TakesEntry}
use Rattle.ft_replica.specs.Own.{HeldDocument, ShownDocument, numbers_in}

-- the client, the greatest number of a connection in what it processed, and the numbers with which it stopped, if it did
pub record StoppingState (D : Type 0) : Type 0 where
  pub client : LinkedState D
  pub origin : ℕ
  pub stop : Option OwnNumbers

-- the numbers that it tells: those with which it stopped, or else those of its document
abbrev pub told_numbers : {D : Type 0} → (D → ShownDocument) → StoppingState D → OwnNumbers
told_numbers shown s = elim s.stop [ Some numbers ↦ numbers | None ↦ numbers_in (shown s.client.document) ]

-- the number at which it stopped, if it did
abbrev pub stop_number : Option OwnNumbers → Option ℕ
stop_number stop = option_map (λ numbers. numbers.number) stop

-- what an error means: it stops with its numbers from before; or it had stopped, and nothing changed; or it refuses
abbrev pub AnswersOwnFault : {D : Type 0} → (D → ShownDocument) → StoppingState D → StoppingState D → Type 0 → FaultKind → Type 0
AnswersOwnFault shown old new refused WantOfMemory =
    (old.stop ≡ None) × (new.stop ≡ Some (numbers_in (shown old.client.document))) × (new.origin ≡ old.origin) × KeepsLink old.client new.client
AnswersOwnFault shown old new refused (StoppedBefore seq) = (stop_number old.stop ≡ Some seq) × (new ≡ old)
AnswersOwnFault shown old new refused Refusal = (old.stop ≡ None) × (new.stop ≡ None) × (new.origin ≡ old.origin) × refused

-- it goes on, and saw a message of that sender, or none where it is 0
abbrev pub GoesOnOwn : {D : Type 0} → ℕ → StoppingState D → StoppingState D → Type 0 → Type 0
GoesOnOwn sender old new takes = (old.stop ≡ None) × (new.stop ≡ None) × (new.origin ≡ max old.origin sender) × takes

-- the answer to a step of its client that has no message
abbrev pub AnswersOwn : {D E : Type 0} → (D → HeldDocument → Type 0) → (D → ShownDocument) → (E → FaultKind) → (NaiveClient → Result NaiveClient E) → StoppingState D → StoppingState D → Result (Unit {0}) E → Type 0
AnswersOwn holds shown kind step old new (Ok _) = GoesOnOwn 0 old new (Takes holds step old.client new.client)
AnswersOwn holds shown kind step old new (Err fault) = AnswersOwnFault shown old new (Refuses holds step fault old.client new.client) (kind fault)

-- the answer to an entry
abbrev pub AnswersEntry : {D : Type 0} → (D → HeldDocument → Type 0) → (D → ShownDocument) → Entry → StoppingState D → StoppingState D → Result (Unit {0}) ProcessFault → Type 0
AnswersEntry holds shown entry old new (Ok _) = GoesOnOwn entry.origin old new (TakesEntry holds entry old.client new.client)
AnswersEntry holds shown entry old new (Err fault) = AnswersOwnFault shown old new (Refuses holds (λ p. process p entry) fault old.client new.client) (process_fault_kind fault)

-- the answer to a compaction, which is never refused
abbrev pub AnswersOwnCompaction : {D : Type 0} → (D → HeldDocument → Type 0) → (D → ShownDocument) → StoppingState D → StoppingState D → Result (Unit {0}) ViewFault → Type 0
AnswersOwnCompaction holds shown old new (Ok _) = GoesOnOwn 0 old new (TakesCompaction holds old.client new.client)
AnswersOwnCompaction holds shown old new (Err fault) = AnswersOwnFault shown old new ⊥ (view_fault_kind fault)
