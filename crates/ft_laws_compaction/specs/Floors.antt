-- The reference numbers of a client's pending edits, and the floor, below which no perspective comes any more.
use Rattle.std.specs.Prelude.{◌≡◌, ◌≤◌, ℕ, true, List, [], ◌∷◌, Some, None, map, min}
use Rattle.std.specs.List.{list_all}
use Rattle.ft_msg.specs.declared.messages.Entry.{Entry}
use Rattle.ft_op.specs.Document.{Document}
use Rattle.ft_msg.specs.Agreed.{reference_number}
use Rattle.ft_msg.specs.Client.{NaiveClient, PendingEdit, floor}
use Rattle.ft_msg.specs.ClientSteps.{ClientStep, after_step, has_fitting_body, taken_entries}
use Rattle.ft_msg.specs.Process.{is_op_kind, process_fault}
use Rattle.ft_laws_agreement.specs.Sequencing.{Each}
use Rattle.ft_laws_compaction.specs.Keeping.{CompactingSteps, IsMadeOrKept}

-- ---- reference numbers

-- the reference numbers of edits in order
abbrev pub references : List PendingEdit → List ℕ
references edits = map (λ e. e.ref_seq) edits

-- each number is at most those behind it
abbrev pub AreRising : List ℕ → Type 0
AreRising [] = Unit {0}
AreRising (m ∷ ms) = Each (λ n. m ≤ n) ms × AreRising ms

-- those of the pending edits rise, up to at most the client's number
pub record HasRisingReferences (x : NaiveClient) : Type 0 where
  pub rise : AreRising (references x.pending)
  pub last : Each (λ n. n ≤ x.doc.number) (references x.pending)

-- so it is in each client that steps made or that keeps one
abbrev pub ReferencesRise : Type 0
ReferencesRise = (start : Document) (kept : NaiveClient) → IsMadeOrKept start kept → HasRisingReferences kept

-- the lesser of a number and the reference number of the oldest edit, if there is one
abbrev pub least_with_oldest : ℕ → List PendingEdit → ℕ
least_with_oldest n [] = n
least_with_oldest n (e ∷ edits) = min n e.ref_seq

-- so the floor looks at the oldest edit alone
abbrev pub OldestHasLeast : Type 0
OldestHasLeast = (start : Document) (kept : NaiveClient) → IsMadeOrKept start kept → floor kept ≡ least_with_oldest kept.doc.minimum kept.pending

-- ---- the floor

-- the floor doesn't fall at a step
abbrev pub FloorStays : Type 0
FloorStays =
    (start : Document) (kept after : NaiveClient) (step : ClientStep) → IsMadeOrKept start kept → after_step kept step ≡ Some after → list_all has_fitting_body (taken_entries (step ∷ [])) ≡ true → floor kept ≤ floor after

-- nor at any number of steps and compactions
abbrev pub FloorNeverFalls : Type 0
FloorNeverFalls =
    (start : Document) (kept after : NaiveClient) (steps : List ClientStep) → IsMadeOrKept start kept → CompactingSteps kept steps after → list_all has_fitting_body (taken_entries steps) ≡ true → floor kept ≤ floor after

-- each operation that the client takes then has a reference number at or above the floor
abbrev pub EntriesAreAboveFloor : Type 0
EntriesAreAboveFloor =
    (start : Document) (kept after : NaiveClient) (steps : List ClientStep) (entry : Entry) → IsMadeOrKept start kept → CompactingSteps kept steps after
    → list_all has_fitting_body (taken_entries steps) ≡ true → process_fault after entry ≡ None → is_op_kind entry.msg.kind ≡ true → floor kept ≤ reference_number entry.msg.ref_seq
