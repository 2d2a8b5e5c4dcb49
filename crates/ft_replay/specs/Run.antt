-- What a run does: which bytes the source gave, which bytes the sink took, and what its end says of both.
use Rattle.std.specs.Prelude.{◌≡◌, ◌⊎◌, ℕ, ◌+◌, ◌≤◌, List, length, Option, Result, Ok, Err}
use Rattle.std.specs.Io.KnownBytes.{Appends, Consumes, IsAtEnd}
use Rattle.ft_io.specs.Lines.{lines}
use Rattle.ft_io.specs.Reader.{input_limit}
use Rattle.ft_seqr.specs.Walk.{Progress}
use Rattle.ft_replay.specs.declared.endings.Ending.{Ending}
use Rattle.ft_replay.specs.declared.endings.Fault.{Fault}
use Rattle.ft_replay.specs.declared.endings.Fault.TheVariants.{Read, Write, OutOfMemory, InputLimit}
use Rattle.ft_replay.specs.LineForm.{Account, LineForm, account_by, bytes_of, form_after, form_lines}
use Rattle.ft_replay.specs.Writing.{Begins}

-- The bytes that moved in a call: the source, which had first and has left, gave some, and the sink, which held these and holds
-- those, took some, where they tell their bytes; and what is said of both.
pub record Moves (first left held holds : Option (List ℕ)) (Said : List ℕ → List ℕ → Type 0) : Type 0 where
  pub given : List ℕ
  pub gives : Consumes first left given
  pub written : List ℕ
  pub takes : Appends held holds written
  pub says : Said given written

-- the input was read to its end, and its whole report written
pub record IsWholeRun (account : Account) (AtEnd : Type 0) (ending : Ending) (given written : List ℕ) : Type 0 where
  pub at_end : AtEnd
  pub within : length given ≤ input_limit
  pub report : written ≡ account.report given
  pub ends : ending ≡ account.ending given

-- the bytes written are the first of the report of the bytes given, or of what their ended lines write
abbrev pub IsPart : Account → List ℕ → List ℕ → Type 0
IsPart account given written = Begins written (account.report given) ⊎ Begins written (account.opened given)

-- What the end of a run says of the bytes given and written, by what the command comes to, and what it is that the input is at its end. A
-- fault of the source or the sink comes only where its count rose.
abbrev pub Says : Account → Type 0 → Type 0 → Type 0 → Result Ending Fault → List ℕ → List ℕ → Type 0
Says account AtEnd source_rose sink_rose (Ok ending) given written = IsWholeRun account AtEnd ending given written
Says account AtEnd source_rose sink_rose (Err Read) given written =
    source_rose × (length given ≤ input_limit) × (written ≡ account.opened given)
Says account AtEnd source_rose sink_rose (Err Write) given written = sink_rose × IsPart account given written
Says account AtEnd source_rose sink_rose (Err OutOfMemory) given written = IsPart account given written
Says account AtEnd source_rose sink_rose (Err InputLimit) given written = (length given ≡ input_limit + 1) × (written ≡ account.opened given)

-- all lines were read, what they write was written, and this holds of how far the command is
pub record AllRead {S : Type 0} (form : LineForm S) (IsAfter : Progress S → Type 0) (left : Option (List ℕ)) (given written : List ℕ)
    : Type 0 where
  pub at_end : IsAtEnd left
  pub within : length given ≤ input_limit
  pub after : IsAfter (form_after form (lines given))
  pub report : written ≡ bytes_of (form_lines form (lines given))

-- what is said of the bytes given and written where the lines of a command are read, and an answer is given of which this holds
abbrev pub SaysOfLines : {S T : Type 0} → LineForm S → (T → Progress S → Type 0) → Option (List ℕ) → Type 0 → Type 0 → Result T Fault
    → List ℕ → List ℕ → Type 0
SaysOfLines form IsAfter left source_rose sink_rose (Ok a) given written = AllRead form (IsAfter a) left given written
SaysOfLines form IsAfter left source_rose sink_rose (Err fault) given written =
    Says (account_by form) (IsAtEnd left) source_rose sink_rose (Err fault) given written
