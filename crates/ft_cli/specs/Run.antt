-- What a status says of a run.
use Rattle.std.specs.Prelude.{◌≡◌, ◌≢◌, ℕ, ◌≤◌, Bool, true, false, ⊤, List, [], length, Option, Some, None, Ok, Err}
use Rattle.std.specs.Io.KnownBytes.{IsAtEnd}
use Rattle.ft_io.specs.Reader.{input_limit}
use Rattle.ft_replay.specs.declared.endings.Ending.TheVariants as ending
use Rattle.ft_replay.specs.declared.endings.Fault.TheVariants as fault
use Rattle.ft_replay.specs.LineForm.{Account}
use Rattle.ft_replay.specs.Run.{Says}
use Rattle.ft_cli.specs.declared.statuses.Status.{Status}
use Rattle.ft_cli.specs.declared.statuses.Status.TheVariants.{Done, SomeRefused, Usage, ReadFault, WriteFault, OutOfMemory, InputLimit}
use Rattle.ft_cli.specs.declared.words.Form.{Form}
use Rattle.ft_cli.specs.Report.{account_of}
use Rattle.ft_cli.specs.Words.{form_of, reads_input}

-- What a status says of the bytes given and written: what is said by the end of the run whose status it is.
abbrev pub SaysByStatus : Account → Type 0 → Type 0 → Type 0 → Status → List ℕ → List ℕ → Type 0
SaysByStatus account AtEnd source_rose sink_rose Usage given written = ⊥
SaysByStatus account AtEnd source_rose sink_rose Done given written = Says account AtEnd source_rose sink_rose (Ok ending.Done) given written
SaysByStatus account AtEnd source_rose sink_rose SomeRefused given written = Says account AtEnd source_rose sink_rose (Ok ending.SomeRefused) given written
SaysByStatus account AtEnd source_rose sink_rose ReadFault given written = Says account AtEnd source_rose sink_rose (Err fault.Read) given written
SaysByStatus account AtEnd source_rose sink_rose WriteFault given written = Says account AtEnd source_rose sink_rose (Err fault.Write) given written
SaysByStatus account AtEnd source_rose sink_rose OutOfMemory given written = Says account AtEnd source_rose sink_rose (Err fault.OutOfMemory) given written
SaysByStatus account AtEnd source_rose sink_rose InputLimit given written = Says account AtEnd source_rose sink_rose (Err fault.InputLimit) given written

-- the same of a command that reads its input, or of one that reads nothing, for which the input counts as read to its end
abbrev pub SaysOfForm : Bool → Account → Option (List ℕ) → Type 0 → Type 0 → Status → List ℕ → List ℕ → Type 0
SaysOfForm true account left source_rose sink_rose status given written = SaysByStatus account (IsAtEnd left) source_rose sink_rose status given written
SaysOfForm false account left source_rose sink_rose status given written = (given ≡ []) × SaysByStatus account ⊤ ⊥ sink_rose status given written

-- the same, where the arguments may be of no command: then nothing is read or written
abbrev pub SaysForWords : Option Form → Option (List ℕ) → Type 0 → Type 0 → Status → List ℕ → List ℕ → Type 0
SaysForWords None left source_rose sink_rose status given written = (status ≡ Usage) × (given ≡ []) × (written ≡ [])
SaysForWords (Some form) left source_rose sink_rose status given written =
    SaysOfForm (reads_input form) (account_of form) left source_rose sink_rose status given written

-- a status behind a whole report
abbrev pub EndsWhole : Status → Type 0
EndsWhole Done = Unit {0}
EndsWhole SomeRefused = Unit {0}
EndsWhole _ = ⊥

-- a status behind a whole report, or OutOfMemory
abbrev pub EndsWholeOrWanting : Status → Type 0
EndsWholeOrWanting OutOfMemory = Unit {0}
EndsWholeOrWanting status = EndsWhole status

-- Nothing outside stops a run over this input: the arguments are of a command, the input is within its limit, and neither the source nor
-- the sink fails.
pub record IsUndisturbed (words : List (List ℕ)) (input : List ℕ) (source_rose sink_rose : Type 0) : Type 0 where
  pub form : form_of words ≢ None
  pub within : length input ≤ input_limit
  pub source : ¬ source_rose
  pub sink : ¬ sink_rose
