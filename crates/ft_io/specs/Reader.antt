-- A reader of lines: what it is seen as, what one call for the next line does, and where a run of such calls stands.
use Rattle.std.specs.Prelude.{◌≡◌, ◌⊎◌, ℕ, ◌+◌, ◌-◌, ◌<◌, ◌≤◌, Bool, true, false, nat_le, if◌then◌else◌, List, [], ◌∷◌, ◌++◌, length, All, Option, Some, None, Result, Ok, Err}
use Rattle.std.specs.List.{flat_map}
use Rattle.std.specs.Io.KnownBytes.{Consumes, IsAtEnd}
use Rattle.ft_io.specs.Lines.{lf, IsUnbroken, lines, with_lf}
use Rattle.ft_io.specs.Streams.{Rose}
use Rattle.ft_io.specs.declared.reader.Line.{Line}
use Rattle.ft_io.specs.declared.reader.Line.TheVariants.{Full, TooLong, End}
use Rattle.ft_io.specs.declared.reader.LineFault.{LineFault}
use Rattle.ft_io.specs.declared.reader.LineFault.TheVariants.{Read, InputLimit, OutOfMemory}

-- the greatest length of an input; a source that gives one more byte has given too many
abbrev pub input_limit : ℕ
input_limit = 16777216

-- A reader: the bytes given to it that wait to be handed out, how many were given in all, the greatest length of a line,
-- whether the source has said that it is at its end, and the fault with which the reader has stopped.
pub record Reader : Type 0 where
  pub pending : List ℕ
  pub given : ℕ
  pub limit : ℕ
  pub ended : Bool
  pub fault : Option LineFault

-- a reader to which nothing was given
abbrev pub new_reader : ℕ → Reader
new_reader limit = record { pending = []; given = 0; limit = limit; ended = false; fault = None }

-- the most bytes that further calls may hand out, each LF counted: a measure for a loop over the lines
abbrev pub to_come : Reader → ℕ
to_come reader = input_limit + 1 - reader.given + length reader.pending

-- a line as it is handed out: too long exactly where it has more bytes than the limit
abbrev pub handed_out : ℕ → List ℕ → Line
handed_out limit line = if nat_le (length line) limit then Full line else TooLong

-- of the bytes that wait the line is the first, its LF follows, and what follows that goes on waiting
pub record HasLf (waiting line : List ℕ) (new : Reader) : Type 0 where
  pub place : waiting ≡ line ++ lf ∷ new.pending
  pub goes_on : new.ended ≡ false

-- the line is all that waits, it has a byte, and the source is at its end
pub record EndsInput (waiting line : List ℕ) (left : Option (List ℕ)) (new : Reader) : Type 0 where
  pub place : waiting ≡ line
  pub some : 0 < length line
  pub nothing_waits : new.pending ≡ []
  pub ended : new.ended ≡ true
  pub at_end : IsAtEnd left
  pub within : new.given ≤ input_limit

-- the first line of what waits is handed out
pub record HandsOut (waiting : List ℕ) (left : Option (List ℕ)) (new : Reader) (answer : Line) : Type 0 where
  pub line : List ℕ
  pub unbroken : IsUnbroken line
  pub answers : answer ≡ handed_out new.limit line
  pub runs : new.fault ≡ None
  pub place : HasLf waiting line new ⊎ EndsInput waiting line left new

-- nothing waits, and the source is at its end, if the reader didn't know that already
pub record Ends (old : Reader) (waiting : List ℕ) (left : Option (List ℕ)) (new : Reader) : Type 0 where
  pub nothing_waits : waiting ≡ []
  pub ended : new.ended ≡ true
  pub runs : new.fault ≡ None
  pub at_end : old.ended ≡ false → IsAtEnd left × (new.given ≤ input_limit)

-- a line, or the end
abbrev pub AnswersLine : Reader → List ℕ → Option (List ℕ) → Reader → Line → Type 0
AnswersLine old waiting left new End = Ends old waiting left new
AnswersLine old waiting left new line = HandsOut waiting left new line

-- The reader stops with a fault: `Read` only where the source's count of faults rose, `InputLimit` only where the source gave a byte
-- too many, and both only where no line ends in what waits. OutOfMemory comes at any time.
abbrev pub Stops : Type 0 → List ℕ → Reader → LineFault → Type 0
Stops rose waiting new Read = (new.fault ≡ Some Read) × IsUnbroken waiting × rose × (new.given ≤ input_limit)
Stops rose waiting new InputLimit = (new.fault ≡ Some InputLimit) × IsUnbroken waiting × (new.given ≡ input_limit + 1)
Stops rose waiting new OutOfMemory = new.fault ≡ Some OutOfMemory

-- the answer to a call after which these bytes waited, those that waited before it and those that were given in it
abbrev pub AnswersNextLine : Reader → List ℕ → Option (List ℕ) → Type 0 → Reader → Result Line LineFault → Type 0
AnswersNextLine old waiting left rose new (Ok line) = AnswersLine old waiting left new line
AnswersNextLine old waiting left rose new (Err fault) = Stops rose waiting new fault

-- What one call of a reader that has not stopped does: the source gave some bytes in it, and the answer is that to those
-- that waited and these. After the end nothing is given, and the answer is the end.
pub record Call (old new : Reader) (first left : Option (List ℕ)) (before now : ℕ) (answer : Result Line LineFault) : Type 0 where
  pub got : List ℕ
  pub gives : Consumes first left got
  pub given : new.given ≡ old.given + length got
  pub limit : new.limit ≡ old.limit
  pub within : new.given ≤ input_limit + 1
  pub later : before ≤ now
  pub after_end : old.ended ≡ true → (answer ≡ Ok End) × (got ≡ []) × (left ≡ first)
  pub answers : AnswersNextLine old (old.pending ++ got) left (Rose before now) new answer

-- the bytes given are the lines handed out, each with its LF, and those that wait
pub record IsSplit (given : List ℕ) (handed : List (List ℕ)) (pending : List ℕ) : Type 0 where
  pub place : given ≡ flat_map with_lf handed ++ pending
  pub unbroken : All IsUnbroken handed

-- the lines handed out are those of the whole input
pub record AreWholeLines (given : List ℕ) (handed : List (List ℕ)) (left : Option (List ℕ)) : Type 0 where
  pub lines : lines given ≡ handed
  pub at_end : IsAtEnd left
  pub within : length given ≤ input_limit

-- Where a run of calls stands that no fault has ended: since a new reader began, when the source had the bytes of first left,
-- it gave these bytes, and these lines of them were handed out.
pub record Reading (first left : Option (List ℕ)) (reader : Reader) (given : List ℕ) (handed : List (List ℕ)) : Type 0 where
  pub gives : Consumes first left given
  pub count : reader.given ≡ length given
  pub runs : reader.fault ≡ None
  pub goes_on : reader.ended ≡ false → IsSplit given handed reader.pending
  pub ended : reader.ended ≡ true → AreWholeLines given handed left
