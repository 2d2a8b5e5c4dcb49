-- What a listener is told of a line, and how far it follows a command that reads lines.
use Rattle.std.specs.Prelude.{◌≡◌, ℕ, ◌≤◌, List, [], ◌∷◌, length, Option, Some, None, option_map, string_bytes, ⊤}
use Rattle.ft_io.specs.Reader.{handed_out, input_limit}
use Rattle.ft_io.specs.declared.reader.Line.{Line}
use Rattle.ft_io.specs.declared.reader.Line.TheVariants.{End, Full, TooLong}
use Rattle.ft_op.specs.Document.{Document}
use Rattle.ft_session.specs.declared.outputs.Counts.{Counts}
use Rattle.ft_seqr.specs.declared.refusals.Refusal.{Refusal}
use Rattle.ft_seqr.specs.Refusals.{refused_line}
use Rattle.ft_seqr.specs.Walk.{Progress, Step, line_limit}
use Rattle.ft_replay.specs.declared.listener.Told.{Told}
use Rattle.ft_replay.specs.declared.listener.Told.TheVariants.{Text, Refused}
use Rattle.ft_replay.specs.LineForm.{LineForm, bytes_of}

-- a reader of lines handed this out: no end, and no line longer than an input
abbrev pub IsHandedOut : Line → Type 0
IsHandedOut (Full text) = length text ≤ input_limit
IsHandedOut TooLong = ⊤
IsHandedOut End = ⊥

-- a reader of lines hands this out for the text behind what was made
pub record HandsOut {S : Type 0} (form : LineForm S) (made : S) (text : List ℕ) (line : Line) : Type 0 where
  pub least : line_limit ≤ form.longest made
  pub is : line ≡ handed_out (form.longest made) text

-- the text that is told
abbrev pub told_text : Told → List ℕ
told_text (Text text) = string_bytes text
told_text _ = []

-- the refusal that is told, if one is
abbrev pub told_refusal : Told → Option Refusal
told_refusal (Refused refusal) = Some refusal
told_refusal _ = None

-- what is written of the line with this number, of which this is told
abbrev pub told_bytes : ℕ → Told → List ℕ
told_bytes number (Refused refusal) = bytes_of (refused_line number refusal ∷ [])
told_bytes number told = told_text told

-- this is told of a line with that step, and what it made is held
pub record IsStep {S : Type 0} (Holds : S → Type 0) (told : Told) (step : Step S) : Type 0 where
  pub holds : Holds step.made
  pub text : told_text told ≡ bytes_of step.told
  pub refusal : told_refusal told ≡ step.refusal

-- so many lines were read, so many of them refused, and what they made is held
pub record Follows {S : Type 0} (Holds : S → Type 0) (count refused : ℕ) (at : Progress S) : Type 0 where
  pub lines : count ≡ at.lines
  pub refusals : refused ≡ at.refused
  pub holds : Holds at.made

-- the counts of a document that are told last
abbrev pub counts_in : Document → Counts
counts_in doc = record { skipped = doc.skipped; other = doc.other }

-- those of a document, if there is one
abbrev pub given_counts : Option Document → Option Counts
given_counts doc = option_map counts_in doc
