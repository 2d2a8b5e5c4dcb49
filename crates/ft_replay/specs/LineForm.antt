-- A command that reads lines: what its lines make and write, what stands behind them, and how its run ends. Every line that it writes
-- ends with LF.
use Rattle.std.specs.Prelude.{ℕ, ◌&&◌, ◌==◌, List, [], ◌∷◌, ◌++◌, Option, Some, None, codes, decimal, if◌then◌else◌}
use Rattle.std.specs.List.{flat_map}
use Rattle.ft_io.specs.Lines.{lines, ended_lines, with_lf}
use Rattle.ft_op.specs.Document.{Document}
use Rattle.ft_seqr.specs.SessionReport.{closing_lines}
use Rattle.ft_seqr.specs.Walk.{Progress, Step, after_items, begin, step_within, written_by_items}
use Rattle.ft_replay.specs.declared.endings.Ending.{Ending}
use Rattle.ft_replay.specs.declared.endings.Ending.TheVariants.{Done, SomeRefused}

-- the bytes of lines, each with its LF
abbrev pub bytes_of : List (List ℕ) → List ℕ
bytes_of texts = flat_map with_lf texts

-- a command whose lines make an S: what there is before the first line, how long the next line may be that isn't blank, what a line that
-- is read does, the lines that show at the end what was made, and the document whose counts are told last, if there is one
pub record LineForm (S : Type 0) : Type 0 where
  pub first : S
  pub longest : S → ℕ
  pub read : S → List ℕ → Step S
  pub shown : S → List (List ℕ)
  pub counted : S → Option Document

-- the step of a line
abbrev pub form_step : {S : Type 0} → LineForm S → S → List ℕ → Step S
form_step form made line = step_within (form.longest made) form.read made line

-- how far a command is after lines
abbrev pub form_after : {S : Type 0} → LineForm S → List (List ℕ) → Progress S
form_after form texts = after_items (form_step form) (begin form.first) texts

-- what lines write
abbrev pub form_lines : {S : Type 0} → LineForm S → List (List ℕ) → List (List ℕ)
form_lines form texts = written_by_items (form_step form) (begin form.first) texts

-- the last lines: how many lines were refused, and the counts of a document, if there is one
unfoldable pub refused_count : ℕ → List ℕ
refused_count refused = codes "refused " ++ decimal refused

abbrev pub last_lines : ℕ → Option Document → List (List ℕ)
last_lines refused None = refused_count refused ∷ []
last_lines refused (Some doc) = closing_lines refused doc

-- what is written behind the lines
abbrev pub form_end : {S : Type 0} → LineForm S → Progress S → List (List ℕ)
form_end form at = form.shown at.made ++ last_lines at.refused (form.counted at.made)

-- what lines write, with what is written behind them
abbrev pub form_report : {S : Type 0} → LineForm S → List (List ℕ) → List (List ℕ)
form_report form texts = form_lines form texts ++ form_end form (form_after form texts)

-- how a whole report ends: whether nothing was refused and no sub-operation skipped
abbrev pub ending_by : ℕ → ℕ → Ending
ending_by refused skipped = if refused == 0 && skipped == 0 then Done else SomeRefused

abbrev pub whole_ending : ℕ → Document → Ending
whole_ending refused doc = ending_by refused doc.skipped

-- the same, where there may be no document, and then nothing counts as skipped
abbrev pub skipped_in : Option Document → ℕ
skipped_in None = 0
skipped_in (Some doc) = doc.skipped

abbrev pub last_ending : ℕ → Option Document → Ending
last_ending refused doc = ending_by refused (skipped_in doc)

-- how the whole report of a command ends
abbrev pub form_ending : {S : Type 0} → LineForm S → Progress S → Ending
form_ending form at = last_ending at.refused (form.counted at.made)

-- what a command comes to for the bytes of an input: its report, what the lines write that end with LF without what is written behind
-- them, and how the whole report ends
pub record Account : Type 0 where
  pub report : List ℕ → List ℕ
  pub opened : List ℕ → List ℕ
  pub ending : List ℕ → Ending

-- what a command that reads lines comes to
abbrev pub account_by : {S : Type 0} → LineForm S → Account
account_by form = record {
  report = λ bytes. bytes_of (form_report form (lines bytes));
  opened = λ bytes. bytes_of (form_lines form (ended_lines bytes));
  ending = λ bytes. form_ending form (form_after form (lines bytes));
}
