-- A walk over lines, or over other items that have a step: what each of them does, how far the walk is, and what they write. They are
-- counted from 1.
use Rattle.std.specs.Prelude.{ℕ, ◌+◌, Bool, ◌||◌, ◌==◌, nat_lt, List, [], ◌∷◌, ◌++◌, length, Option, Some, None, if◌then◌else◌}
use Rattle.std.specs.List.{list_all}
use Rattle.ft_seqr.specs.declared.refusals.Refusal.{Refusal}
use Rattle.ft_seqr.specs.declared.refusals.Refusal.TheVariants.{LineTooLong}
use Rattle.ft_seqr.specs.Refusals.{refused_line}

-- the greatest length of a line, without its LF
abbrev pub line_limit : ℕ
line_limit = 1048576

-- whether a byte is a space, a tab or a CR
abbrev pub is_blank_byte : ℕ → Bool
is_blank_byte byte = byte == 32 || (byte == 9 || byte == 13)

-- whether a line has no other bytes
abbrev pub is_blank : List ℕ → Bool
is_blank line = list_all is_blank_byte line

-- what a line does: what the lines made with it, the lines that it writes of that, and why it is refused, if it is
pub record Step (S : Type 0) : Type 0 where
  pub made : S
  pub told : List (List ℕ)
  pub refusal : Option Refusal

-- the step of a line that writes these
abbrev pub tells : {S : Type 0} → S → List (List ℕ) → Step S
tells made told = record { made = made; told = told; refusal = None }

-- the step of a line that writes nothing but its refusal, if it has one
abbrev pub answers : {S : Type 0} → S → Option Refusal → Step S
answers made refusal = record { made = made; told = []; refusal = refusal }

-- the step of a line that is passed over, or writes nothing
abbrev pub passes : {S : Type 0} → S → Step S
passes made = tells made []

-- the step of a line that is refused and changes nothing
abbrev pub refuses : {S : Type 0} → S → Refusal → Step S
refuses made refusal = record { made = made; told = []; refusal = Some refusal }

-- whether a line is too long, where the longest one that isn't blank has this length
abbrev pub is_too_long : ℕ → List ℕ → Bool
is_too_long longest line = nat_lt (if is_blank line then line_limit else longest) (length line)

-- the step of any line: one that is too long is refused, a blank one is passed over, and the others are read
abbrev pub step_within : {S : Type 0} → ℕ → (S → List ℕ → Step S) → S → List ℕ → Step S
step_within longest read made line =
    if is_too_long longest line then refuses made LineTooLong
    else (if is_blank line then passes made else read made line)

-- .. where no line may be longer than the limit of all lines
abbrev pub step_of : {S : Type 0} → (S → List ℕ → Step S) → S → List ℕ → Step S
step_of read made line = step_within line_limit read made line

-- how far a walk is: how many lines or items, how many of them were refused, and what they made
pub record Progress (S : Type 0) : Type 0 where
  pub lines : ℕ
  pub refused : ℕ
  pub made : S

-- before the first line
abbrev pub begin : {S : Type 0} → S → Progress S
begin made = record { lines = 0; refused = 0; made = made }

-- how many lines were refused after one with this refusal, if it has one
abbrev pub refused_after : ℕ → Option Refusal → ℕ
refused_after n None = n
refused_after n (Some refusal) = n + 1

-- how far it is after a step
abbrev pub progress_after : {S : Type 0} → Progress S → Step S → Progress S
progress_after at step = record { lines = at.lines + 1; refused = refused_after at.refused step.refusal; made = step.made }

-- how far it is after an item, which is a line or what else has a step
abbrev pub after_item : {S A : Type 0} → (S → A → Step S) → Progress S → A → Progress S
after_item step at item = progress_after at (step at.made item)

-- how far it is after these items
abbrev pub after_items : {S A : Type 0} → (S → A → Step S) → Progress S → List A → Progress S
after_items step at [] = at
after_items step at (item ∷ later) = after_items step (after_item step at item) later

-- what is written of the line with this number: its refusal, if it has one
abbrev pub refusal_lines : ℕ → Option Refusal → List (List ℕ)
refusal_lines number None = []
refusal_lines number (Some refusal) = refused_line number refusal ∷ []

-- the lines that the step of the line with this number writes
abbrev pub written_by_step : {S : Type 0} → ℕ → Step S → List (List ℕ)
written_by_step number step = step.told ++ refusal_lines number step.refusal

-- the lines that an item writes
abbrev pub written_by_item : {S A : Type 0} → (S → A → Step S) → Progress S → A → List (List ℕ)
written_by_item step at item = written_by_step (at.lines + 1) (step at.made item)

-- the lines that these items write
abbrev pub written_by_items : {S A : Type 0} → (S → A → Step S) → Progress S → List A → List (List ℕ)
written_by_items step at [] = []
written_by_items step at (item ∷ later) = written_by_item step at item ++ written_by_items step (after_item step at item) later
