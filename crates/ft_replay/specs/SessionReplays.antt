-- A session whose lines come one after another: what each of them writes, and what stands behind them.
use Rattle.std.specs.Prelude.{◌≡◌, ℕ, ◌+◌, ◌≤◌, List, [], ◌∷◌, ◌++◌, length}
use Rattle.ft_seqr.specs.SessionReport.{as_applied, session_after, session_end, session_lines, session_report}
use Rattle.ft_seqr.specs.Walk.{written_by_item}
use Rattle.ft_session.specs.Worlds.{WorldState, WorldStands}
use Rattle.ft_replay.specs.declared.endings.Ending.{Ending}
use Rattle.ft_replay.specs.Forms.{session_form}
use Rattle.ft_replay.specs.LineForm.{bytes_of, form_ending, form_step}
use Rattle.ft_replay.specs.Listening.{Follows}

-- what these lines write, and their whole report
abbrev pub lines_bytes : List (List ℕ) → List ℕ
lines_bytes heard = bytes_of (session_lines as_applied heard)

abbrev pub report_bytes : List (List ℕ) → List ℕ
report_bytes heard = bytes_of (session_report as_applied heard)

-- what a line writes behind those that were heard
abbrev pub line_bytes : List (List ℕ) → List ℕ → List ℕ
line_bytes heard line = bytes_of (written_by_item (form_step (session_form as_applied)) (session_after as_applied heard) line)

-- what stands behind the lines that were heard
abbrev pub end_bytes : List (List ℕ) → List ℕ
end_bytes heard = bytes_of (session_end (session_after as_applied heard))

-- how their report ends
abbrev pub heard_ending : List (List ℕ) → Ending
heard_ending heard = form_ending (session_form as_applied) (session_after as_applied heard)

-- how many of them are refused
abbrev pub heard_refused : List (List ℕ) → ℕ
heard_refused heard = (session_after as_applied heard).refused

-- these lines were heard, so many, and so many of them refused: the world stands for what they made
abbrev pub HasHeard : WorldState → ℕ → ℕ → List (List ℕ) → Type 0
HasHeard world lines refused heard = Follows (WorldStands world) lines refused (session_after as_applied heard)

-- for all lines: a line more writes behind what they write, and what stands behind them ends their report
abbrev pub LinesGrow : Type 0
LinesGrow = (heard : List (List ℕ)) → (line : List ℕ) → lines_bytes (heard ++ line ∷ []) ≡ lines_bytes heard ++ line_bytes heard line

abbrev pub ReportsEnd : Type 0
ReportsEnd = (heard : List (List ℕ)) → report_bytes heard ≡ lines_bytes heard ++ end_bytes heard

-- .. they are counted, and one more is refused, or none
abbrev pub LinesAreCounted : Type 0
LinesAreCounted = (heard : List (List ℕ)) → (session_after as_applied heard).lines ≡ length heard

abbrev pub LinesAreRefusedOnce : Type 0
LinesAreRefusedOnce = (heard : List (List ℕ)) → (line : List ℕ) → (heard_refused heard ≤ heard_refused (heard ++ line ∷ []))
    × (heard_refused (heard ++ line ∷ []) ≤ heard_refused heard + 1)
