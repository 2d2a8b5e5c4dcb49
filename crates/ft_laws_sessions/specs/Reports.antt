-- That the two forms of a session's report are one.
use Rattle.std.specs.Prelude.{◌≡◌, ℕ, List}
use Rattle.ft_seqr.specs.SessionReport.{as_applied, as_shown, session_lines, session_report}

-- for all lines: each view is what the log shows of the messages that its client processed, with its pending operations sequenced next
abbrev pub ReportsAreOne : Type 0
ReportsAreOne = (lines : List (List ℕ)) → session_report as_shown lines ≡ session_report as_applied lines

-- so it is without the last lines
abbrev pub OpenedReportsAreOne : Type 0
OpenedReportsAreOne = (lines : List (List ℕ)) → session_lines as_shown lines ≡ session_lines as_applied lines
