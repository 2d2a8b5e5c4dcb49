-- What the lines of a session write one after another is their report.
use Rattle.std.proofs.Common.{◌≡◌, ℕ, ◌+◌, ◌≤◌, List, [], ◌∷◌, ◌++◌, length, Option, Some, None, sym, ◌∙◌, ap, subst, arith}
use Rattle.std.proofs.lemmas.Grind.{flat_map-append}
use Rattle.std.proofs.lemmas.List.{append_cancel_left}
use Rattle.ft_io.specs.Lines.{with_lf}
use Rattle.ft_seqr.specs.declared.refusals.Refusal.{Refusal}
use Rattle.ft_seqr.specs.SessionReport.{as_applied, as_shown, session_after, session_end, session_lines}
use Rattle.ft_seqr.specs.Walk.{Progress, Step, after_item, after_items, begin, refused_after, written_by_item}
use Rattle.ft_seqr.specs.World.{new_world}
use Rattle.ft_laws_sessions.specs.Reports.{OpenedReportsAreOne}
use Rattle.ft_replay.specs.Forms.{session_form}
use Rattle.ft_replay.specs.LineForm.{bytes_of, form_step}
use Rattle.ft_replay.specs.SessionReplays.{LinesAreCounted, LinesAreRefusedOnce, LinesGrow, ReportsEnd, line_bytes, lines_bytes}
use Rattle.ft_replay.proofs.RunLaws.{after-push, lines-push}
use Rattle.ft_replay.proofs.SessionLaws.{line-same, lines-same}

-- a line more, as the clients of the session show it, is a line more of the session
pub after-line : (heard : List (List ℕ)) (line : List ℕ)
    → after_item (form_step (session_form as_shown)) (session_after as_applied heard) line ≡ session_after as_applied (heard ++ line ∷ [])
after-line heard line =
    line-same as_shown as_applied (session_after as_applied heard) line ∙ sym (after-push (session_form as_applied) heard line)

pub lines-grow : LinesGrow
lines-grow heard line = lines-push (session_form as_applied) heard line

pub reports-end : ReportsEnd
reports-end heard = flat_map-append with_lf (session_lines as_applied heard) (session_end (session_after as_applied heard))

-- the line writes the same, whichever way its views are written
pub line-written : OpenedReportsAreOne → (heard : List (List ℕ)) (line : List ℕ)
    → bytes_of (written_by_item (form_step (session_form as_shown)) (session_after as_applied heard) line) ≡ line_bytes heard line
line-written opened heard line =
    let shown = λ (at : Progress _). bytes_of (written_by_item (form_step (session_form as_shown)) at line) in
    append_cancel_left (lines_bytes heard) (shown (session_after as_applied heard)) (line_bytes heard line)
    (ap (λ bytes. bytes ++ shown (session_after as_applied heard)) (ap bytes_of (sym (opened heard)))
    ∙ ap (λ at. bytes_of (session_lines as_shown heard) ++ shown at) (sym (lines-same as_shown as_applied (begin new_world) heard))
    ∙ sym (lines-push (session_form as_shown) heard line)
    ∙ ap bytes_of (opened (heard ++ line ∷ []))
    ∙ lines-grow heard line)

-- each line counts
counted-on : {S : Type 0} (step : S → List ℕ → Step S) (at : Progress S) (lines : List (List ℕ)) → (after_items step at lines).lines ≡ at.lines + length lines
counted-on step at [] = omega arith
counted-on step at (line ∷ later) = counted-on step (after_item step at line) later ∙ omega arith

pub lines-counted : LinesAreCounted
lines-counted heard = counted-on (form_step (session_form as_applied)) (begin new_world) heard ∙ omega arith

-- one line more is refused, or none
refused-one : (n : ℕ) (why : Option Refusal) → (n ≤ refused_after n why) × (refused_after n why ≤ n + 1)
refused-one n None = (omega arith, omega arith)
refused-one n (Some why) = (omega arith, omega arith)

pub lines-are_refused_once : LinesAreRefusedOnce
lines-are_refused_once heard line =
    let at = session_after as_applied heard in
    let step = form_step (session_form as_applied) at.made line in
    subst (λ p. (at.refused ≤ p.refused) × (p.refused ≤ at.refused + 1)) (sym (after-push (session_form as_applied) heard line)) (refused-one at.refused step.refusal)
