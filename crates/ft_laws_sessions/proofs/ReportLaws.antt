-- The two forms of a session's report are one, line by line.
use Rattle.std.proofs.Common.{◌≡◌, ℕ, ◌+◌, Bool, true, false, cond, List, [], ◌∷◌, ◌++◌, Result, Ok, Err, refl, ◌∙◌, ap}
use Rattle.ft_msg.specs.declared.faults.Cause.{Cause}
use Rattle.ft_seqr.specs.declared.events.Event.{Event}
use Rattle.ft_seqr.specs.declared.refusals.Refusal.TheVariants.{LineTooLong}
use Rattle.ft_seqr.specs.EventGrammar.{event}
use Rattle.ft_seqr.specs.SessionReport.{answer, answer_reading, as_applied, as_shown, session_after, session_end, session_lines, take_line}
use Rattle.ft_seqr.specs.Walk.{Progress, Step, after_item, after_items, progress_after, begin, is_blank, is_too_long, line_limit, passes, refuses, step_of, tells, written_by_item, written_by_items, written_by_step}
use Rattle.ft_seqr.specs.World.{NaiveWorld, Stepped, new_world, step}
use Rattle.ft_laws_sessions.specs.Reports.{OpenedReportsAreOne, ReportsAreOne}
use Rattle.ft_laws_sessions.proofs.WorldEvents.{IsReachedWorld, Turns, first-reached, steps-turn}

-- ---- one line

-- what becomes of a line is one in both forms, and the same is known after it
pub record IsOne (shown other : Step NaiveWorld) : Type 0 where
  pub same : shown ≡ other
  pub reached : IsReachedWorld ⊥ 0 shown.made

answer-one : (w : NaiveWorld) (e : Event) (s : Stepped) → IsReachedWorld ⊥ 0 w → Turns ⊥ 0 e s → IsOne (answer as_shown w s) (answer as_applied w s)
answer-one w e (Err refusal) r h = record { same = refl; reached = r }
answer-one w e (Ok p) r h = record { same = ap (tells p.0) h.same; reached = h.reached }

reading-one : (w : NaiveWorld) (a : Result Event Cause) → IsReachedWorld ⊥ 0 w → IsOne (answer_reading as_shown w a) (answer_reading as_applied w a)
reading-one w (Err fault) r = record { same = refl; reached = r }
reading-one w (Ok e) r = answer-one w e (step w e) r (steps-turn ⊥ w r e (λ f. absurd f))

line-one : (w : NaiveWorld) (line : List ℕ) → IsReachedWorld ⊥ 0 w → IsOne (step_of (take_line as_shown) w line) (step_of (take_line as_applied) w line)
line-one w line r = by (is_too_long line_limit line) (is_blank line)
  where
    by : (long blank : Bool) → IsOne (cond long (refuses w LineTooLong) (cond blank (passes w) (take_line as_shown w line)))
        (cond long (refuses w LineTooLong) (cond blank (passes w) (take_line as_applied w line)))
    by true blank = record { same = refl; reached = r }
    by false true = record { same = refl; reached = r }
    by false false = reading-one w (event line) r

-- ---- all lines

lines-after : (lines : List (List ℕ)) (at : Progress NaiveWorld) → IsReachedWorld ⊥ 0 at.made → after_items (step_of (take_line as_shown)) at lines
    ≡ after_items (step_of (take_line as_applied)) at lines
lines-after [] at r = refl
lines-after (line ∷ lines) at r =
    let h = line-one at.made line r in
    lines-after lines (after_item (step_of (take_line as_shown)) at line) h.reached ∙ ap (λ s. after_items (step_of (take_line as_applied)) (progress_after at s) lines) h.same

lines-written : (lines : List (List ℕ)) (at : Progress NaiveWorld) → IsReachedWorld ⊥ 0 at.made → written_by_items (step_of (take_line as_shown)) at lines
    ≡ written_by_items (step_of (take_line as_applied)) at lines
lines-written [] at r = refl
lines-written (line ∷ lines) at r =
    let h = line-one at.made line r in
    ap (λ texts. written_by_item (step_of (take_line as_shown)) at line ++ texts) (lines-written lines (after_item (step_of (take_line as_shown)) at line) h.reached)
    ∙ ap (λ s. written_by_step (at.lines + 1) s ++ written_by_items (step_of (take_line as_applied)) (progress_after at s) lines) h.same

pub opened-reports-are_one : OpenedReportsAreOne
opened-reports-are_one lines = lines-written lines (begin new_world) (first-reached ⊥)

pub reports-are_one : ReportsAreOne
reports-are_one lines =
    ap (λ texts. texts ++ session_end (session_after as_shown lines)) (opened-reports-are_one lines)
    ∙ ap (λ at. session_lines as_applied lines ++ session_end at) (lines-after lines (begin new_world) (first-reached ⊥))
