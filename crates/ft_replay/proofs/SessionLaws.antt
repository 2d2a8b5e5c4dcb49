-- What a session comes to is the same in both forms of its views.
use Rattle.std.proofs.Common.{◌≡◌, ℕ, Bool, true, false, cond, List, [], ◌∷◌, Option, Result, Ok, Err, refl, ◌∙◌, ap, subst, inl, inr}
use Rattle.std.specs.Io.KnownBytes.{IsAtEnd}
use Rattle.ft_io.specs.Lines.{lines, ended_lines}
use Rattle.ft_msg.specs.declared.faults.Cause.{Cause}
use Rattle.ft_seqr.specs.declared.events.Event.{Event}
use Rattle.ft_seqr.specs.declared.refusals.Refusal.TheVariants.{LineTooLong}
use Rattle.ft_seqr.specs.EventGrammar.{event}
use Rattle.ft_seqr.specs.SessionReport.{Shows, answer, answer_reading, as_applied, as_shown, take_line}
use Rattle.ft_seqr.specs.Walk.{Progress, after_item, after_items, begin, is_blank, is_too_long, line_limit, passes, progress_after, refuses, step_of}
use Rattle.ft_seqr.specs.World.{NaiveWorld, Stepped, new_world, step}
use Rattle.ft_laws_sessions.specs.Reports.{OpenedReportsAreOne, ReportsAreOne}
use Rattle.ft_replay.specs.declared.endings.Ending.{Ending}
use Rattle.ft_replay.specs.declared.endings.Fault.{Fault}
use Rattle.ft_replay.specs.declared.endings.Fault.TheVariants.{Read, Write, OutOfMemory, InputLimit}
use Rattle.ft_replay.specs.LineForm.{Account, account_by, bytes_of, form_ending}
use Rattle.ft_replay.specs.Forms.{session_account, session_form}
use Rattle.ft_replay.specs.Run.{IsPart, IsWholeRun, Moves, Says}
use Rattle.ft_replay.specs.Writing.{Begins}

-- ---- what lines make doesn't depend on how views are written

module _ (shows other : Shows) where
  answer-same : (at : Progress NaiveWorld) (s : Stepped) → progress_after at (answer shows at.made s) ≡ progress_after at (answer other at.made s)
  answer-same at (Err refusal) = refl
  answer-same at (Ok p) = refl

  reading-same : (at : Progress NaiveWorld) (a : Result Event Cause) → progress_after at (answer_reading shows at.made a) ≡ progress_after at (answer_reading other at.made a)
  reading-same at (Err cause) = refl
  reading-same at (Ok e) = answer-same at (step at.made e)

  pub line-same : (at : Progress NaiveWorld) (line : List ℕ) → after_item (step_of (take_line shows)) at line ≡ after_item (step_of (take_line other)) at line
  line-same at line = by (is_too_long line_limit line) (is_blank line)
    where
      by : (long blank : Bool) → progress_after at (cond long (refuses at.made LineTooLong) (cond blank (passes at.made) (take_line shows at.made line)))
          ≡ progress_after at (cond long (refuses at.made LineTooLong) (cond blank (passes at.made) (take_line other at.made line)))
      by true blank = refl
      by false true = refl
      by false false = reading-same at (event line)

  pub lines-same : (at : Progress NaiveWorld) (ls : List (List ℕ)) → after_items (step_of (take_line shows)) at ls ≡ after_items (step_of (take_line other)) at ls
  lines-same at [] = refl
  lines-same at (line ∷ ls) = lines-same (after_item (step_of (take_line shows)) at line) ls ∙ ap (λ p. after_items (step_of (take_line other)) p ls) (line-same at line)

-- ---- accounts that say the same

record Alike (a b : Account) : Type 0 where
  report : (bytes : List ℕ) → a.report bytes ≡ b.report bytes
  opened : (bytes : List ℕ) → a.opened bytes ≡ b.opened bytes
  ending : (bytes : List ℕ) → a.ending bytes ≡ b.ending bytes

module _ {a b : Account} (alike : Alike a b) where
  part-alike : (given written : List ℕ) → IsPart a given written → IsPart b given written
  part-alike given written (inl h) = inl (subst (Begins written) (alike.report given) h)
  part-alike given written (inr h) = inr (subst (Begins written) (alike.opened given) h)

  whole-alike : (AtEnd : Type 0) (ending : Ending) (given written : List ℕ) → IsWholeRun a AtEnd ending given written → IsWholeRun b AtEnd ending given written
  whole-alike AtEnd ending given written h =
      record { at_end = h.at_end; within = h.within; report = h.report ∙ alike.report given; ends = h.ends ∙ alike.ending given }

  says-alike : (AtEnd source_rose sink_rose : Type 0) (end : Result Ending Fault) (given written : List ℕ)
      → Says a AtEnd source_rose sink_rose end given written → Says b AtEnd source_rose sink_rose end given written
  says-alike AtEnd source_rose sink_rose (Ok ending) given written h = whole-alike AtEnd ending given written h
  says-alike AtEnd source_rose sink_rose (Err Read) given written h = (h.0, h.1, h.2 ∙ alike.opened given)
  says-alike AtEnd source_rose sink_rose (Err Write) given written h = (h.0, part-alike given written h.1)
  says-alike AtEnd source_rose sink_rose (Err OutOfMemory) given written h = part-alike given written h
  says-alike AtEnd source_rose sink_rose (Err InputLimit) given written h = (h.0, h.1 ∙ alike.opened given)

-- ---- a session

session-alike : ReportsAreOne → OpenedReportsAreOne → Alike (account_by (session_form as_shown)) session_account
session-alike whole opened = record {
  report = λ bytes. ap bytes_of (whole (lines bytes));
  opened = λ bytes. ap bytes_of (opened (ended_lines bytes));
  ending = λ bytes. ap (form_ending (session_form as_applied)) (lines-same as_shown as_applied (begin new_world) (lines bytes));
}

-- what a run says of a session as its clients show it, it says of the session
pub session-moves : ReportsAreOne → OpenedReportsAreOne → (first left held holds : Option (List ℕ)) (source_rose sink_rose : Type 0) (end : Result Ending Fault)
    → Moves first left held holds (Says (account_by (session_form as_shown)) (IsAtEnd left) source_rose sink_rose end)
    → Moves first left held holds (Says session_account (IsAtEnd left) source_rose sink_rose end)
session-moves whole opened first left held holds source_rose sink_rose end moves = record {
  given = moves.given;
  gives = moves.gives;
  written = moves.written;
  takes = moves.takes;
  says = says-alike (session-alike whole opened) (IsAtEnd left) source_rose sink_rose end moves.given moves.written moves.says;
}
