-- What the grammars read is well formed, and so each message of the log of a session.
use Rattle.std.proofs.Common.{◌≡◌, ◌∙◌, ℕ, Bool, true, false, not, ◌&&◌, cond, List, [], ◌∷◌, Result, Ok, Err, refl, sym, ap, subst}
use Rattle.std.specs.Prelude.{encode_utf8_all}
use Rattle.ft_json.specs.Reading.{read_line}
use Rattle.ft_props.specs.Properties.{Characters}
use Rattle.ft_op.proofs.ReadSteps.{fault_step}
use Rattle.ft_msg.specs.declared.faults.Cause.{Cause}
use Rattle.ft_msg.specs.declared.messages.Entry.{Entry}
use Rattle.ft_msg.specs.Causes.{cause_of_json}
use Rattle.ft_msg.specs.MessageGrammar.{draft, draft_of, message, message_of}
use Rattle.ft_msg.specs.WellFormed.{IsWellFormedMessage}
use Rattle.ft_seqr.specs.declared.events.Event.{Event}
use Rattle.ft_seqr.specs.declared.events.Event.TheVariants as events
use Rattle.ft_seqr.specs.declared.refusals.Refusal.TheVariants.{LineTooLong}
use Rattle.ft_seqr.specs.EventGrammar.{event, event_of}
use Rattle.ft_seqr.specs.SessionReport.{Shows, answer, answer_reading, take_line}
use Rattle.ft_seqr.specs.Walk.{Progress, after_item, after_items, begin, is_blank, is_too_long, line_limit, passes, refuses, step_of}
use Rattle.ft_seqr.specs.WellFormedEvent.{IsWellFormedEvent}
use Rattle.ft_seqr.specs.World.{NaiveWorld, Stepped, new_world, step, world_after, world_of}
use Rattle.ft_laws_agreement.specs.Sequencing.{Each}
use Rattle.ft_laws_sessions.specs.FormedLogs.{AllMayBeTaken, IsFormedSubmission, IsFormedText}
use Rattle.ft_laws_sessions.specs.FormedReads.{DraftsAreFormed, EventsAreFormed, LoadIsSmall, MessagesAreFormed, SessionEntriesAreWellFormed, events_of, is_read, with_event}
use Rattle.ft_laws_sessions.proofs.FormedLaws.{entries-are-well_formed}
use Rattle.ft_laws_sessions.proofs.FormedReadings.{draft-formed, event-formed, message-formed}
use Rattle.ft_laws_sessions.proofs.RegularTexts.{line-regular}

-- ---- one text

pub drafts-are-formed : DraftsAreFormed
unfolding draft
drafts-are-formed bytes d e = let v = fault_step cause_of_json (read_line bytes) draft_of d e in draft-formed v.0 d (line-regular bytes v.0 v.1) v.2

pub messages-are-formed : MessagesAreFormed
unfolding message
messages-are-formed bytes m e = let v = fault_step cause_of_json (read_line bytes) message_of m e in message-formed v.0 m (line-regular bytes v.0 v.1) v.2

pub events-are-formed : EventsAreFormed
unfolding event
events-are-formed bytes ev e = let v = fault_step cause_of_json (read_line bytes) event_of ev e in event-formed v.0 ev (line-regular bytes v.0 v.1) v.2

-- ---- the events of a session

text-formed : (text : Characters) → IsFormedText text
text-formed text d e = drafts-are-formed (encode_utf8_all text) d e

pub submission-formed : (e : Event) → IsFormedSubmission e
submission-formed (events.Start client from) = tt
submission-formed (events.Connect client) = tt
submission-formed (events.Drop client) = tt
submission-formed (events.Edit client op) = tt
submission-formed (events.Ticket client n) = tt
submission-formed (events.Deliver client n) = tt
submission-formed (events.Noop client) = tt
submission-formed (events.Show client) = tt
submission-formed (events.Queue client) = tt
submission-formed (events.Compact client) = tt
submission-formed (events.Summary client) = tt
submission-formed (events.Offer client text) = tt
submission-formed events.History = tt
submission-formed (events.Guest guest) = tt
submission-formed (events.Submit guest text) = text-formed text
submission-formed (events.Part guest) = tt
submission-formed (events.Overlap client label a b) = tt
submission-formed (events.Blame client a b) = tt
submission-formed (events.Authors client) = tt

-- the events of lines may be taken where their load is small
abbrev MayBeTakenWhereSmall : List Event → Type 0
MayBeTakenWhereSmall es = (w : NaiveWorld) → LoadIsSmall w es → AllMayBeTaken w es

with-event : (r : Result Event Cause) (es : List Event) → ((e : Event) → r ≡ Ok e → IsWellFormedEvent e) → MayBeTakenWhereSmall es → MayBeTakenWhereSmall (with_event r es)
with-event (Ok e) es f rest w h = (record { event = f e refl; text = submission-formed e; load = h.0 }, rest (world_after w e) h.1)
with-event (Err cause) es f rest w h = rest w h

none-taken : MayBeTakenWhereSmall []
none-taken w h = tt

if-read : (b : Bool) (es fs : List Event) → MayBeTakenWhereSmall es → MayBeTakenWhereSmall fs → MayBeTakenWhereSmall (cond b es fs)
if-read true es fs h k = h
if-read false es fs h k = k

events-may-be-taken : (lines : List (List ℕ)) → MayBeTakenWhereSmall (events_of lines)
events-may-be-taken [] = none-taken
events-may-be-taken (line ∷ lines) =
    let rest = events-may-be-taken lines in
    if-read (is_read line) (with_event (event line) (events_of lines)) (events_of lines) (with-event (event line) (events_of lines) (events-are-formed line) rest) rest

-- ---- the world of a session

made-of : (shows : Shows) (w : NaiveWorld) (s : Stepped) → (answer shows w s).made ≡ elim s [ Err refusal ↦ w | Ok p ↦ p.0 ]
made-of shows w (Err refusal) = refl
made-of shows w (Ok p) = refl

reading-made : (shows : Shows) (w : NaiveWorld) (r : Result Event Cause) (es : List Event) → world_of (answer_reading shows w r).made es ≡ world_of w (with_event r es)
reading-made shows w (Err cause) es = refl
reading-made shows w (Ok e) es = ap (λ v. world_of v es) (made-of shows w (step w e))

line-made : (shows : Shows) (w : NaiveWorld) (line : List ℕ) (es : List Event)
    → world_of (step_of (take_line shows) w line).made es ≡ world_of w (cond (is_read line) (with_event (event line) es) es)
line-made shows w line es = by (is_too_long line_limit line) (is_blank line)
  where
    by : (long blank : Bool) → world_of (cond long (refuses w LineTooLong) (cond blank (passes w) (take_line shows w line))).made es
        ≡ world_of w (cond (not long && not blank) (with_event (event line) es) es)
    by true blank = refl
    by false true = refl
    by false false = reading-made shows w (event line) es

lines-made : (shows : Shows) (lines : List (List ℕ)) (at : Progress NaiveWorld) → (after_items (step_of (take_line shows)) at lines).made ≡ world_of at.made (events_of lines)
lines-made shows [] at = refl
lines-made shows (line ∷ lines) at =
    lines-made shows lines (after_item (step_of (take_line shows)) at line) ∙ line-made shows at.made line (events_of lines)

pub session-entries-are-well_formed : SessionEntriesAreWellFormed
session-entries-are-well_formed shows lines small =
    let same = lines-made shows lines (begin new_world) in
    subst (λ (w : NaiveWorld). Each (λ (entry : Entry). IsWellFormedMessage entry.msg) w.log) (sym same)
    (entries-are-well_formed (events_of lines) (events-may-be-taken lines new_world small))
