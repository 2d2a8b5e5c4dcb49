-- That what the grammars read is well formed, and so each message of the log of a session; and that a summary that is read has few
-- names.
use Rattle.std.specs.Prelude.{◌≡◌, ℕ, ◌+◌, ◌<◌, ◌^◌, Bool, not, ◌&&◌, cond, length, List, [], ◌∷◌, Result, Ok, Err, ⊤}
use Rattle.ft_msg.specs.declared.faults.Cause.{Cause}
use Rattle.ft_msg.specs.declared.messages.Draft.{Draft}
use Rattle.ft_msg.specs.declared.messages.Message.{Message}
use Rattle.ft_msg.specs.MessageGrammar.{draft, message}
use Rattle.ft_msg.specs.WellFormed.{IsWellFormedDraft, IsWellFormedMessage}
use Rattle.ft_sumdoc.specs.declared.summary.SumDoc.{SumDoc}
use Rattle.ft_sumdoc.specs.Summary.{summary}
use Rattle.ft_seqr.specs.declared.events.Event.{Event}
use Rattle.ft_seqr.specs.EventGrammar.{event}
use Rattle.ft_seqr.specs.SessionReport.{Shows, session_after}
use Rattle.ft_seqr.specs.Walk.{is_blank, is_too_long, line_limit}
use Rattle.ft_seqr.specs.WellFormedEvent.{IsWellFormedEvent}
use Rattle.ft_seqr.specs.World.{NaiveWorld, new_world, text_load, world_after}
use Rattle.ft_laws_agreement.specs.Sequencing.{Each}

-- a draft that a text is, a message and an event
abbrev pub DraftsAreFormed : Type 0
DraftsAreFormed = (bytes : List ℕ) (d : Draft) → draft bytes ≡ Ok d → IsWellFormedDraft d

abbrev pub MessagesAreFormed : Type 0
MessagesAreFormed = (bytes : List ℕ) (m : Message) → message bytes ≡ Ok m → IsWellFormedMessage m

abbrev pub EventsAreFormed : Type 0
EventsAreFormed = (bytes : List ℕ) (e : Event) → event bytes ≡ Ok e → IsWellFormedEvent e

-- whether a session reads a line: it isn't too long, nor blank
abbrev pub is_read : List ℕ → Bool
is_read line = not (is_too_long line_limit line) && not (is_blank line)

-- the events with one before them, if there is one
abbrev pub with_event : Result Event Cause → List Event → List Event
with_event (Ok e) events = e ∷ events
with_event (Err cause) events = events

-- the events that lines are: a line that isn't read, or isn't an event, is none
abbrev pub events_of : List (List ℕ) → List Event
events_of [] = []
events_of (line ∷ lines) = cond (is_read line) (with_event (event line) (events_of lines)) (events_of lines)

-- with what each of the events would add the load is below 2^53
abbrev pub LoadIsSmall : NaiveWorld → List Event → Type 0
LoadIsSmall w [] = ⊤
LoadIsSmall w (e ∷ events) = (w.load + (1 + text_load e) < 2 ^ 53) × LoadIsSmall (world_after w e) events

-- then each message of the log of a session is well formed
abbrev pub SessionEntriesAreWellFormed : Type 0
SessionEntriesAreWellFormed =
    (shows : Shows) (lines : List (List ℕ)) → LoadIsSmall new_world (events_of lines)
    → Each (λ entry. IsWellFormedMessage entry.msg) (session_after shows lines).made.log

-- a summary that a text is has fewer names than the text has bytes
abbrev pub SummariesNameFew : Type 0
SummariesNameFew = (bytes : List ℕ) (sum : SumDoc) → summary bytes ≡ Ok sum → length sum.conns < length bytes
