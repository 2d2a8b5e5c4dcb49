-- Laws of the texts of events.
use Rattle.std.specs.Prelude.{◌≡◌, Ok}
use Rattle.serde_json.specs.Written.{compact_text}
use Rattle.ft_seqr.specs.declared.events.Event.{Event}
use Rattle.ft_seqr.specs.EventGrammar.{event}
use Rattle.ft_seqr.specs.WellFormedEvent.{IsRepresentableEvent, IsWellFormedEvent}
use Rattle.ft_seqr.specs.WrittenEvent.{written_event}

-- an event is read back from its text
abbrev pub EventsReadBack : Type 0
EventsReadBack = (e : Event) → IsRepresentableEvent e → IsWellFormedEvent e → event (compact_text (written_event e)) ≡ Ok e

-- no two events have one text
abbrev pub EventsTellApart : Type 0
EventsTellApart =
    (e f : Event) → IsRepresentableEvent e → IsRepresentableEvent f → IsWellFormedEvent e → IsWellFormedEvent f
    → compact_text (written_event e) ≡ compact_text (written_event f) → e ≡ f
