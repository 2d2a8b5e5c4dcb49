-- That every entry of a log is well formed.
use Rattle.std.specs.Prelude.{◌≡◌, ◌+◌, ◌<◌, ◌^◌, List, [], ◌∷◌, Ok, encode_utf8_all, ⊤}
use Rattle.ft_msg.specs.declared.messages.Draft.{Draft}
use Rattle.ft_seqr.specs.declared.events.Event.{Event}
use Rattle.ft_seqr.specs.declared.events.Event.TheVariants.{Submit}
use Rattle.ft_props.specs.Properties.{Characters}
use Rattle.ft_msg.specs.MessageGrammar.{draft}
use Rattle.ft_msg.specs.WellFormed.{IsWellFormedDraft, IsWellFormedMessage}
use Rattle.ft_seqr.specs.WellFormedEvent.{IsWellFormedEvent}
use Rattle.ft_seqr.specs.World.{NaiveWorld, new_world, text_load, world_after}
use Rattle.ft_laws_agreement.specs.Sequencing.{Each}
use Rattle.ft_laws_sessions.specs.Worlds.{reached}

-- the draft that the text is, if it is one, is well formed
abbrev pub IsFormedText : Characters → Type 0
IsFormedText text = (d : Draft) → draft (encode_utf8_all text) ≡ Ok d → IsWellFormedDraft d

-- and so is that of an event that submits one
abbrev pub IsFormedSubmission : Event → Type 0
IsFormedSubmission (Submit guest text) = IsFormedText text
IsFormedSubmission _ = ⊤

-- an event may be taken: it is well formed, with the draft in its text, and the load with what it would add is below 2^53
pub record MayBeTaken (w : NaiveWorld) (e : Event) : Type 0 where
  pub event : IsWellFormedEvent e
  pub text : IsFormedSubmission e
  pub load : w.load + (1 + text_load e) < 2 ^ 53

-- each of the events may be taken by the world as it is then
abbrev pub AllMayBeTaken : NaiveWorld → List Event → Type 0
AllMayBeTaken w [] = ⊤
AllMayBeTaken w (e ∷ events) = MayBeTaken w e × AllMayBeTaken (world_after w e) events

-- then each message of the log is well formed
abbrev pub EntriesAreWellFormed : Type 0
EntriesAreWellFormed = (events : List Event) → AllMayBeTaken new_world events → Each (λ entry. IsWellFormedMessage entry.msg) (reached events).log
