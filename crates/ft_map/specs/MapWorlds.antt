-- Map worlds as contracts see them, and what they answer.
use Rattle.std.specs.Prelude.{◌≡◌, ◌<◌, ℕ, Bool, true, false, List, [], Option, Some, None, Result, Ok, Err, encode_utf8_all, length, ⊤}
use Rattle.std.specs.Str.{IsUtf8}
use Rattle.ft_json.specs.Canonical.{IsCanonicalText}
use Rattle.ft_msg.specs.declared.views.Numbers.{Numbers}
use Rattle.ft_seqr.specs.declared.refusals.Refusal.{Refusal}
use Rattle.ft_seqr.specs.declared.refusals.Refusal.TheVariants.{Nacked, NotConnected, Pending, Stopped}
use Rattle.ft_seqr.specs.declared.nacks.Nack.{Nack}
use Rattle.ft_seqr.specs.RefusalKinds.{MeansOf, Refused, refusal_kind}
use Rattle.ft_map.specs.declared.events.MapEvent.{MapEvent}
use Rattle.ft_map.specs.declared.events.MapOut.{MapOut}
use Rattle.ft_map.specs.declared.events.MapOut.TheVariants as out
use Rattle.ft_shared_map.specs.declared.ops.MapOp.{MapOp}
use Rattle.ft_shared_map.specs.declared.ops.MapPair.{MapPair}
use Rattle.ft_shared_map.specs.Maps.{Characters, ValueBytes, pairs_of}
use Rattle.ft_map.specs.MapClient.{MapClient, view_of}
use Rattle.ft_map.specs.MapReport.{summary_text}
use Rattle.ft_map.specs.MapSession.{MapOutput, MapService, MapSession, MapStepped, MapTurned, NamedMapClient, Nothing, Summary, View, left, start_client, started, step}

-- a world: its session, and whether it stopped
pub record MapWorldState : Type 0 where
  pub session : MapSession
  pub stopped : Bool

-- ---- what is written

-- the numbers are the client's, and what a map doesn't count is 0
pub record AreNumbersOf (x : MapClient) (numbers : Numbers) : Type 0 where
  pub seq : numbers.seq ≡ x.number
  pub min : numbers.min ≡ x.minimum
  pub pending : numbers.pending ≡ length x.state.pending
  pub skipped : numbers.skipped ≡ 0
  pub other : numbers.other ≡ 0
  pub made : numbers.made ≡ 0
  pub link : numbers.link ≡ x.link

-- it is the view of the client: its name, its numbers, and what it shows
pub record IsViewOf (c : NamedMapClient) (name : Characters) (numbers : Numbers) (pairs : List MapPair) : Type 0 where
  pub name_is : name ≡ c.name
  pub numbers_are : AreNumbersOf c.client numbers
  pub shows : pairs ≡ pairs_of (view_of c.client)

-- the answer is that output
abbrev pub Tells : MapOutput → MapOut → Type 0
Tells Nothing out.Nothing = ⊤
Tells (View c) (out.View name numbers pairs) = IsViewOf c name numbers pairs.items
Tells (Summary x) (out.Summary text) = text ≡ summary_text x
Tells _ _ = ⊥

-- the characters of a key are a text, and the value is the text of one
abbrev pub IsWritable : Characters × ValueBytes → Type 0
IsWritable entry = IsUtf8 (encode_utf8_all entry.0) × IsCanonicalText entry.1

-- ---- refusals

-- the sequencer isn't what refuses
abbrev pub HasNoNack : {A : Type 0} → Result A Refusal → Type 0
HasNoNack r = (nack : Nack) → r ≡ Err (Nacked nack) → ⊥

-- ---- what is answered

-- the answer to a name: it is free, or why it can't be given
abbrev pub AnswersName : Option Refusal → Result (Unit {0}) Refusal → Type 0
AnswersName fault (Ok _) = fault ≡ None
AnswersName fault (Err why) = (fault ≡ Some why) × (refusal_kind why ≡ Refused)

-- the answer to whether nothing is pending: so it is, or how much is
abbrev pub AnswersPending : List MapOp → Result (Unit {0}) Refusal → Type 0
AnswersPending ops (Ok _) = ops ≡ []
AnswersPending ops (Err why) = (0 < length ops) × (why ≡ Pending (length ops))

-- the answer to who begins a client: the client, whatever its name; or the refusal
abbrev pub AnswersStart : MapSession → Option Characters → Result MapClient Refusal → Type 0
AnswersStart w from (Ok x) = (name : Characters) → start_client w name from ≡ started w name x
AnswersStart w from (Err why) = MeansOf (refusal_kind why) ⊤ ((name : Characters) → start_client w name from ≡ Err why)

-- the answer to a connection that leaves: what orders the messages after it, that it isn't joined, or OutOfMemory
abbrev pub AnswersLeave : ℕ → MapService → MapService → Result (Unit {0}) Refusal → Type 0
AnswersLeave conn old new (Ok _) = left conn old ≡ Some new
AnswersLeave conn old new (Err why) = MeansOf (refusal_kind why) ⊤ ((new ≡ old) × (left conn old ≡ None) × (why ≡ NotConnected))

-- the answer to an event of a client that becomes this: the client and what orders the messages after it, and what is written; the
-- refusal, and nothing changed; or OutOfMemory
abbrev pub AnswersTurn : NamedMapClient → NamedMapClient → MapService → MapService → MapTurned → Result MapOut Refusal → Type 0
AnswersTurn old new before after turned (Ok written) = (output : MapOutput) × (turned ≡ Ok (record { service = after; client = new; output = output })) × Tells output written
AnswersTurn old new before after turned (Err why) = MeansOf (refusal_kind why) ⊤ ((new ≡ old) × (after ≡ before) × (turned ≡ Err why))

-- the answer of a session to an event that becomes this
abbrev pub AnswersSession : MapSession → MapSession → MapStepped → Result MapOut Refusal → Type 0
AnswersSession old new stepped (Ok written) = (output : MapOutput) × (stepped ≡ Ok (new, output)) × Tells output written
AnswersSession old new stepped (Err why) = MeansOf (refusal_kind why) ⊤ ((new ≡ old) × (stepped ≡ Err why))

-- the answer of a world that runs to an event that becomes this: the session after it and what that writes; its refusal, and nothing
-- changed; or OutOfMemory, and then the world has stopped
abbrev pub AnswersRunning : MapWorldState → MapWorldState → MapStepped → Result MapOut Refusal → Type 0
AnswersRunning old new stepped (Ok written) = (output : MapOutput) × (stepped ≡ Ok (new.session, output)) × (new.stopped ≡ false) × Tells output written
AnswersRunning old new stepped (Err why) = MeansOf (refusal_kind why) (new.stopped ≡ true) ((new ≡ old) × (stepped ≡ Err why))

-- the answer of any world to an event
pub record AnswersMapEvent (e : MapEvent) (old new : MapWorldState) (result : Result MapOut Refusal) : Type 0 where
  pub runs : old.stopped ≡ false → AnswersRunning old new (step old.session e) result
  pub stopped : old.stopped ≡ true → (result ≡ Err Stopped) × (new ≡ old)
