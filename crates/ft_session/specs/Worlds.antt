-- Worlds of replicas as contracts see them, for which naive worlds they stand, and what they answer.
use Rattle.std.specs.Prelude.{◌≡◌, ℕ, Bool, true, false, bytes_eq, find, map, take, List, [], ◌∷◌, ◌++◌, Some, Result, Ok, Err, ⊤}
use Rattle.ft_props.specs.Properties.{Characters}
use Rattle.ft_msg.specs.declared.messages.Entry.{Entry}
use Rattle.ft_msg.specs.Answers.{ReplicaState, RunsFor}
use Rattle.ft_seqr.specs.declared.events.Event.{Event}
use Rattle.ft_seqr.specs.declared.refusals.Refusal.{Refusal}
use Rattle.ft_seqr.specs.declared.refusals.Refusal.TheVariants.{Stopped}
use Rattle.ft_seqr.specs.RefusalKinds.{MeansOf, refusal_kind}
use Rattle.ft_seqr.specs.Sequencer.{NaiveSequencer}
use Rattle.ft_seqr.specs.World.{NaiveWorld, NamedClient, NamedGuest, Output, Stepped, greatest_origin, in_place, is_client, step}
use Rattle.ft_laws_sessions.specs.MadeWorlds.{IsMade}
use Rattle.ft_session.specs.declared.outputs.Out.{Out}
use Rattle.ft_session.specs.declared.outputs.Counts.{Counts}
use Rattle.ft_session.specs.Outputs.{Tells, counts_of}

-- a replica in a world: its name, its state, and how often it connected
pub record MemberState : Type 0 where
  pub name : Characters
  pub replica : ReplicaState
  pub connects : ℕ

-- what orders the messages: the sequencer, the names of the connections by number, and all messages
pub record ServiceState : Type 0 where
  pub sequencer : NaiveSequencer
  pub names : List Characters
  pub log : List Entry

-- a session: its replicas, its guests, and what orders their messages
pub record SessionState : Type 0 where
  pub members : List MemberState
  pub guests : List NamedGuest
  pub service : ServiceState

-- a world: its session, its load, its counts, and whether it stopped
pub record WorldState : Type 0 where
  pub session : SessionState
  pub load : ℕ
  pub counts : Counts
  pub stopped : Bool

-- whether it is the replica of that name
abbrev pub has_name : Characters → MemberState → Bool
has_name name m = bytes_eq name m.name

-- what orders the messages of a naive world
abbrev pub service_of : NaiveWorld → ServiceState
service_of w = record { sequencer = w.sequencer; names = w.names; log = w.log }

-- ---- for what they stand

-- the replica stands for the client, and knows the connections in the first messages of the log, which the client processed
pub record MemberStands (log : List Entry) (m : MemberState) (c : NamedClient) : Type 0 where
  pub name : m.name ≡ c.name
  pub replica : RunsFor m.replica c.client
  pub connects : m.connects ≡ c.connects
  pub origin : m.replica.origin ≡ greatest_origin (take c.client.doc.number log)

-- each replica stands for the client at its place
abbrev pub MembersStand : List Entry → List MemberState → List NamedClient → Type 0
MembersStand log [] [] = ⊤
MembersStand log (m ∷ ms) (c ∷ cs) = MemberStands log m c × MembersStand log ms cs
MembersStand log _ _ = ⊥

-- the session stands for the naive world
pub record SessionStands (s : SessionState) (w : NaiveWorld) : Type 0 where
  pub members : MembersStand w.log s.members w.clients
  pub guests : s.guests ≡ w.guests
  pub service : s.service ≡ service_of w

-- the world runs and stands for the naive world, which well-formed events made of the empty one
pub record WorldStands (w : WorldState) (n : NaiveWorld) : Type 0 where
  pub running : w.stopped ≡ false
  pub session : SessionStands w.session n
  pub made : IsMade n
  pub load : w.load ≡ n.load
  pub counts : w.counts ≡ counts_of n

-- a replica and what orders the messages stand for a client of a naive world, which well-formed events made
pub record Meets (w : NaiveWorld) (c : NamedClient) (m : MemberState) (s : ServiceState) : Type 0 where
  pub made : IsMade w
  pub found : find (is_client c.name) w.clients ≡ Some c
  pub member : MemberStands w.log m c
  pub service : s ≡ service_of w

-- they do for some client
pub record MeetsSome (m : MemberState) (s : ServiceState) : Type 0 where
  pub world : NaiveWorld
  pub client : NamedClient
  pub meets : Meets world client m s

-- ---- what they answer

-- what an event of one client left behind: the client in its place, and its messages at the end of the log
pub record LeavesClient (w : NaiveWorld) (c : NamedClient) (m : MemberState) (s : ServiceState) (v : NaiveWorld) : Type 0 where
  pub client : NamedClient
  pub name : client.name ≡ c.name
  pub member : MemberStands v.log m client
  pub clients : v.clients ≡ map (in_place client) w.clients
  pub guests : v.guests ≡ w.guests
  pub service : s ≡ service_of v
  pub later : List Entry
  pub log : v.log ≡ w.log ++ later
  pub load : v.load ≡ w.load

-- the answer of one replica, and of what orders the messages, to an event of its client that becomes this
abbrev pub AnswersStepped : NaiveWorld → NamedClient → MemberState → MemberState → ServiceState → ServiceState → Stepped → Result Out Refusal → Type 0
AnswersStepped w c old new before after stepped (Ok out) = (p : NaiveWorld × Output) × (stepped ≡ Ok p) × LeavesClient w c new after p.0 × Tells p.1 out
AnswersStepped w c old new before after stepped (Err why) = MeansOf (refusal_kind why) ⊤ ((new ≡ old) × (after ≡ before) × (stepped ≡ Err why))

-- the same for each client for which they stand
pub record AnswersClient (event : NaiveWorld → NamedClient → Stepped) (old new : MemberState) (before after : ServiceState) (result : Result Out Refusal) : Type 0 where
  pub client : (w : NaiveWorld) (c : NamedClient) → Meets w c old before → AnswersStepped w c old new before after (event w c) result

-- the answer to an event that changes nothing and becomes this
abbrev pub AnswersAsked : NaiveWorld → Stepped → Result Out Refusal → Type 0
AnswersAsked w stepped (Ok out) = (output : Output) × (stepped ≡ Ok (w, output)) × Tells output out
AnswersAsked w stepped (Err why) = MeansOf (refusal_kind why) ⊤ (stepped ≡ Err why)

-- the same for each client for which the replica stands
pub record AnswersReading (event : NaiveWorld → NamedClient → Stepped) (m : MemberState) (s : ServiceState) (result : Result Out Refusal) : Type 0 where
  pub client : (w : NaiveWorld) (c : NamedClient) → Meets w c m s → AnswersAsked w (event w c) result

-- the session stands for some naive world, which well-formed events made
pub record SessionStandsForSome (s : SessionState) : Type 0 where
  pub world : NaiveWorld
  pub made : IsMade world
  pub stands : SessionStands s world

-- the answer of a session that stood for a naive world to an event that becomes this
abbrev pub AnswersSession : SessionState → SessionState → NaiveWorld → Stepped → Result Out Refusal → Type 0
AnswersSession old new w stepped (Ok out) = (p : NaiveWorld × Output) × (stepped ≡ Ok p) × SessionStands new p.0 × (p.0.load ≡ w.load) × Tells p.1 out
AnswersSession old new w stepped (Err why) = MeansOf (refusal_kind why) ⊤ ((new ≡ old) × (stepped ≡ Err why))

-- the same for each naive world for which it stands
pub record AnswersHappening (event : NaiveWorld → Stepped) (old new : SessionState) (result : Result Out Refusal) : Type 0 where
  pub world : (w : NaiveWorld) → IsMade w → SessionStands old w → AnswersSession old new w (event w) result

-- the world stopped, and goes on telling the counts from before
pub record StopsWithCounts (old new : WorldState) : Type 0 where
  pub stopped : new.stopped ≡ true
  pub counts : new.counts ≡ old.counts

-- the answer of a world that stood for a naive one to an event: what the naive world writes, and then the world stands for the
-- naive one after it; its refusal, and then nothing changed; or OutOfMemory, and then the world has stopped
abbrev pub AnswersRunning : WorldState → WorldState → Stepped → Result Out Refusal → Type 0
AnswersRunning old new stepped (Ok out) = (p : NaiveWorld × Output) × (stepped ≡ Ok p) × WorldStands new p.0 × Tells p.1 out
AnswersRunning old new stepped (Err why) = MeansOf (refusal_kind why) (StopsWithCounts old new) ((new ≡ old) × (stepped ≡ Err why))

-- the answer of any world: as each naive world answers for which it stands, or that it had stopped
pub record AnswersEvent (e : Event) (old new : WorldState) (result : Result Out Refusal) : Type 0 where
  pub runs : (w : NaiveWorld) → WorldStands old w → AnswersRunning old new (step w e) result
  pub stopped : old.stopped ≡ true → (result ≡ Err Stopped) × (new ≡ old)

-- the world stands for some naive world unless it stopped
abbrev pub RunsForSome : WorldState → Type 0
RunsForSome w = w.stopped ≡ false → (n : NaiveWorld) × WorldStands w n
