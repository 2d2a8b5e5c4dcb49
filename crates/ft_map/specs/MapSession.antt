-- The naive map session: naive map clients, one sequencer, the log of all messages. Each event is refused, and then the session
-- stays as it was, or changes it and may have something to write.
use Rattle.std.specs.Prelude.{ℕ, ◌+◌, Bool, cond, nat_le, List, [], ◌∷◌, ◌++◌, Option, Some, None, Result, Ok, Err, length, take, drop, find, bytes_eq}
use Rattle.std.specs.List.{list_any}
use Rattle.ft_msg.specs.declared.messages.Entry.{Entry}
use Rattle.ft_msg.specs.declared.views.Link.TheVariants.{Offline}
use Rattle.ft_seqr.specs.declared.events.HowMany.{HowMany}
use Rattle.ft_seqr.specs.declared.refusals.Refusal.{Refusal}
use Rattle.ft_seqr.specs.declared.refusals.Refusal.TheVariants.{UnknownClient, NameInUse, AlreadyConnected, NotConnected, NothingToTicket, NothingToDeliver, Pending, ClientLimit, Nacked}
use Rattle.ft_seqr.specs.Sequencer.{NaiveSequencer, join, leave, new_sequencer, submit}
use Rattle.ft_seqr.specs.World.{conn_of, connection_name, name_limit, wanted_count}
use Rattle.ft_map.specs.declared.events.MapEvent.{MapEvent}
use Rattle.ft_map.specs.declared.events.MapEvent.TheVariants as event
use Rattle.ft_map.specs.declared.log.MapDraft.{MapDraft}
use Rattle.ft_map.specs.declared.log.MapEntry.{MapEntry}
use Rattle.ft_shared_map.specs.declared.ops.MapOp.{MapOp}
use Rattle.ft_shared_map.specs.Maps.{Characters}
use Rattle.ft_map.specs.MapClient.{MapClient, after_entries, client_over, dropped, edited, joining}

-- a client of a session, with its name and how many connections it had
pub record NamedMapClient : Type 0 where
  pub name : Characters
  pub connects : ℕ
  pub client : MapClient

-- what orders the messages: the sequencer, how many connections there were, and all messages
pub record MapService : Type 0 where
  pub sequencer : NaiveSequencer
  pub connections : ℕ
  pub log : List MapEntry

-- a session: the clients in the order in which they came, and what orders their messages
pub record MapSession : Type 0 where
  pub clients : List NamedMapClient
  pub service : MapService

-- before the first message
abbrev pub new_service : MapService
new_service = record { sequencer = new_sequencer; connections = 0; log = [] }

-- the session before the first event
abbrev pub new_session : MapSession
new_session = record { clients = []; service = new_service }

-- what an event writes: nothing, the view of a client, or its summary
pub data MapOutput : Type 0 where
  Nothing : MapOutput
  View : NamedMapClient → MapOutput
  Summary : MapClient → MapOutput

-- what becomes of an event
abbrev pub MapStepped : Type 0
MapStepped = Result (MapSession × MapOutput) Refusal

-- a client after its event, with what orders the messages and what the event writes
pub record MapTurn : Type 0 where
  pub service : MapService
  pub client : NamedMapClient
  pub output : MapOutput

-- what becomes of an event of one client
abbrev pub MapTurned : Type 0
MapTurned = Result MapTurn Refusal

-- the client is this, and nothing is written
abbrev pub turned : MapService → NamedMapClient → MapClient → MapTurned
turned s c x = Ok (record { service = s; client = record c { client = x }; output = Nothing })

-- the event only asks, and writes this
abbrev pub asked : MapService → NamedMapClient → MapOutput → MapTurned
asked s c output = Ok (record { service = s; client = c; output = output })

-- ---- clients by name

-- whether the client has this name
abbrev pub is_client : Characters → NamedMapClient → Bool
is_client name c = bytes_eq name c.name

-- why a name can't be given to a client: it is in use, or there are 16 names
abbrev pub name_fault : MapSession → Characters → Option Refusal
name_fault w name =
    cond (list_any (is_client name) w.clients) (Some NameInUse)
    (cond (nat_le name_limit (length w.clients)) (Some ClientLimit) None)

-- the clients with this one in the place of the first with that name
abbrev pub replaced : Characters → NamedMapClient → List NamedMapClient → List NamedMapClient
replaced name d [] = []
replaced name d (c ∷ cs) = cond (is_client name c) (d ∷ cs) (c ∷ replaced name d cs)

-- the session after an event of the client with this name
abbrev pub settled : MapSession → Characters → MapTurned → MapStepped
settled w name (Err refusal) = Err refusal
settled w name (Ok turn) = Ok (record { clients = replaced name turn.client w.clients; service = turn.service }, turn.output)

-- what becomes of an event of the client with this name
abbrev pub of_client : MapSession → Characters → (MapService → NamedMapClient → MapTurned) → MapStepped
of_client w name f = elim (find (is_client name) w.clients) [ None ↦ Err UnknownClient | Some c ↦ settled w name (f w.service c) ]

-- ---- the sequencer and the log

-- after the sequencer numbered a message with this operation, if it has one
abbrev pub logged : NaiveSequencer × Entry → Option MapOp → MapService → MapService
logged p op s = record s { sequencer = p.0; log = s.log ++ record { entry = p.1; op = op } ∷ [] }

-- the number of the next connection
abbrev pub next_conn : MapService → ℕ
next_conn s = s.connections + 1

-- after the next connection, under this name, joined
abbrev pub joined : Characters → MapService → MapService
joined name s = logged (join s.sequencer (next_conn s) name) None (record s { connections = next_conn s })

-- after a connection left, if it was joined
abbrev pub left : ℕ → MapService → Option MapService
left conn s = elim (leave s.sequencer conn) [ None ↦ None | Some p ↦ Some (logged p None s) ]

-- after a draft of a connection was submitted, or the nack
abbrev pub submit_one : MapService → ℕ → MapDraft → Result MapService Refusal
submit_one s conn d = elim (submit s.sequencer conn d.draft) [ Err nack ↦ Err (Nacked nack) | Ok p ↦ Ok (logged p (Some d.op) s) ]

-- after drafts of a connection were submitted in order, or the first nack
abbrev pub submit_all : MapService → ℕ → List MapDraft → Result MapService Refusal
submit_all s conn [] = Ok s
submit_all s conn (d ∷ ds) = elim (submit_one s conn d) [ Err refusal ↦ Err refusal | Ok t ↦ submit_all t conn ds ]

-- ---- events of a client

-- nothing may be pending at a client whose map is handed on or written
abbrev pub unless_pending : {A : Type 0} → MapClient → Result A Refusal → Result A Refusal
unless_pending x taken = elim x.state.pending [ [] ↦ taken | op ∷ ops ↦ Err (Pending (length x.state.pending)) ]

-- the client joins under its next connection
abbrev pub connect_client : MapService → NamedMapClient → MapTurned
connect_client s c = elim c.client.link [
  | Offline ↦ Ok (record {
    service = joined (connection_name c.name (c.connects + 1)) s;
    client = record { name = c.name; connects = c.connects + 1; client = joining (next_conn s) c.client };
    output = Nothing;
  })
  | _ ↦ Err AlreadyConnected
]

-- the client's connection leaves, and its unsent messages are gone
abbrev pub drop_client : MapService → NamedMapClient → MapTurned
drop_client s c = elim (conn_of c.client.link) [
  | None ↦ Err NotConnected
  | Some conn ↦ elim (left conn s) [ None ↦ Err NotConnected | Some t ↦ turned t c (dropped c.client) ]
]

-- an edit of the client's own
abbrev pub edit_client : MapOp → MapService → NamedMapClient → MapTurned
edit_client op s c = turned s c (edited op c.client)

-- so many of the client's unsent messages are submitted
abbrev pub ticket_sent : MapService → NamedMapClient → ℕ → ℕ → MapTurned
ticket_sent s c conn n = elim (submit_all s conn (take n c.client.queue)) [
  | Err refusal ↦ Err refusal
  | Ok t ↦ turned t c (record c.client { queue = drop n c.client.queue })
]

-- the oldest of the client's unsent messages are submitted
abbrev pub ticket_client : HowMany → MapService → NamedMapClient → MapTurned
ticket_client many s c = elim (conn_of c.client.link) [
  | None ↦ Err NotConnected
  | Some conn ↦ elim (wanted_count many (length c.client.queue)) [ None ↦ Err (NothingToTicket (length c.client.queue)) | Some n ↦ ticket_sent s c conn n ]
]

-- the messages of the log beyond the client's number
abbrev pub ahead_of : MapService → MapClient → List MapEntry
ahead_of s x = drop x.number s.log

-- the client processes the next messages of the log
abbrev pub deliver_client : HowMany → MapService → NamedMapClient → MapTurned
deliver_client many s c = elim (conn_of c.client.link) [
  | None ↦ Err NotConnected
  | Some conn ↦ elim (wanted_count many (length (ahead_of s c.client))) [
    | None ↦ Err (NothingToDeliver (length (ahead_of s c.client)))
    | Some n ↦ turned s c (after_entries c.client (take n (ahead_of s c.client)))
  ]
]

-- the client's view is written
abbrev pub show_client : MapService → NamedMapClient → MapTurned
show_client s c = asked s c (View c)

-- the client's summary is written
abbrev pub summary_client : MapService → NamedMapClient → MapTurned
summary_client s c = unless_pending c.client (asked s c (Summary c.client))

-- ---- events

-- a new client over this one's map, if it may be handed on
abbrev pub started : MapSession → Characters → MapClient → MapStepped
started w name x = Ok (record w { clients = w.clients ++ record { name = name; connects = 0; client = x } ∷ [] }, Nothing)

-- a new client, empty, or with the map and the numbers of another one
abbrev pub start_client : MapSession → Characters → Option Characters → MapStepped
start_client w name None = started w name (client_over [] 0 0)
start_client w name (Some from) = elim (find (is_client from) w.clients) [
  | None ↦ Err UnknownClient
  | Some c ↦ unless_pending c.client (started w name (client_over c.client.state.acked c.client.number c.client.minimum))
]

-- a new client, unless its name can't be given
abbrev pub with_name : MapSession → Characters → MapStepped → MapStepped
with_name w name taken = elim (name_fault w name) [ Some refusal ↦ Err refusal | None ↦ taken ]

-- what becomes of an event: it is refused, or the session after it, and what it writes
abbrev pub step : MapSession → MapEvent → MapStepped
step w (event.Start name from) = with_name w name (start_client w name from)
step w (event.Connect name) = of_client w name connect_client
step w (event.Drop name) = of_client w name drop_client
step w (event.Edit name op) = of_client w name (edit_client op)
step w (event.Ticket name many) = of_client w name (ticket_client many)
step w (event.Deliver name many) = of_client w name (deliver_client many)
step w (event.Show name) = of_client w name show_client
step w (event.Summary name) = of_client w name summary_client

-- the session after an event, as it was where that is refused
abbrev pub session_after : MapSession → MapEvent → MapSession
session_after w e = elim (step w e) [ Err refusal ↦ w | Ok p ↦ p.0 ]

-- the session after events in order
abbrev pub session_of : MapSession → List MapEvent → MapSession
session_of w [] = w
session_of w (e ∷ es) = session_of (session_after w e) es
