-- The naive session: naive clients, guests, one sequencer, the names of the connections and the log of all messages. Each
-- event is refused, and then the world stays as it was, or changes the world and may have something to write.
use Rattle.std.specs.Prelude.{ℕ, ◌+◌, ◌-◌, Bool, cond, ◌||◌, nat_eq, nat_le, nat_lt, List, [], ◌∷◌, ◌++◌, Option, Some, None, Result, Ok, Err, length, map, take, drop, fold, max, find, bytes_eq, codes, decimal, encode_utf8_all}
use Rattle.std.specs.List.{list_any}
use Rattle.serde_json.specs.Data.{Data}
use Rattle.ft_op.specs.declared.operations.BaseOp.TheVariants.{Insert}
use Rattle.ft_op.specs.declared.operations.CellOp.TheVariants.{SpliceIn}
use Rattle.ft_op.specs.declared.operations.ChannelOp.{ChannelOp}
use Rattle.ft_msg.specs.declared.messages.Body.{Body}
use Rattle.ft_msg.specs.declared.messages.Body.TheVariants.{Op}
use Rattle.ft_msg.specs.declared.messages.Draft.{Draft}
use Rattle.ft_msg.specs.declared.messages.Entry.{Entry}
use Rattle.ft_msg.specs.declared.messages.Message.{Message}
use Rattle.ft_msg.specs.declared.views.Link.{Link}
use Rattle.ft_msg.specs.declared.views.Link.TheVariants.{Offline, Joining, Online}
use Rattle.ft_seqr.specs.declared.events.HowMany.{HowMany}
use Rattle.ft_seqr.specs.declared.events.HowMany.TheVariants.{Num, All}
use Rattle.ft_seqr.specs.declared.events.Event.{Event}
use Rattle.ft_seqr.specs.declared.events.Event.TheVariants as event
use Rattle.ft_seqr.specs.declared.refusals.Refusal.{Refusal}
use Rattle.ft_seqr.specs.declared.refusals.Refusal.TheVariants.{UnknownClient, NameInUse, NotConnected, OutOfRange, NothingToTicket, NothingToDeliver, OutOfOrder, Foreign, Pending, ClientLimit, Nacked}
use Rattle.ft_props.specs.Properties.{Characters}
use Rattle.ft_op.specs.Operation.{OnGrid, OnText, SubOperation, segment_contents, sub_operations}
use Rattle.ft_op.specs.Document.{Document, empty}
use Rattle.ft_msg.specs.Blame.{blame}
use Rattle.ft_msg.specs.Client.{NaiveClient, client_over, connect, drop_link, local_edit, noop}
use Rattle.ft_msg.specs.MessageGrammar.{draft, message}
use Rattle.ft_msg.specs.Overlap.{overlap}
use Rattle.ft_msg.specs.Process.{process}
use Rattle.ft_msg.specs.Written.{written_draft, written_message}
use Rattle.ft_seqr.specs.Sequencer.{NaiveSequencer, join, leave, new_sequencer, submit}
use Rattle.ft_seqr.specs.Refusals.{refusal_of_cause, refusal_of_edit, refusal_of_link, refusal_of_process}
use Rattle.ft_seqr.specs.SameMessage.{same_message}
use Rattle.ft_attrib.specs.Runs.{origin_runs}
use Rattle.ft_seqr.specs.AnswerTexts.{written_authors, written_overlap, written_origin_run}
use Rattle.ft_sumdoc.specs.Written.{written_summary}
use Rattle.ft_msg.specs.SummaryOf.{summary_of}

-- ---- worlds

-- a client of a session, with its name and how many connections it had
pub record NamedClient : Type 0 where
  pub name : Characters
  pub connects : ℕ
  pub client : NaiveClient

-- a guest: a name and its connection, without a client
pub record NamedGuest : Type 0 where
  pub name : Characters
  pub conn : ℕ

-- a world: the clients and guests in the order in which they came, the sequencer, the names of the connections by number, all
-- messages, and the load: how many events were taken, sub-operations asked for and elements inserted
pub record NaiveWorld : Type 0 where
  pub clients : List NamedClient
  pub guests : List NamedGuest
  pub sequencer : NaiveSequencer
  pub names : List Characters
  pub log : List Entry
  pub load : ℕ

-- the world before the first event
abbrev pub new_world : NaiveWorld
new_world = record { clients = []; guests = []; sequencer = new_sequencer; names = []; log = []; load = 0 }

-- what an event writes: nothing, the view of a client, or JSON values, one a line
pub data Output : Type 0 where
  Nothing : Output
  View : NamedClient → Output
  Texts : List Data → Output

-- what becomes of an event
abbrev pub Stepped : Type 0
Stepped = Result (NaiveWorld × Output) Refusal

-- the event is taken and writes nothing
abbrev pub quietly : NaiveWorld → Stepped
quietly w = Ok (w, Nothing)

-- ---- names

-- the greatest number of clients and guests
abbrev pub name_limit : ℕ
name_limit = 16

-- whether the client has this name
abbrev pub is_client : Characters → NamedClient → Bool
is_client name c = bytes_eq name c.name

-- whether the guest has this name
abbrev pub is_guest : Characters → NamedGuest → Bool
is_guest name g = bytes_eq name g.name

-- why a name can't be given to a client or guest: it is in use, or there are 16 names
abbrev pub name_fault : NaiveWorld → Characters → Option Refusal
name_fault w name =
    cond (list_any (is_client name) w.clients || list_any (is_guest name) w.guests) (Some NameInUse)
    (cond (nat_le name_limit (length w.clients + length w.guests)) (Some ClientLimit) None)

-- the name of the k-th connection of a client or guest
abbrev pub connection_name : Characters → ℕ → Characters
connection_name name k = name ++ (codes "/" ++ decimal k)

-- the number of the next connection
abbrev pub next_conn : NaiveWorld → ℕ
next_conn w = length w.names + 1

-- what becomes of an event of the client with this name
abbrev pub of_client : NaiveWorld → Characters → (NamedClient → Stepped) → Stepped
of_client w name f = elim (find (is_client name) w.clients) [ None ↦ Err UnknownClient | Some c ↦ f c ]

-- what becomes of an event of the guest with this name
abbrev pub of_guest : NaiveWorld → Characters → (NamedGuest → Stepped) → Stepped
of_guest w name f = elim (find (is_guest name) w.guests) [ None ↦ Err UnknownClient | Some g ↦ f g ]

-- this client in the place of the one with its name
abbrev pub in_place : NamedClient → NamedClient → NamedClient
in_place d c = cond (is_client d.name c) d c

-- the world with this client in the place of the one with its name
abbrev pub with_client : NamedClient → NaiveWorld → NaiveWorld
with_client d w = record w { clients = map (in_place d) w.clients }

-- ---- the sequencer and the log

-- the world after the sequencer numbered a message
abbrev pub logged : NaiveSequencer × Entry → NaiveWorld → NaiveWorld
logged p w = record w { sequencer = p.0; log = w.log ++ (p.1 ∷ []) }

-- the world after the next connection, under this name, joined
abbrev pub joined : Characters → NaiveWorld → NaiveWorld
joined name w = logged (join w.sequencer (next_conn w) name) (record w { names = w.names ++ (name ∷ []) })

-- the world after a connection left, if it was joined
abbrev pub left : ℕ → NaiveWorld → Option NaiveWorld
left conn w = elim (leave w.sequencer conn) [ None ↦ None | Some p ↦ Some (logged p w) ]

-- the world after drafts of a connection were submitted in order, or the first nack
abbrev pub submit_all : NaiveWorld → ℕ → List Draft → Result NaiveWorld Refusal
submit_all w conn [] = Ok w
submit_all w conn (d ∷ ds) = elim (submit w.sequencer conn d) [ Err nack ↦ Err (Nacked nack) | Ok p ↦ submit_all (logged p w) conn ds ]

-- ---- clients

-- how many, where there are so many
abbrev pub wanted_count : HowMany → ℕ → Option ℕ
wanted_count All have = Some have
wanted_count (Num n) have = cond (nat_le n have) (Some n) None

-- the connection of a link
abbrev pub conn_of : Link → Option ℕ
conn_of Offline = None
conn_of (Joining conn) = Some conn
conn_of (Online conn) = Some conn

-- a client after entries in order, or why it refuses one
abbrev pub processed : NaiveClient → List Entry → Result NaiveClient Refusal
processed x [] = Ok x
processed x (entry ∷ entries) = elim (process x entry) [ Err fault ↦ Err (refusal_of_process entry.msg.seq fault) | Ok y ↦ processed y entries ]

-- the world with the client as it is now, where nothing refused
abbrev pub now : NaiveWorld → NamedClient → Result NaiveClient Refusal → Stepped
now w c (Err refusal) = Err refusal
now w c (Ok x) = quietly (with_client (record c { client = x }) w)

-- ---- events

-- a new client over a document
abbrev pub started : NaiveWorld → Characters → Document → NaiveWorld
started w name doc = record w { clients = w.clients ++ (record { name = name; connects = 0; client = client_over doc } ∷ []) }

-- nothing may be pending at a client whose document is handed on or written
abbrev pub unless_pending : NaiveClient → Stepped → Stepped
unless_pending x taken = elim x.pending [ [] ↦ taken | edit ∷ edits ↦ Err (Pending (length x.pending)) ]

-- a new client, empty or over the document of another one
abbrev pub start_client : NaiveWorld → Characters → Option Characters → Stepped
start_client w name None = quietly (started w name empty)
start_client w name (Some from) = of_client w from (λ c. unless_pending c.client (quietly (started w name c.client.doc)))

-- a new client or guest, unless its name can't be given
abbrev pub with_name : NaiveWorld → Characters → Stepped → Stepped
with_name w name taken = elim (name_fault w name) [ Some refusal ↦ Err refusal | None ↦ taken ]

-- the client joins under its next connection
abbrev pub connect_client : NaiveWorld → NamedClient → Stepped
connect_client w c = elim (connect c.client (next_conn w)) [
  | Err fault ↦ Err (refusal_of_link fault)
  | Ok x ↦ quietly (with_client (record c { client = x; connects = c.connects + 1 }) (joined (connection_name c.name (c.connects + 1)) w))
]

-- the client's connection leaves, and its unsent drafts are gone
abbrev pub drop_client : NaiveWorld → NamedClient → Stepped
drop_client w c = elim (conn_of c.client.link) [
  | None ↦ Err NotConnected
  | Some conn ↦ elim (left conn w) [
    | None ↦ Err NotConnected
    | Some v ↦ elim (drop_link c.client) [ Err fault ↦ Err (refusal_of_link fault) | Ok x ↦ quietly (with_client (record c { client = x }) v) ]
  ]
]

-- an edit of the client's own
abbrev pub edit_client : NaiveWorld → NamedClient → ChannelOp → Stepped
edit_client w c op = elim (local_edit c.client op) [
  | Err fault ↦ Err (refusal_of_edit fault)
  | Ok x ↦ quietly (with_client (record c { client = x }) w)
]

-- a noop of the client's own
abbrev pub noop_client : NaiveWorld → NamedClient → Stepped
noop_client w c = elim (noop c.client) [
  | Err fault ↦ Err (refusal_of_link fault)
  | Ok x ↦ quietly (with_client (record c { client = x }) w)
]

-- so many of the client's unsent drafts are submitted
abbrev pub ticket_sent : NaiveWorld → NamedClient → ℕ → ℕ → Stepped
ticket_sent w c conn n = elim (submit_all w conn (take n c.client.queue)) [
  | Err refusal ↦ Err refusal
  | Ok v ↦ quietly (with_client (record c { client = record c.client { queue = drop n c.client.queue } }) v)
]

-- the oldest of the client's unsent drafts are submitted
abbrev pub ticket_client : NaiveWorld → NamedClient → HowMany → Stepped
ticket_client w c many = elim (conn_of c.client.link) [
  | None ↦ Err NotConnected
  | Some conn ↦ elim (wanted_count many (length c.client.queue)) [ None ↦ Err (NothingToTicket (length c.client.queue)) | Some n ↦ ticket_sent w c conn n ]
]

-- the messages of the log beyond the client's number
abbrev pub ahead_of : NaiveWorld → NaiveClient → List Entry
ahead_of w x = drop x.doc.number w.log

-- the client processes the next messages of the log
abbrev pub deliver_client : NaiveWorld → NamedClient → HowMany → Stepped
deliver_client w c many = elim (conn_of c.client.link) [
  | None ↦ Err NotConnected
  | Some conn ↦ elim (wanted_count many (length (ahead_of w c.client))) [
    | None ↦ Err (NothingToDeliver (length (ahead_of w c.client)))
    | Some n ↦ now w c (processed c.client (take n (ahead_of w c.client)))
  ]
]

-- the client processes the next message of the log, if it is the one offered
abbrev pub offer_next : NaiveWorld → NamedClient → Message → List Entry → Stepped
offer_next w c m [] = Err (Foreign m.seq)
offer_next w c m (entry ∷ entries) = cond (same_message m entry.msg) (now w c (processed c.client (entry ∷ []))) (Err (Foreign m.seq))

-- the client processes an offered message, if it is the next one and the log has it so
abbrev pub offer_message : NaiveWorld → NamedClient → Message → Stepped
offer_message w c m =
    cond (nat_eq m.seq (c.client.doc.number + 1)) (offer_next w c m (ahead_of w c.client)) (Err (OutOfOrder (c.client.doc.number + 1) m.seq))

-- the client processes the message of an offered text
abbrev pub offer_client : NaiveWorld → NamedClient → Characters → Stepped
offer_client w c text = elim (conn_of c.client.link) [
  | None ↦ Err NotConnected
  | Some conn ↦ elim (message (encode_utf8_all text)) [ Err fault ↦ Err (refusal_of_cause fault) | Ok m ↦ offer_message w c m ]
]

-- the greatest origin of entries
abbrev pub greatest_origin : List Entry → ℕ
greatest_origin entries = fold (λ n entry. max n entry.origin) 0 entries

-- the names of the connections up to the greatest one that the client knows
abbrev pub known_names : NaiveWorld → NaiveClient → List Characters
known_names w x = take (greatest_origin (take x.doc.number w.log)) w.names

-- the client's summary
abbrev pub summary_texts : NaiveWorld → NaiveClient → List Data
summary_texts w x = written_summary (summary_of (known_names w x) x.doc) ∷ []

-- who inserted the visible elements of a range
abbrev pub blame_client : NaiveWorld → NaiveClient → ℕ → ℕ → Stepped
blame_client w x a b =
    cond (nat_lt (length (blame x)) b) (Err (OutOfRange (length (blame x)))) (Ok (w, Texts (map (written_origin_run w.names) (origin_runs a (take (b - a) (drop a (blame x)))))))

-- a new guest, whose connection joins
abbrev pub enter_guest : NaiveWorld → Characters → NaiveWorld
enter_guest w name = joined (connection_name name 1) (record w { guests = w.guests ++ (record { name = name; conn = next_conn w } ∷ []) })

-- a draft of the guest is submitted
abbrev pub submit_draft : NaiveWorld → NamedGuest → Draft → Stepped
submit_draft w g d = elim (submit_all w g.conn (d ∷ [])) [ Err refusal ↦ Err refusal | Ok v ↦ quietly v ]

-- the draft of a text is submitted for the guest
abbrev pub submit_guest : NaiveWorld → NamedGuest → Characters → Stepped
submit_guest w g text = elim (draft (encode_utf8_all text)) [ Err fault ↦ Err (refusal_of_cause fault) | Ok d ↦ submit_draft w g d ]

-- the guest's connection leaves
abbrev pub part_guest : NaiveWorld → NamedGuest → Stepped
part_guest w g = elim (left g.conn w) [ None ↦ Err NotConnected | Some v ↦ quietly v ]

-- what becomes of an event, its load aside
abbrev pub happen : NaiveWorld → Event → Stepped
happen w (event.Start name from) = with_name w name (start_client w name from)
happen w (event.Connect name) = of_client w name (connect_client w)
happen w (event.Drop name) = of_client w name (drop_client w)
happen w (event.Edit name op) = of_client w name (λ c. edit_client w c op)
happen w (event.Ticket name many) = of_client w name (λ c. ticket_client w c many)
happen w (event.Deliver name many) = of_client w name (λ c. deliver_client w c many)
happen w (event.Noop name) = of_client w name (noop_client w)
happen w (event.Show name) = of_client w name (λ c. Ok (w, View c))
happen w (event.Queue name) = of_client w name (λ c. Ok (w, Texts (map written_draft c.client.queue)))
happen w (event.Compact name) = of_client w name (λ c. quietly w)
happen w (event.Summary name) = of_client w name (λ c. unless_pending c.client (Ok (w, Texts (summary_texts w c.client))))
happen w (event.Offer name text) = of_client w name (λ c. offer_client w c text)
happen w event.History = Ok (w, Texts (map (λ entry. written_message entry.msg) w.log))
happen w (event.Guest name) = with_name w name (quietly (enter_guest w name))
happen w (event.Submit name text) = of_guest w name (λ g. submit_guest w g text)
happen w (event.Part name) = of_guest w name (part_guest w)
happen w (event.Overlap name label a b) = of_client w name (λ c. Ok (w, Texts (map written_overlap (overlap c.client label a b))))
happen w (event.Blame name a b) = of_client w name (λ c. blame_client w c.client a b)
happen w (event.Authors name) = of_client w name (λ c. Ok (w, Texts (written_authors w.names (blame c.client))))

-- ---- the load

-- how many elements a sub-operation inserts
abbrev pub inserted_count : SubOperation → ℕ
inserted_count (OnText (Insert p seg props)) = length (segment_contents seg)
inserted_count (OnGrid (SpliceIn target p count)) = count
inserted_count _ = 0

-- what an operation adds to the load: one for each sub-operation, and one for each inserted element
abbrev pub op_load : ChannelOp → ℕ
op_load op = fold (λ n o. n + (1 + inserted_count o)) 0 (sub_operations op)

-- what a body adds
abbrev pub body_load : Body → ℕ
body_load (Op op) = op_load op
body_load _ = 0

-- what the operation of an event adds, or of the text in it
abbrev pub text_load : Event → ℕ
text_load (event.Edit name op) = op_load op
text_load (event.Offer name text) = elim (message (encode_utf8_all text)) [ Ok m ↦ body_load m.body | Err fault ↦ 0 ]
text_load (event.Submit name text) = elim (draft (encode_utf8_all text)) [ Ok d ↦ body_load d.body | Err fault ↦ 0 ]
text_load _ = 0

-- the world after a load was added to its own
abbrev pub loaded : ℕ → Stepped → Stepped
loaded n (Err refusal) = Err refusal
loaded n (Ok p) = Ok (record p.0 { load = p.0.load + n }, p.1)

-- what becomes of an event: it is refused, or the world after it, and what it writes
abbrev pub step : NaiveWorld → Event → Stepped
step w e = loaded (1 + text_load e) (happen w e)

-- the world after an event, as it was where that is refused
abbrev pub world_after : NaiveWorld → Event → NaiveWorld
world_after w e = elim (step w e) [ Err refusal ↦ w | Ok p ↦ p.0 ]

-- the world after events in order
abbrev pub world_of : NaiveWorld → List Event → NaiveWorld
world_of w [] = w
world_of w (e ∷ es) = world_of (world_after w e) es

-- the first of two clients, unless the second has processed more
abbrev pub further : NaiveClient → NaiveClient → NaiveClient
further x y = cond (nat_lt x.doc.number y.doc.number) y x

-- the document of the client with the greatest number, the empty one without clients
abbrev pub furthest : NaiveWorld → Document
furthest w = (fold (λ x c. further x c.client) (client_over empty) w.clients).doc
