-- A driver of clients over one sequencer, for the worked examples alone. It joins at the sequencer even where a client
-- refuses to connect, and has no guests: it is no definition of a session.
use Rattle.std.specs.Prelude.{ℕ, ◌+◌, cond, nat_eq, List, [], ◌∷◌, ◌++◌, Some, None, Result, Ok, Err, map, take, drop, length}
use Rattle.ft_op.specs.declared.operations.ChannelOp.{ChannelOp}
use Rattle.ft_msg.specs.declared.messages.Draft.{Draft}
use Rattle.ft_msg.specs.declared.messages.Entry.{Entry}
use Rattle.ft_msg.specs.declared.views.Link.{Link}
use Rattle.ft_msg.specs.declared.views.Link.TheVariants.{Offline, Joining, Online}
use Rattle.ft_msg.specs.declared.faults.EditFault.{EditFault}
use Rattle.ft_sumdoc.specs.declared.summary.IntervalRec.{IntervalRec}
use Rattle.ft_attrib.specs.declared.attribution.Origin.{Origin}
use Rattle.ft_msg.specs.declared.faults.ProcessFault.{ProcessFault}
use Rattle.ft_props.specs.Properties.{Characters}
use Rattle.ft_op.specs.Document.{Document, empty}
use Rattle.ft_msg.specs.Client.{NaiveClient, client_over, connect, drop_link, local_edit, noop}
use Rattle.ft_msg.specs.Content.{ViewContent, content}
use Rattle.ft_msg.specs.Process.{process}
use Rattle.ft_msg.specs.Applied.{applied}
use Rattle.ft_msg.specs.Overlap.{overlap}
use Rattle.ft_msg.specs.Blame.{blame}
use Rattle.ft_seqr.specs.Sequencer.{NaiveSequencer, join, leave, new_sequencer, submit}

-- how many: so many, or all there are
pub data Many : Type 0 where
  some : ℕ → Many
  all : Many

-- what happens to the client of this number
pub data Event : Type 0 where
  Start : ℕ → Event
  Connect : ℕ → Event
  Drop : ℕ → Event
  Edit : ℕ → ChannelOp → Event
  Ticket : ℕ → Many → Event
  Deliver : ℕ → Many → Event
  Noop : ℕ → Event
  Show : ℕ → Event
  Queue : ℕ → Event
  From : ℕ → ℕ → Event
  Overlap : ℕ → Characters → ℕ → ℕ → Event
  Blame : ℕ → Event
  Save : ℕ → Event

-- what an event writes
pub data Output : Type 0 where
  Showed : (seq min pending link : ℕ) → ViewContent → ViewContent → Output
  Queued : List Draft → Output
  Refused : Output
  EditRefused : EditFault → Output
  ProcessRefused : ProcessFault → Output
  Met : List IntervalRec → Output
  Blamed : List Origin → Output
  Kept : Document → Output

-- the clients, the sequencer, the log of all messages, how many connections there were, and what was written
pub record World : Type 0 where
  pub clients : List (ℕ × NaiveClient)
  pub sequencer : NaiveSequencer
  pub log : List Entry
  pub conns : ℕ
  pub out : List Output

-- the world before the first event
abbrev pub new_world : World
new_world = record { clients = []; sequencer = new_sequencer; log = []; conns = 0; out = [] }

-- the client of this number, a new one where there is none
abbrev pub client_of : ℕ → List (ℕ × NaiveClient) → NaiveClient
client_of i [] = client_over empty
client_of i ((j, x) ∷ xs) = cond (nat_eq i j) x (client_of i xs)

-- the world with this client for its number
abbrev pub with_client : ℕ → NaiveClient → World → World
with_client i x w = record w { clients = map (λ p. cond (nat_eq i p.0) (i, x) p) w.clients }

-- the world after this output
abbrev pub told : Output → World → World
told o w = record w { out = w.out ++ (o ∷ []) }

-- the world with the client, if it took the step
abbrev pub or_refused : {E : Type 0} → ℕ → World → Result NaiveClient E → World
or_refused i w (Ok x) = with_client i x w
or_refused i w (Err e) = told Refused w

-- the connection of a link, 0 without one
abbrev pub conn_or_zero : Link → ℕ
conn_or_zero Offline = 0
conn_or_zero (Joining conn) = conn
conn_or_zero (Online conn) = conn

-- 0 for offline, 1 for joining, 2 for online
abbrev pub link_number : Link → ℕ
link_number Offline = 0
link_number (Joining conn) = 1
link_number (Online conn) = 2

-- the world after drafts of a connection are submitted in order
abbrev pub ticket_drafts : ℕ → List Draft → World → World
ticket_drafts conn [] w = w
ticket_drafts conn (d ∷ ds) w = elim (submit w.sequencer conn d) [
  | Ok q ↦ ticket_drafts conn ds (record w { sequencer = q.0; log = w.log ++ (q.1 ∷ []) })
  | Err e ↦ told Refused w
]

-- how many of those that there are
abbrev pub many_of : Many → ℕ → ℕ
many_of (some n) have = n
many_of all have = have

-- the world after a client processed these entries
abbrev pub deliver : ℕ → List Entry → World → World
deliver i [] w = w
deliver i (entry ∷ entries) w = elim (process (client_of i w.clients) entry) [
  | Ok x ↦ deliver i entries (with_client i x w)
  | Err fault ↦ told (ProcessRefused fault) w
]

-- the world after an event
abbrev pub step : World → Event → World
step w (Start i) = record w { clients = w.clients ++ ((i, client_over empty) ∷ []) }
step w (From i j) = record w { clients = w.clients ++ ((i, client_over (client_of j w.clients).doc) ∷ []) }
step w (Connect i) =
    let q = join w.sequencer (w.conns + 1) [] in
    or_refused i (record w { sequencer = q.0; log = w.log ++ (q.1 ∷ []); conns = w.conns + 1 }) (connect (client_of i w.clients) (w.conns + 1))
step w (Drop i) =
    let x = client_of i w.clients in
    elim (leave w.sequencer (conn_or_zero x.link)) [
      | Some q ↦ or_refused i (record w { sequencer = q.0; log = w.log ++ (q.1 ∷ []) }) (drop_link x)
      | None ↦ told Refused w
    ]
step w (Edit i op) = elim (local_edit (client_of i w.clients) op) [ Ok x ↦ with_client i x w | Err e ↦ told (EditRefused e) w ]
step w (Overlap i label a b) = told (Met (overlap (client_of i w.clients) label a b)) w
step w (Blame i) = told (Blamed (blame (client_of i w.clients))) w
step w (Save i) = told (Kept (client_of i w.clients).doc) w
step w (Ticket i many) =
    let x = client_of i w.clients in
    let n = many_of many (length x.queue) in
    ticket_drafts (conn_or_zero x.link) (take n x.queue) (with_client i (record x { queue = drop n x.queue }) w)
step w (Deliver i many) =
    let x = client_of i w.clients in
    let next = drop x.doc.number w.log in
    deliver i (take (many_of many (length next)) next) w
step w (Noop i) = or_refused i w (noop (client_of i w.clients))
step w (Show i) =
    let x = client_of i w.clients in
    told (Showed x.doc.number x.doc.minimum (length x.pending) (link_number x.link) (content x) (applied x w.log (w.conns + 1))) w
step w (Queue i) = told (Queued (client_of i w.clients).queue) w

-- the world after events in order
abbrev pub play : World → List Event → World
play w [] = w
play w (e ∷ es) = play (step w e) es

-- what events write in a new world
abbrev pub session : List Event → List Output
session es = (play new_world es).out
