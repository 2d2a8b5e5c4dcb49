-- One client alone, whose messages go over a network of its own: what each call makes of it.
use Rattle.std.specs.Prelude.{◌≡◌, ℕ, ◌+◌, ◌*◌, ◌-◌, ◌≤◌, ◌^◌, Bool, true, false, cond, not, ◌&&◌, ◌||◌, IsTrue, bytes_eq, nat_eq, nat_le, nat_lt, length, max, List, [], ◌∷◌, Option, Some, None, option_map, Result, Ok, Err, chars, is_some, ⊤, if◌then◌else◌}
use Rattle.std.specs.Str.{is_utf8}
use Rattle.serde_json.specs.Written.{compact_text}
use Rattle.ft_props.specs.Properties.{Characters}
use Rattle.ft_sumdoc.specs.declared.summary.SumDoc.{SumDoc}
use Rattle.ft_sumdoc.specs.declared.summary.SumFault.{SumFault}
use Rattle.ft_sumdoc.specs.Summary.{summary}
use Rattle.ft_op.specs.declared.operations.ChannelOp.{ChannelOp}
use Rattle.ft_op.specs.Document.{Document, empty}
use Rattle.ft_msg.specs.declared.faults.Cause.{Cause}
use Rattle.ft_msg.specs.declared.faults.Cause.TheVariants.{NotUtf8, UnknownWord}
use Rattle.ft_msg.specs.declared.faults.EditFault.{EditFault}
use Rattle.ft_msg.specs.declared.faults.LinkFault.{LinkFault}
use Rattle.ft_msg.specs.declared.faults.ProcessFault.{ProcessFault}
use Rattle.ft_msg.specs.declared.faults.ProcessFault.TheVariants.{OutOfOrder}
use Rattle.ft_msg.specs.declared.messages.Body.{Body}
use Rattle.ft_msg.specs.declared.messages.Draft.{Draft}
use Rattle.ft_msg.specs.declared.messages.Entry.{Entry}
use Rattle.ft_msg.specs.declared.messages.Message.{Message}
use Rattle.ft_msg.specs.declared.messages.MsgKind.{MsgKind}
use Rattle.ft_msg.specs.declared.messages.MsgKind.TheVariants.{Join}
use Rattle.ft_msg.specs.declared.views.Link.{Link}
use Rattle.ft_msg.specs.declared.views.Link.TheVariants.{Joining, Offline}
use Rattle.ft_msg.specs.Answers.{FaultKind, ReplicaState, RunsFor, Refusal as OfItsClient, held_in}
use Rattle.ft_msg.specs.Client.{NaiveClient, client_over, connect, drop_link, local_edit}
use Rattle.ft_msg.specs.Content.{content}
use Rattle.ft_msg.specs.MessageGrammar.{message}
use Rattle.ft_msg.specs.Process.{numbers_fault, process}
use Rattle.ft_msg.specs.Reached.{IsReached}
use Rattle.ft_msg.specs.Summary.{doc_of}
use Rattle.ft_msg.specs.Written.{written_draft}
use Rattle.ft_seqr.specs.declared.events.Event.{Event}
use Rattle.ft_seqr.specs.declared.events.Event.TheVariants.{Edit}
use Rattle.ft_seqr.specs.declared.refusals.Refusal.{Refusal}
use Rattle.ft_seqr.specs.declared.refusals.Refusal.TheVariants.{AlreadyConnected, Malformed, NotConnected, Summary}
use Rattle.ft_seqr.specs.EventGrammar.{event}
use Rattle.ft_seqr.specs.Refusals.{refusal_of_cause, refusal_of_edit, refusal_of_process}
use Rattle.ft_seqr.specs.SessionReport.{head_line}
use Rattle.ft_seqr.specs.ViewLines.{content_lines}
use Rattle.ft_seqr.specs.Walk.{Step, passes, refuses}
use Rattle.ft_seqr.specs.World.{NamedClient, body_load, op_load}
use Rattle.ft_laws_sessions.specs.ClientDrafts.{IsMadeAlone}
use Rattle.ft_changes.specs.declared.changes.ViewChange.{ViewChange}
use Rattle.ft_changes.specs.Shown.{ShownContent, shown_content}
use Rattle.ft_changes.specs.Told.{told_of_edit, told_of_entry}
use Rattle.ft_changes.specs.Telling.{TellsChanges}
use Rattle.ft_change_lines.specs.FromNothing.{nothing_shown, told_from_nothing}
use Rattle.ft_replay.specs.LineForm.{bytes_of}
use Rattle.ft_replay.specs.Observation.{names_with, numbered_entry}
use Rattle.ft_door.specs.declared.calls.Call.{Call}
use Rattle.ft_door.specs.declared.calls.Call.TheVariants as call
use Rattle.ft_door.specs.declared.calls.Told.{Told}
use Rattle.ft_door.specs.declared.calls.Told.TheVariants.{Full, Refused, Taken}

-- what an editor has: its client; the names of the connections in the messages that it took, by number; the name of its own
-- connection; whether it waits for the join of that one; what its steps cost; and what is shown by its listener, if it has one: by who
-- applied all changes that were asked for
pub record NaiveEditor : Type 0 where
  pub client : NaiveClient
  pub names : List Characters
  pub name : Characters
  pub waits : Bool
  pub load : ℕ
  pub listener : Option ShownContent

-- the greatest load
abbrev pub load_limit : ℕ
load_limit = 2 ^ 52

-- the number of names from which on it takes no further message
abbrev pub table_limit : ℕ
table_limit = 2 ^ 32 - 1

-- the name of a connection before the first one: an empty text
abbrev pub no_name : Characters
no_name = chars []

-- a new one: an empty document, no connection, no listener
abbrev pub new_editor : NaiveEditor
new_editor = record { client = client_over empty; names = []; name = no_name; waits = false; load = 0; listener = None }

-- ---- what is too much for it: it isn't taken then, and nothing changes

-- a step that costs one and so much more brings it beyond the greatest load
abbrev pub load_exceeds : NaiveEditor → ℕ → Bool
load_exceeds x more = nat_lt load_limit (x.load + (1 + more))

-- nothing is
abbrev pub never_exceeds : NaiveEditor → Bool
never_exceeds x = false

-- ---- edits

-- the operation of an edit
abbrev pub edited_op : Event → Option ChannelOp
edited_op (Edit name op) = Some op
edited_op _ = None

-- an edit of its own
abbrev pub edit_answer : NaiveEditor → ChannelOp → Result NaiveClient EditFault → Step NaiveEditor
edit_answer x op (Err fault) = refuses x (refusal_of_edit fault)
edit_answer x op (Ok y) = passes (record x { client = y; load = x.load + (1 + op_load op) })

abbrev pub edited : NaiveEditor → ChannelOp → Step NaiveEditor
edited x op = edit_answer x op (local_edit x.client op)

-- a line that is the event of an edit, whoever its client is; no other event is one
abbrev pub edit_event : NaiveEditor → Option ChannelOp → Step NaiveEditor
edit_event x None = refuses x (Malformed UnknownWord)
edit_event x (Some op) = edited x op

abbrev pub edit_reading : NaiveEditor → Result Event Cause → Step NaiveEditor
edit_reading x (Err cause) = refuses x (refusal_of_cause cause)
edit_reading x (Ok e) = edit_event x (edited_op e)

abbrev pub edit_line : List ℕ → NaiveEditor → Step NaiveEditor
edit_line line x = edit_reading x (event line)

-- whether it is too much, also where it would be refused
abbrev pub edit_exceeds : NaiveEditor → Option ChannelOp → Bool
edit_exceeds x None = false
edit_exceeds x (Some op) = load_exceeds x (op_load op)

abbrev pub edit_reading_exceeds : NaiveEditor → Result Event Cause → Bool
edit_reading_exceeds x (Err cause) = false
edit_reading_exceeds x (Ok e) = edit_exceeds x (edited_op e)

abbrev pub edit_line_exceeds : List ℕ → NaiveEditor → Bool
edit_line_exceeds line x = edit_reading_exceeds x (event line)

-- ---- messages

-- why a message is refused by a client with these numbers, whoever sent it: it isn't the next one, or its other numbers
-- contradict what is kept
abbrev pub order_fault : ℕ → ℕ → Message → Option ProcessFault
order_fault number minimum m =
    cond (not (nat_eq m.seq (number + 1))) (Some (OutOfOrder (number + 1) m.seq))
    (numbers_fault (client_over (record empty { number = number; minimum = minimum })) (record { msg = m; origin = 0 }))

-- the message is the join of the connection of this name
abbrev pub is_sender : Characters → Option Characters → Bool
is_sender name None = false
is_sender name (Some other) = bytes_eq name other

abbrev pub is_join : MsgKind → Bool
is_join Join = true
is_join _ = false

abbrev pub is_awaited : NaiveEditor → Message → Bool
is_awaited x m = x.waits && (is_join m.kind && is_sender x.name m.client_id)

-- the client under the number of its connection: numbers go by first appearance in the log, so it isn't known before the join
abbrev pub or_same : NaiveClient → Result NaiveClient LinkFault → NaiveClient
or_same x (Ok y) = y
or_same x (Err fault) = x

abbrev pub joining_as : Bool → ℕ → NaiveClient → NaiveClient
joining_as joins conn x = cond joins (or_same x (connect x conn)) x

-- the next message of the log, with the number of the connection that sent it
abbrev pub entry_answer : NaiveEditor → Bool → Entry → Result NaiveClient ProcessFault → Step NaiveEditor
entry_answer x joins entry (Err fault) = refuses x (refusal_of_process entry.msg.seq fault)
entry_answer x joins entry (Ok y) = passes (record x { client = y; waits = cond joins false x.waits; load = x.load + (1 + body_load entry.msg.body) })

abbrev pub take_entry : NaiveEditor → Bool → Entry → Step NaiveEditor
take_entry x joins entry = entry_answer x joins entry (process (joining_as joins entry.origin x.client) entry)

abbrev pub take_next : NaiveEditor → Message → Step NaiveEditor
take_next x m = take_entry (record x { names = names_with x.names m.client_id }) (is_awaited x m) (numbered_entry x.names m)

-- a message: the next one, or one that isn't
abbrev pub message_answer : NaiveEditor → Message → Option ProcessFault → Step NaiveEditor
message_answer x m (Some fault) = refuses x (refusal_of_process m.seq fault)
message_answer x m None = take_next x m

abbrev pub take_message : NaiveEditor → Message → Step NaiveEditor
take_message x m = message_answer x m (order_fault x.client.doc.number x.client.doc.minimum m)

-- why it is refused whoever sent it, if it is
abbrev pub message_refusal : NaiveEditor → Message → Option Refusal
message_refusal x m = option_map (refusal_of_process m.seq) (order_fault x.client.doc.number x.client.doc.minimum m)

abbrev pub message_reading : NaiveEditor → Result Message Cause → Step NaiveEditor
message_reading x (Err cause) = refuses x (refusal_of_cause cause)
message_reading x (Ok m) = take_message x m

abbrev pub process_line : List ℕ → NaiveEditor → Step NaiveEditor
process_line line x = message_reading x (message line)

-- whether it is too much: the next one is, whoever sent it, where there are as many names as there may be
abbrev pub next_exceeds : NaiveEditor → Body → Bool
next_exceeds x body = nat_le table_limit (length x.names) || load_exceeds x (body_load body)

abbrev pub message_answer_exceeds : NaiveEditor → Message → Option ProcessFault → Bool
message_answer_exceeds x m (Some fault) = false
message_answer_exceeds x m None = next_exceeds x m.body

abbrev pub message_exceeds : NaiveEditor → Message → Bool
message_exceeds x m = message_answer_exceeds x m (order_fault x.client.doc.number x.client.doc.minimum m)

abbrev pub message_reading_exceeds : NaiveEditor → Result Message Cause → Bool
message_reading_exceeds x (Err cause) = false
message_reading_exceeds x (Ok m) = message_exceeds x m

abbrev pub process_line_exceeds : List ℕ → NaiveEditor → Bool
process_line_exceeds line x = message_reading_exceeds x (message line)

-- ---- connections

-- whether it has a connection, or waits for one
abbrev pub is_offline : Link → Bool
is_offline Offline = true
is_offline _ = false

abbrev pub is_free : NaiveEditor → Bool
is_free x = not x.waits && is_offline x.client.link

-- it waits for the join of the connection of this name
abbrev pub connect_as : Characters → NaiveEditor → Step NaiveEditor
connect_as name x = cond (is_free x) (passes (record x { name = name; waits = true })) (refuses x AlreadyConnected)

abbrev pub connect_line : List ℕ → NaiveEditor → Step NaiveEditor
connect_line line x = if is_utf8 line then connect_as (chars line) x else refuses x (Malformed NotUtf8)

-- its connection is gone, or it waits for none any more
abbrev pub drop_answer : NaiveEditor → Result NaiveClient LinkFault → Step NaiveEditor
drop_answer x (Err fault) = refuses x NotConnected
drop_answer x (Ok y) = passes (record x { client = y; waits = false })

abbrev pub dropped_unless : Bool → NaiveClient → Result NaiveClient LinkFault
dropped_unless waits x = cond waits (Ok x) (drop_link x)

abbrev pub drop_step : NaiveEditor → Step NaiveEditor
drop_step x = drop_answer x (dropped_unless x.waits x.client)

-- ---- summaries

-- what the start from a document costs: one for each message, and thrice the most elements in a list
abbrev pub start_load : Document → ℕ
start_load doc = max (held_in doc).text (max (held_in doc).rows (held_in doc).cols) * 3 + doc.number

-- a listener that begins, if somebody listens: it shows nothing yet
abbrev pub listening : Bool → Option ShownContent
listening true = Some nothing_shown
listening false = None

-- one that starts from a summary, where somebody listens or doesn't
abbrev pub editor_of : Bool → SumDoc → NaiveEditor
editor_of listens sum = record {
  client = client_over (doc_of sum);
  names = sum.conns;
  name = no_name;
  waits = false;
  load = start_load (doc_of sum);
  listener = listening listens;
}

abbrev pub load_reading : NaiveEditor → Result SumDoc SumFault → Step NaiveEditor
load_reading x (Err fault) = refuses x (Summary fault)
load_reading x (Ok sum) = passes (editor_of (is_some x.listener) sum)

abbrev pub load_line : List ℕ → NaiveEditor → Step NaiveEditor
load_line line x = load_reading x (summary line)

-- whether it is too much: what it had before doesn't count
abbrev pub load_reading_exceeds : Result SumDoc SumFault → Bool
load_reading_exceeds (Err fault) = false
load_reading_exceeds (Ok sum) = nat_lt load_limit (start_load (doc_of sum))

abbrev pub load_line_exceeds : List ℕ → NaiveEditor → Bool
load_line_exceeds line x = load_reading_exceeds (summary line)

-- ---- each call, with the bytes that are given with it

abbrev pub call_step : Call → List ℕ → NaiveEditor → Step NaiveEditor
call_step call.Load bytes = load_line bytes
call_step call.Connect bytes = connect_line bytes
call_step call.Drop bytes = drop_step
call_step call.Edit bytes = edit_line bytes
call_step call.Process bytes = process_line bytes

-- whether it is too much for it
abbrev pub call_exceeds : Call → List ℕ → NaiveEditor → Bool
call_exceeds call.Load bytes = load_line_exceeds bytes
call_exceeds call.Connect bytes = never_exceeds
call_exceeds call.Drop bytes = never_exceeds
call_exceeds call.Edit bytes = edit_line_exceeds bytes
call_exceeds call.Process bytes = process_line_exceeds bytes

-- ---- what it shows

-- it is shown as a client of a session of the name of its connection, and as one that joins while it waits
abbrev pub shown_link : Bool → Link → Link
shown_link waits link = cond waits (Joining 0) link

abbrev pub as_client : NaiveEditor → NamedClient
as_client x = record { name = x.name; connects = 0; client = record x.client { link = shown_link x.waits x.client.link } }

-- the lines of its view, as a session's report has them
abbrev pub shown_lines : NaiveEditor → List (List ℕ)
shown_lines x = head_line (as_client x) ∷ content_lines (content x.client)

-- ---- what it sends

-- a draft, as it goes over the network: its one written form
abbrev pub draft_bytes : Draft → List ℕ
draft_bytes d = bytes_of (compact_text (written_draft d) ∷ [])

-- it has these drafts to send
abbrev pub with_queue : List Draft → NaiveEditor → NaiveEditor
with_queue queue x = record x { client = record x.client { queue = queue } }

-- the line of the oldest draft, if there is one
abbrev pub oldest_bytes : List Draft → Option (List ℕ)
oldest_bytes [] = None
oldest_bytes (d ∷ ds) = Some (draft_bytes d)

-- ---- its listener

-- it has this listener
abbrev pub with_listener : Option ShownContent → NaiveEditor → NaiveEditor
with_listener listener x = record x { listener = listener }

-- its listener, if it has one, has applied all changes: it shows what the client shows
abbrev pub informed : NaiveEditor → NaiveEditor
informed x = with_listener (option_map (λ _. shown_content x.client) x.listener) x

-- ---- for which it stands

-- an editor over a replica, as contracts see it; with the changes that its listener wasn't told yet, if it has one
pub record EditorState : Type 0 where
  pub replica : ReplicaState
  pub names : List Characters
  pub name : Characters
  pub waits : Bool
  pub load : ℕ
  pub told : Option (List ViewChange)

-- the changes that a client told since its listener showed that: behind what leads from nothing to what the client showed then, or behind none,
-- just those that are told of each edit and of each entry that it took; what changes nothing that is shown is told by none
pub data IsTold (shown : ShownContent) : List ViewChange → NaiveClient → Type 0 where
  since_nothing : {x : NaiveClient} → shown ≡ nothing_shown → IsReached x → IsTold shown (told_from_nothing (content x)) x
  since_told : {x : NaiveClient} → shown ≡ shown_content x → IsTold shown [] x
  on_none : {x y : NaiveClient} {changes : List ViewChange} → shown_content y ≡ shown_content x → IsTold shown changes x → IsTold shown changes y
  on_edit : {x y : NaiveClient} {before after : List ViewChange} {old : ReplicaState} (op : ChannelOp) → IsReached x → RunsFor old x → local_edit x op ≡ Ok y
      → TellsChanges (λ z. local_edit z op) (λ z. told_of_edit z op) old before after → IsTold shown before x → IsTold shown after y
  on_entry : {x y : NaiveClient} {before after : List ViewChange} {old : ReplicaState} (entry : Entry) → IsReached x → RunsFor old x → process x entry ≡ Ok y
      → TellsChanges (λ z. process z entry) (λ z. told_of_entry z entry) old before after → IsTold shown before x → IsTold shown after y

-- the changes that a listener wasn't told yet, if there is one; there are none without one
abbrev pub Leads : Option ShownContent → Option (List ViewChange) → NaiveClient → Type 0
Leads None None x = ⊤
Leads (Some shown) (Some changes) x = IsTold shown changes x
Leads _ _ x = ⊥

-- its replica runs for the client, which such steps made, and the changes are those that its listener wasn't told yet
pub record IsEditor (s : EditorState) (x : NaiveEditor) : Type 0 where
  pub runs : RunsFor s.replica x.client
  pub made : IsMadeAlone x.load x.client
  pub low : x.load ≤ load_limit
  pub names : s.names ≡ x.names
  pub name : s.name ≡ x.name
  pub waits : s.waits ≡ x.waits
  pub load : s.load ≡ x.load
  pub leads : Leads x.listener s.told x.client

-- the message is the join that it waits for
abbrev pub is_awaited_by : EditorState → Message → Bool
is_awaited_by s m = s.waits && (is_join m.kind && is_sender s.name m.client_id)

-- for some
abbrev pub IsSomeEditor : EditorState → Type 0
IsSomeEditor s = (x : NaiveEditor) × IsEditor s x

-- it stands for some, to which the message is the next one, and not refused whoever sent it
abbrev pub IsNextFor : EditorState → Message → Type 0
IsNextFor s m = (x : NaiveEditor) × IsEditor s x × (order_fault x.client.doc.number x.client.doc.minimum m ≡ None)

-- what is told of a call: it was this step, which takes it or refuses it; or it is too much, and nothing changed
abbrev pub TellsStep : Told → EditorState → EditorState → (NaiveEditor → Step NaiveEditor) → (NaiveEditor → Bool) → Type 0
TellsStep Taken old new step exceeds = (x : NaiveEditor) → IsEditor old x → ((step x).refusal ≡ None) × IsEditor new (step x).made
TellsStep (Refused why) old new step exceeds = (x : NaiveEditor) → IsEditor old x → ((step x).refusal ≡ Some why) × IsEditor new (step x).made
TellsStep Full old new step exceeds = (new ≡ old) × ((x : NaiveEditor) → IsEditor old x → IsTrue (exceeds x))

-- what is told of a step that is refused so, if it is, and the load after it
abbrev pub told_of : Option Refusal → Told
told_of None = Taken
told_of (Some why) = Refused why

abbrev pub load_of : Option Refusal → ℕ → ℕ → ℕ
load_of None load load_after = load_after
load_of (Some why) load load_after = load

-- .. and whether it waits after it
abbrev pub waits_after : Option Refusal → Bool → Bool → Bool
waits_after None waits joins = cond joins false waits
waits_after (Some why) waits joins = waits

-- ---- what a replica is given

-- the client after a step, as it was where it refuses that
abbrev pub client_after : {E : Type 0} → NaiveClient → Result NaiveClient E → NaiveClient
client_after x (Ok y) = y
client_after x (Err fault) = x

-- a step adds to the changes, if somebody listens, just those that are told of it
abbrev pub AddsTold : {E : Type 0} → (NaiveClient → Result NaiveClient E) → (NaiveClient → List ViewChange) → ReplicaState
    → Option (List ViewChange) → Option (List ViewChange) → Type 0
AddsTold step told old None after = after ≡ None
AddsTold step told old (Some before) after = (changes : List ViewChange) × (after ≡ Some changes) × TellsChanges step told old before changes

-- an error says that its client refuses
abbrev pub IsRefusal : FaultKind → Type 0
IsRefusal OfItsClient = ⊤
IsRefusal _ = ⊥

-- the entry is a join that the client takes for which the replica runs
pub record TakesJoin (r : ReplicaState) (entry : Entry) : Type 0 where
  pub client : NaiveClient
  pub reached : IsReached client
  pub runs : RunsFor r client
  pub after : NaiveClient
  pub takes : process (joining_as true entry.origin client) entry ≡ Ok after

-- what it answers to a step of its client: nothing where that takes it, and why where it refuses
abbrev pub AnswersStep : {E : Type 0} → (E → Refusal) → ReplicaState → ReplicaState → Result NaiveClient E → Option Refusal → Type 0
AnswersStep refusal old new step None = (y : NaiveClient) × (step ≡ Ok y) × RunsFor new y
AnswersStep {E} refusal old new step (Some why) = (fault : E) × (step ≡ Err fault) × (why ≡ refusal fault) × (new ≡ old)
