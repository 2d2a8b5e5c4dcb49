-- What events do, as the code has them once the text in them is read, and what becomes of that in a naive world.
use Rattle.std.specs.Prelude.{◌≡◌, ◌≤◌, ℕ, Bool, IsTrue, [], ◌∷◌, Some, None, Result, Ok, Err, ⊤, encode_utf8_all, find}
use Rattle.ft_props.specs.Properties.{Characters}
use Rattle.ft_op.specs.WellFormed.{IsWellFormed}
use Rattle.ft_msg.specs.declared.faults.Cause.{Cause}
use Rattle.ft_msg.specs.declared.messages.Draft.{Draft}
use Rattle.ft_msg.specs.declared.messages.Message.{Message}
use Rattle.ft_msg.specs.Answers.{IsFullyCompacted}
use Rattle.ft_msg.specs.MessageGrammar.{draft, message}
use Rattle.ft_seqr.specs.declared.events.Event.{Event}
use Rattle.ft_seqr.specs.declared.events.Event.TheVariants as event
use Rattle.ft_seqr.specs.declared.refusals.Refusal.{Refusal}
use Rattle.ft_seqr.specs.declared.refusals.Refusal.TheVariants.{NotConnected}
use Rattle.ft_seqr.specs.Refusals.{refusal_of_cause}
use Rattle.ft_seqr.specs.World.{NaiveWorld, NamedClient, NamedGuest, Stepped, blame_client, body_load, conn_of, connect_client, deliver_client, drop_client, edit_client, happen, noop_client, of_client, of_guest, offer_message, op_load, quietly, submit_all, submit_draft, ticket_client}
use Rattle.ft_session.specs.declared.acts.Act.{Act}
use Rattle.ft_session.specs.declared.acts.Act.TheVariants.{OfClient, OfSession}
use Rattle.ft_session.specs.declared.acts.ClientAct.{ClientAct}
use Rattle.ft_session.specs.declared.acts.ClientAct.TheVariants as client
use Rattle.ft_session.specs.declared.acts.SessionAct.{SessionAct}
use Rattle.ft_session.specs.declared.acts.SessionAct.TheVariants as session
use Rattle.ft_session.specs.declared.outputs.Out.{Out}
use Rattle.ft_session.specs.Asked.{authors_client, overlap_client, queue_client, show_client, summarize_client}
use Rattle.ft_session.specs.Effects.{SessionEffect, ShowsNumbers}
use Rattle.ft_session.specs.Worlds.{MemberState, SessionState, has_name}

-- ---- which events they are

-- the event that does this to the client of that name
abbrev pub IsClientAct : Characters → ClientAct → Event → Type 0
IsClientAct name client.Connect e = e ≡ event.Connect name
IsClientAct name client.Drop e = e ≡ event.Drop name
IsClientAct name (client.Edit op) e = e ≡ event.Edit name op.now
IsClientAct name (client.Ticket many) e = e ≡ event.Ticket name many
IsClientAct name (client.Deliver many) e = e ≡ event.Deliver name many
IsClientAct name client.Noop e = e ≡ event.Noop name
IsClientAct name client.Show e = e ≡ event.Show name
IsClientAct name client.Queue e = e ≡ event.Queue name
IsClientAct name client.Compact e = e ≡ event.Compact name
IsClientAct name client.Summary e = e ≡ event.Summary name
IsClientAct name (client.Offer read) e = (text : Characters) × (e ≡ event.Offer name text) × (message (encode_utf8_all text) ≡ read.value)
IsClientAct name (client.Overlap label a b) e = e ≡ event.Overlap name label.now a b
IsClientAct name (client.Blame a b) e = e ≡ event.Blame name a b
IsClientAct name client.Authors e = e ≡ event.Authors name

-- the event that does this to the session as a whole
abbrev pub IsSessionAct : SessionAct → Event → Type 0
IsSessionAct (session.Start name from) e = e ≡ event.Start name.now from.now
IsSessionAct session.History e = e ≡ event.History
IsSessionAct (session.Guest name) e = e ≡ event.Guest name.now
IsSessionAct (session.Submit name read) e = (text : Characters) × (e ≡ event.Submit name.now text) × (draft (encode_utf8_all text) ≡ read.value)
IsSessionAct (session.Part name) e = e ≡ event.Part name.now

-- the event that does this
abbrev pub IsAct : Act → Event → Type 0
IsAct (OfClient name act) e = IsClientAct name.now act e
IsAct (OfSession act) e = IsSessionAct act e

-- ---- what becomes of them

-- the message that an offered text is, or the cause why it is none, comes to the client
abbrev pub offered_client : NaiveWorld → NamedClient → Result Message Cause → Stepped
offered_client w c read = elim (conn_of c.client.link) [
  | None ↦ Err NotConnected
  | Some conn ↦ elim read [ Err fault ↦ Err (refusal_of_cause fault) | Ok m ↦ offer_message w c m ]
]

-- the draft that a submitted text is, or the cause why it is none, comes from the guest
abbrev pub submitted_guest : NaiveWorld → NamedGuest → Result Draft Cause → Stepped
submitted_guest w g read = elim read [ Err fault ↦ Err (refusal_of_cause fault) | Ok d ↦ submit_draft w g d ]

-- the naive world after it came from the connection
abbrev pub submitted_or_refused : NaiveWorld → ℕ → Result Draft Cause → Result NaiveWorld Refusal
submitted_or_refused w conn read = elim read [ Err fault ↦ Err (refusal_of_cause fault) | Ok d ↦ submit_all w conn (d ∷ []) ]

-- what becomes of what happens to a client
abbrev pub client_step : ClientAct → NaiveWorld → NamedClient → Stepped
client_step client.Connect = connect_client
client_step client.Drop = drop_client
client_step (client.Edit op) = λ w c. edit_client w c op.now
client_step (client.Ticket many) = λ w c. ticket_client w c many
client_step (client.Deliver many) = λ w c. deliver_client w c many
client_step client.Noop = noop_client
client_step client.Show = show_client
client_step client.Queue = queue_client
client_step client.Compact = λ w c. quietly w
client_step client.Summary = summarize_client
client_step (client.Offer read) = λ w c. offered_client w c read.value
client_step (client.Overlap label a b) = overlap_client label.now a b
client_step (client.Blame a b) = λ w c. blame_client w c.client a b
client_step client.Authors = authors_client

-- what becomes of what happens to the session as a whole
abbrev pub session_step : NaiveWorld → SessionAct → Stepped
session_step w (session.Start name from) = happen w (event.Start name.now from.now)
session_step w session.History = happen w event.History
session_step w (session.Guest name) = happen w (event.Guest name.now)
session_step w (session.Submit name read) = of_guest w name.now (λ g. submitted_guest w g read.value)
session_step w (session.Part name) = happen w (event.Part name.now)

-- what becomes of what happens
abbrev pub act_step : NaiveWorld → Act → Stepped
act_step w (OfClient name act) = of_client w name.now (client_step act w)
act_step w (OfSession act) = session_step w act

-- ---- what they need and add

-- it is well formed
abbrev pub IsWellFormedClientAct : ClientAct → Type 0
IsWellFormedClientAct (client.Edit op) = IsWellFormed op.now
IsWellFormedClientAct (client.Overlap label a b) = a ≤ b
IsWellFormedClientAct (client.Blame a b) = a ≤ b
IsWellFormedClientAct _ = ⊤

abbrev pub IsWellFormedAct : Act → Type 0
IsWellFormedAct (OfClient name act) = IsWellFormedClientAct act
IsWellFormedAct (OfSession act) = ⊤

-- what the operation of the message adds to the load that an offered text is, if it is one
abbrev pub message_load : Result Message Cause → ℕ
message_load (Ok m) = body_load m.body
message_load (Err fault) = 0

-- what that of the draft adds that a submitted text is, if it is one
abbrev pub draft_load : Result Draft Cause → ℕ
draft_load (Ok d) = body_load d.body
draft_load (Err fault) = 0

-- what they add, beside one for each of them
abbrev pub client_load : ClientAct → ℕ
client_load (client.Edit op) = op_load op.now
client_load (client.Offer read) = message_load read.value
client_load _ = 0

abbrev pub session_load : SessionAct → ℕ
session_load (session.Submit name read) = draft_load read.value
session_load _ = 0

abbrev pub act_load : Act → ℕ
act_load (OfClient name act) = client_load act
act_load (OfSession act) = session_load act

-- ---- what they make of the replicas

-- what happens to a client makes this of its replica, which may compact fully: a view has the numbers of the replica, and a
-- compaction takes away everything that nobody can see any more
abbrev pub ClientActEffect : Bool → ClientAct → MemberState → Out → Type 0
ClientActEffect compacts client.Show m out = ShowsNumbers m out
ClientActEffect compacts client.Compact m out = IsTrue compacts → IsFullyCompacted m.replica.client
ClientActEffect compacts _ m out = ⊤

-- the same of the replica of that name
pub record NamedActEffect (compacts : Bool) (act : ClientAct) (name : Characters) (s : SessionState) (out : Out) : Type 0 where
  pub member : MemberState
  pub found : find (has_name name) s.members ≡ Some member
  pub effect : ClientActEffect compacts act member out

-- what happens makes this of the replicas
abbrev pub SessionActEffect : Bool → SessionAct → SessionState → SessionState → Out → Type 0
SessionActEffect compacts (session.Start name from) old new out = SessionEffect compacts (event.Start name.now from.now) old new out
SessionActEffect compacts _ old new out = ⊤

abbrev pub ActEffect : Bool → Act → SessionState → SessionState → Out → Type 0
ActEffect compacts (OfClient name act) old new out = NamedActEffect compacts act name.now new out
ActEffect compacts (OfSession act) old new out = SessionActEffect compacts act old new out
