-- An event changes the load of a world by what it adds, and by nothing else.
use Rattle.std.proofs.Common.{◌≡◌, ℕ, ◌+◌, Bool, true, false, cond, nat_eq, nat_lt, List, [], ◌∷◌, encode_utf8_all, length, take, drop, Option, Some, None, Result, Ok, Err, find, refl, sym, ◌∙◌, ap}
use Rattle.serde_json.specs.Data.{Data}
use Rattle.ft_op.specs.declared.operations.ChannelOp.{ChannelOp}
use Rattle.ft_props.specs.Properties.{Characters}
use Rattle.ft_msg.specs.declared.messages.Draft.{Draft}
use Rattle.ft_msg.specs.declared.messages.Entry.{Entry}
use Rattle.ft_msg.specs.declared.messages.Message.{Message}
use Rattle.ft_msg.specs.Blame.{blame}
use Rattle.ft_msg.specs.Client.{NaiveClient, PendingEdit, connect, drop_link, local_edit, noop}
use Rattle.ft_msg.specs.MessageGrammar.{draft, message}
use Rattle.ft_seqr.specs.declared.events.Event.{Event}
use Rattle.ft_seqr.specs.declared.events.Event.TheVariants as event
use Rattle.ft_seqr.specs.declared.events.HowMany.{HowMany}
use Rattle.ft_seqr.specs.declared.nacks.Nack.{Nack}
use Rattle.ft_seqr.specs.declared.refusals.Refusal.{Refusal}
use Rattle.ft_seqr.specs.declared.refusals.Refusal.TheVariants.{Foreign, Nacked, NotConnected, NothingToDeliver, NothingToTicket, OutOfOrder, OutOfRange, UnknownClient}
use Rattle.ft_seqr.specs.Refusals.{refusal_of_cause, refusal_of_edit, refusal_of_link}
use Rattle.ft_seqr.specs.SameMessage.{same_message}
use Rattle.ft_seqr.specs.Sequencer.{NaiveSequencer, leave, submit}
use Rattle.ft_seqr.specs.World.{NamedClient, NamedGuest, NaiveWorld, Output, Stepped, Texts, ahead_of, blame_client, conn_of, connect_client, connection_name, deliver_client, drop_client, edit_client, enter_guest, happen, is_client, is_guest, joined, loaded, logged, name_fault, next_conn, noop_client, now, of_client, of_guest, offer_client, offer_message, offer_next, part_guest, processed, quietly, start_client, started, step, submit_all, submit_draft, submit_guest, text_load, ticket_client, ticket_sent, unless_pending, wanted_count, with_client, with_name}

-- the world after an event, if it is taken, has this load
abbrev HasLoad : ℕ → Stepped → Type 0
HasLoad n (Err refusal) = Unit {0}
HasLoad n (Ok p) = p.0.load ≡ n

abbrev KeepsLoad : NaiveWorld → Stepped → Type 0
KeepsLoad w s = HasLoad w.load s

-- the world that a result is has this load
abbrev IsOfLoad : ℕ → Result NaiveWorld Refusal → Type 0
IsOfLoad n (Err refusal) = Unit {0}
IsOfLoad n (Ok v) = v.load ≡ n

-- ---- by what is looked up or answered

if-there : {A : Type 0} (n : ℕ) (o : Option A) (refusal : Refusal) (f : A → Stepped) → ((x : A) → HasLoad n (f x))
    → HasLoad n (elim o [ None ↦ Err refusal | Some x ↦ f x ])
if-there n None refusal f h = tt
if-there n (Some x) refusal f h = h x

if-ok : {A E : Type 0} (n : ℕ) (r : Result A E) (refusal_of : E → Refusal) (f : A → Stepped) → ((x : A) → HasLoad n (f x))
    → HasLoad n (elim r [ Err fault ↦ Err (refusal_of fault) | Ok x ↦ f x ])
if-ok n (Err fault) refusal_of f h = tt
if-ok n (Ok x) refusal_of f h = h x

if-so : (n : ℕ) (b : Bool) (s : Stepped) (refusal : Refusal) → HasLoad n s → HasLoad n (cond b s (Err refusal))
if-so n true s refusal h = h
if-so n false s refusal h = tt

of-client-keeps : (w : NaiveWorld) (name : Characters) (f : NamedClient → Stepped) → ((c : NamedClient) → KeepsLoad w (f c)) → KeepsLoad w (of_client w name f)
of-client-keeps w name f h = if-there w.load (find (is_client name) w.clients) UnknownClient f h

of-guest-keeps : (w : NaiveWorld) (name : Characters) (f : NamedGuest → Stepped) → ((g : NamedGuest) → KeepsLoad w (f g)) → KeepsLoad w (of_guest w name f)
of-guest-keeps w name f h = if-there w.load (find (is_guest name) w.guests) UnknownClient f h

with-name-keeps : (w : NaiveWorld) (name : Characters) (s : Stepped) → KeepsLoad w s → KeepsLoad w (with_name w name s)
with-name-keeps w name s h = by (name_fault w name)
  where
    by : (o : Option Refusal) → KeepsLoad w (elim o [ Some refusal ↦ Err refusal | None ↦ s ])
    by (Some refusal) = tt
    by None = h

unless-pending-keeps : (n : ℕ) (x : NaiveClient) (s : Stepped) → HasLoad n s → HasLoad n (unless_pending x s)
unless-pending-keeps n x s h = by x.pending
  where
    by : (edits : List PendingEdit) → HasLoad n (unless_pending (record x { pending = edits }) s)
    by [] = h
    by (edit ∷ edits) = tt

-- ---- the events of clients

connect-keeps : (w : NaiveWorld) (c : NamedClient) → KeepsLoad w (connect_client w c)
connect-keeps w c = if-ok w.load (connect c.client (next_conn w)) refusal_of_link
    (λ x. quietly (with_client (record c { client = x; connects = c.connects + 1 }) (joined (connection_name c.name (c.connects + 1)) w))) (λ x. refl)

-- the world after what a connection's leaving is
abbrev left_by : NaiveWorld → Option (NaiveSequencer × Entry) → Option NaiveWorld
left_by w None = None
left_by w (Some p) = Some (logged p w)

drop-keeps : (w : NaiveWorld) (c : NamedClient) → KeepsLoad w (drop_client w c)
drop-keeps w c = if-there w.load (conn_of c.client.link) NotConnected (λ conn. elim (left_by w (leave w.sequencer conn)) [ None ↦ Err NotConnected | Some v ↦ gone v ])
    (λ conn. by (leave w.sequencer conn))
  where
    gone : NaiveWorld → Stepped
    gone v = elim (drop_link c.client) [ Err fault ↦ Err (refusal_of_link fault) | Ok x ↦ quietly (with_client (record c { client = x }) v) ]

    by : (o : Option (NaiveSequencer × Entry)) → KeepsLoad w (elim (left_by w o) [ None ↦ Err NotConnected | Some v ↦ gone v ])
    by None = tt
    by (Some p) = if-ok w.load (drop_link c.client) refusal_of_link (λ x. quietly (with_client (record c { client = x }) (logged p w))) (λ x. refl)

edit-keeps : (w : NaiveWorld) (c : NamedClient) (op : ChannelOp) → KeepsLoad w (edit_client w c op)
edit-keeps w c op = if-ok w.load (local_edit c.client op) refusal_of_edit (λ x. quietly (with_client (record c { client = x }) w)) (λ x. refl)

noop-keeps : (w : NaiveWorld) (c : NamedClient) → KeepsLoad w (noop_client w c)
noop-keeps w c = if-ok w.load (noop c.client) refusal_of_link (λ x. quietly (with_client (record c { client = x }) w)) (λ x. refl)

submits-keep : (w : NaiveWorld) (conn : ℕ) (ds : List Draft) → IsOfLoad w.load (submit_all w conn ds)
submits-keep w conn [] = refl
submits-keep w conn (d ∷ ds) = by (submit w.sequencer conn d) (λ p. submits-keep (logged p w) conn ds)
  where
    by : (r : Result (NaiveSequencer × Entry) Nack) → ((p : NaiveSequencer × Entry) → IsOfLoad w.load (submit_all (logged p w) conn ds))
        → IsOfLoad w.load (elim r [ Err nack ↦ Err (Nacked nack) | Ok p ↦ submit_all (logged p w) conn ds ])
    by (Err nack) ih = tt
    by (Ok p) ih = ih p

-- a world with this load, and what becomes of it
then-keeps : (n : ℕ) (r : Result NaiveWorld Refusal) (f : NaiveWorld → Stepped) → IsOfLoad n r → ((v : NaiveWorld) → v.load ≡ n → HasLoad n (f v))
    → HasLoad n (elim r [ Err refusal ↦ Err refusal | Ok v ↦ f v ])
then-keeps n (Err refusal) f h k = tt
then-keeps n (Ok v) f h k = k v h

ticket-sent-keeps : (w : NaiveWorld) (c : NamedClient) (conn n : ℕ) → KeepsLoad w (ticket_sent w c conn n)
ticket-sent-keeps w c conn n = then-keeps w.load (submit_all w conn (take n c.client.queue))
    (λ v. quietly (with_client (record c { client = record c.client { queue = drop n c.client.queue } }) v)) (submits-keep w conn (take n c.client.queue)) (λ v h. h)

ticket-keeps : (w : NaiveWorld) (c : NamedClient) (many : HowMany) → KeepsLoad w (ticket_client w c many)
ticket-keeps w c many =
    let have = length c.client.queue in
    if-there w.load (conn_of c.client.link) NotConnected (λ conn. elim (wanted_count many have) [ None ↦ Err (NothingToTicket have) | Some n ↦ ticket_sent w c conn n ])
    (λ conn. if-there w.load (wanted_count many have) (NothingToTicket have) (ticket_sent w c conn) (ticket-sent-keeps w c conn))

now-keeps : (w : NaiveWorld) (c : NamedClient) (r : Result NaiveClient Refusal) → KeepsLoad w (now w c r)
now-keeps w c (Err refusal) = tt
now-keeps w c (Ok x) = refl

deliver-keeps : (w : NaiveWorld) (c : NamedClient) (many : HowMany) → KeepsLoad w (deliver_client w c many)
deliver-keeps w c many =
    let have = length (ahead_of w c.client) in
    let f = λ (n : ℕ). now w c (processed c.client (take n (ahead_of w c.client))) in
    if-there w.load (conn_of c.client.link) NotConnected (λ conn. elim (wanted_count many have) [ None ↦ Err (NothingToDeliver have) | Some n ↦ f n ])
    (λ conn. if-there w.load (wanted_count many have) (NothingToDeliver have) f (λ n. now-keeps w c (processed c.client (take n (ahead_of w c.client)))))

offer-next-keeps : (w : NaiveWorld) (c : NamedClient) (m : Message) (es : List Entry) → KeepsLoad w (offer_next w c m es)
offer-next-keeps w c m [] = tt
offer-next-keeps w c m (entry ∷ es) = if-so w.load (same_message m entry.msg) (now w c (processed c.client (entry ∷ []))) (Foreign m.seq)
    (now-keeps w c (processed c.client (entry ∷ [])))

offer-keeps : (w : NaiveWorld) (c : NamedClient) (text : Characters) → KeepsLoad w (offer_client w c text)
offer-keeps w c text = if-there w.load (conn_of c.client.link) NotConnected
    (λ conn. elim (message (encode_utf8_all text)) [ Err fault ↦ Err (refusal_of_cause fault) | Ok m ↦ offer_message w c m ])
    (λ conn. if-ok w.load (message (encode_utf8_all text)) refusal_of_cause (offer_message w c) one)
  where
    one : (m : Message) → KeepsLoad w (offer_message w c m)
    one m = if-so w.load (nat_eq m.seq (c.client.doc.number + 1)) (offer_next w c m (ahead_of w c.client)) (OutOfOrder (c.client.doc.number + 1) m.seq)
        (offer-next-keeps w c m (ahead_of w c.client))

blame-keeps : (w : NaiveWorld) (x : NaiveClient) (a b : ℕ) → KeepsLoad w (blame_client w x a b)
blame-keeps w x a b = by _ (nat_lt (length (blame x)) b)
  where
    by : (values : List Data) (t : Bool) → KeepsLoad w (cond t (Err (OutOfRange (length (blame x)))) (Ok (w, Texts values)))
    by values true = tt
    by values false = refl

start-keeps : (w : NaiveWorld) (name : Characters) (from : Option Characters) → KeepsLoad w (start_client w name from)
start-keeps w name None = refl
start-keeps w name (Some from) = of-client-keeps w from (λ c. unless_pending c.client (quietly (started w name c.client.doc)))
    (λ c. unless-pending-keeps w.load c.client (quietly (started w name c.client.doc)) refl)

-- ---- the events of guests

submit-draft-keeps : (w : NaiveWorld) (g : NamedGuest) (d : Draft) → KeepsLoad w (submit_draft w g d)
submit-draft-keeps w g d = then-keeps w.load (submit_all w g.conn (d ∷ [])) quietly (submits-keep w g.conn (d ∷ [])) (λ v h. h)

submit-keeps : (w : NaiveWorld) (g : NamedGuest) (text : Characters) → KeepsLoad w (submit_guest w g text)
submit-keeps w g text = if-ok w.load (draft (encode_utf8_all text)) refusal_of_cause (submit_draft w g) (submit-draft-keeps w g)

part-keeps : (w : NaiveWorld) (g : NamedGuest) → KeepsLoad w (part_guest w g)
part-keeps w g = by (leave w.sequencer g.conn)
  where
    by : (o : Option (NaiveSequencer × Entry)) → KeepsLoad w (elim (left_by w o) [ None ↦ Err NotConnected | Some v ↦ quietly v ])
    by None = tt
    by (Some p) = refl

-- ---- all events

happens-keep : (w : NaiveWorld) (e : Event) → KeepsLoad w (happen w e)
happens-keep w (event.Start name from) = with-name-keeps w name (start_client w name from) (start-keeps w name from)
happens-keep w (event.Connect name) = of-client-keeps w name (connect_client w) (connect-keeps w)
happens-keep w (event.Drop name) = of-client-keeps w name (drop_client w) (drop-keeps w)
happens-keep w (event.Edit name op) = of-client-keeps w name (λ c. edit_client w c op) (λ c. edit-keeps w c op)
happens-keep w (event.Ticket name many) = of-client-keeps w name (λ c. ticket_client w c many) (λ c. ticket-keeps w c many)
happens-keep w (event.Deliver name many) = of-client-keeps w name (λ c. deliver_client w c many) (λ c. deliver-keeps w c many)
happens-keep w (event.Noop name) = of-client-keeps w name (noop_client w) (noop-keeps w)
happens-keep w (event.Show name) = of-client-keeps w name _ (λ c. refl)
happens-keep w (event.Queue name) = of-client-keeps w name _ (λ c. refl)
happens-keep w (event.Compact name) = of-client-keeps w name _ (λ c. refl)
happens-keep w (event.Summary name) = of-client-keeps w name _ (λ c. unless-pending-keeps w.load c.client _ refl)
happens-keep w (event.Offer name text) = of-client-keeps w name (λ c. offer_client w c text) (λ c. offer-keeps w c text)
happens-keep w event.History = refl
happens-keep w (event.Guest name) = with-name-keeps w name (quietly (enter_guest w name)) refl
happens-keep w (event.Submit name text) = of-guest-keeps w name (λ g. submit_guest w g text) (λ g. submit-keeps w g text)
happens-keep w (event.Part name) = of-guest-keeps w name (part_guest w) (part-keeps w)
happens-keep w (event.Overlap name label a b) = of-client-keeps w name _ (λ c. refl)
happens-keep w (event.Blame name a b) = of-client-keeps w name (λ c. blame_client w c.client a b) (λ c. blame-keeps w c.client a b)
happens-keep w (event.Authors name) = of-client-keeps w name _ (λ c. refl)

pub step-loads : (w : NaiveWorld) (e : Event) (p : NaiveWorld × Output) → step w e ≡ Ok p → p.0.load ≡ w.load + (1 + text_load e)
step-loads w e p h = by (happen w e) (happens-keep w e) h
  where
    by : (s : Stepped) → KeepsLoad w s → loaded (1 + text_load e) s ≡ Ok p → p.0.load ≡ w.load + (1 + text_load e)
    by (Err refusal) k g = (cc)
    by (Ok q) k g =
        let same : (record q.0 { load = q.0.load + (1 + text_load e) }, q.1) ≡ p = (cc) in
        sym (ap (λ (z : NaiveWorld × Output). z.0.load) same) ∙ ap (λ n. n + (1 + text_load e)) k
