-- The lists of a client that took the first messages of the log have at most as many elements as these and what the client owes
-- cost.
use Rattle.std.proofs.Common.{◌≡◌, ℕ, ◌+◌, ◌≤◌, true, List, [], ◌∷◌, ◌++◌, Option, Some, None, sym, ◌∙◌, ap, arith}
use Rattle.ft_base.proofs.Booleans.{both}
use Rattle.ft_op.specs.declared.operations.ChannelOp.{ChannelOp}
use Rattle.ft_msg.specs.declared.messages.Body.{Body}
use Rattle.ft_msg.specs.declared.messages.Body.TheVariants.{Nothing, Op, Elsewhere}
use Rattle.ft_msg.specs.declared.messages.Draft.{Draft}
use Rattle.ft_msg.specs.declared.messages.Entry.{Entry}
use Rattle.ft_msg.specs.declared.views.Link.{Link}
use Rattle.ft_msg.specs.declared.views.Link.TheVariants.{Offline, Joining, Online}
use Rattle.ft_props.specs.Properties.{Characters}
use Rattle.ft_op.proofs.SameOperations.{same_op-Decides}
use Rattle.ft_msg.specs.Client.{NaiveClient, PendingEdit, SentAs}
use Rattle.ft_msg.specs.ClientSteps.{taken_entries}
use Rattle.ft_msg.specs.Process.{is_body, is_sent_as}
use Rattle.ft_seqr.specs.Sequencer.{NaiveSequencer}
use Rattle.ft_laws_agreement.specs.Sequencing.{Each}
use Rattle.ft_laws_sessions.specs.Load.{IsHeldWithin}
use Rattle.ft_laws_sessions.proofs.Links.{AnyEdits, IsAnswered, IsLinked, IsQueued, answered-weaker, is_owed, owed}
use Rattle.ft_laws_sessions.proofs.Owing.{IsPriced, IsPricedAs, behind, body_inserts, edit_cost, edit_inserts, entry_cost, op_inserts, owing_of, total, total-append, total-filter, total-less}
use Rattle.ft_laws_sessions.proofs.Prices.{client-priced}
use Rattle.ft_laws_sessions.proofs.HeldElements.{IsSizedWithin, entry_inserts, held-within, sized-within}
use Rattle.ft_laws_sessions.proofs.Served.{IsServed}

-- the message inserts what the edit does
body-inserts : (n : ℕ) (op : ChannelOp) (b : Body) → op_inserts op ≡ n → is_body op b ≡ true → n ≡ body_inserts b
body-inserts n op Nothing e h = (cc)
body-inserts n op (Op other) e h = sym e ∙ ap op_inserts ((same_op-Decides op other).0 h)
body-inserts n op (Elsewhere address) e h = (cc)

sent-inserts : (e : Entry) (edit : PendingEdit) (sent : Option SentAs) → IsPricedAs (edit_inserts edit) sent → is_sent_as e (record edit { sent = sent })
    ≡ true → edit_inserts edit ≡ entry_inserts e
sent-inserts e edit None p h = (cc)
sent-inserts e edit (Some sent) p h = body-inserts (edit_inserts edit) sent.op e.msg.body p (both _ (is_body sent.op e.msg.body) h).1

-- the edits insert what the messages do that answer them, and what is behind these
answered-insert : (es : List Entry) (edits : List PendingEdit) → Each IsPriced edits → IsAnswered es edits AnyEdits
    → total edit_inserts edits ≤ total entry_inserts es + total edit_cost (behind es edits)
answered-insert [] edits p h = let less = total-less edit_cost edit_inserts (λ e. omega arith) edits in omega (arith, less)
answered-insert (e ∷ es) [] p h = absurd h
answered-insert (e ∷ es) (edit ∷ edits) p h =
    let ih = answered-insert es edits p.1 h.1 in
    let here = sent-inserts e edit edit.sent p.0 h.0 in
    omega (arith, ih, here)

linked-answered : (conns : List ℕ) (number next : ℕ) (queue : List Draft) (pending : List PendingEdit) (rest : List Entry) (q : NaiveSequencer) (link : Link)
    → IsLinked conns number next queue pending rest q link
    → IsAnswered (owed conns rest) pending AnyEdits
linked-answered conns number next queue pending rest q Offline l = l.answered
linked-answered conns number next queue pending rest q (Joining conn) l = l.answered
linked-answered conns number next queue pending rest q (Online conn) l = answered-weaker (owed conns rest) pending (λ edits. IsQueued conn queue edits)
    AnyEdits (λ ys g. tt) l.answered

-- what the taken entries and the pending edits insert is within what the log costs and the client owes
pub served-inserts : (owner : ℕ → Option Characters) (count : ℕ) (q : NaiveSequencer) (log : List Entry) (name : Characters) (rest : List Entry)
    (x : NaiveClient) → (s : IsServed owner count q log name rest x)
    → total entry_inserts (taken_entries s.steps) + total edit_inserts x.pending ≤ total entry_cost log + owing_of x rest
served-inserts owner count q log name rest x v =
    let answered = answered-insert (owed x.conns rest) x.pending (client-priced v.steps x v.run)
    (linked-answered x.conns x.doc.number x.next_client_seq x.queue x.pending rest q x.link v.link) in
    let some = total-filter entry_inserts (is_owed x.conns) rest in
    let sum = total-append entry_inserts (taken_entries v.steps) rest in
    let all : total entry_inserts (taken_entries v.steps ++ rest) ≡ total entry_inserts log = ap (total entry_inserts) v.entries in
    let costs = total-less entry_cost entry_inserts (λ e. omega arith) log in
    omega (arith, answered, some, sum, all, costs)

pub served-sized : (owner : ℕ → Option Characters) (count : ℕ) (q : NaiveSequencer) (log : List Entry) (name : Characters) (rest : List Entry)
    (x : NaiveClient) → IsServed owner count q log name rest x
    → IsSizedWithin (total entry_cost log + owing_of x rest) x.doc
served-sized owner count q log name rest x v =
    let less = served-inserts owner count q log name rest x v in
    let sized = sized-within v.steps x v.run in
    record { text = let a = sized.text in omega (arith, less, a); rows = let a = sized.rows in omega (arith, less, a); cols = let a = sized.cols in omega (arith, less, a) }

pub served-held : (owner : ℕ → Option Characters) (count : ℕ) (q : NaiveSequencer) (log : List Entry) (name : Characters) (rest : List Entry) (x : NaiveClient)
    → IsServed owner count q log name rest x
    → IsHeldWithin (total entry_cost log + owing_of x rest) x.doc
served-held owner count q log name rest x v =
    let less = served-inserts owner count q log name rest x v in
    let held = held-within v.steps x v.run in
    record { text = let a = held.text in omega (arith, less, a); rows = let a = held.rows in omega (arith, less, a); cols = let a = held.cols in omega (arith, less, a) }
