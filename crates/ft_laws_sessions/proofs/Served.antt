-- A client of a world: it came from the empty document by steps that it accepted, took the first messages of the log, and
-- takes each further one.
use Rattle.std.proofs.Common.{◌≡◌, ℕ, ◌+◌, ◌≤◌, Bool, true, false, cond, not, ◌&&◌, nat_eq, nat_lt, List, [], ◌∷◌, ◌++◌, append_assoc, Option, Some, None, Result, Ok, Err, find, ℤ, pos, negsuc, int_lt, refl, sym, ◌∙◌, ap, subst, arith}
use Rattle.std.specs.List.{list_all, list_any}
use Rattle.std.proofs.lemmas.Bool.Decides.{nat_tests}
use Rattle.ft_base.proofs.Booleans.{both}
use Rattle.ft_op.specs.declared.operations.ChannelOp.{ChannelOp}
use Rattle.ft_json.specs.declared.fields.Field.TheVariants.{ReferenceSequenceNumber, MinimumSequenceNumber}
use Rattle.ft_msg.specs.declared.faults.ProcessFault.{ProcessFault}
use Rattle.ft_msg.specs.declared.faults.ProcessFault.TheVariants.{OutOfOrder, BadNumbers, NotSent}
use Rattle.ft_msg.specs.declared.messages.Body.{Body}
use Rattle.ft_msg.specs.declared.messages.Body.TheVariants.{Nothing, Op, Elsewhere}
use Rattle.ft_msg.specs.declared.messages.Entry.{Entry}
use Rattle.ft_msg.specs.declared.messages.MsgKind.{MsgKind}
use Rattle.ft_msg.specs.declared.messages.MsgKind.TheVariants as kind
use Rattle.ft_msg.specs.declared.views.Link.{Link}
use Rattle.ft_msg.specs.declared.views.Link.TheVariants.{Offline, Joining, Online}
use Rattle.ft_props.specs.Properties.{Characters}
use Rattle.ft_op.specs.Document.{empty}
use Rattle.ft_msg.specs.Acknowledgement.{ack_stages, after_own_message}
use Rattle.ft_msg.specs.Client.{NaiveClient, PendingEdit, SentAs, client_over}
use Rattle.ft_msg.specs.Process.{after_entry, after_foreign_message, come_online, is_body, is_oldest, is_op, is_op_kind, is_own, is_own_join, is_sent_as, numbers_fault, process, process_fault}
use Rattle.ft_msg.specs.WellFormed.{has_body}
use Rattle.ft_seqr.specs.Sequencer.{NaiveSequencer, is_joined}
use Rattle.ft_laws_agreement.specs.Agreement.{IsRun}
use Rattle.ft_msg.specs.ClientSteps.{ClientStep, Edits, Connects, Drops, Idles, Sends, Restarts, Takes, after_step, after_steps, has_fitting_body, taken_entries, unless_refused}
use Rattle.ft_laws_agreement.specs.Sequencing.{Each}
use Rattle.ft_laws_agreement.proofs.AnyAndAll.{all-append}
use Rattle.ft_laws_sessions.specs.LogOrder.{StandsNext, RefersWithin}
use Rattle.ft_laws_summaries.proofs.Lists.{each-any, each-weaker}
use Rattle.ft_laws_sessions.proofs.Orders.{Leads, leads-more}
use Rattle.ft_laws_sessions.proofs.Links.{IsLinked, is_owed, joined-none, linked-foreign, linked-join, linked-more, linked-oldest, linked-own}
use Rattle.ft_laws_sessions.proofs.Owing.{owing, owing-foreign, owing-join, owing-own}

-- ---- one step more

after-none : (o : Option NaiveClient) → after_steps o [] ≡ o
after-none None = refl
after-none (Some x) = refl

steps-more : (steps : List ClientStep) (o : Option NaiveClient) (x : NaiveClient) (s : ClientStep) → after_steps o steps ≡ Some x
    → after_steps o (steps ++ (s ∷ [])) ≡ after_step x s
steps-more steps None x s h = (cc)
steps-more [] (Some z) x s h = let same : z ≡ x = (cc) in after-none (after_step z s) ∙ ap (λ y. after_step y s) same
steps-more (t ∷ steps) (Some z) x s h = steps-more steps (after_step z t) x s h

-- the entries of one step
abbrev pub entry_of : ClientStep → List Entry
entry_of s = taken_entries (s ∷ [])

pub taken-more : (steps : List ClientStep) (s : ClientStep) → taken_entries (steps ++ (s ∷ [])) ≡ taken_entries steps ++ entry_of s
taken-more [] s = refl
taken-more (Edits op ∷ steps) s = taken-more steps s
taken-more (Connects conn ∷ steps) s = taken-more steps s
taken-more (Drops ∷ steps) s = taken-more steps s
taken-more (Idles ∷ steps) s = taken-more steps s
taken-more (Sends ∷ steps) s = taken-more steps s
taken-more (Restarts ∷ steps) s = taken-more steps s
taken-more (Takes e ∷ steps) s = ap (λ es. e ∷ es) (taken-more steps s)

pub run-more : (steps : List ClientStep) (x y : NaiveClient) (s : ClientStep) → IsRun steps x → after_step x s ≡ Some y
    → list_all has_fitting_body (entry_of s) ≡ true → IsRun (steps ++ (s ∷ [])) y
run-more steps x y s r h b = record {
  made = steps-more steps (Some (client_over empty)) x s r.made ∙ h;
  bodies = ap (list_all has_fitting_body) (taken-more steps s) ∙ all-append has_fitting_body (taken_entries steps) (entry_of s) r.bodies b;
}

-- ---- a client of a world

-- the connection is one of those so far, and of the client with this name
pub record IsOwned (owner : ℕ → Option Characters) (count : ℕ) (name : Characters) (conn : ℕ) : Type 0 where
  pub by : owner conn ≡ Some name
  pub known : conn ≤ count

-- the client took the log but for the rest, and what it sent stands in the rest and in its queue
pub record IsServed (owner : ℕ → Option Characters) (count : ℕ) (q : NaiveSequencer) (log : List Entry) (name : Characters) (rest : List Entry) (x : NaiveClient) : Type 0 where
  pub steps : List ClientStep
  pub run : IsRun steps x
  pub entries : taken_entries steps ++ rest ≡ log
  pub order : Leads x.doc.number x.doc.minimum rest q.number q.minimum
  pub conns : Each (IsOwned owner count name) x.conns
  pub link : IsLinked x.conns x.doc.number x.next_client_seq x.queue x.pending rest q x.link

-- connections more
pub served-known : (owner other : ℕ → Option Characters) (count more : ℕ) (q : NaiveSequencer) (log : List Entry) (name : Characters) (rest : List Entry)
    (x : NaiveClient) → count ≤ more
    → ((conn : ℕ) → conn ≤ count → other conn ≡ owner conn) → IsServed owner count q log name rest x → IsServed other more q log name rest x
served-known owner other count more q log name rest x l k s = record {
  steps = s.steps;
  run = s.run;
  entries = s.entries;
  order = s.order;
  conns = each-weaker (IsOwned owner count name) (IsOwned other more name)
      (λ conn o. record { by = k conn o.known ∙ o.by; known = let h = o.known in omega (arith, h, l) }) x.conns s.conns;
  link = s.link;
}

-- another's message is numbered
pub served-more : (owner : ℕ → Option Characters) (count : ℕ) (q p : NaiveSequencer) (log : List Entry) (name : Characters) (rest : List Entry)
    (x : NaiveClient) (e : Entry) → StandsNext q.number q.minimum e
    → p.number ≡ q.number + 1 → p.minimum ≡ e.msg.min → is_owed x.conns e ≡ false
    → ((conn : ℕ) → IsOwned owner count name conn → find (is_joined conn) p.joined ≡ find (is_joined conn) q.joined)
    → IsServed owner count q log name rest x → IsServed owner count p (log ++ (e ∷ [])) name (rest ++ (e ∷ [])) x
served-more owner count q p log name rest x e f n m o k s = record {
  steps = s.steps;
  run = s.run;
  entries = sym (append_assoc (taken_entries s.steps) rest (e ∷ [])) ∙ ap (λ es. es ++ (e ∷ [])) s.entries;
  order = subst (λ i. Leads x.doc.number x.doc.minimum (rest ++ (e ∷ [])) i p.minimum) (sym n)
      (subst (λ i. Leads x.doc.number x.doc.minimum (rest ++ (e ∷ [])) (q.number + 1) i) (sym m) (leads-more rest x.doc.number x.doc.minimum q.number q.minimum e s.order f));
  conns = s.conns;
  link = linked-more x.conns x.doc.number x.next_client_seq x.queue x.pending rest q p e x.link o
      (λ conn h. k conn (each-any (IsOwned owner count name) conn x.conns h s.conns)) s.link;
}

-- ---- the next entry is taken

refers-tests : (m n : ℕ) (z : ℤ) → RefersWithin m n z → (int_lt z (pos m) ≡ false) × (int_lt (pos n) z ≡ false)
refers-tests m n (pos r) h = (let l = h.0 in grind (arith, nat_tests), let l = h.1 in grind (arith, nat_tests))
refers-tests m n (negsuc r) h = absurd h

and-false : (b t : Bool) → (b ≡ true → t ≡ false) → b && t ≡ false
and-false true t h = h refl
and-false false t h = refl

skips : (b : Bool) (x : ProcessFault) (o : Option ProcessFault) → b ≡ false → cond b (Some x) o ≡ o
skips true x o h = (cc)
skips false x o h = refl

numbers-none : (x : NaiveClient) (e : Entry) → StandsNext x.doc.number x.doc.minimum e → numbers_fault x e ≡ None
numbers-none x e f =
    let m = e.msg in
    let low = f.later in
    let high = f.below in
    skips (is_op_kind m.kind && int_lt m.ref_seq (pos x.doc.minimum)) (BadNumbers ReferenceSequenceNumber x.doc.minimum m.ref_seq) _
    (and-false (is_op_kind m.kind) (int_lt m.ref_seq (pos x.doc.minimum)) (λ h. (refers-tests x.doc.minimum x.doc.number m.ref_seq (f.refers h)).0))
    ∙ skips (is_op_kind m.kind && int_lt (pos x.doc.number) m.ref_seq) (BadNumbers ReferenceSequenceNumber x.doc.number m.ref_seq) _
    (and-false (is_op_kind m.kind) (int_lt (pos x.doc.number) m.ref_seq) (λ h. (refers-tests x.doc.minimum x.doc.number m.ref_seq (f.refers h)).1))
    ∙ skips (nat_lt m.min x.doc.minimum) (BadNumbers MinimumSequenceNumber x.doc.minimum (pos m.min)) _ (grind (arith, nat_tests))
    ∙ skips (nat_lt m.seq m.min) (BadNumbers MinimumSequenceNumber m.seq (pos m.min)) None (grind (arith, nat_tests))

-- the fault of an entry with the next number, by that of its other numbers
abbrev sent_fault : NaiveClient → Entry → Option ProcessFault → Option ProcessFault
sent_fault x e (Some fault) = Some fault
sent_fault x e None = cond (is_op_kind e.msg.kind && is_own x e && not (is_oldest e x.pending)) (Some NotSent) None

own-false : (b t : Bool) → (b ≡ true → t ≡ true) → b && not t ≡ false
own-false true true h = refl
own-false true false h = let wrong : false ≡ true = h refl in (cc)
own-false false t h = refl

fault-none : (x : NaiveClient) (e : Entry) → StandsNext x.doc.number x.doc.minimum e → (is_owed x.conns e ≡ true → is_oldest e x.pending ≡ true) → process_fault x e ≡ None
fault-none x e f h =
    let s = f.seq in
    skips (not (nat_eq e.msg.seq (x.doc.number + 1))) (OutOfOrder (x.doc.number + 1) e.msg.seq) (sent_fault x e (numbers_fault x e)) (grind (arith, nat_tests))
    ∙ ap (sent_fault x e) (numbers-none x e f)
    ∙ skips (is_op_kind e.msg.kind && is_own x e && not (is_oldest e x.pending)) NotSent None (own-false (is_op_kind e.msg.kind && is_own x e) (is_oldest e x.pending) h)

abbrev processed : NaiveClient → Entry → Option ProcessFault → Result NaiveClient ProcessFault
processed x e (Some fault) = Err fault
processed x e None = Ok (after_entry x e)

process-ok : (x : NaiveClient) (e : Entry) → process_fault x e ≡ None → process x e ≡ Ok (after_entry x e)
process-ok x e h = ap (processed x e) h

-- what the client becomes
pub record IsTaken (x : NaiveClient) (e : Entry) (rest : List Entry) (q : NaiveSequencer) (y : NaiveClient) : Type 0 where
  pub number : y.doc.number ≡ e.msg.seq
  pub minimum : y.doc.minimum ≡ e.msg.min
  pub conns : y.conns ≡ x.conns
  pub link : IsLinked x.conns e.msg.seq y.next_client_seq y.queue y.pending rest q y.link
  pub owes : owing x.conns rest y.pending y.queue ≤ owing x.conns (e ∷ rest) x.pending x.queue

body-is-op : (op : ChannelOp) (b : Body) → is_body op b ≡ true → is_op b ≡ true
body-is-op op Nothing h = (cc)
body-is-op op (Op other) h = refl
body-is-op op (Elsewhere address) h = (cc)

sent-is-op : (e : Entry) (edits : List PendingEdit) → is_oldest e edits ≡ true → is_op e.msg.body ≡ true
sent-is-op e [] h = (cc)
sent-is-op e (edit ∷ edits) h = by edit.sent refl
  where
    by : (o : Option SentAs) → edit.sent ≡ o → is_op e.msg.body ≡ true
    by None s = let t : is_sent_as e (record edit { sent = None }) ≡ true = subst (λ i. is_sent_as e (record edit { sent = i }) ≡ true) s h in (cc)
    by (Some sent) s =
        let t : is_sent_as e (record edit { sent = Some sent }) ≡ true = subst (λ i. is_sent_as e (record edit { sent = i }) ≡ true) s h in
        body-is-op sent.op e.msg.body (both _ (is_body sent.op e.msg.body) t).1

taken-own : (x : NaiveClient) (e : Entry) (edits : List PendingEdit) (rest : List Entry) (q : NaiveSequencer) → x.doc.number ≤ e.msg.seq → is_owed x.conns e
    ≡ true → is_own_join x.link e.msg.kind e.origin ≡ false
    → is_oldest e edits ≡ true → IsLinked x.conns x.doc.number x.next_client_seq x.queue edits (e ∷ rest) q x.link
    → IsTaken (record x { pending = edits }) e rest q (after_own_message (record x { pending = edits }) e)
taken-own x e [] rest q u h o s l = (cc)
taken-own x e (edit ∷ edits) rest q u h o s l = record {
  number = refl;
  minimum = refl;
  conns = refl;
  link = linked-own x.conns x.doc.number e.msg.seq x.next_client_seq x.queue edit edits rest q e (ack_stages e.msg.seq e.origin (λ i. i) edit.stages x.doc).1 x.link u h o l;
  owes = let same = owing-own x.conns rest e edit edits (ack_stages e.msg.seq e.origin (λ i. i) edit.stages x.doc).1 x.queue h in omega (arith, same);
}

-- an own join is no operation
join-unowed : (k : MsgKind) (conn origin : ℕ) (b : Bool) → is_own_join (Joining conn) k origin ≡ true → is_op_kind k && b ≡ false
join-unowed kind.Join conn origin b h = refl
join-unowed kind.Op conn origin b h = (cc)
join-unowed kind.Leave conn origin b h = (cc)
join-unowed kind.Noop conn origin b h = (cc)
join-unowed (kind.Other word) conn origin b h = (cc)

taken-join : (x : NaiveClient) (e : Entry) (rest : List Entry) (q : NaiveSequencer) (link : Link) → is_own_join link e.msg.kind e.origin ≡ true
    → IsLinked x.conns x.doc.number x.next_client_seq x.queue x.pending (e ∷ rest) q link → IsTaken x e rest q (come_online x e)
taken-join x e rest q Offline o l = (cc)
taken-join x e rest q (Online conn) o l = (cc)
taken-join x e rest q (Joining conn) o l = record {
  number = refl;
  minimum = refl;
  conns = refl;
  link = linked-join x.conns x.queue x.pending rest q e conn (record x.doc { number = e.msg.seq; minimum = e.msg.min }) refl o l;
  owes = owing-join x.conns rest e (record x.doc { number = e.msg.seq; minimum = e.msg.min }) x.pending x.queue
      (join-unowed e.msg.kind conn e.origin (list_any (nat_eq e.origin) x.conns) o) (joined-none x.conns conn l.j.ref_seq rest e o l.awaits);
}

pub fitting-op : (k : MsgKind) (b : Body) → cond (is_op_kind k) (has_body b) (not (has_body b)) ≡ true → is_op b ≡ true → is_op_kind k ≡ true
fitting-op kind.Op b h o = refl
fitting-op kind.Join (Op op) h o = (cc)
fitting-op kind.Leave (Op op) h o = (cc)
fitting-op kind.Noop (Op op) h o = (cc)
fitting-op (kind.Other word) (Op op) h o = (cc)
fitting-op kind.Join Nothing h o = (cc)
fitting-op kind.Leave Nothing h o = (cc)
fitting-op kind.Noop Nothing h o = (cc)
fitting-op (kind.Other word) Nothing h o = (cc)
fitting-op kind.Join (Elsewhere address) h o = (cc)
fitting-op kind.Leave (Elsewhere address) h o = (cc)
fitting-op kind.Noop (Elsewhere address) h o = (cc)
fitting-op (kind.Other word) (Elsewhere address) h o = (cc)

-- the client's answer by the two tests on the entry
abbrev answer : NaiveClient → Entry → Bool → Bool → NaiveClient
answer x e own_join own = cond own_join (come_online x e) (cond own (after_own_message x e) (after_foreign_message x e))

taken : (x : NaiveClient) (e : Entry) (rest : List Entry) (q : NaiveSequencer) → StandsNext x.doc.number x.doc.minimum e
    → IsLinked x.conns x.doc.number x.next_client_seq x.queue x.pending (e ∷ rest) q x.link
    → (a b c : Bool) → is_own_join x.link e.msg.kind e.origin ≡ a → is_op e.msg.body && is_own x e ≡ b → is_owed x.conns e ≡ c → IsTaken x e rest q (answer x e a b)
taken x e rest q f l true b c ha hb hc = taken-join x e rest q x.link ha l
taken x e rest q f l false true true ha hb hc =
    let s = f.seq in
    taken-own x e x.pending rest q (omega (arith, s)) hc ha (linked-oldest x.conns x.doc.number x.next_client_seq x.queue x.pending rest q e x.link hc l) l
taken x e rest q f l false true false ha hb hc =
    let p = both (is_op e.msg.body) (is_own x e) hb in
    let k = fitting-op e.msg.kind e.msg.body f.body p.0 in
    let w : true ≡ false = sym (ap (λ t. t && is_own x e) k ∙ p.1) ∙ hc in
    (cc)
taken x e rest q f l false false true ha hb hc =
    let o = sent-is-op e x.pending (linked-oldest x.conns x.doc.number x.next_client_seq x.queue x.pending rest q e x.link hc l) in
    let own = (both (is_op_kind e.msg.kind) (is_own x e) hc).1 in
    let w : true ≡ false = sym (ap (λ t. t && is_own x e) o ∙ own) ∙ hb in
    (cc)
taken x e rest q f l false false false ha hb hc =
    let s = f.seq in
    record {
      number = refl;
      minimum = refl;
      conns = refl;
      link = linked-foreign x.conns x.doc.number e.msg.seq x.next_client_seq x.queue x.pending rest q e x.link (omega (arith, s)) hc ha l;
      owes = let same = owing-foreign x.conns rest e x.pending x.queue hc in omega (arith, same);
    }

-- a client that took the log but for these takes the first of them
pub record TakesNext (owner : ℕ → Option Characters) (count : ℕ) (q : NaiveSequencer) (log : List Entry) (name : Characters) (rest : List Entry)
    (x : NaiveClient) (e : Entry) : Type 0 where
  pub y : NaiveClient
  pub processed : process x e ≡ Ok y
  pub is : y ≡ after_entry x e
  pub conns : y.conns ≡ x.conns
  pub served : IsServed owner count q log name rest y
  pub owes : owing y.conns rest y.pending y.queue ≤ owing x.conns (e ∷ rest) x.pending x.queue

pub served-takes : (owner : ℕ → Option Characters) (count : ℕ) (q : NaiveSequencer) (log : List Entry) (name : Characters) (rest : List Entry)
    (x : NaiveClient) (e : Entry) → IsServed owner count q log name (e ∷ rest) x
    → TakesNext owner count q log name rest x e
served-takes owner count q log name rest x e s =
    let f : StandsNext x.doc.number x.doc.minimum e = s.order.0 in
    let ok = process-ok x e (fault-none x e f (λ h. linked-oldest x.conns x.doc.number x.next_client_seq x.queue x.pending rest q e x.link h s.link)) in
    let t : IsTaken x e rest q (after_entry x e) = taken x e rest q f s.link (is_own_join x.link e.msg.kind e.origin) (is_op e.msg.body && is_own x e)
    (is_owed x.conns e) refl refl refl in
    let y = after_entry x e in
    let one : y.doc.number ≡ x.doc.number + 1 = t.number ∙ f.seq in
    let b = f.body in
    record {
      y = y;
      processed = ok;
      is = refl;
      conns = t.conns;
      served = record {
        steps = s.steps ++ (Takes e ∷ []);
        run = run-more s.steps x y (Takes e) s.run (ap unless_refused ok) (rw b refl);
        entries = ap (λ es. es ++ rest) (taken-more s.steps (Takes e)) ∙ (append_assoc (taken_entries s.steps) (e ∷ []) rest ∙ s.entries);
        order = subst (λ i. Leads i y.doc.minimum rest q.number q.minimum) (sym one) (subst (λ i. Leads (x.doc.number + 1) i rest q.number q.minimum) (sym t.minimum) s.order.1);
        conns = subst (Each (IsOwned owner count name)) (sym t.conns) s.conns;
        link = subst (λ cs. IsLinked cs y.doc.number y.next_client_seq y.queue y.pending rest q y.link) (sym t.conns)
            (subst (λ i. IsLinked x.conns i y.next_client_seq y.queue y.pending rest q y.link) (sym t.number) t.link);
      };
      owes = subst (λ cs. owing cs rest y.pending y.queue ≤ owing x.conns (e ∷ rest) x.pending x.queue) (sym t.conns) t.owes;
    }
