-- Clients of a map session stay served: where another client's message is numbered, and in each event of their own.
use Rattle.std.proofs.Common.{◌≡◌, ℕ, zero, suc, ◌+◌, ◌≤◌, Bool, true, false, cond, nat_eq, List, [], ◌∷◌, ◌++◌, append_assoc, length, Option, Some, None, take, find, refl, sym, ◌∙◌, ap, subst, arith}
use Rattle.std.specs.Prelude.{if◌then◌else◌}
use Rattle.std.specs.List.{list_any}
use Rattle.std.proofs.lemmas.List.{length-append}
use Rattle.ft_msg.specs.declared.messages.MsgKind.{MsgKind}
use Rattle.ft_msg.specs.declared.views.Link.{Link}
use Rattle.ft_msg.specs.declared.views.Link.TheVariants.{Offline, Joining, Online}
use Rattle.ft_msg.specs.Process.{is_own_join}
use Rattle.ft_seqr.specs.Sequencer.{JoinedConnection, is_joined, least_ref, next, submitted}
use Rattle.ft_map.specs.declared.log.MapDraft.{MapDraft}
use Rattle.ft_map.specs.declared.log.MapEntry.{MapEntry}
use Rattle.ft_shared_map.specs.declared.ops.MapOp.{MapOp}
use Rattle.ft_shared_map.specs.Maps.{Characters, FiniteMap, MapState, acknowledged}
use Rattle.ft_map.specs.MapClient.{MapClient, after_entries, after_entry, after_message, after_op, agreed_map, client_over, draft_of, drafts_from, dropped, edited, is_own, joining, online, put_entry, with_draft}
use Rattle.ft_map.specs.MapSession.{MapService}
use Rattle.ft_map.proofs.JoinedConnections.{AreWithin, least_ref-within, same_number, within-later}
use Rattle.ft_map.proofs.Served.{AreNumbered, Awaits, AwaitsHere, BeginsWith, IsJoining, IsLinked, IsOffline, IsOnline, IsQueue, again-ops, again-queue, agreed-more, any-more, any-new, awaits-new, begins-linked, linked-more, numbered-known, numbered-more, op_list, ops-more, ops_of, own-join, queue-later, queue-more, sent, sent-more, sent-new, sent-none, sent-nobody, sent-same, sent_op}
use Rattle.ft_map.proofs.Submitting.{with_queue}

-- ---- what orders the messages

-- its messages are numbered without a gap, and the sequencer's minimum is that of its connections
pub record IsBase (s : MapService) : Type 0 where
  pub number : s.sequencer.number ≡ length s.log
  pub minimum : s.sequencer.minimum ≡ least_ref s.sequencer.number s.sequencer.joined
  pub joined : AreWithin s.sequencer.number s.connections s.sequencer.joined
  pub logged : AreNumbered 0 s.connections s.log

pub base-minimum : (s : MapService) → IsBase s → s.sequencer.minimum ≤ s.sequencer.number
base-minimum s b = subst (λ n. n ≤ s.sequencer.number) (sym b.minimum) (least_ref-within s.sequencer.number s.connections s.sequencer.joined b.joined)

-- after a message, with these connections joined, of so many
abbrev pub moved : MapService → List JoinedConnection → ℕ → MapEntry → MapService
moved s joined count e = record { sequencer = next joined s.sequencer; connections = count; log = s.log ++ e ∷ [] }

-- the sequencer may number the message
pub record IsNumbered (s : MapService) (joined : List JoinedConnection) (count : ℕ) (e : MapEntry) : Type 0 where
  pub more : s.connections ≤ count
  pub within : AreWithin s.sequencer.number count joined
  pub seq : e.entry.msg.seq ≡ s.sequencer.number + 1
  pub origin : e.entry.origin ≤ count

pub moved-base : (s : MapService) (joined : List JoinedConnection) (count : ℕ) (e : MapEntry) → IsBase s → IsNumbered s joined count e → IsBase (moved s joined count e)
moved-base s joined count e b g =
    let l : length (s.log ++ e ∷ []) ≡ length s.log + 1 = length-append s.log (e ∷ []) in
    let n = b.number in
    let q = g.seq in
    record {
      number = omega (arith, l, n);
      minimum = refl;
      joined = within-later s.sequencer.number (s.sequencer.number + 1) count count joined (omega arith) (omega arith) g.within;
      logged = numbered-more 0 (length s.log) count s.log e (omega (arith, n, q)) (omega arith) g.origin (numbered-known 0 s.connections count s.log g.more b.logged);
    }

-- ---- a client that is served

-- the client took these messages of the log, and the rest is ahead of it; its map is what those make; its connections are owned by its
-- name; and its pending operations are those that it sent and those that it will send
pub record IsServed (owner : ℕ → Characters) (s : MapService) (name : Characters) (seen rest : List MapEntry) (x : MapClient) : Type 0 where
  pub log : s.log ≡ seen ++ rest
  pub number : x.number ≡ length seen
  pub ahead : AreNumbered x.number s.connections rest
  pub acked : x.state.acked ≡ agreed_map seen
  pub conns : (k : ℕ) → list_any (nat_eq k) x.conns ≡ true → (k ≤ s.connections) × (owner k ≡ name)
  pub linked : IsLinked x rest s.sequencer x.link

pub record Serves (owner : ℕ → Characters) (s : MapService) (name : Characters) (x : MapClient) : Type 0 where
  pub seen : List MapEntry
  pub rest : List MapEntry
  pub served : IsServed owner s name seen rest x

-- the owners of the connections so far are as before
abbrev pub KeepsOwners : MapService → (ℕ → Characters) → (ℕ → Characters) → Type 0
KeepsOwners s owner other = (k : ℕ) → k ≤ s.connections → other k ≡ owner k

-- the connections of the client stay joined as they are
abbrev pub KeepsJoined : MapClient → MapService → List JoinedConnection → Type 0
KeepsJoined x s joined = (k : ℕ) → list_any (nat_eq k) x.conns ≡ true → find (is_joined k) joined ≡ find (is_joined k) s.sequencer.joined

module _ (owner other : ℕ → Characters) (s : MapService) (joined : List JoinedConnection) (count : ℕ) (e : MapEntry) (b : IsBase s) (g : IsNumbered s joined count e)
    (o : KeepsOwners s owner other) (name : Characters) where
  -- a client where a message came to the rest, whatever its link is now
  moved-served : (x y : MapClient) (v : Serves owner s name x) → y.number ≡ x.number → y.state.acked ≡ x.state.acked
      → ((k : ℕ) → list_any (nat_eq k) y.conns ≡ true → (k ≤ count) × (other k ≡ name)) → IsLinked y (v.rest ++ e ∷ []) (next joined s.sequencer) y.link → Serves other (moved s joined count e) name y
  moved-served x y v number acked conns linked =
      let w = v.served in
      let l : length s.log ≡ length v.seen + length v.rest = ap length w.log ∙ length-append v.seen v.rest in
      let n = w.number in
      let m = b.number in
      let q = g.seq in
      record {
        seen = v.seen;
        rest = v.rest ++ e ∷ [];
        served = record {
          log = ap (λ (es : List MapEntry). es ++ e ∷ []) w.log ∙ append_assoc v.seen v.rest (e ∷ []);
          number = number ∙ w.number;
          ahead = numbered-more y.number (length s.log) count v.rest e (omega (arith, m, q)) (omega (arith, l, n, number)) g.origin
              (numbered-known y.number s.connections count v.rest g.more (subst (λ k. AreNumbered k s.connections v.rest) (sym number) w.ahead));
          acked = acked ∙ w.acked;
          conns = conns;
          linked = linked;
        };
      }

  same-conns : (x : MapClient) → Serves owner s name x → (k : ℕ) → list_any (nat_eq k) x.conns ≡ true → (k ≤ count) × (other k ≡ name)
  same-conns x v k h =
      let c = v.served.conns k h in
      let m = g.more in
      (omega (arith, c.0, m), o k c.0 ∙ c.1)

  -- a message that sends nothing of the client, whose connections stay joined as they are
  pub serves-more : (x : MapClient) → sent_op x.conns e ≡ [] → KeepsJoined x s joined → Serves owner s name x → Serves other (moved s joined count e) name x
  serves-more x none k v = moved-served x x v refl refl (same-conns x v) (linked-more x v.rest s.sequencer (next joined s.sequencer) e x.link none k v.served.linked)

  -- the client goes offline
  pub serves-dropped : (x : MapClient) → e.op ≡ None → Serves owner s name x → Serves other (moved s joined count e) name (dropped x)
  serves-dropped x none v =
      let begins = begins-linked x v.rest s.sequencer x.link v.served.linked in
      moved-served x (dropped x) v refl refl (same-conns x v) (record {
        begins = record { unsent = begins.unsent; are = begins.are ∙ ap (λ ops. ops ++ begins.unsent) (sym (sent-same x.conns v.rest e (sent-none x.conns e none))) };
        empty = refl;
      })

  -- the client joins under a new connection
  pub serves-joins : (x : MapClient) (conn : ℕ) (j : JoinedConnection) → e.op ≡ None → x.link ≡ Offline → conn ≡ s.connections + 1 → conn ≤ count → other conn ≡ name
      → find (is_joined conn) joined ≡ Some j → j.client_seq ≡ 0 → j.ref_seq ≤ e.entry.msg.seq → is_own_join (Joining conn) e.entry.msg.kind e.entry.origin ≡ true
      → Serves owner s name x → Serves other (moved s joined count e) name (joining conn x)
  serves-joins x conn j none link new known own f first low join v =
      let off : IsOffline x v.rest = subst (λ l. IsLinked x v.rest s.sequencer l) link v.served.linked in
      let same : sent (x.conns ++ conn ∷ []) (v.rest ++ e ∷ []) ≡ sent x.conns v.rest =
      sent-same (x.conns ++ conn ∷ []) v.rest e (sent-none (x.conns ++ conn ∷ []) e none) ∙ sent-new x.number s.connections conn x.conns v.rest new v.served.ahead in
      moved-served x (joining conn x) v refl refl (λ k h. by k (nat_eq k conn) refl h) (record {
        begins = record { unsent = off.begins.unsent; are = off.begins.are ∙ ap (λ ops. ops ++ off.begins.unsent) (sym same) };
        empty = off.empty;
        has = record { j = j; own = any-new conn x.conns; found = f };
        first = first;
        awaits = awaits-new x.number s.connections (x.conns ++ conn ∷ []) conn j.ref_seq v.rest e new v.served.ahead join low;
      })
    where
      by : (k : ℕ) (t : Bool) → nat_eq k conn ≡ t → list_any (nat_eq k) (x.conns ++ conn ∷ []) ≡ true → (k ≤ count) × (other k ≡ name)
      by k true t h = let same : k ≡ conn = same_number k conn t in (subst (λ i. i ≤ count) (sym same) known, ap other same ∙ own)
      by k false t h = same-conns x v k (sym (any-more k conn x.conns t) ∙ h)

  -- its oldest draft is numbered
  pub serves-sent : (x : MapClient) (conn : ℕ) (d : MapDraft) (ds : List MapDraft) (v : Serves owner s name x) (l : IsOnline x v.rest s.sequencer conn) → x.link ≡ Online conn
      → x.queue ≡ d ∷ ds → sent_op x.conns e ≡ d.op ∷ [] → find (is_joined conn) joined ≡ Some (submitted d.draft l.has.j) → Serves other (moved s joined count e) name (with_queue ds x)
  serves-sent x conn d ds v l link queue one f =
      let j = l.has.j in
      let ops = sent x.conns v.rest in
      let numbers : IsQueue j.client_seq j.ref_seq (d ∷ ds) x.number x.next_client_seq =
      subst (λ q. IsQueue j.client_seq j.ref_seq q x.number x.next_client_seq) queue l.numbers in
      let online : IsOnline (with_queue ds x) (v.rest ++ e ∷ []) (next joined s.sequencer) conn = record {
        has = record { j = submitted d.draft j; own = l.has.own; found = f };
        numbers = subst (λ c. IsQueue c d.draft.ref_seq ds x.number x.next_client_seq) (sym numbers.0) numbers.2;
        pending = l.pending ∙ ap (λ q. ops ++ ops_of q) queue ∙ sym (append_assoc ops (d.op ∷ []) (ops_of ds))
            ∙ ap (λ (os : List MapOp). os ++ ops_of ds) (ap (λ (os : List MapOp). ops ++ os) (sym one) ∙ sym (sent-more x.conns v.rest e));
      } in
      moved-served x (with_queue ds x) v refl refl (same-conns x v) (subst (λ k. IsLinked (with_queue ds x) (v.rest ++ e ∷ []) (next joined s.sequencer) k) (sym link) online)

-- ---- events of a client that the sequencer has no part in

module _ (owner : ℕ → Characters) (s : MapService) (name : Characters) where
  -- a client where nothing is numbered, whatever its link is now
  same-served : (x y : MapClient) (v : Serves owner s name x) → y.number ≡ x.number → y.state.acked ≡ x.state.acked → y.conns ≡ x.conns → IsLinked y v.rest s.sequencer y.link → Serves owner s name y
  same-served x y v number acked conns linked = record {
    seen = v.seen;
    rest = v.rest;
    served = record {
      log = v.served.log;
      number = number ∙ v.served.number;
      ahead = subst (λ k. AreNumbered k s.connections v.rest) (sym number) v.served.ahead;
      acked = acked ∙ v.served.acked;
      conns = λ k h. v.served.conns k (ap (list_any (nat_eq k)) (sym conns) ∙ h);
      linked = linked;
    };
  }

  abbrev pushed : MapOp → MapClient → MapClient
  pushed op x = record x { state = record x.state { pending = x.state.pending ++ op ∷ [] } }

  begins-more : (ops pending : List MapOp) (op : MapOp) → BeginsWith ops pending → BeginsWith ops (pending ++ op ∷ [])
  begins-more ops pending op h = record { unsent = h.unsent ++ op ∷ []; are = ap (λ (os : List MapOp). os ++ op ∷ []) h.are ∙ append_assoc ops h.unsent (op ∷ []) }

  -- an edit
  pub serves-edited : (x : MapClient) (op : MapOp) → Serves owner s name x → Serves owner s name (edited op x)
  serves-edited x op v = by x.link refl v.served.linked
    where
      by : (link : Link) → x.link ≡ link → IsLinked x v.rest s.sequencer link → Serves owner s name (with_draft link op (pushed op x))
      by Offline e l = same-served x (pushed op x) v refl refl refl (subst (λ k. IsLinked (pushed op x) v.rest s.sequencer k) (sym e)
          (let off : IsOffline (pushed op x) v.rest = record { begins = begins-more (sent x.conns v.rest) x.state.pending op l.begins; empty = l.empty } in off))
      by (Joining conn) e l = same-served x (pushed op x) v refl refl refl (subst (λ k. IsLinked (pushed op x) v.rest s.sequencer k) (sym e)
          (let off : IsJoining (pushed op x) v.rest s.sequencer conn = record { begins = begins-more (sent x.conns v.rest) x.state.pending op l.begins; empty = l.empty; has = l.has; first = l.first; awaits = l.awaits } in off))
      by (Online conn) e l =
          let y = with_draft (Online conn) op (pushed op x) in
          same-served x y v refl refl refl (subst (λ k. IsLinked y v.rest s.sequencer k) (sym e)
          (let on : IsOnline y v.rest s.sequencer conn = record {
            has = l.has;
            numbers = queue-more l.has.j.client_seq l.has.j.ref_seq x.queue x.number x.next_client_seq op l.numbers;
            pending = ap (λ (os : List MapOp). os ++ op ∷ []) l.pending ∙ append_assoc (sent x.conns v.rest) (ops_of x.queue) (op ∷ [])
                ∙ ap (λ (os : List MapOp). sent x.conns v.rest ++ os) (sym (ops-more x.queue (draft_of x.next_client_seq x.number op)));
          } in on))

  -- what a message's operation makes of the map, where the pending operations begin with it if it is the client's own
  op-acked : (own : Bool) (op : Option MapOp) (m : MapState) (later unsent : List MapOp) → m.pending ≡ (cond own (op_list op) [] ++ later) ++ unsent → (after_op own op m).acked ≡ put_entry m.acked op
  op-acked true None m later unsent h = refl
  op-acked false None m later unsent h = refl
  op-acked true (Some op) m later unsent h = ap (λ ops. (acknowledged m.acked ops).acked) h
  op-acked false (Some op) m later unsent h = refl

  op-pending : (own : Bool) (op : Option MapOp) (m : MapState) (later unsent : List MapOp) → m.pending ≡ (cond own (op_list op) [] ++ later) ++ unsent → (after_op own op m).pending ≡ later ++ unsent
  op-pending true None m later unsent h = h
  op-pending false None m later unsent h = h
  op-pending true (Some op) m later unsent h = ap (λ ops. (acknowledged m.acked ops).pending) h
  op-pending false (Some op) m later unsent h = h

  -- no own join
  not-joining : (link : Link) (k : MsgKind) (origin : ℕ) → is_own_join link k origin ≡ true → (link ≡ Offline → ⊥) × ((conn : ℕ) → link ≡ Online conn → ⊥)
  not-joining Offline k origin h = (absurd cc)
  not-joining (Online conn) k origin h = (absurd cc)
  not-joining (Joining conn) k origin h = ((λ e. absurd cc), (λ c e. absurd cc))

  module _ (seen rest : List MapEntry) (e : MapEntry) (x : MapClient) (v : IsServed owner s name seen (e ∷ rest) x) where
    abbrev taken : MapClient
    taken = after_message e x

    -- the client after the message, whatever its link is now
    taken-served : (y : MapClient) → y.number ≡ e.entry.msg.seq → y.state.acked ≡ put_entry x.state.acked e.op → y.conns ≡ x.conns → IsLinked y rest s.sequencer y.link
        → IsServed owner s name (seen ++ e ∷ []) rest y
    taken-served y number acked conns linked =
        let n = v.number in
        let q = v.ahead.0 in
        let l : length (seen ++ e ∷ []) ≡ length seen + 1 = length-append seen (e ∷ []) in
        record {
          log = v.log ∙ sym (append_assoc seen (e ∷ []) rest);
          number = omega (arith, n, q, l, number);
          ahead = subst (λ k. AreNumbered k s.connections rest) (sym (number ∙ q)) v.ahead.2;
          acked = acked ∙ ap (λ (m : FiniteMap). put_entry m e.op) v.acked ∙ sym (agreed-more [] seen e);
          conns = λ k h. v.conns k (ap (list_any (nat_eq k)) (sym conns) ∙ h);
          linked = linked;
        }

    begins-taken : BeginsWith (sent x.conns (e ∷ rest)) x.state.pending → BeginsWith (sent x.conns rest) taken.state.pending
    begins-taken h = record { unsent = h.unsent; are = op-pending (is_own x e.entry) e.op x.state (sent x.conns rest) h.unsent h.are }

    acked-taken : BeginsWith (sent x.conns (e ∷ rest)) x.state.pending → taken.state.acked ≡ put_entry x.state.acked e.op
    acked-taken h = op-acked (is_own x e.entry) e.op x.state (sent x.conns rest) h.unsent h.are

    -- it is none that the client waits for
    pub serves-message : is_own_join x.link e.entry.msg.kind e.entry.origin ≡ false → IsServed owner s name (seen ++ e ∷ []) rest taken
    serves-message h = taken-served taken refl (acked-taken (begins-linked x (e ∷ rest) s.sequencer x.link v.linked)) refl (by x.link h v.linked)
      where
        by : (link : Link) → is_own_join link e.entry.msg.kind e.entry.origin ≡ false → IsLinked x (e ∷ rest) s.sequencer link → IsLinked taken rest s.sequencer link
        by Offline f l = record { begins = begins-taken l.begins; empty = l.empty }
        by (Joining conn) f l = record {
          begins = begins-taken l.begins;
          empty = l.empty;
          has = l.has;
          first = l.first;
          awaits = subst (λ t. AwaitsHere t ((sent x.conns rest ≡ []) × (l.has.j.ref_seq ≤ e.entry.msg.seq)) (Awaits x.conns conn l.has.j.ref_seq rest)) f l.awaits;
        }
        by (Online conn) f l =
            let q = v.ahead.0 in
            record {
              has = l.has;
              numbers = queue-later l.has.j.client_seq l.has.j.ref_seq x.queue x.number e.entry.msg.seq x.next_client_seq (omega (arith, q)) l.numbers;
              pending = op-pending (is_own x e.entry) e.op x.state (sent x.conns rest) (ops_of x.queue) l.pending;
            }

    -- the join of its connection
    pub serves-online : (conn : ℕ) → x.link ≡ Joining conn → is_own_join x.link e.entry.msg.kind e.entry.origin ≡ true → IsServed owner s name (seen ++ e ∷ []) rest (online e.entry.origin taken)
    serves-online conn link h =
        let l : IsJoining x (e ∷ rest) s.sequencer conn = subst (λ k. IsLinked x (e ∷ rest) s.sequencer k) link v.linked in
        let join : is_own_join (Joining conn) e.entry.msg.kind e.entry.origin ≡ true = subst (λ k. is_own_join k e.entry.msg.kind e.entry.origin ≡ true) link h in
        let here : (sent x.conns rest ≡ []) × (l.has.j.ref_seq ≤ e.entry.msg.seq) =
        subst (λ t. AwaitsHere t ((sent x.conns rest ≡ []) × (l.has.j.ref_seq ≤ e.entry.msg.seq)) (Awaits x.conns conn l.has.j.ref_seq rest)) join l.awaits in
        let same : conn ≡ e.entry.origin = own-join e.entry.msg.kind conn e.entry.origin join in
        let ops = taken.state.pending in
        let on : IsOnline (online e.entry.origin taken) rest s.sequencer e.entry.origin = record {
          has = record {
            j = l.has.j;
            own = subst (λ c. list_any (nat_eq c) x.conns ≡ true) same l.has.own;
            found = subst (λ c. find (is_joined c) s.sequencer.joined ≡ Some l.has.j) same l.has.found;
          };
          numbers = subst (λ c. IsQueue c l.has.j.ref_seq (drafts_from 1 e.entry.msg.seq ops) e.entry.msg.seq (length ops + 1)) (sym l.first)
              (again-queue 0 l.has.j.ref_seq e.entry.msg.seq ops here.1);
          pending = sym (ap (λ (os : List MapOp). os ++ ops_of (drafts_from 1 e.entry.msg.seq ops)) here.0 ∙ again-ops 1 e.entry.msg.seq ops);
        } in
        taken-served (online e.entry.origin taken) refl (acked-taken l.begins) refl on

  -- the next message
  pub serves-takes : (seen rest : List MapEntry) (e : MapEntry) (x : MapClient) → IsServed owner s name seen (e ∷ rest) x → IsServed owner s name (seen ++ e ∷ []) rest (after_entry x e)
  serves-takes seen rest e x v = by (is_own_join x.link e.entry.msg.kind e.entry.origin) refl
    where
      joins : (link : Link) → x.link ≡ link → is_own_join link e.entry.msg.kind e.entry.origin ≡ true → IsServed owner s name (seen ++ e ∷ []) rest (online e.entry.origin (after_message e x))
      joins Offline l h = absurd ((not-joining Offline e.entry.msg.kind e.entry.origin h).0 refl)
      joins (Online conn) l h = absurd ((not-joining (Online conn) e.entry.msg.kind e.entry.origin h).1 conn refl)
      joins (Joining conn) l h = serves-online seen rest e x v conn l (subst (λ k. is_own_join k e.entry.msg.kind e.entry.origin ≡ true) (sym l) h)

      by : (t : Bool) → is_own_join x.link e.entry.msg.kind e.entry.origin ≡ t
          → IsServed owner s name (seen ++ e ∷ []) rest (if t then online e.entry.origin (after_message e x) else after_message e x)
      by true h = joins x.link refl h
      by false h = serves-message seen rest e x v h

  -- messages in order
  pub serves-delivered : (n : ℕ) (seen rest : List MapEntry) (x : MapClient) → IsServed owner s name seen rest x → Serves owner s name (after_entries x (take n rest))
  serves-delivered zero seen rest x v = record { seen = seen; rest = rest; served = v }
  serves-delivered (suc n) seen [] x v = record { seen = seen; rest = []; served = v }
  serves-delivered (suc n) seen (e ∷ rest) x v = serves-delivered n (seen ++ e ∷ []) rest (after_entry x e) (serves-takes seen rest e x v)

  -- a client that begins, empty or with another one's map
  pub serves-empty : AreNumbered 0 s.connections s.log → Serves owner s name (client_over [] 0 0)
  serves-empty logged = record {
    seen = [];
    rest = s.log;
    served = record {
      log = refl;
      number = refl;
      ahead = logged;
      acked = refl;
      conns = λ k h. absurd cc;
      linked = record { begins = record { unsent = []; are = sym (ap (λ (os : List MapOp). os ++ []) (sent-nobody s.log)) }; empty = refl };
    };
  }

  pub serves-begun : (other : Characters) (x : MapClient) → Serves owner s other x → Serves owner s name (client_over x.state.acked x.number x.minimum)
  serves-begun other x v = record {
    seen = v.seen;
    rest = v.rest;
    served = record {
      log = v.served.log;
      number = v.served.number;
      ahead = v.served.ahead;
      acked = v.served.acked;
      conns = λ k h. absurd cc;
      linked = record { begins = record { unsent = []; are = sym (ap (λ (os : List MapOp). os ++ []) (sent-nobody v.rest)) }; empty = refl };
    };
  }
