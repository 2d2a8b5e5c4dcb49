-- What a client of a map session has taken of the log, and what of its pending operations is sent: the operations of its own in the
-- rest of the log, then those of its unsent drafts, are the pending ones in order.
use Rattle.std.proofs.Common.{◌≡◌, ℕ, ◌+◌, ◌≤◌, Bool, true, false, cond, ◌||◌, nat_eq, List, [], ◌∷◌, ◌++◌, append-nil, length, Option, Some, None, map, find, refl, sym, ◌∙◌, ap, subst, arith}
use Rattle.std.specs.Prelude.{⊤}
use Rattle.std.specs.List.{flat_map, list_any}
use Rattle.std.proofs.lemmas.Bool.Decides.{nat_tests}
use Rattle.std.proofs.lemmas.Grind.{flat_map-append}
use Rattle.ft_msg.specs.declared.messages.MsgKind.{MsgKind}
use Rattle.ft_msg.specs.declared.messages.MsgKind.TheVariants as kind
use Rattle.ft_msg.specs.declared.views.Link.{Link}
use Rattle.ft_msg.specs.declared.views.Link.TheVariants.{Offline, Joining, Online}
use Rattle.ft_msg.specs.Process.{is_own_join}
use Rattle.ft_seqr.specs.Sequencer.{JoinedConnection, NaiveSequencer, is_joined}
use Rattle.ft_map.specs.declared.log.MapDraft.{MapDraft}
use Rattle.ft_map.specs.declared.log.MapEntry.{MapEntry}
use Rattle.ft_shared_map.specs.declared.ops.MapOp.{MapOp}
use Rattle.ft_shared_map.specs.Maps.{FiniteMap}
use Rattle.ft_map.specs.MapClient.{MapClient, agreed_from, draft_of, drafts_from, put_entry}

-- ---- the log

-- the entries are numbered on from n, and come from connections up to k
abbrev pub AreNumbered : ℕ → ℕ → List MapEntry → Type 0
AreNumbered n k [] = ⊤
AreNumbered n k (e ∷ es) = (e.entry.msg.seq ≡ n + 1) × (e.entry.origin ≤ k) × AreNumbered (n + 1) k es

pub numbered-more : (n m k : ℕ) (es : List MapEntry) (e : MapEntry) → e.entry.msg.seq ≡ m + 1 → m ≡ n + length es → e.entry.origin ≤ k → AreNumbered n k es → AreNumbered n k (es ++ e ∷ [])
numbered-more n m k [] e s l o h = (omega (arith, s, l), o, tt)
numbered-more n m k (x ∷ es) e s l o h = (h.0, h.1, numbered-more (n + 1) m k es e s (omega (arith, l)) o h.2)

pub numbered-known : (n j k : ℕ) (es : List MapEntry) → j ≤ k → AreNumbered n j es → AreNumbered n k es
numbered-known n j k [] l h = tt
numbered-known n j k (e ∷ es) l h = (h.0, omega (arith, l, h.1), numbered-known (n + 1) j k es l h.2)

pub agreed-more : (m : FiniteMap) (es : List MapEntry) (e : MapEntry) → agreed_from m (es ++ e ∷ []) ≡ put_entry (agreed_from m es) e.op
agreed-more m [] e = refl
agreed-more m (x ∷ es) e = agreed-more (put_entry m x.op) es e

-- ---- the client's own operations among entries

abbrev pub op_list : Option MapOp → List MapOp
op_list None = []
op_list (Some op) = op ∷ []

abbrev pub sent_op : List ℕ → MapEntry → List MapOp
sent_op conns e = cond (list_any (nat_eq e.entry.origin) conns) (op_list e.op) []

abbrev pub sent : List ℕ → List MapEntry → List MapOp
sent conns es = flat_map (sent_op conns) es

pub sent-more : (conns : List ℕ) (es : List MapEntry) (e : MapEntry) → sent conns (es ++ e ∷ []) ≡ sent conns es ++ sent_op conns e
sent-more conns es e = flat_map-append (sent_op conns) es (e ∷ []) ∙ ap (λ ops. sent conns es ++ ops) (append-nil (sent_op conns e))

pub sent-same : (conns : List ℕ) (es : List MapEntry) (e : MapEntry) → sent_op conns e ≡ [] → sent conns (es ++ e ∷ []) ≡ sent conns es
sent-same conns es e h = sent-more conns es e ∙ ap (λ ops. sent conns es ++ ops) h ∙ append-nil (sent conns es)

-- a message without an operation, and one of another client
pub sent-none : (conns : List ℕ) (e : MapEntry) → e.op ≡ None → sent_op conns e ≡ []
sent-none conns e h = ap (λ (o : Option MapOp). cond (list_any (nat_eq e.entry.origin) conns) (op_list o) []) h ∙ by (list_any (nat_eq e.entry.origin) conns)
  where
    by : (b : Bool) → cond b (op_list None) [] ≡ []
    by true = refl
    by false = refl

pub sent-foreign : (conns : List ℕ) (e : MapEntry) → list_any (nat_eq e.entry.origin) conns ≡ false → sent_op conns e ≡ []
sent-foreign conns e h = ap (λ b. cond b (op_list e.op) []) h

pub any-more : (k conn : ℕ) (conns : List ℕ) → nat_eq k conn ≡ false → list_any (nat_eq k) (conns ++ conn ∷ []) ≡ list_any (nat_eq k) conns
any-more k conn [] h = rw h refl
any-more k conn (c ∷ conns) h = ap (λ b. or_either (nat_eq k c) b) (any-more k conn conns h)
  where
    or_either : Bool → Bool → Bool
    or_either b c = b || c

pub any-new : (conn : ℕ) (conns : List ℕ) → list_any (nat_eq conn) (conns ++ conn ∷ []) ≡ true
any-new conn [] = let t : nat_eq conn conn ≡ true = grind (arith, nat_tests) in rw t refl
any-new conn (c ∷ conns) = ap (λ b. or_either (nat_eq conn c) b) (any-new conn conns) ∙ or-true (nat_eq conn c)
  where
    or_either : Bool → Bool → Bool
    or_either b c = b || c

    or-true : (b : Bool) → b || true ≡ true
    or-true true = refl
    or-true false = refl

-- without connections nothing was sent
pub sent-nobody : (es : List MapEntry) → sent [] es ≡ []
sent-nobody [] = refl
sent-nobody (e ∷ es) = sent-nobody es

-- a new connection has sent nothing
pub sent-new : (n k conn : ℕ) (conns : List ℕ) (es : List MapEntry) → conn ≡ k + 1 → AreNumbered n k es → sent (conns ++ conn ∷ []) es ≡ sent conns es
sent-new n k conn conns [] l h = refl
sent-new n k conn conns (e ∷ es) l h =
    let o = h.1 in
    let t : nat_eq e.entry.origin conn ≡ false = grind (arith, nat_tests) in
    ap (λ b. cond b (op_list e.op) [] ++ sent (conns ++ conn ∷ []) es) (any-more e.entry.origin conn conns t) ∙ ap (λ ops. sent_op conns e ++ ops) (sent-new (n + 1) k conn conns es l h.2)

-- ---- unsent drafts

abbrev pub ops_of : List MapDraft → List MapOp
ops_of ds = map (λ d. d.op) ds

pub ops-more : (ds : List MapDraft) (d : MapDraft) → ops_of (ds ++ d ∷ []) ≡ ops_of ds ++ d.op ∷ []
ops-more [] d = refl
ops-more (x ∷ ds) d = ap (λ (ops : List MapOp). x.op ∷ ops) (ops-more ds d)

-- the drafts have the client numbers from c + 1 on, up to before `next`, and reference numbers that rise from r to n
abbrev pub IsQueue : ℕ → ℕ → List MapDraft → ℕ → ℕ → Type 0
IsQueue c r [] n next = (next ≡ c + 1) × (r ≤ n)
IsQueue c r (d ∷ ds) n next = (d.draft.client_seq ≡ c + 1) × (r ≤ d.draft.ref_seq) × IsQueue (c + 1) d.draft.ref_seq ds n next

pub queue-more : (c r : ℕ) (ds : List MapDraft) (n next : ℕ) (op : MapOp) → IsQueue c r ds n next → IsQueue c r (ds ++ draft_of next n op ∷ []) n (next + 1)
queue-more c r [] n next op h = (h.0, h.1, (ap (λ i. i + 1) h.0, omega arith))
queue-more c r (d ∷ ds) n next op h = (h.0, h.1, queue-more (c + 1) d.draft.ref_seq ds n next op h.2)

pub queue-later : (c r : ℕ) (ds : List MapDraft) (n m next : ℕ) → n ≤ m → IsQueue c r ds n next → IsQueue c r ds m next
queue-later c r [] n m next l h = (h.0, omega (arith, l, h.1))
queue-later c r (d ∷ ds) n m next l h = (h.0, h.1, queue-later (c + 1) d.draft.ref_seq ds n m next l h.2)

pub queue-up : (c r : ℕ) (ds : List MapDraft) (n next : ℕ) → IsQueue c r ds n next → r ≤ n
queue-up c r [] n next h = h.1
queue-up c r (d ∷ ds) n next h = let l = queue-up (c + 1) d.draft.ref_seq ds n next h.2 in omega (arith, h.1, l)

-- all pending operations queued again
pub again-queue : (c r n : ℕ) (ops : List MapOp) → r ≤ n → IsQueue c r (drafts_from (c + 1) n ops) n (length ops + (c + 1))
again-queue c r n [] l = (omega arith, l)
again-queue c r n (op ∷ ops) l =
    let e : length ops + (c + 1 + 1) ≡ length (op ∷ ops) + (c + 1) = omega arith in
    (refl, l, subst (λ next. IsQueue (c + 1) n (drafts_from (c + 1 + 1) n ops) n next) e (again-queue (c + 1) n n ops (omega arith)))

pub again-ops : (c n : ℕ) (ops : List MapOp) → ops_of (drafts_from c n ops) ≡ ops
again-ops c n [] = refl
again-ops c n (op ∷ ops) = ap (λ (os : List MapOp). op ∷ os) (again-ops (c + 1) n ops)

-- ---- a client that joins

-- what is known where the entry is the own join, and where it isn't
abbrev pub AwaitsHere : Bool → Type 0 → Type 0 → Type 0
AwaitsHere true here later = here
AwaitsHere false here later = later

-- the join of the connection stands in the rest, under a number from r on, and no own operation behind it
abbrev pub Awaits : List ℕ → ℕ → ℕ → List MapEntry → Type 0
Awaits conns conn r [] = ⊥
Awaits conns conn r (e ∷ es) = AwaitsHere (is_own_join (Joining conn) e.entry.msg.kind e.entry.origin) ((sent conns es ≡ []) × (r ≤ e.entry.msg.seq)) (Awaits conns conn r es)

awaits-more : (conns : List ℕ) (conn r : ℕ) (rest : List MapEntry) (e : MapEntry) → sent_op conns e ≡ [] → Awaits conns conn r rest → Awaits conns conn r (rest ++ e ∷ [])
awaits-more conns conn r [] e h w = absurd w
awaits-more conns conn r (x ∷ rest) e h w = by (λ g. awaits-more conns conn r rest e h g) (is_own_join (Joining conn) x.entry.msg.kind x.entry.origin) w
  where
    by : (Awaits conns conn r rest → Awaits conns conn r (rest ++ e ∷ [])) → (b : Bool) → AwaitsHere b ((sent conns rest ≡ []) × (r ≤ x.entry.msg.seq)) (Awaits conns conn r rest)
        → AwaitsHere b ((sent conns (rest ++ e ∷ []) ≡ []) × (r ≤ x.entry.msg.seq)) (Awaits conns conn r (rest ++ e ∷ []))
    by ih true g = (sent-same conns rest e h ∙ g.0, g.1)
    by ih false g = ih g

other-join : (k : MsgKind) (conn origin : ℕ) → nat_eq conn origin ≡ false → is_own_join (Joining conn) k origin ≡ false
other-join kind.Join conn origin h = h
other-join kind.Op conn origin h = refl
other-join kind.Leave conn origin h = refl
other-join kind.Noop conn origin h = refl
other-join (kind.Other word) conn origin h = refl

-- the join of a new connection at the end of the rest
pub awaits-new : (n k : ℕ) (conns : List ℕ) (conn r : ℕ) (rest : List MapEntry) (e : MapEntry) → conn ≡ k + 1 → AreNumbered n k rest
    → is_own_join (Joining conn) e.entry.msg.kind e.entry.origin ≡ true → r ≤ e.entry.msg.seq → Awaits conns conn r (rest ++ e ∷ [])
awaits-new n k conns conn r [] e c h j l = subst (λ b. AwaitsHere b ((sent conns [] ≡ []) × (r ≤ e.entry.msg.seq)) ⊥) (sym j) (refl, l)
awaits-new n k conns conn r (x ∷ rest) e c h j l =
    let o = h.1 in
    let t : nat_eq conn x.entry.origin ≡ false = grind (arith, nat_tests) in
    subst (λ b. AwaitsHere b ((sent conns (rest ++ e ∷ []) ≡ []) × (r ≤ x.entry.msg.seq)) (Awaits conns conn r (rest ++ e ∷ [])))
    (sym (other-join x.entry.msg.kind conn x.entry.origin t)) (awaits-new (n + 1) k conns conn r rest e c h.2 j l)

pub own-join : (k : MsgKind) (conn origin : ℕ) → is_own_join (Joining conn) k origin ≡ true → conn ≡ origin
own-join kind.Join conn origin h = grind (arith, nat_tests)
own-join kind.Op conn origin h = absurd cc
own-join kind.Leave conn origin h = absurd cc
own-join kind.Noop conn origin h = absurd cc
own-join (kind.Other word) conn origin h = absurd cc

-- ---- links

-- the client has a joined connection of its own
pub record HasJoined (conns : List ℕ) (q : NaiveSequencer) (conn : ℕ) : Type 0 where
  pub j : JoinedConnection
  pub own : list_any (nat_eq conn) conns ≡ true
  pub found : find (is_joined conn) q.joined ≡ Some j

-- the operations are those that were sent, and then others
pub record BeginsWith (ops pending : List MapOp) : Type 0 where
  pub unsent : List MapOp
  pub are : pending ≡ ops ++ unsent

pub record IsOffline (x : MapClient) (rest : List MapEntry) : Type 0 where
  pub begins : BeginsWith (sent x.conns rest) x.state.pending
  pub empty : x.queue ≡ []

pub record IsJoining (x : MapClient) (rest : List MapEntry) (q : NaiveSequencer) (conn : ℕ) : Type 0 where
  pub begins : BeginsWith (sent x.conns rest) x.state.pending
  pub empty : x.queue ≡ []
  pub has : HasJoined x.conns q conn
  pub first : has.j.client_seq ≡ 0
  pub awaits : Awaits x.conns conn has.j.ref_seq rest

pub record IsOnline (x : MapClient) (rest : List MapEntry) (q : NaiveSequencer) (conn : ℕ) : Type 0 where
  pub has : HasJoined x.conns q conn
  pub numbers : IsQueue has.j.client_seq has.j.ref_seq x.queue x.number x.next_client_seq
  pub pending : x.state.pending ≡ sent x.conns rest ++ ops_of x.queue

abbrev pub IsLinked : MapClient → List MapEntry → NaiveSequencer → Link → Type 0
IsLinked x rest q Offline = IsOffline x rest
IsLinked x rest q (Joining conn) = IsJoining x rest q conn
IsLinked x rest q (Online conn) = IsOnline x rest q conn

-- whatever its link, it begins with what was sent
pub begins-linked : (x : MapClient) (rest : List MapEntry) (q : NaiveSequencer) (link : Link) → IsLinked x rest q link → BeginsWith (sent x.conns rest) x.state.pending
begins-linked x rest q Offline l = l.begins
begins-linked x rest q (Joining conn) l = l.begins
begins-linked x rest q (Online conn) l = record { unsent = ops_of x.queue; are = l.pending }

abbrev has-kept : (conns : List ℕ) (q p : NaiveSequencer) (conn : ℕ) (h : HasJoined conns q conn)
    → ((k : ℕ) → list_any (nat_eq k) conns ≡ true → find (is_joined k) p.joined ≡ find (is_joined k) q.joined) → HasJoined conns p conn
has-kept conns q p conn h k = record { j = h.j; own = h.own; found = k conn h.own ∙ h.found }

-- a message is numbered that sends nothing of the client, whose connection stays joined as it is
pub linked-more : (x : MapClient) (rest : List MapEntry) (q p : NaiveSequencer) (e : MapEntry) (link : Link) → sent_op x.conns e ≡ []
    → ((k : ℕ) → list_any (nat_eq k) x.conns ≡ true → find (is_joined k) p.joined ≡ find (is_joined k) q.joined) → IsLinked x rest q link → IsLinked x (rest ++ e ∷ []) p link
linked-more x rest q p e Offline h k l = record { begins = subst (λ ops. BeginsWith ops x.state.pending) (sym (sent-same x.conns rest e h)) l.begins; empty = l.empty }
linked-more x rest q p e (Joining conn) h k l = record {
  begins = subst (λ ops. BeginsWith ops x.state.pending) (sym (sent-same x.conns rest e h)) l.begins;
  empty = l.empty;
  has = has-kept x.conns q p conn l.has k;
  first = l.first;
  awaits = awaits-more x.conns conn l.has.j.ref_seq rest e h l.awaits;
}
linked-more x rest q p e (Online conn) h k l = record {
  has = has-kept x.conns q p conn l.has k;
  numbers = l.numbers;
  pending = l.pending ∙ ap (λ ops. ops ++ ops_of x.queue) (sym (sent-same x.conns rest e h));
}
