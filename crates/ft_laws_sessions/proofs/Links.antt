-- What a client has sent and not seen yet: the messages of its own in the rest of the log, then its unsent drafts, are its
-- pending edits in order.
use Rattle.std.proofs.Common.{◌≡◌, ℕ, ◌+◌, ◌≤◌, Bool, true, false, cond, ◌&&◌, nat_eq, List, [], ◌∷◌, ◌++◌, append-nil, length, Option, Some, None, map, filter, find, flat_map, refl, sym, ◌∙◌, ap, subst, arith}
use Rattle.std.specs.List.{list_any}
use Rattle.std.proofs.lemmas.Bool.Decides.{nat_tests}
use Rattle.ft_op.specs.declared.operations.ChannelOp.{ChannelOp}
use Rattle.ft_msg.specs.declared.messages.Body.{Body}
use Rattle.ft_msg.specs.declared.messages.Body.TheVariants.{Nothing, Op, Elsewhere}
use Rattle.ft_msg.specs.declared.messages.Draft.{Draft}
use Rattle.ft_msg.specs.declared.messages.Entry.{Entry}
use Rattle.ft_msg.specs.declared.messages.MsgKind.{MsgKind}
use Rattle.ft_msg.specs.declared.messages.MsgKind.TheVariants as kind
use Rattle.ft_msg.specs.declared.views.Link.{Link}
use Rattle.ft_msg.specs.declared.views.Link.TheVariants.{Offline, Joining, Online}
use Rattle.ft_props.specs.Element.{ElementId}
use Rattle.ft_op.specs.Document.{Document}
use Rattle.ft_msg.specs.Acknowledgement.{renamed_edit}
use Rattle.ft_msg.specs.Client.{PendingEdit}
use Rattle.ft_msg.specs.Process.{is_oldest, is_op_kind, is_own_join, is_sent_as}
use Rattle.ft_msg.specs.Reconnection.{sent_draft, regenerated_edit, resubmitted_edit, resubmitted_edits}
use Rattle.ft_seqr.specs.Sequencer.{JoinedConnection, NaiveSequencer, is_joined}
use Rattle.ft_laws_agreement.specs.Sequencing.{Each}
use Rattle.ft_laws_summaries.proofs.Lists.{filter-more}

-- ---- the client's own messages in the rest of the log

-- whether the entry is an operation from one of these connections
abbrev pub is_owed : List ℕ → Entry → Bool
is_owed conns e = is_op_kind e.msg.kind && list_any (nat_eq e.origin) conns

abbrev pub owed : List ℕ → List Entry → List Entry
owed conns rest = filter (is_owed conns) rest

-- the entries are the first of the edits as they were sent, and the edits behind them are as R says
abbrev pub IsAnswered : List Entry → List PendingEdit → (List PendingEdit → Type 0) → Type 0
IsAnswered [] edits R = R edits
IsAnswered (e ∷ es) [] R = ⊥
IsAnswered (e ∷ es) (edit ∷ edits) R = (is_sent_as e edit ≡ true) × IsAnswered es edits R

-- any edits
abbrev pub AnyEdits : List PendingEdit → Type 0
AnyEdits edits = Unit {0}

-- the edit is the one of the draft, sent under the connection
abbrev pub IsDraftOf : ℕ → Draft → ChannelOp → PendingEdit → Type 0
IsDraftOf conn d op edit = (edit.sent ≡ Some (record { conn = conn; client_seq = d.client_seq; op = op })) × (edit.ref_seq ≡ d.ref_seq)

-- the first of the edits is that of a draft with this body, if it has one, and the others are as R says
abbrev pub IsFirstQueued : ℕ → Draft → Body → List PendingEdit → (List PendingEdit → Type 0) → Type 0
IsFirstQueued conn d Nothing edits R = R edits
IsFirstQueued conn d (Op op) [] R = ⊥
IsFirstQueued conn d (Op op) (edit ∷ edits) R = IsDraftOf conn d op edit × R edits
IsFirstQueued conn d (Elsewhere address) edits R = ⊥

-- the edits are those of the drafts in order
abbrev pub IsQueued : ℕ → List Draft → List PendingEdit → Type 0
IsQueued conn [] [] = Unit {0}
IsQueued conn [] (edit ∷ edits) = ⊥
IsQueued conn (d ∷ ds) edits = IsFirstQueued conn d d.body edits (λ es. IsQueued conn ds es)

pub answered-weaker : (es : List Entry) (edits : List PendingEdit) (R S : List PendingEdit → Type 0) → ((ys : List PendingEdit) → R ys → S ys)
    → IsAnswered es edits R → IsAnswered es edits S
answered-weaker [] edits R S f h = f edits h
answered-weaker (e ∷ es) [] R S f h = h
answered-weaker (e ∷ es) (edit ∷ edits) R S f h = (h.0, answered-weaker es edits R S f h.1)

pub answered-more : (es : List Entry) (edits : List PendingEdit) (new : PendingEdit) (R S : List PendingEdit → Type 0)
    → ((ys : List PendingEdit) → R ys → S (ys ++ (new ∷ []))) → IsAnswered es edits R → IsAnswered es (edits ++ (new ∷ [])) S
answered-more [] edits new R S f h = f edits h
answered-more (e ∷ es) [] new R S f h = absurd h
answered-more (e ∷ es) (edit ∷ edits) new R S f h = (h.0, answered-more es edits new R S f h.1)

-- a message more, which is the first of the edits behind
pub answered-next : (es : List Entry) (e : Entry) (edits : List PendingEdit) (R S : List PendingEdit → Type 0)
    → ((ys : List PendingEdit) → R ys → IsAnswered (e ∷ []) ys S) → IsAnswered es edits R → IsAnswered (es ++ (e ∷ [])) edits S
answered-next [] e edits R S f h = f edits h
answered-next (x ∷ es) e [] R S f h = h
answered-next (x ∷ es) e (edit ∷ edits) R S f h = (h.0, answered-next es e edits R S f h.1)

-- a renaming of the elements that edits name
pub answered-renamed : (es : List Entry) (edits : List PendingEdit) (f : ElementId → ElementId) (R S : List PendingEdit → Type 0)
    → ((ys : List PendingEdit) → R ys → S (map (renamed_edit f) ys)) → IsAnswered es edits R → IsAnswered es (map (renamed_edit f) edits) S
answered-renamed [] edits f R S g h = g edits h
answered-renamed (e ∷ es) [] f R S g h = h
answered-renamed (e ∷ es) (edit ∷ edits) f R S g h = (h.0, answered-renamed es edits f R S g h.1)

pub queued-renamed : (conn : ℕ) (f : ElementId → ElementId) (ds : List Draft) (edits : List PendingEdit) → IsQueued conn ds edits → IsQueued conn ds (map (renamed_edit f) edits)
queued-renamed conn f [] [] h = h
queued-renamed conn f [] (edit ∷ edits) h = h
queued-renamed conn f (d ∷ ds) edits h = by (λ es g. queued-renamed conn f ds es g) d.body edits h
  where
    by : ((es : List PendingEdit) → IsQueued conn ds es → IsQueued conn ds (map (renamed_edit f) es)) → (b : Body) (es : List PendingEdit)
        → IsFirstQueued conn d b es (λ ys. IsQueued conn ds ys) → IsFirstQueued conn d b (map (renamed_edit f) es) (λ ys. IsQueued conn ds ys)
    by ih Nothing es g = ih es g
    by ih (Op op) [] g = g
    by ih (Op op) (e ∷ es) g = (g.0, ih es g.1)
    by ih (Elsewhere address) es g = g

-- an edit more with its draft
pub queued-more : (conn : ℕ) (ds : List Draft) (edits : List PendingEdit) (d : Draft) (op : ChannelOp) (edit : PendingEdit) → IsQueued conn ds edits → d.body
    ≡ Op op → IsDraftOf conn d op edit → IsQueued conn (ds ++ (d ∷ [])) (edits ++ (edit ∷ []))
queued-more conn [] [] d op edit h b i = subst (λ o. IsFirstQueued conn d o (edit ∷ []) (λ ys. IsQueued conn [] ys)) (sym b) (i, tt)
queued-more conn [] (e ∷ es) d op edit h b i = absurd h
queued-more conn (x ∷ ds) edits d op edit h b i = by (λ es g. queued-more conn ds es d op edit g b i) x.body edits h
  where
    by : ((es : List PendingEdit) → IsQueued conn ds es → IsQueued conn (ds ++ (d ∷ [])) (es ++ (edit ∷ []))) → (o : Body) (es : List PendingEdit)
        → IsFirstQueued conn x o es (λ ys. IsQueued conn ds ys)
        → IsFirstQueued conn x o (es ++ (edit ∷ [])) (λ ys. IsQueued conn (ds ++ (d ∷ [])) ys)
    by ih Nothing es g = ih es g
    by ih (Op o) [] g = absurd g
    by ih (Op o) (e ∷ es) g = (g.0, ih es g.1)
    by ih (Elsewhere address) es g = g

-- a noop more
pub queued-noop : (conn : ℕ) (ds : List Draft) (edits : List PendingEdit) (d : Draft) → IsQueued conn ds edits → d.body ≡ Nothing → IsQueued conn (ds ++ (d ∷ [])) edits
queued-noop conn [] edits d h b = subst (λ o. IsFirstQueued conn d o edits (λ ys. IsQueued conn [] ys)) (sym b) h
queued-noop conn (x ∷ ds) edits d h b = by (λ es g. queued-noop conn ds es d g b) x.body edits h
  where
    by : ((es : List PendingEdit) → IsQueued conn ds es → IsQueued conn (ds ++ (d ∷ [])) es) → (o : Body) (es : List PendingEdit)
        → IsFirstQueued conn x o es (λ ys. IsQueued conn ds ys) → IsFirstQueued conn x o es (λ ys. IsQueued conn (ds ++ (d ∷ [])) ys)
    by ih Nothing es g = ih es g
    by ih (Op o) [] g = g
    by ih (Op o) (e ∷ es) g = (g.0, ih es g.1)
    by ih (Elsewhere address) es g = g

-- ---- the numbers of unsent drafts

-- the drafts have the client numbers from c + 1 on, up to before `next`, and reference numbers that rise from r to n
abbrev pub IsQueue : ℕ → ℕ → List Draft → ℕ → ℕ → Type 0
IsQueue c r [] n next = (next ≡ c + 1) × (r ≤ n)
IsQueue c r (d ∷ ds) n next = (d.client_seq ≡ c + 1) × (r ≤ d.ref_seq) × IsQueue (c + 1) d.ref_seq ds n next

pub queue-more : (c r : ℕ) (ds : List Draft) (n next : ℕ) (body : Body) → IsQueue c r ds n next
    → IsQueue c r (ds ++ (record { client_seq = next; ref_seq = n; body = body } ∷ [])) n (next + 1)
queue-more c r [] n next body h = (h.0, h.1, (ap (λ i. i + 1) h.0, omega arith))
queue-more c r (d ∷ ds) n next body h = (h.0, h.1, queue-more (c + 1) d.ref_seq ds n next body h.2)

pub queue-later : (c r : ℕ) (ds : List Draft) (n m next : ℕ) → n ≤ m → IsQueue c r ds n next → IsQueue c r ds m next
queue-later c r [] n m next l h = (h.0, omega (arith, h.1))
queue-later c r (d ∷ ds) n m next l h = (h.0, h.1, queue-later (c + 1) d.ref_seq ds n m next l h.2)

pub queue-up : (c r : ℕ) (ds : List Draft) (n next : ℕ) → IsQueue c r ds n next → r ≤ n
queue-up c r [] n next h = h.1
queue-up c r (d ∷ ds) n next h = let l = queue-up (c + 1) d.ref_seq ds n next h.2 in omega (arith, h.1, l)

-- ---- a client that joins

-- what is known where the entry is the own join, and where it isn't
abbrev pub AwaitsHere : Bool → Type 0 → Type 0 → Type 0
AwaitsHere true here later = here
AwaitsHere false here later = later

-- the join of the connection stands in the rest, under a number from r on, and no own operation behind it
abbrev pub Awaits : List ℕ → ℕ → ℕ → List Entry → Type 0
Awaits conns conn r [] = ⊥
Awaits conns conn r (e ∷ es) = AwaitsHere (is_own_join (Joining conn) e.msg.kind e.origin) ((owed conns es ≡ []) × (r ≤ e.msg.seq)) (Awaits conns conn r es)

pub owed-more : (conns : List ℕ) (rest : List Entry) (e : Entry) → is_owed conns e ≡ false → owed conns (rest ++ (e ∷ [])) ≡ owed conns rest
owed-more conns rest e h = filter-more (is_owed conns) rest e ∙ (ap (λ b. owed conns rest ++ (cond b (e ∷ []) [])) h ∙ append-nil (owed conns rest))

pub awaits-more : (conns : List ℕ) (conn r : ℕ) (rest : List Entry) (e : Entry) → is_owed conns e ≡ false → Awaits conns conn r rest → Awaits conns conn r (rest ++ (e ∷ []))
awaits-more conns conn r [] e h w = absurd w
awaits-more conns conn r (x ∷ rest) e h w = by (λ g. awaits-more conns conn r rest e h g) (is_own_join (Joining conn) x.msg.kind x.origin) w
  where
    by : (Awaits conns conn r rest → Awaits conns conn r (rest ++ (e ∷ []))) → (b : Bool) → AwaitsHere b ((owed conns rest ≡ []) × (r ≤ x.msg.seq)) (Awaits conns conn r rest)
        → AwaitsHere b ((owed conns (rest ++ (e ∷ [])) ≡ []) × (r ≤ x.msg.seq)) (Awaits conns conn r (rest ++ (e ∷ [])))
    by ih true g = (owed-more conns rest e h ∙ g.0, g.1)
    by ih false g = ih g

other-join : (k : MsgKind) (conn origin : ℕ) → nat_eq conn origin ≡ false → is_own_join (Joining conn) k origin ≡ false
other-join kind.Join conn origin h = h
other-join kind.Op conn origin h = refl
other-join kind.Leave conn origin h = refl
other-join kind.Noop conn origin h = refl
other-join (kind.Other word) conn origin h = refl

-- the join of a new connection at the end of the rest
pub awaits-new : (conns : List ℕ) (conn r : ℕ) (rest : List Entry) (e : Entry) → Each (λ x. nat_eq conn x.origin ≡ false) rest
    → is_own_join (Joining conn) e.msg.kind e.origin ≡ true → r ≤ e.msg.seq → Awaits conns conn r (rest ++ (e ∷ []))
awaits-new conns conn r [] e o j l = subst (λ b. AwaitsHere b ((owed conns [] ≡ []) × (r ≤ e.msg.seq)) ⊥) (sym j) (refl, l)
awaits-new conns conn r (x ∷ rest) e o j l =
    subst (λ b. AwaitsHere b ((owed conns (rest ++ (e ∷ [])) ≡ []) × (r ≤ x.msg.seq)) (Awaits conns conn r (rest ++ (e ∷ []))))
    (sym (other-join x.msg.kind conn x.origin o.0)) (awaits-new conns conn r rest e o.1 j l)

-- ---- links

-- the client has a joined connection of its own
pub record HasJoined (conns : List ℕ) (q : NaiveSequencer) (conn : ℕ) (j : JoinedConnection) : Type 0 where
  pub own : list_any (nat_eq conn) conns ≡ true
  pub joined : find (is_joined conn) q.joined ≡ Some j

-- a joining client
pub record IsJoining (conns : List ℕ) (queue : List Draft) (pending : List PendingEdit) (rest : List Entry) (q : NaiveSequencer) (conn : ℕ) : Type 0 where
  pub j : JoinedConnection
  pub has : HasJoined conns q conn j
  pub first : j.client_seq ≡ 0
  pub unsent : queue ≡ []
  pub awaits : Awaits conns conn j.ref_seq rest
  pub answered : IsAnswered (owed conns rest) pending AnyEdits

-- an online client
pub record IsOnline (conns : List ℕ) (number next : ℕ) (queue : List Draft) (pending : List PendingEdit) (rest : List Entry) (q : NaiveSequencer) (conn : ℕ) : Type 0 where
  pub j : JoinedConnection
  pub has : HasJoined conns q conn j
  pub numbers : IsQueue j.client_seq j.ref_seq queue number next
  pub answered : IsAnswered (owed conns rest) pending (λ edits. IsQueued conn queue edits)

-- an offline client
pub record IsOffline (conns : List ℕ) (queue : List Draft) (pending : List PendingEdit) (rest : List Entry) : Type 0 where
  pub unsent : queue ≡ []
  pub answered : IsAnswered (owed conns rest) pending AnyEdits

-- a client of these connections, with this number, next client number, queue and pending edits, by its link
abbrev pub IsLinked : List ℕ → ℕ → ℕ → List Draft → List PendingEdit → List Entry → NaiveSequencer → Link → Type 0
IsLinked conns number next queue pending rest q Offline = IsOffline conns queue pending rest
IsLinked conns number next queue pending rest q (Joining conn) = IsJoining conns queue pending rest q conn
IsLinked conns number next queue pending rest q (Online conn) = IsOnline conns number next queue pending rest q conn

-- another's message is numbered, and the client's connection stays joined as it is
pub linked-more : (conns : List ℕ) (number next : ℕ) (queue : List Draft) (pending : List PendingEdit) (rest : List Entry) (q p : NaiveSequencer) (e : Entry)
    (link : Link) → is_owed conns e ≡ false
    → ((conn : ℕ) → list_any (nat_eq conn) conns ≡ true → find (is_joined conn) p.joined ≡ find (is_joined conn) q.joined)
    → IsLinked conns number next queue pending rest q link → IsLinked conns number next queue pending (rest ++ (e ∷ [])) p link
linked-more conns number next queue pending rest q p e Offline h k l =
    record { unsent = l.unsent; answered = subst (λ es. IsAnswered es pending AnyEdits) (sym (owed-more conns rest e h)) l.answered }
linked-more conns number next queue pending rest q p e (Joining conn) h k l =
    record {
      j = l.j;
      has = record { own = l.has.own; joined = k conn l.has.own ∙ l.has.joined };
      first = l.first;
      unsent = l.unsent;
      awaits = awaits-more conns conn l.j.ref_seq rest e h l.awaits;
      answered = subst (λ es. IsAnswered es pending AnyEdits) (sym (owed-more conns rest e h)) l.answered;
    }
linked-more conns number next queue pending rest q p e (Online conn) h k l =
    record {
      j = l.j;
      has = record { own = l.has.own; joined = k conn l.has.own ∙ l.has.joined };
      numbers = l.numbers;
      answered = subst (λ es. IsAnswered es pending (λ edits. IsQueued conn queue edits)) (sym (owed-more conns rest e h)) l.answered;
    }

-- ---- the client takes the next entry of the rest

owed-first : (conns : List ℕ) (rest : List Entry) (e : Entry) (b : Bool) → is_owed conns e ≡ b → owed conns (e ∷ rest) ≡ cond b (e ∷ owed conns rest) (owed conns rest)
owed-first conns rest e b h = ap (λ t. cond t (e ∷ owed conns rest) (owed conns rest)) h

pub answered-foreign : (conns : List ℕ) (rest : List Entry) (e : Entry) (pending : List PendingEdit) (R : List PendingEdit → Type 0) → is_owed conns e ≡ false
    → IsAnswered (owed conns (e ∷ rest)) pending R → IsAnswered (owed conns rest) pending R
answered-foreign conns rest e pending R h a = subst (λ es. IsAnswered es pending R) (owed-first conns rest e false h) a

awaits-foreign : (conns : List ℕ) (conn r : ℕ) (rest : List Entry) (e : Entry) → is_own_join (Joining conn) e.msg.kind e.origin ≡ false
    → Awaits conns conn r (e ∷ rest) → Awaits conns conn r rest
awaits-foreign conns conn r rest e h w = subst (λ b. AwaitsHere b ((owed conns rest ≡ []) × (r ≤ e.msg.seq)) (Awaits conns conn r rest)) h w

-- a message of another
pub linked-foreign : (conns : List ℕ) (number later next : ℕ) (queue : List Draft) (pending : List PendingEdit) (rest : List Entry) (q : NaiveSequencer)
    (e : Entry) (link : Link) → number ≤ later → is_owed conns e ≡ false
    → is_own_join link e.msg.kind e.origin ≡ false → IsLinked conns number next queue pending (e ∷ rest) q link → IsLinked conns later next queue pending rest q link
linked-foreign conns number later next queue pending rest q e Offline u h o l = record { unsent = l.unsent; answered = answered-foreign conns rest e pending AnyEdits h l.answered }
linked-foreign conns number later next queue pending rest q e (Joining conn) u h o l =
    record {
      j = l.j;
      has = l.has;
      first = l.first;
      unsent = l.unsent;
      awaits = awaits-foreign conns conn l.j.ref_seq rest e o l.awaits;
      answered =
          answered-foreign conns rest e pending AnyEdits h l.answered;
    }
linked-foreign conns number later next queue pending rest q e (Online conn) u h o l =
    record {
      j = l.j;
      has = l.has;
      numbers = queue-later l.j.client_seq l.j.ref_seq queue number later next u l.numbers;
      answered = answered-foreign conns rest e pending (λ edits. IsQueued conn queue edits) h l.answered;
    }

answered-own : (conns : List ℕ) (rest : List Entry) (e : Entry) (pending : List PendingEdit) (R : List PendingEdit → Type 0) → is_owed conns e ≡ true
    → IsAnswered (owed conns (e ∷ rest)) pending R → IsAnswered (e ∷ owed conns rest) pending R
answered-own conns rest e pending R h a = subst (λ es. IsAnswered es pending R) (owed-first conns rest e true h) a

-- whatever the link, the first pending edit is this message as it was sent
pub linked-oldest : (conns : List ℕ) (number next : ℕ) (queue : List Draft) (pending : List PendingEdit) (rest : List Entry) (q : NaiveSequencer) (e : Entry)
    (link : Link) → is_owed conns e ≡ true → IsLinked conns number next queue pending (e ∷ rest) q link
    → is_oldest e pending ≡ true
linked-oldest conns number next queue pending rest q e link h l = by link l
  where
    first : (edits : List PendingEdit) (R : List PendingEdit → Type 0) → IsAnswered (e ∷ owed conns rest) edits R → is_oldest e edits ≡ true
    first [] R a = absurd a
    first (edit ∷ edits) R a = a.0

    by : (k : Link) → IsLinked conns number next queue pending (e ∷ rest) q k → is_oldest e pending ≡ true
    by Offline k = first pending AnyEdits (answered-own conns rest e pending AnyEdits h k.answered)
    by (Joining conn) k = first pending AnyEdits (answered-own conns rest e pending AnyEdits h k.answered)
    by (Online conn) k = first pending (λ edits. IsQueued conn queue edits) (answered-own conns rest e pending (λ edits. IsQueued conn queue edits) h k.answered)

-- its own message
pub linked-own : (conns : List ℕ) (number later next : ℕ) (queue : List Draft) (edit : PendingEdit) (edits : List PendingEdit) (rest : List Entry)
    (q : NaiveSequencer) (e : Entry) (f : ElementId → ElementId) (link : Link) → number ≤ later
    → is_owed conns e ≡ true → is_own_join link e.msg.kind e.origin ≡ false → IsLinked conns number next queue (edit ∷ edits) (e ∷ rest) q link
    → IsLinked conns later next queue (map (renamed_edit f) edits) rest q link
linked-own conns number later next queue edit edits rest q e f Offline u h o l =
    record {
      unsent = l.unsent;
      answered = answered-renamed (owed conns rest) edits f AnyEdits AnyEdits (λ ys g. tt)
          (answered-own conns rest e (edit ∷ edits) AnyEdits h l.answered).1;
    }
linked-own conns number later next queue edit edits rest q e f (Joining conn) u h o l =
    record {
      j = l.j;
      has = l.has;
      first = l.first;
      unsent = l.unsent;
      awaits = awaits-foreign conns conn l.j.ref_seq rest e o l.awaits;
      answered = answered-renamed (owed conns rest) edits f AnyEdits AnyEdits (λ ys g. tt) (answered-own conns rest e (edit ∷ edits) AnyEdits h l.answered).1;
    }
linked-own conns number later next queue edit edits rest q e f (Online conn) u h o l =
    record {
      j = l.j;
      has = l.has;
      numbers = queue-later l.j.client_seq l.j.ref_seq queue number later next u l.numbers;
      answered = answered-renamed (owed conns rest) edits f (λ ys. IsQueued conn queue ys) (λ ys. IsQueued conn queue ys) (queued-renamed conn f queue)
          (answered-own conns rest e (edit ∷ edits) (λ ys. IsQueued conn queue ys) h l.answered).1;
    }

-- ---- the client comes online

-- what is sent again has its drafts
pub again-queued : (doc : Document) (conn k : ℕ) (pending : List PendingEdit)
    → IsQueued conn (flat_map (sent_draft doc.number) (resubmitted_edits doc conn k pending)) (resubmitted_edits doc conn k pending)
again-queued doc conn k [] = tt
again-queued doc conn k (edit ∷ pending) = by (again-queued doc conn k pending) (again-queued doc conn (k + 1) pending) (regenerated_edit doc edit)
  where
    again : Option ChannelOp → List PendingEdit
    again None = resubmitted_edits doc conn k pending
    again (Some op) = resubmitted_edit doc conn k edit op ∷ resubmitted_edits doc conn (k + 1) pending

    by : IsQueued conn (flat_map (sent_draft doc.number) (resubmitted_edits doc conn k pending)) (resubmitted_edits doc conn k pending)
        → IsQueued conn (flat_map (sent_draft doc.number) (resubmitted_edits doc conn (k + 1) pending)) (resubmitted_edits doc conn (k + 1) pending)
        → (o : Option ChannelOp) → IsQueued conn (flat_map (sent_draft doc.number) (again o)) (again o)
    by same more None = same
    by same more (Some op) = ((refl, refl), more)

-- numbered from the first on
pub again-numbers : (doc : Document) (conn k r : ℕ) (pending : List PendingEdit) (next : ℕ) → r ≤ doc.number → next ≡ length (resubmitted_edits doc conn (k + 1) pending) + (k + 1)
    → IsQueue k r (flat_map (sent_draft doc.number) (resubmitted_edits doc conn (k + 1) pending)) doc.number next
again-numbers doc conn k r [] next l e = (omega (arith, e), l)
again-numbers doc conn k r (edit ∷ pending) next l e =
    by (λ g. again-numbers doc conn k r pending next l g) (λ g. again-numbers doc conn (k + 1) doc.number pending next (omega arith) g) (regenerated_edit doc edit) e
  where
    again : Option ChannelOp → List PendingEdit
    again None = resubmitted_edits doc conn (k + 1) pending
    again (Some op) = resubmitted_edit doc conn (k + 1) edit op ∷ resubmitted_edits doc conn (k + 1 + 1) pending

    by : (next ≡ length (resubmitted_edits doc conn (k + 1) pending) + (k + 1)
        → IsQueue k r (flat_map (sent_draft doc.number) (resubmitted_edits doc conn (k + 1) pending)) doc.number next)
        → (next ≡ length (resubmitted_edits doc conn (k + 1 + 1) pending) + (k + 1 + 1)
        → IsQueue (k + 1) doc.number (flat_map (sent_draft doc.number) (resubmitted_edits doc conn (k + 1 + 1) pending)) doc.number next)
        → (o : Option ChannelOp) → next ≡ length (again o) + (k + 1) → IsQueue k r (flat_map (sent_draft doc.number) (again o)) doc.number next
    by same more None g = same g
    by same more (Some op) g = (refl, l, more (omega (arith, g)))

own-join : (k : MsgKind) (conn origin : ℕ) → is_own_join (Joining conn) k origin ≡ true → conn ≡ origin
own-join kind.Join conn origin h = grind (arith, nat_tests)
own-join kind.Op conn origin h = (cc)
own-join kind.Leave conn origin h = (cc)
own-join kind.Noop conn origin h = (cc)
own-join (kind.Other word) conn origin h = (cc)

-- behind its own join nothing is owed
pub joined-none : (conns : List ℕ) (conn r : ℕ) (rest : List Entry) (e : Entry) → is_own_join (Joining conn) e.msg.kind e.origin ≡ true
    → Awaits conns conn r (e ∷ rest) → owed conns rest ≡ []
joined-none conns conn r rest e o w = (subst (λ b. AwaitsHere b ((owed conns rest ≡ []) × (r ≤ e.msg.seq)) (Awaits conns conn r rest)) o w).0

-- its own join
pub linked-join : (conns : List ℕ) (queue : List Draft) (pending : List PendingEdit) (rest : List Entry) (q : NaiveSequencer) (e : Entry) (conn : ℕ)
    (doc : Document) → doc.number ≡ e.msg.seq
    → is_own_join (Joining conn) e.msg.kind e.origin ≡ true → IsJoining conns queue pending (e ∷ rest) q conn
    → IsOnline conns doc.number (length (resubmitted_edits doc e.origin 1 pending) + 1)
    (flat_map (sent_draft doc.number) (resubmitted_edits doc e.origin 1 pending)) (resubmitted_edits doc e.origin 1 pending) rest q e.origin
linked-join conns queue pending rest q e conn doc n o l =
    let same : conn ≡ e.origin = own-join e.msg.kind conn e.origin o in
    let here : (owed conns rest ≡ []) × (l.j.ref_seq ≤ e.msg.seq) = subst (λ b. AwaitsHere b ((owed conns rest ≡ []) × (l.j.ref_seq ≤ e.msg.seq))
    (Awaits conns conn l.j.ref_seq rest)) o l.awaits in
    let edits = resubmitted_edits doc e.origin 1 pending in
    record {
      j = l.j;
      has = subst (λ c. HasJoined conns q c l.j) same l.has;
      numbers = subst (λ c. IsQueue c l.j.ref_seq (flat_map (sent_draft doc.number) edits) doc.number (length edits + 1)) (sym l.first)
          (again-numbers doc e.origin 0 l.j.ref_seq pending (length edits + 1) (let b = here.1 in omega (arith, b, n)) refl);
      answered = subst (λ es. IsAnswered es edits (λ ys. IsQueued e.origin (flat_map (sent_draft doc.number) edits) ys)) (sym here.0) (again-queued doc e.origin 1 pending);
    }
