-- The sequencer keeps the order of the log: each message that it numbers may stand behind those before it.
use Rattle.std.proofs.Common.{◌≡◌, ℕ, ◌+◌, ◌≤◌, min, Bool, true, false, cond, not, nat_eq, nat_lt, List, [], ◌∷◌, ◌++◌, Option, Some, None, Result, Ok, Err, map, filter, find, fold, option_map, refl, sym, ◌∙◌, ap, subst, arith, is_some, ℤ, pos, negsuc}
use Rattle.std.proofs.lemmas.Bool.Decides.{nat_tests}
use Rattle.ft_msg.specs.declared.messages.Body.{Body}
use Rattle.ft_msg.specs.declared.messages.Body.TheVariants.{Nothing, Op, Elsewhere}
use Rattle.ft_msg.specs.declared.messages.Draft.{Draft}
use Rattle.ft_msg.specs.declared.messages.Entry.{Entry}
use Rattle.ft_msg.specs.declared.messages.MsgKind.TheVariants as kind
use Rattle.ft_seqr.specs.declared.nacks.Nack.{Nack}
use Rattle.ft_seqr.specs.declared.nacks.Nack.TheVariants.{NotJoined, ClientSeq, RefBelow, RefBack, RefAhead}
use Rattle.ft_props.specs.Properties.{Characters}
use Rattle.ft_msg.specs.Process.{is_op_kind}
use Rattle.ft_msg.specs.WellFormed.{IsWellFormedKind, has_body}
use Rattle.ft_seqr.specs.Sequencer.{JoinedConnection, NaiveSequencer, is_joined, join, draft_kind, leave, least_ref, nack_of, next, notice, sequence, submit, submitted}
use Rattle.ft_msg.specs.ClientSteps.{has_fitting_body}
use Rattle.ft_laws_agreement.specs.Sequencing.{Each}
use Rattle.ft_laws_agreement.proofs.NumberTests.{same_number}
use Rattle.ft_laws_sessions.specs.LogOrder.{StandsNext, IsOrder, RefersWithin}
use Rattle.ft_laws_summaries.proofs.Lists.{each-filtered, each-found, each-mapped, each-more, each-weaker}

-- ---- entries that lead from one number and minimum to others

abbrev pub Leads : ℕ → ℕ → List Entry → ℕ → ℕ → Type 0
Leads n m [] k l = (n ≡ k) × (m ≡ l)
Leads n m (e ∷ es) k l = StandsNext n m e × Leads (n + 1) e.msg.min es k l

pub leads-more : (es : List Entry) (n m k l : ℕ) (e : Entry) → Leads n m es k l → StandsNext k l e → Leads n m (es ++ (e ∷ [])) (k + 1) e.msg.min
leads-more [] n m k l e h f = (subst (λ i. StandsNext i m e) (sym h.0) (subst (λ i. StandsNext k i e) (sym h.1) f), (ap (λ i. i + 1) h.0, refl))
leads-more (x ∷ es) n m k l e h f = (h.0, leads-more es (n + 1) x.msg.min k l e h.1 f)

pub leads-up : (es : List Entry) (n m k l : ℕ) → Leads n m es k l → n ≤ k
leads-up [] n m k l h = omega (arith, h.0)
leads-up (x ∷ es) n m k l h = let r = leads-up es (n + 1) x.msg.min k l h.1 in omega (arith, r)

pub leads-order : (es : List Entry) (n m k l : ℕ) → Leads n m es k l → IsOrder n m es
leads-order [] n m k l h = tt
leads-order (x ∷ es) n m k l h = (h.0, leads-order es (n + 1) x.msg.min k l h.1)

-- ---- the least reference number

abbrev pub least : ℕ → List JoinedConnection → ℕ
least a joined = fold (λ n i. min n i.ref_seq) a joined

least-low : (joined : List JoinedConnection) (a m : ℕ) → m ≤ a → Each (λ j. m ≤ j.ref_seq) joined → m ≤ least a joined
least-low [] a m h e = h
least-low (j ∷ joined) a m h e = let lower : m ≤ min a j.ref_seq = omega (arith, e.0) in least-low joined (min a j.ref_seq) m lower e.1

least-high : (joined : List JoinedConnection) (a : ℕ) → least a joined ≤ a
least-high [] a = omega arith
least-high (j ∷ joined) a = let r = least-high joined (min a j.ref_seq) in omega (arith, r)

least-each : (joined : List JoinedConnection) (a : ℕ) → Each (λ j. least a joined ≤ j.ref_seq) joined
least-each [] a = tt
least-each (j ∷ joined) a = let r = least-high joined (min a j.ref_seq) in (omega (arith, r), least-each joined (min a j.ref_seq))

-- ---- the sequencer's numbers

-- a joined connection has a reference number from m to n, and is one of the connections so far
pub record IsBounded (m n count : ℕ) (j : JoinedConnection) : Type 0 where
  pub above : m ≤ j.ref_seq
  pub below : j.ref_seq ≤ n
  pub first : 1 ≤ j.conn
  pub known : j.conn ≤ count

pub record IsMoved (m n count : ℕ) (joined : List JoinedConnection) : Type 0 where
  pub later : m ≤ least_ref (n + 1) joined
  pub below : least_ref (n + 1) joined ≤ n + 1
  pub bounded : Each (IsBounded (least_ref (n + 1) joined) (n + 1) count) joined

join-bounds : (m n count l : ℕ) (joined : List JoinedConnection) → Each (IsBounded m n count) joined → Each (λ j. l ≤ j.ref_seq) joined → Each (IsBounded l (n + 1) count) joined
join-bounds m n count l [] b e = tt
join-bounds m n count l (j ∷ joined) b e =
    (record { above = e.0; below = let h = b.0.below in omega (arith, h); first = b.0.first; known = b.0.known }, join-bounds m n count l joined b.1 e.1)

moved : (m n count : ℕ) (joined : List JoinedConnection) → m ≤ n → Each (IsBounded m n count) joined → IsMoved m n count joined
moved m n count [] w b = record { later = omega arith; below = omega arith; bounded = tt }
moved m n count (j ∷ joined) w b =
    let refs = each-weaker (IsBounded m n count) (λ (i : JoinedConnection). m ≤ i.ref_seq) (λ i h. h.above) joined b.1 in
    let low : m ≤ least j.ref_seq joined = least-low joined j.ref_seq m b.0.above refs in
    let high : least j.ref_seq joined ≤ j.ref_seq = least-high joined j.ref_seq in
    let first : j.ref_seq ≤ n = b.0.below in
    record {
      later = low;
      below = omega (arith, high, first);
      bounded = join-bounds m n count (least j.ref_seq joined) (j ∷ joined) b (high, least-each joined j.ref_seq);
    }

-- the number is a count up to n, or -1
abbrev pub IsUpTo : ℕ → ℤ → Type 0
IsUpTo n (pos k) = k ≤ n
IsUpTo n (negsuc k) = k ≡ 0

-- the client number and the reference number are such numbers
abbrev pub AreUpTo : ℕ → Entry → Type 0
AreUpTo n e = IsUpTo n e.msg.client_seq × IsUpTo n e.msg.ref_seq

-- what is known of the sequencer and the log, where count connections were made
pub record IsBase (count : ℕ) (q : NaiveSequencer) (log : List Entry) : Type 0 where
  pub order : Leads 0 0 log q.number q.minimum
  pub within : q.minimum ≤ q.number
  pub joined : Each (IsBounded q.minimum q.number count) q.joined
  pub origins : Each (λ e. e.origin ≤ count) log
  pub sources : Each (λ e. 1 ≤ e.origin) log
  pub counted : count ≤ q.number
  pub told : Each (λ e. AreUpTo e.msg.seq e) log
  pub sent : Each (λ j. j.client_seq ≤ q.number) q.joined

-- the sequencer numbers an entry, with these connections joined then
pub record IsNumbered (more : ℕ) (joined : List JoinedConnection) (q : NaiveSequencer) (entry : Entry) : Type 0 where
  pub bounded : Each (IsBounded q.minimum q.number more) joined
  pub seq : entry.msg.seq ≡ q.number + 1
  pub min : entry.msg.min ≡ least_ref (q.number + 1) joined
  pub refers : is_op_kind entry.msg.kind ≡ true → RefersWithin q.minimum q.number entry.msg.ref_seq
  pub body : has_fitting_body entry ≡ true
  pub sender : is_some entry.msg.client_id ≡ true
  pub kind : IsWellFormedKind entry.msg.kind
  pub origin : entry.origin ≤ more
  pub source : 1 ≤ entry.origin
  pub told : AreUpTo (q.number + 1) entry
  pub sent : Each (λ j. j.client_seq ≤ q.number + 1) joined

pub numbered-follows : (more : ℕ) (joined : List JoinedConnection) (q : NaiveSequencer) (entry : Entry) → q.minimum ≤ q.number → IsNumbered more joined q entry
    → StandsNext q.number q.minimum entry
numbered-follows more joined q entry w h =
    let m = moved q.minimum q.number more joined w h.bounded in
    let low = m.later in
    let high = m.below in
    let s = h.seq in
    let t = h.min in
    record { seq = s; later = omega (arith, low, t); below = omega (arith, high, s, t); refers = h.refers; body = h.body; sender = h.sender; kind = h.kind }

pub numbered-base : (count more : ℕ) (joined : List JoinedConnection) (q : NaiveSequencer) (log : List Entry) (entry : Entry) → count ≤ more
    → more ≤ count + 1 → IsBase count q log → IsNumbered more joined q entry → IsBase more (next joined q) (log ++ (entry ∷ []))
numbered-base count more joined q log entry c d b h =
    let m = moved q.minimum q.number more joined b.within h.bounded in
    record {
      order = subst (λ l. Leads 0 0 (log ++ (entry ∷ [])) (q.number + 1) l) h.min
          (leads-more log 0 0 q.number q.minimum entry b.order (numbered-follows more joined q entry b.within h));
      within = m.below;
      joined = m.bounded;
      origins = each-more (λ e. e.origin ≤ more) log entry (each-weaker (λ e. e.origin ≤ count) (λ e. e.origin ≤ more) (λ e o. omega (arith, o, c)) log b.origins) h.origin;
      sources = each-more (λ e. 1 ≤ e.origin) log entry b.sources h.source;
      counted = let k = b.counted in omega (arith, d, k);
      told = each-more (λ e. AreUpTo e.msg.seq e) log entry b.told (subst (λ n. AreUpTo n entry) (sym h.seq) h.told);
      sent = h.sent;
    }

-- ---- joins and leaves

widen : (m n count more : ℕ) (j : JoinedConnection) → count ≤ more → IsBounded m n count j → IsBounded m n more j
widen m n count more j c h = record { above = h.above; below = h.below; first = h.first; known = let k = h.known in omega (arith, k, c) }

abbrev pub new_connection : NaiveSequencer → ℕ → Characters → JoinedConnection
new_connection q conn name = record { conn = conn; name = name; ref_seq = q.minimum; client_seq = 0 }

sent-later : (q : NaiveSequencer) → Each (λ j. j.client_seq ≤ q.number) q.joined → Each (λ j. j.client_seq ≤ q.number + 1) q.joined
sent-later q h = each-weaker (λ (j : JoinedConnection). j.client_seq ≤ q.number) (λ (j : JoinedConnection). j.client_seq ≤ q.number + 1) (λ j l. omega (arith, l)) q.joined h

pub join-numbered : (count : ℕ) (q : NaiveSequencer) (log : List Entry) (name : Characters) → IsBase count q log
    → IsNumbered (count + 1) (q.joined ++ (new_connection q (count + 1) name ∷ [])) q (join q (count + 1) name).1
join-numbered count q log name b =
    let w = b.within in
    record {
      bounded = each-more (IsBounded q.minimum q.number (count + 1)) q.joined (new_connection q (count + 1) name)
          (each-weaker (IsBounded q.minimum q.number count) (IsBounded q.minimum q.number (count + 1))
          (λ j h. widen q.minimum q.number count (count + 1) j (omega arith) h) q.joined b.joined)
          (record { above = omega arith; below = w; first = omega arith; known = omega arith });
      seq = refl;
      min = refl;
      refers = λ h. (cc);
      body = refl;
      sender = refl;
      kind = tt;
      origin = omega arith;
      source = omega arith;
      told = (refl, refl);
      sent = each-more (λ j. j.client_seq ≤ q.number + 1) q.joined (new_connection q (count + 1) name) (sent-later q b.sent) (omega arith);
    }

-- the connections without one
abbrev pub others : ℕ → NaiveSequencer → List JoinedConnection
others conn q = filter (λ i. not (is_joined conn i)) q.joined

-- the sequencer after a joined connection left, and its message
abbrev pub gone : NaiveSequencer → ℕ → JoinedConnection → NaiveSequencer × Entry
gone q conn j = (next (others conn q) q, notice (next (others conn q) q) conn j.name kind.Leave)

pub leave-found : (q : NaiveSequencer) (conn : ℕ) (j : JoinedConnection) → find (is_joined conn) q.joined ≡ Some j → leave q conn ≡ Some (gone q conn j)
leave-found q conn j f = ap (λ (o : Option JoinedConnection). option_map (gone q conn) o) f

pub leave-numbered : (count : ℕ) (q : NaiveSequencer) (log : List Entry) (conn : ℕ) (j : JoinedConnection) → IsBase count q log
    → find (is_joined conn) q.joined ≡ Some j → IsNumbered count (others conn q) q (gone q conn j).1
leave-numbered count q log conn j b f = record {
  bounded = each-filtered (IsBounded q.minimum q.number count) (λ i. not (is_joined conn i)) q.joined b.joined;
  seq = refl;
  min = refl;
  refers = λ h. (cc);
  body = refl;
  sender = refl;
  kind = tt;
  origin = subst (λ i. i ≤ count) (sym named) here.0.known;
  source = subst (λ i. 1 ≤ i) (sym named) here.0.first;
  told = (refl, refl);
  sent = each-filtered (λ j. j.client_seq ≤ q.number + 1) (λ i. not (is_joined conn i)) q.joined (sent-later q b.sent);
}
  where
    here : IsBounded q.minimum q.number count j × (is_joined conn j ≡ true)
    here = each-found (IsBounded q.minimum q.number count) (is_joined conn) q.joined j f b.joined

    named : conn ≡ j.conn
    named = same_number conn j.conn (each-found (IsBounded q.minimum q.number count) (is_joined conn) q.joined j f b.joined).1

-- ---- drafts

-- why no nack: the draft is the next of its connection, and its reference number is from the last one and the minimum up to
-- the newest number
pub record IsAccepted (q : NaiveSequencer) (j : JoinedConnection) (d : Draft) : Type 0 where
  pub next : d.client_seq ≡ j.client_seq + 1
  pub above : q.minimum ≤ d.ref_seq
  pub rising : j.ref_seq ≤ d.ref_seq
  pub below : d.ref_seq ≤ q.number

fits : (b : Body) → cond (is_op_kind (draft_kind b)) (has_body b) (not (has_body b)) ≡ true
fits Nothing = refl
fits (Op op) = refl
fits (Elsewhere address) = refl

known_kind : (b : Body) → IsWellFormedKind (draft_kind b)
known_kind Nothing = tt
known_kind (Op op) = tt
known_kind (Elsewhere address) = tt

-- the connections after a draft of one
abbrev pub after_draft : JoinedConnection → Draft → NaiveSequencer → List JoinedConnection
after_draft j d q = map (λ i. cond (is_joined j.conn i) (submitted d i) i) q.joined

draft-bounded : (m n count : ℕ) (b : Bool) (d : Draft) (i : JoinedConnection) → m ≤ d.ref_seq → d.ref_seq ≤ n → IsBounded m n count i
    → IsBounded m n count (cond b (submitted d i) i)
draft-bounded m n count true d i l h b = record { above = l; below = h; first = b.first; known = b.known }
draft-bounded m n count false d i l h b = b

pub draft-numbered : (count : ℕ) (q : NaiveSequencer) (log : List Entry) (j : JoinedConnection) (d : Draft) → IsBase count q log → 1 ≤ j.conn → j.conn ≤ count
    → IsAccepted q j d → d.client_seq ≤ q.number + 1 → IsNumbered count (after_draft j d q) q (sequence q j d).1
draft-numbered count q log j d b o k a u = record {
  bounded = each-mapped (IsBounded q.minimum q.number count) (IsBounded q.minimum q.number count) (λ i. cond (is_joined j.conn i) (submitted d i) i)
      (λ i h. draft-bounded q.minimum q.number count (is_joined j.conn i) d i a.above a.below h) q.joined b.joined;
  seq = refl;
  min = refl;
  refers = λ h. (a.above, a.below);
  body = fits d.body;
  sender = refl;
  kind = known_kind d.body;
  origin = k;
  source = o;
  told = (u, let l = a.below in omega (arith, l));
  sent = each-mapped (λ i. i.client_seq ≤ q.number + 1) (λ i. i.client_seq ≤ q.number + 1) (λ i. cond (is_joined j.conn i) (submitted d i) i)
      (λ i h. sent-draft (is_joined j.conn i) i h) q.joined (sent-later q b.sent);
}
  where
    sent-draft : (t : Bool) (i : JoinedConnection) → i.client_seq ≤ q.number + 1 → (cond t (submitted d i) i).client_seq ≤ q.number + 1
    sent-draft true i h = u
    sent-draft false i h = h

abbrev nacked : NaiveSequencer → JoinedConnection → Draft → Option Nack → Result (NaiveSequencer × Entry) Nack
nacked q j d (Some nack) = Err nack
nacked q j d None = Ok (sequence q j d)

no-first : (b : Bool) (x : Nack) (o : Option Nack) → cond b (Some x) o ≡ None → (b ≡ false) × (o ≡ None)
no-first true x o h = (cc)
no-first false x o h = (refl, h)

-- a draft without a nack is accepted
unnacked : (q : NaiveSequencer) (j : JoinedConnection) (d : Draft) → nack_of q j d ≡ None → IsAccepted q j d
unnacked q j d h =
    let a = no-first (not (nat_eq d.client_seq (j.client_seq + 1))) (ClientSeq (j.client_seq + 1) d.client_seq) _ h in
    let b = no-first (nat_lt d.ref_seq q.minimum) (RefBelow q.minimum d.ref_seq) _ a.1 in
    let c = no-first (nat_lt d.ref_seq j.ref_seq) (RefBack j.ref_seq d.ref_seq) _ b.1 in
    let e = no-first (nat_lt q.number d.ref_seq) (RefAhead q.number d.ref_seq) None c.1 in
    let t0 : not (nat_eq d.client_seq (j.client_seq + 1)) ≡ false = a.0 in
    let t1 : nat_lt d.ref_seq q.minimum ≡ false = b.0 in
    let t2 : nat_lt d.ref_seq j.ref_seq ≡ false = c.0 in
    let t3 : nat_lt q.number d.ref_seq ≡ false = e.0 in
    record {
      next = same-of (nat_eq d.client_seq (j.client_seq + 1)) refl t0;
      above = grind (arith, nat_tests);
      rising = grind (arith, nat_tests);
      below =
          grind (arith, nat_tests);
    }
  where
    same-of : (b : Bool) → nat_eq d.client_seq (j.client_seq + 1) ≡ b → not b ≡ false → d.client_seq ≡ j.client_seq + 1
    same-of true e n = same_number d.client_seq (j.client_seq + 1) e
    same-of false e n = (cc)

skips : (b : Bool) (x : Nack) (o : Option Nack) → b ≡ false → cond b (Some x) o ≡ o
skips true x o h = (cc)
skips false x o h = refl

-- and the other way round
accepted-none : (q : NaiveSequencer) (j : JoinedConnection) (d : Draft) → IsAccepted q j d → nack_of q j d ≡ None
accepted-none q j d a =
    let n = a.next in
    let l = a.above in
    let r = a.rising in
    let h = a.below in
    skips (not (nat_eq d.client_seq (j.client_seq + 1))) (ClientSeq (j.client_seq + 1) d.client_seq) _ (grind (arith, nat_tests))
    ∙ skips (nat_lt d.ref_seq q.minimum) (RefBelow q.minimum d.ref_seq) _ (grind (arith, nat_tests))
    ∙ skips (nat_lt d.ref_seq j.ref_seq) (RefBack j.ref_seq d.ref_seq) _ (grind (arith, nat_tests))
    ∙ skips (nat_lt q.number d.ref_seq) (RefAhead q.number d.ref_seq) None (grind (arith, nat_tests))

abbrev submitted_to : NaiveSequencer → Draft → Option JoinedConnection → Result (NaiveSequencer × Entry) Nack
submitted_to q d None = Err NotJoined
submitted_to q d (Some j) = nacked q j d (nack_of q j d)

pub submit-accepted : (q : NaiveSequencer) (conn : ℕ) (j : JoinedConnection) (d : Draft) → find (is_joined conn) q.joined ≡ Some j → IsAccepted q j d
    → submit q conn d ≡ Ok (sequence q j d)
submit-accepted q conn j d f a =
    let here : submit q conn d ≡ submitted_to q d (Some j) = ap (submitted_to q d) f in
    here ∙ ap (nacked q j d) (accepted-none q j d a)

-- what the sequencer numbered of a draft
pub record IsSequenced (q : NaiveSequencer) (conn : ℕ) (d : Draft) (p : NaiveSequencer × Entry) : Type 0 where
  pub j : JoinedConnection
  pub found : find (is_joined conn) q.joined ≡ Some j
  pub accepted : IsAccepted q j d
  pub same : p ≡ sequence q j d

pub submit-sequenced : (q : NaiveSequencer) (conn : ℕ) (d : Draft) (p : NaiveSequencer × Entry) → submit q conn d ≡ Ok p → IsSequenced q conn d p
submit-sequenced q conn d p h = by (find (is_joined conn) q.joined) refl h
  where
    ok : (j : JoinedConnection) (o : Option Nack) → find (is_joined conn) q.joined ≡ Some j → nack_of q j d ≡ o → nacked q j d o ≡ Ok p → IsSequenced q conn d p
    ok j (Some nack) f n g = (cc)
    ok j None f n g = let same : sequence q j d ≡ p = (cc) in record { j = j; found = f; accepted = unnacked q j d n; same = sym same }

    by : (o : Option JoinedConnection) → find (is_joined conn) q.joined ≡ o → submitted_to q d o ≡ Ok p → IsSequenced q conn d p
    by None f g = (cc)
    by (Some j) f g = ok j (nack_of q j d) f refl g
