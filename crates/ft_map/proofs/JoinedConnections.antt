-- The joined connections of a sequencer: their numbers, how they are found, and which drafts of them it takes.
use Rattle.std.proofs.Common.{◌≡◌, ℕ, ◌+◌, ◌≤◌, min, Bool, true, false, cond, not, nat_eq, nat_lt, List, [], ◌∷◌, ◌++◌, Option, Some, None, Result, Ok, Err, map, filter, find, fold, refl, sym, ◌∙◌, ap, subst, arith}
use Rattle.std.specs.Prelude.{⊤}
use Rattle.std.proofs.lemmas.Bool.Decides.{nat_tests}
use Rattle.ft_msg.specs.declared.messages.Draft.{Draft}
use Rattle.ft_msg.specs.declared.messages.Entry.{Entry}
use Rattle.ft_seqr.specs.declared.nacks.Nack.{Nack}
use Rattle.ft_seqr.specs.declared.nacks.Nack.TheVariants.{NotJoined, ClientSeq, RefBelow, RefBack, RefAhead}
use Rattle.ft_seqr.specs.Sequencer.{JoinedConnection, NaiveSequencer, is_joined, least_ref, nack_of, sequence, submit, submitted}

pub same_number : (j k : ℕ) → nat_eq j k ≡ true → j ≡ k
same_number j k h = grind (arith, nat_tests)

-- ---- their numbers

-- each has a reference number up to n, and is one of so many connections
abbrev pub AreWithin : ℕ → ℕ → List JoinedConnection → Type 0
AreWithin n count [] = ⊤
AreWithin n count (j ∷ joined) = (j.ref_seq ≤ n) × (j.conn ≤ count) × AreWithin n count joined

pub within-later : (n m count more : ℕ) (joined : List JoinedConnection) → n ≤ m → count ≤ more → AreWithin n count joined → AreWithin m more joined
within-later n m count more [] l k h = tt
within-later n m count more (j ∷ joined) l k h = (omega (arith, h.0), omega (arith, h.1), within-later n m count more joined l k h.2)

pub within-more : (n count : ℕ) (joined : List JoinedConnection) (new : JoinedConnection) → new.ref_seq ≤ n → new.conn ≤ count → AreWithin n count joined → AreWithin n count (joined ++ new ∷ [])
within-more n count [] new l k h = (l, k, tt)
within-more n count (j ∷ joined) new l k h = (h.0, h.1, within-more n count joined new l k h.2)

-- the connections without one
abbrev pub others : ℕ → List JoinedConnection → List JoinedConnection
others conn joined = filter (λ i. not (is_joined conn i)) joined

pub within-others : (n count conn : ℕ) (joined : List JoinedConnection) → AreWithin n count joined → AreWithin n count (others conn joined)
within-others n count conn [] h = h
within-others n count conn (j ∷ joined) h = by (within-others n count conn joined h.2) (not (is_joined conn j))
  where
    by : AreWithin n count (others conn joined) → (b : Bool) → AreWithin n count (cond b (j ∷ others conn joined) (others conn joined))
    by ih true = (h.0, h.1, ih)
    by ih false = ih

-- the connections after a draft of one
abbrev pub after_draft : ℕ → Draft → List JoinedConnection → List JoinedConnection
after_draft conn d joined = map (λ i. cond (is_joined conn i) (submitted d i) i) joined

pub within-submitted : (n count conn : ℕ) (d : Draft) (joined : List JoinedConnection) → d.ref_seq ≤ n → AreWithin n count joined → AreWithin n count (after_draft conn d joined)
within-submitted n count conn d [] l h = h
within-submitted n count conn d (j ∷ joined) l h = (one (is_joined conn j), two (is_joined conn j), within-submitted n count conn d joined l h.2)
  where
    one : (b : Bool) → (cond b (submitted d j) j).ref_seq ≤ n
    one true = l
    one false = h.0

    two : (b : Bool) → (cond b (submitted d j) j).conn ≤ count
    two true = h.1
    two false = h.1

-- ---- the least reference number

abbrev least : ℕ → List JoinedConnection → ℕ
least a joined = fold (λ n i. min n i.ref_seq) a joined

least-high : (joined : List JoinedConnection) (a : ℕ) → least a joined ≤ a
least-high [] a = omega arith
least-high (j ∷ joined) a = let r = least-high joined (min a j.ref_seq) in omega (arith, r)

least-found : (joined : List JoinedConnection) (a conn : ℕ) (j : JoinedConnection) → find (is_joined conn) joined ≡ Some j → least a joined ≤ j.ref_seq
least-found [] a conn j h = absurd cc
least-found (i ∷ joined) a conn j h = by (λ g. least-found joined (min a i.ref_seq) conn j g) (is_joined conn i) h
  where
    by : (find (is_joined conn) joined ≡ Some j → least (min a i.ref_seq) joined ≤ j.ref_seq) → (b : Bool) → cond b (Some i) (find (is_joined conn) joined) ≡ Some j → least (min a i.ref_seq) joined ≤ j.ref_seq
    by ih true g =
        let same : i ≡ j = (cc) in
        let r = least-high joined (min a i.ref_seq) in
        subst (λ (k : JoinedConnection). least (min a i.ref_seq) joined ≤ k.ref_seq) same (omega (arith, r))
    by ih false g = ih g

-- it is at most that of each connection, and at most the message's own number
pub least_ref-found : (s conn : ℕ) (joined : List JoinedConnection) (j : JoinedConnection) → find (is_joined conn) joined ≡ Some j → least_ref s joined ≤ j.ref_seq
least_ref-found s conn [] j h = absurd cc
least_ref-found s conn (i ∷ joined) j h = by (λ g. least-found joined i.ref_seq conn j g) (is_joined conn i) h
  where
    by : (find (is_joined conn) joined ≡ Some j → least i.ref_seq joined ≤ j.ref_seq) → (b : Bool) → cond b (Some i) (find (is_joined conn) joined) ≡ Some j → least i.ref_seq joined ≤ j.ref_seq
    by ih true g =
        let same : i ≡ j = (cc) in
        subst (λ (k : JoinedConnection). least i.ref_seq joined ≤ k.ref_seq) same (least-high joined i.ref_seq)
    by ih false g = ih g

pub least_ref-within : (n count : ℕ) (joined : List JoinedConnection) → AreWithin n count joined → least_ref n joined ≤ n
least_ref-within n count [] h = omega arith
least_ref-within n count (j ∷ joined) h = let r = least-high joined j.ref_seq in omega (arith, r, h.0)

-- ---- how they are found

pub joined-more : (k : ℕ) (joined : List JoinedConnection) (new : JoinedConnection) → nat_eq k new.conn ≡ false → find (is_joined k) (joined ++ new ∷ []) ≡ find (is_joined k) joined
joined-more k [] new h = rw h refl
joined-more k (j ∷ joined) new h = ap (λ (o : Option JoinedConnection). cond (is_joined k j) (Some j) o) (joined-more k joined new h)

-- a new one, whose number none has
pub joined-new : (n count : ℕ) (joined : List JoinedConnection) (new : JoinedConnection) → new.conn ≡ count + 1 → AreWithin n count joined → find (is_joined new.conn) (joined ++ new ∷ []) ≡ Some new
joined-new n count [] new e h = let t : nat_eq new.conn new.conn ≡ true = grind (arith, nat_tests) in rw t refl
joined-new n count (j ∷ joined) new e h =
    let l = h.1 in
    let t : nat_eq new.conn j.conn ≡ false = grind (arith, nat_tests) in
    rw t (joined-new n count joined new e h.2)

pub joined-left : (k conn : ℕ) (joined : List JoinedConnection) → nat_eq k conn ≡ false → find (is_joined k) (others conn joined) ≡ find (is_joined k) joined
joined-left k conn [] h = refl
joined-left k conn (j ∷ joined) h = by (joined-left k conn joined h) (is_joined conn j) (is_joined k j) refl refl
  where
    by : find (is_joined k) (others conn joined) ≡ find (is_joined k) joined → (b t : Bool) → nat_eq conn j.conn ≡ b → nat_eq k j.conn ≡ t
        → find (is_joined k) (cond (not b) (j ∷ others conn joined) (others conn joined)) ≡ cond t (Some j) (find (is_joined k) joined)
    by ih true true e f = absurd (let a = same_number conn j.conn e in let b = same_number k j.conn f in grind (arith, nat_tests))
    by ih true false e f = ih
    by ih false true e f = rw f refl
    by ih false false e f = rw f ih

pub joined-other : (k conn : ℕ) (d : Draft) (joined : List JoinedConnection) → nat_eq k conn ≡ false → find (is_joined k) (after_draft conn d joined) ≡ find (is_joined k) joined
joined-other k conn d [] h = refl
joined-other k conn d (j ∷ joined) h = by (joined-other k conn d joined h) (is_joined conn j) (is_joined k j) refl refl
  where
    by : find (is_joined k) (after_draft conn d joined) ≡ find (is_joined k) joined → (b t : Bool) → nat_eq conn j.conn ≡ b → nat_eq k j.conn ≡ t
        → find (is_joined k) (cond b (submitted d j) j ∷ after_draft conn d joined) ≡ cond t (Some j) (find (is_joined k) joined)
    by ih true true e f = absurd (let a = same_number conn j.conn e in let b = same_number k j.conn f in grind (arith, nat_tests))
    by ih true false e f = rw f ih
    by ih false true e f = rw f refl
    by ih false false e f = rw f ih

pub joined-submitted : (conn : ℕ) (d : Draft) (joined : List JoinedConnection) (j : JoinedConnection) → find (is_joined conn) joined ≡ Some j
    → find (is_joined conn) (after_draft conn d joined) ≡ Some (submitted d j)
joined-submitted conn d [] j h = absurd cc
joined-submitted conn d (i ∷ joined) j h = by (λ g. joined-submitted conn d joined j g) (is_joined conn i) refl h
  where
    by : (find (is_joined conn) joined ≡ Some j → find (is_joined conn) (after_draft conn d joined) ≡ Some (submitted d j)) → (b : Bool) → nat_eq conn i.conn ≡ b
        → cond b (Some i) (find (is_joined conn) joined) ≡ Some j → find (is_joined conn) (cond b (submitted d i) i ∷ after_draft conn d joined) ≡ Some (submitted d j)
    by ih true e g = let same : i ≡ j = (cc) in rw e (ap (λ k. Some (submitted d k)) same)
    by ih false e g = rw e (ih g)

-- what is found has the number
pub joined-named : (conn : ℕ) (joined : List JoinedConnection) (j : JoinedConnection) → find (is_joined conn) joined ≡ Some j → j.conn ≡ conn
joined-named conn [] j h = absurd cc
joined-named conn (i ∷ joined) j h = by (λ g. joined-named conn joined j g) (is_joined conn i) refl h
  where
    by : (find (is_joined conn) joined ≡ Some j → j.conn ≡ conn) → (b : Bool) → nat_eq conn i.conn ≡ b → cond b (Some i) (find (is_joined conn) joined) ≡ Some j → j.conn ≡ conn
    by ih true e g = let same : i ≡ j = (cc) in sym (same_number conn i.conn e ∙ ap (λ (k : JoinedConnection). k.conn) same)
    by ih false e g = ih g

-- ---- drafts

-- the draft is the next of its connection, and its reference number is from the last one and the minimum up to the newest number
pub record IsAccepted (q : NaiveSequencer) (j : JoinedConnection) (d : Draft) : Type 0 where
  pub next : d.client_seq ≡ j.client_seq + 1
  pub above : q.minimum ≤ d.ref_seq
  pub rising : j.ref_seq ≤ d.ref_seq
  pub below : d.ref_seq ≤ q.number

skips : (b : Bool) (x : Nack) (o : Option Nack) → b ≡ false → cond b (Some x) o ≡ o
skips true x o h = (cc)
skips false x o h = refl

accepted-none : (q : NaiveSequencer) (j : JoinedConnection) (d : Draft) → IsAccepted q j d → nack_of q j d ≡ None
accepted-none q j d a =
    let n = a.next in
    let l = a.above in
    let r = a.rising in
    let h = a.below in
    skips (not (nat_eq d.client_seq (j.client_seq + 1))) (ClientSeq (j.client_seq + 1) d.client_seq) _ (grind (arith, nat_tests))
    ∙ skips (nat_lt d.ref_seq q.minimum) (RefBelow q.minimum d.ref_seq) _ (grind (arith, nat_tests))
    ∙ skips (nat_lt d.ref_seq j.ref_seq) (RefBack j.ref_seq d.ref_seq) _ (grind (arith, nat_tests))
    ∙ skips (nat_lt q.number d.ref_seq) (RefAhead q.number d.ref_seq) None (grind (arith, nat_tests))

abbrev nacked : NaiveSequencer → JoinedConnection → Draft → Option Nack → Result (NaiveSequencer × Entry) Nack
nacked q j d (Some nack) = Err nack
nacked q j d None = Ok (sequence q j d)

abbrev submitted_to : NaiveSequencer → Draft → Option JoinedConnection → Result (NaiveSequencer × Entry) Nack
submitted_to q d None = Err NotJoined
submitted_to q d (Some j) = nacked q j d (nack_of q j d)

-- the sequencer takes it
pub submit-accepted : (q : NaiveSequencer) (conn : ℕ) (j : JoinedConnection) (d : Draft) → find (is_joined conn) q.joined ≡ Some j → IsAccepted q j d
    → submit q conn d ≡ Ok (sequence q j d)
submit-accepted q conn j d f a =
    let here : submit q conn d ≡ submitted_to q d (Some j) = ap (submitted_to q d) f in
    here ∙ ap (nacked q j d) (accepted-none q j d a)
