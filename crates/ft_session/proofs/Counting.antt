-- The counts of the client with the greatest number.
use Rattle.std.proofs.Common.{◌≡◌, Bool, true, false, cond, nat_lt, List, [], ◌∷◌, fold, length, map, suc, refl, sym, ◌∙◌, ap, subst}
use Rattle.ft_op.specs.Document.{Document, empty}
use Rattle.ft_msg.specs.declared.messages.Entry.{Entry}
use Rattle.ft_msg.specs.Answers.{numbers_of}
use Rattle.ft_msg.specs.Client.{NaiveClient, PendingEdit, client_over}
use Rattle.ft_msg.specs.Compacted.{StandsFor}
use Rattle.ft_msg.specs.Indexed.{IndexedClient, indexed_edit}
use Rattle.ft_seqr.specs.World.{NaiveWorld, NamedClient, further, furthest}
use Rattle.ft_session.specs.declared.world.Furthest.{Furthest}
use Rattle.ft_session.specs.Outputs.{counts_of}
use Rattle.ft_session.specs.Steps.{further_numbers}
use Rattle.ft_session.specs.Worlds.{MembersStand, MemberStands, MemberState}

-- the number and the counts are those of the client
pub record AreOf (f : Furthest) (x : NaiveClient) : Type 0 where
  pub number : f.seq ≡ x.doc.number
  pub skipped : f.counts.skipped ≡ x.doc.skipped
  pub other : f.counts.other ≡ x.doc.other

-- the client with the greatest number of these, unless it is x
abbrev pub furthest_from : NaiveClient → List NamedClient → NaiveClient
furthest_from x cs = fold (λ y c. further y c.client) x cs

-- a replica has the numbers of each client for which it stands
pub stands-skipped : (r : IndexedClient) (x : NaiveClient) → StandsFor r x → r.doc.skipped ≡ x.doc.skipped
stands-skipped r x s = ap (λ (c : IndexedClient). c.doc.skipped) (sym s.shows) ∙ ap (λ (d : Document). d.skipped) s.keeps.doc.rest

pub stands-other : (r : IndexedClient) (x : NaiveClient) → StandsFor r x → r.doc.other ≡ x.doc.other
stands-other r x s = ap (λ (c : IndexedClient). c.doc.other) (sym s.shows) ∙ ap (λ (d : Document). d.other) s.keeps.doc.rest

pub stands-number : (r : IndexedClient) (x : NaiveClient) → StandsFor r x → r.doc.number ≡ x.doc.number
stands-number r x s = ap (λ (c : IndexedClient). c.doc.number) (sym s.shows) ∙ ap (λ (d : Document). d.number) s.keeps.doc.rest

pub stands-minimum : (r : IndexedClient) (x : NaiveClient) → StandsFor r x → r.doc.minimum ≡ x.doc.minimum
stands-minimum r x s = ap (λ (c : IndexedClient). c.doc.minimum) (sym s.shows) ∙ ap (λ (d : Document). d.minimum) s.keeps.doc.rest

-- a replica has as much pending as its client
pub stands-pending : (r : IndexedClient) (x : NaiveClient) → StandsFor r x → length r.pending ≡ length x.pending
stands-pending r x s =
    ap (λ (c : IndexedClient). length c.pending) (sym s.shows)
    ∙ (mapped s.kept.pending ∙ ap (λ (k : NaiveClient). length k.pending) s.keeps.rest)
  where
    mapped : (edits : List PendingEdit) → length (map (indexed_edit s.kept.doc) edits) ≡ length edits
    mapped [] = refl
    mapped (edit ∷ edits) = ap suc (mapped edits)

-- one client more
pub are-of_further : (log : List Entry) (f : Furthest) (x : NaiveClient) (m : MemberState) (c : NamedClient) → AreOf f x → MemberStands log m c
    → AreOf (further_numbers f (numbers_of m.replica)) (further x c.client)
are-of_further log f x m c a s =
    let r = m.replica.client in
    let n = stands-number r c.client s.replica.client in
    subst (λ b. AreOf (further_numbers f (numbers_of m.replica)) (cond b c.client x)) (ap (λ i. nat_lt i (numbers_of m.replica).seq) a.number ∙ ap (nat_lt x.doc.number) n)
    (by (nat_lt f.seq (numbers_of m.replica).seq))
  where
    of-one : AreOf (record { seq = (numbers_of m.replica).seq; counts = record { skipped = (numbers_of m.replica).skipped; other = (numbers_of m.replica).other } }) c.client
    of-one = record {
      number = stands-number m.replica.client c.client s.replica.client;
      skipped = stands-skipped m.replica.client c.client s.replica.client;
      other = stands-other m.replica.client c.client s.replica.client;
    }

    by : (b : Bool) → AreOf (cond b (record { seq = (numbers_of m.replica).seq; counts = record { skipped = (numbers_of m.replica).skipped; other = (numbers_of m.replica).other } }) f) (cond b c.client x)
    by true = of-one
    by false = a

-- what is known before one of the members
pub record StillCounts (ms rest : List MemberState) (f : Furthest) : Type 0 where
  pub world : (log : List Entry) (cs : List NamedClient) → MembersStand log ms cs
      → (x : NaiveClient) × (others : List NamedClient) × MembersStand log rest others × AreOf f x × (furthest_from x others ≡ furthest_from (client_over empty) cs)

pub counts-first : (ms : List MemberState) → StillCounts ms ms (record { seq = 0; counts = record { skipped = 0; other = 0 } })
counts-first ms = record { world = λ log cs s. (client_over empty, cs, s, record { number = refl; skipped = refl; other = refl }, refl) }

pub counts-next : (ms : List MemberState) (m : MemberState) (rest : List MemberState) (f : Furthest) → StillCounts ms (m ∷ rest) f
    → StillCounts ms rest (further_numbers f (numbers_of m.replica))
counts-next ms m rest f h = record { world = λ log cs s. let (x, others, t, a, e) = h.world log cs s in by log cs x others t a e }
  where
    by : (log : List Entry) (cs : List NamedClient) (x : NaiveClient) (others : List NamedClient) → MembersStand log (m ∷ rest) others → AreOf f x
        → furthest_from x others ≡ furthest_from (client_over empty) cs
        → (y : NaiveClient) × (left : List NamedClient) × MembersStand log rest left × AreOf (further_numbers f (numbers_of m.replica)) y
        × (furthest_from y left ≡ furthest_from (client_over empty) cs)
    by log cs x [] t a e = elim t [ ]
    by log cs x (c ∷ others) t a e = (further x c.client, others, t.1, are-of_further log f x m c a t.0, e)

pub counts-last : (ms : List MemberState) (f : Furthest) → StillCounts ms [] f → (w : NaiveWorld) → MembersStand w.log ms w.clients → f.counts ≡ counts_of w
counts-last ms f h w s = let (x, others, t, a, e) = h.world w.log w.clients s in by x others t a e
  where
    by : (x : NaiveClient) (others : List NamedClient) → MembersStand w.log [] others → AreOf f x → furthest_from x others ≡ furthest_from (client_over empty) w.clients → f.counts ≡ counts_of w
    by x (c ∷ others) t a e = elim t [ ]
    by x [] t a e =
        ap (λ k. record { skipped = k; other = f.counts.other }) (a.skipped ∙ ap (λ (y : NaiveClient). y.doc.skipped) e)
        ∙ ap (λ k. record { skipped = (furthest w).skipped; other = k }) (a.other ∙ ap (λ (y : NaiveClient). y.doc.other) e)
