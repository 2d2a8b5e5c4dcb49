-- The load bounds the number of the sequencer and the elements that clients ever held.
use Rattle.std.proofs.Common.{◌≡◌, ℕ, ◌+◌, ◌≤◌, List, [], ◌∷◌, length, take, ◌∙◌, ap, arith}
use Rattle.ft_msg.specs.declared.messages.Entry.{Entry}
use Rattle.ft_op.specs.Document.{Document, empty}
use Rattle.ft_msg.specs.Agreed.{agreed}
use Rattle.ft_laws_agreement.proofs.ClientsAgree.{clients-agree}
use Rattle.std.proofs.lemmas.List.{length-take}
use Rattle.ft_laws_sessions.proofs.CountedOthers.{entries-other}
use Rattle.ft_laws_summaries.proofs.Lists.{each-weaker}
use Rattle.ft_laws_sessions.proofs.SkippedEntries.{first-skip}
use Rattle.ft_seqr.specs.declared.events.Event.{Event}
use Rattle.ft_seqr.specs.World.{NamedClient, NaiveWorld}
use Rattle.ft_laws_agreement.specs.Sequencing.{Each}
use Rattle.ft_laws_sessions.specs.Load.{CountsAreWithinLoad, ElementsAreWithinLoad, IsCountedWithin, IsHeldWithin, NumberIsWithinLoad}
use Rattle.ft_laws_sessions.specs.Worlds.{reached}
use Rattle.ft_laws_sessions.proofs.Orders.{Leads}
use Rattle.ft_laws_sessions.proofs.Owing.{debt, entry_cost, owing_of, total}
use Rattle.ft_laws_sessions.proofs.HeldElements.{IsSizedWithin}
use Rattle.ft_laws_sessions.proofs.Sizes.{served-held, served-sized}
use Rattle.ft_laws_sessions.proofs.WorldEvents.{IsReachedWorld, Serves, debt-is}
use Rattle.ft_laws_sessions.proofs.WorldLaws.{of-log, world-reached}

-- ---- numbers

pub leads-count : (es : List Entry) (n m k l : ℕ) → Leads n m es k l → k ≡ n + length es
leads-count [] n m k l h = let e = h.0 in omega (arith, e)
leads-count (e ∷ es) n m k l h = let ih = leads-count es (n + 1) e.msg.min k l h.1 in omega (arith, ih)

pub each-costs : (es : List Entry) → length es ≤ total entry_cost es
each-costs [] = omega arith
each-costs (e ∷ es) = let ih = each-costs es in omega (arith, ih)

pub number-within-load : NumberIsWithinLoad
number-within-load events =
    let w = reached events in
    let r = world-reached events in
    let count = leads-count w.log 0 0 w.sequencer.number w.sequencer.minimum r.base.order in
    let cost = each-costs w.log in
    let p = r.paid in
    omega (arith, count, cost, p)

-- ---- elements

-- a client's lists held what the log costs and what the client owes, at most
client-held : (w : NaiveWorld) (r : IsReachedWorld ⊥ 0 w) (c : NamedClient) → Serves ⊥ r.owner (length w.names) w.sequencer w.log c
    → debt w.log c ≤ total (debt w.log) w.clients → IsHeldWithin w.load c.client.doc
client-held w r c s less =
    let held = served-held r.owner (length w.names) w.sequencer w.log c.name s.rest c.client s.served in
    let owes : debt w.log c ≡ owing_of c.client s.rest = debt-is ⊥ r.owner (length w.names) w.sequencer w.log c.name s.rest c.client s.served in
    let p = r.paid in
    record {
      text = let a = held.text in omega (arith, a, owes, p, less);
      rows = let a = held.rows in omega (arith, a, owes, p, less);
      cols = let a = held.cols
          in omega (arith, a, owes, p, less);
    }

-- and have as many elements at most
client-sized : (w : NaiveWorld) (r : IsReachedWorld ⊥ 0 w) (c : NamedClient) → Serves ⊥ r.owner (length w.names) w.sequencer w.log c
    → debt w.log c ≤ total (debt w.log) w.clients → IsSizedWithin w.load c.client.doc
client-sized w r c s less =
    let sized = served-sized r.owner (length w.names) w.sequencer w.log c.name s.rest c.client s.served in
    let owes : debt w.log c ≡ owing_of c.client s.rest = debt-is ⊥ r.owner (length w.names) w.sequencer w.log c.name s.rest c.client s.served in
    let p = r.paid in
    record {
      text = let a = sized.text in omega (arith, a, owes, p, less);
      rows = let a = sized.rows in omega (arith, a, owes, p, less);
      cols = let a = sized.cols in omega (arith, a, owes, p, less);
    }

-- what holds of each that costs at most what all cost
pub each-below : {A : Type 0} (f : A → ℕ) (P Q : A → Type 0) (n : ℕ) → ((x : A) → P x → f x ≤ n → Q x) → (xs : List A) → total f xs ≤ n → Each P xs → Each Q xs
each-below f P Q n h [] l e = e
each-below f P Q n h (x ∷ xs) l e = (h x e.0 (omega (arith, l)), each-below f P Q n h xs (omega (arith, l)) e.1)

pub elements-within-load : ElementsAreWithinLoad
elements-within-load events =
    let w = reached events in
    let r = world-reached events in
    each-below (debt w.log) (Serves ⊥ r.owner (length w.names) w.sequencer w.log) (λ (c : NamedClient). IsHeldWithin w.load c.client.doc)
    (total (debt w.log) w.clients) (λ c s l. client-held w r c s l) w.clients (omega arith) r.clients

pub sizes-within-load : (events : List Event) → Each (λ c. IsSizedWithin (reached events).load c.client.doc) (reached events).clients
sizes-within-load events =
    let w = reached events in
    let r = world-reached events in
    each-below (debt w.log) (Serves ⊥ r.owner (length w.names) w.sequencer w.log) (λ (c : NamedClient). IsSizedWithin w.load c.client.doc)
    (total (debt w.log) w.clients) (λ c s l. client-sized w r c s l) w.clients (omega arith) r.clients

-- ---- counts

pub counts-within-load : CountsAreWithinLoad
counts-within-load events =
    let w = reached events in
    let r = world-reached events in
    each-weaker (Serves ⊥ r.owner (length w.names) w.sequencer w.log) (λ (c : NamedClient). IsCountedWithin w.load c.client.doc) (λ c s.
    let o = of-log w r c s in
    let agrees = clients-agree o.steps c.client o.run.made o.run.bodies ∙ ap agreed o.entries in
    let skipped : c.client.doc.skipped ≡ (agreed (take c.client.doc.number w.log)).skipped = ap (λ (d : Document). d.skipped) agrees in
    let other : c.client.doc.other ≡ (agreed (take c.client.doc.number w.log)).other = ap (λ (d : Document). d.other) agrees in
    let first = first-skip c.client.doc.number w.log empty in
    let many = entries-other (take c.client.doc.number w.log) empty in
    let taken : length (take c.client.doc.number w.log) ≤ length w.log = simp length-take (omega arith) in
    let cost = each-costs w.log in
    let p = r.paid in
    record { skipped = omega (arith, skipped, first, p); other = omega (arith, other, many, taken, cost, p) }) w.clients r.clients
