-- A client's unsent messages are submitted.
use Rattle.std.proofs.Common.{◌≡◌, ◌≤◌, ◌<◌, ℕ, zero, suc, ◌+◌, ◌-◌, cond, nat_le, true, false, Bool, List, [], ◌∷◌, ◌++◌, drop, length, take, Option, Some, None, Result, Ok, Err, map, refl, sym, ◌∙◌, ap, subst, arith, append-nil, slice_get}
use Rattle.std.proofs.lemmas.List.{append_assoc, drop-drop}
use Rattle.std.specs.Prelude.{OnErr, OnOk, ⊤}
use Rattle.std.proofs.lemmas.Bool.Decides.{nat_tests}
use Rattle.ft_laws_summaries.proofs.Lists.{each-found}
use Rattle.ft_msg.specs.declared.messages.Draft.{Draft}
use Rattle.ft_msg.specs.declared.messages.Entry.{Entry}
use Rattle.ft_msg.specs.Answers.{ReplicaState, RunsFor, with_queue}
use Rattle.ft_msg.specs.Client.{NaiveClient}
use Rattle.ft_msg.specs.Compacted.{StandsFor}
use Rattle.ft_msg.proofs.LinkSteps.{stands-link, stands-relinked}
use Rattle.ft_seqr.specs.declared.events.HowMany.{HowMany}
use Rattle.ft_seqr.specs.declared.events.HowMany.TheVariants.{All, Num}
use Rattle.ft_seqr.specs.declared.nacks.Nack.{Nack}
use Rattle.ft_seqr.specs.declared.refusals.Refusal.{Refusal}
use Rattle.ft_seqr.specs.declared.refusals.Refusal.TheVariants.{Nacked, NotConnected, NothingToTicket, OutOfMemory, Stopped}
use Rattle.ft_seqr.specs.Sequencer.{NaiveSequencer, submit}
use Rattle.ft_seqr.specs.World.{NaiveWorld, NamedClient, Nothing, Stepped, conn_of, in_place, is_client, logged, quietly, submit_all, ticket_client, ticket_sent, wanted_count, with_client}
use Rattle.ft_laws_sessions.proofs.MadeWorlds.{made-sends, made-within}
use Rattle.ft_session.specs.declared.outputs.Out.TheVariants as out
use Rattle.ft_session.specs.Services.{AnswersService, CanSubmit}
use Rattle.ft_seqr.specs.RefusalKinds.{MeansOf, refusal_kind}
use Rattle.ft_session.specs.Worlds.{AnswersClient, Meets, MeetsSome, MemberStands, MemberState, ServiceState, service_of}
use Rattle.ft_seqr.proofs.RefusalKinds.{means-weaker}
use Rattle.ft_session.proofs.OwnEvents.{member-stepped, with_replica}
use Rattle.ft_session.proofs.Placing.{member-grown}

-- what drafts that were numbered left behind: their messages in the log
pub record IsSubmitted (w v : NaiveWorld) : Type 0 where
  pub later : List Entry
  pub log : v.log ≡ w.log ++ later
  pub clients : v.clients ≡ w.clients
  pub guests : v.guests ≡ w.guests
  pub load : v.load ≡ w.load

pub submitted-leaves : (ds : List Draft) (w v : NaiveWorld) (conn : ℕ) → submit_all w conn ds ≡ Ok v → IsSubmitted w v
submitted-leaves [] w v conn h =
    let e : w ≡ v = (cc) in
    subst (IsSubmitted w) e (record { later = []; log = sym (append-nil w.log); clients = refl; guests = refl; load = refl })
submitted-leaves (d ∷ ds) w v conn h = by (submit w.sequencer conn d) (λ p g. submitted-leaves ds (logged p w) v conn g) h
  where
    by : (r : Result (NaiveSequencer × Entry) Nack) → ((p : NaiveSequencer × Entry) → submit_all (logged p w) conn ds ≡ Ok v → IsSubmitted (logged p w) v)
        → elim r as (λ _. Result NaiveWorld Refusal) [ Err nack ↦ Err (Nacked nack) | Ok p ↦ submit_all (logged p w) conn ds ] ≡ Ok v → IsSubmitted w v
    by (Err nack) ih g = (cc)
    by (Ok p) ih g =
        let s = ih p g in
        record { later = p.1 ∷ s.later; log = s.log ∙ append_assoc w.log (p.1 ∷ []) s.later; clients = s.clients; guests = s.guests; load = s.load }

-- one draft, and then the others
pub submitted-first : (w v : NaiveWorld) (conn : ℕ) (d : Draft) (ds : List Draft) → submit_all w conn (d ∷ ds) ≡ Ok v
    → (u : NaiveWorld) × (submit_all w conn (d ∷ []) ≡ Ok u) × (submit_all u conn ds ≡ Ok v)
submitted-first w v conn d ds h = by (submit w.sequencer conn d) h
  where
    by : (r : Result (NaiveSequencer × Entry) Nack) → elim r as (λ _. Result NaiveWorld Refusal) [ Err nack ↦ Err (Nacked nack) | Ok p ↦ submit_all (logged p w) conn ds ] ≡ Ok v
        → (u : NaiveWorld) × (elim r as (λ _. Result NaiveWorld Refusal) [ Err nack ↦ Err (Nacked nack) | Ok p ↦ Ok (logged p w) ] ≡ Ok u) × (submit_all u conn ds ≡ Ok v)
    by (Err nack) g = (cc)
    by (Ok p) g = (logged p w, refl, g)

-- ---- one after the other

-- the next draft, and then the others
rest-first : (k : ℕ) (conn : ℕ) (ds : List Draft) (w v : NaiveWorld) → submit_all w conn (take (suc k) ds) ≡ Ok v
    → (u : NaiveWorld) × (submit_all w conn (take 1 ds) ≡ Ok u) × (submit_all u conn (take k (drop 1 ds)) ≡ Ok v)
rest-first k conn [] w v h = (w, refl, nothing k)
  where
    nothing : (k : ℕ) → submit_all w conn (take k []) ≡ Ok v
    nothing zero = h
    nothing (suc k) = h
rest-first k conn (d ∷ ds) w v h = submitted-first w v conn d (take k ds) h

pub one-more : (count i conn : ℕ) (queue : List Draft) (w v : NaiveWorld) → i < count → submit_all w conn (take (count - i) (drop i queue)) ≡ Ok v
    → (u : NaiveWorld) × (submit_all w conn (take 1 (drop i queue)) ≡ Ok u) × (submit_all u conn (take (count - (i + 1)) (drop (i + 1) queue)) ≡ Ok v)
one-more count i conn queue w v l h =
    let k = count - (i + 1) in
    let e : count - i ≡ suc k = omega (arith, l) in
    let (u, a, b) = rest-first k conn (drop i queue) w v (subst (λ n. submit_all w conn (take n (drop i queue)) ≡ Ok v) e h) in
    (u, a, subst (λ ds. submit_all u conn (take k ds) ≡ Ok v) (drop-drop 1 i queue) b)

-- ---- the next draft

only-want : (why : Refusal) → MeansOf (refusal_kind why) ⊤ ⊥ → why ≡ OutOfMemory
only-want OutOfMemory h = refl
only-want Stopped h = absurd h
only-want _ h = absurd h

-- how many are wanted, there are
pub wanted-fits : (many : HowMany) (have n : ℕ) → wanted_count many have ≡ Some n → n ≤ have
wanted-fits All have n e = let q : have ≡ n = (cc) in omega (arith, q)
wanted-fits (Num k) have n e = by (nat_le k have) refl e
  where
    by : (b : Bool) → nat_le k have ≡ b → cond b (Some k) None ≡ Some n → n ≤ have
    by true t g = let q : k ≡ n = (cc) in grind (arith, nat_tests, t, q)
    by false t g = (cc)

module _ (conn : ℕ) (d : Draft) (queue : List Draft) (first : slice_get queue 0 ≡ Some d) (before after : ServiceState) where
  as-first : (w : NaiveWorld) → submit_all w conn (take 1 queue) ≡ submit_all w conn (d ∷ [])
  as-first w = by queue first
    where
      by : (ds : List Draft) → slice_get ds 0 ≡ Some d → submit_all w conn (take 1 ds) ≡ submit_all w conn (d ∷ [])
      by [] h = (cc)
      by (x ∷ ds) h = let e : x ≡ d = (cc) in ap (λ a. submit_all w conn (a ∷ [])) e

  same-after : (r : Result NaiveWorld Refusal) (u v : NaiveWorld) → r ≡ Ok u → r ≡ Ok v → u ≡ v
  same-after r u v h k = (cc)

  pub next-service : (result : Result (Unit {0}) Refusal) → ((w : NaiveWorld) → before ≡ service_of w → AnswersService before after (submit_all w conn (d ∷ [])) result)
      → (w v : NaiveWorld) → before ≡ service_of w → submit_all w conn (take 1 queue) ≡ Ok v → OnOk result (after ≡ service_of v)
  next-service (Ok done) f w v s h =
      let (u, e, q) = f w s in
      q ∙ ap service_of (same-after (submit_all w conn (d ∷ [])) u v e (sym (as-first w) ∙ h))
  next-service (Err why) f w v s h = tt

  never-refused : {A : Type 0} (r : Result NaiveWorld Refusal) (v : NaiveWorld) (why : Refusal) → r ≡ Ok v → r ≡ Err why → A
  never-refused r v why h k = (cc)

  pub next-memory : CanSubmit before conn (take 1 queue) → (result : Result (Unit {0}) Refusal)
      → ((w : NaiveWorld) → before ≡ service_of w → AnswersService before after (submit_all w conn (d ∷ [])) result) → OnErr result (result ≡ Err OutOfMemory)
  next-memory can (Ok done) f = tt
  next-memory can (Err why) f =
      ap Err (only-want why (means-weaker (refusal_kind why)
      (λ p. never-refused (submit_all can.world conn (d ∷ [])) can.after why (sym (as-first can.world) ∙ can.submits) p.1) (f can.world can.service)))

-- ---- the event

module _ (m : MemberState) (before : ServiceState) (many : HowMany) where
  abbrev wanted : NaiveWorld → NamedClient → ℕ → Option ℕ → Stepped
  wanted w c conn o = elim o [ None ↦ Err (NothingToTicket (length c.client.queue)) | Some n ↦ ticket_sent w c conn n ]

  abbrev linked : NaiveWorld → NamedClient → Option ℕ → Stepped
  linked w c o = elim o [ None ↦ Err NotConnected | Some conn ↦ wanted w c conn (wanted_count many (length c.client.queue)) ]

  pub ticket-offline : conn_of m.replica.client.link ≡ None → AnswersClient (λ w c. ticket_client w c many) m m before before (Err NotConnected)
  ticket-offline h = record {
    client = λ w c meets. (refl, refl, ap (linked w c) (ap conn_of (sym (stands-link m.replica.client c.client meets.member.replica.client).link) ∙ h));
  }

  module _ (conn : ℕ) (h : conn_of m.replica.client.link ≡ Some conn) where
    has-link : (w : NaiveWorld) (c : NamedClient) → Meets w c m before → conn_of c.client.link ≡ Some conn
    has-link w c meets = ap conn_of (sym (stands-link m.replica.client c.client meets.member.replica.client).link) ∙ h

    has-queue : (w : NaiveWorld) (c : NamedClient) → Meets w c m before → m.replica.client.queue ≡ c.client.queue
    has-queue w c meets = (stands-link m.replica.client c.client meets.member.replica.client).queue

    pub ticket-none : (have : ℕ) → have ≡ length m.replica.client.queue → wanted_count many have ≡ None
        → AnswersClient (λ w c. ticket_client w c many) m m before before (Err (NothingToTicket have))
    ticket-none have counted none = record {
      client = λ w c meets.
          let q = counted ∙ ap (λ (ds : List Draft). length ds) (has-queue w c meets) in
          (refl, refl, ap (linked w c) (has-link w c meets) ∙ ap (wanted w c conn) (ap (wanted_count many) (sym q) ∙ none) ∙ ap (λ k. Err (NothingToTicket k)) (sym q));
    }

    module _ (have n : ℕ) (counted : have ≡ length m.replica.client.queue) (chosen : wanted_count many have ≡ Some n) where
      some : wanted_count many (length m.replica.client.queue) ≡ Some n
      some = ap (wanted_count many) (sym counted) ∙ chosen

      -- all of them are numbered
      sends : (w : NaiveWorld) (c : NamedClient) → Meets w c m before → (v : NaiveWorld) × (submit_all w conn (take n m.replica.client.queue) ≡ Ok v)
      sends w c meets =
          let q = has-queue w c meets in
          let fits = wanted-fits many (length m.replica.client.queue) n some in
          let (v, e) = made-sends w meets.made c.name c conn n meets.found (has-link w c meets) (subst (λ (ds : List Draft). n ≤ length ds) q fits) in
          (v, ap (λ (ds : List Draft). submit_all w conn (take n ds)) q ∙ e)

      pub can-send : MeetsSome m before → CanSubmit before conn (take n m.replica.client.queue)
      can-send s = let (v, e) = sends s.world s.client s.meets in record { world = s.world; service = s.meets.service; after = v; submits = e }

      abbrev sent : NaiveWorld → NamedClient → Result NaiveWorld Refusal → Stepped
      sent w c r = elim r [ Err refusal ↦ Err refusal | Ok v ↦ quietly (with_client (record c { client = record c.client { queue = drop n c.client.queue } }) v) ]

      pub ticket-taken : (after : ServiceState) (new : ReplicaState)
          → ((w v : NaiveWorld) → before ≡ service_of w → submit_all w conn (take n m.replica.client.queue) ≡ Ok v → after ≡ service_of v)
          → new ≡ with_queue (drop n m.replica.client.queue) m.replica
          → AnswersClient (λ w c. ticket_client w c many) m (with_replica m new) before after (Ok out.Nothing)
      ticket-taken after new service state = record {
        client = λ w c meets.
            let t = meets.member in
            let q = has-queue w c meets in
            let (v, e) = sends w c meets in
            let k = submitted-leaves (take n m.replica.client.queue) w v conn e in
            let r = m.replica in
            let y : NaiveClient = record c.client { queue = drop n c.client.queue } in
            let d : NamedClient = record c { client = y } in
            let l = stands-link r.client c.client t.replica.client in
            let again = stands-relinked r.client.link r.client.conns r.client.next_client_seq (drop n r.client.queue) r.client c.client t.replica.client in
            let same : record c.client { link = r.client.link; conns = r.client.conns; next_client_seq = r.client.next_client_seq; queue = drop n r.client.queue } ≡ y =
            ap (λ i. record c.client { link = i; conns = r.client.conns; next_client_seq = r.client.next_client_seq; queue = drop n r.client.queue }) l.link
            ∙ ap (λ i. record c.client { conns = i; next_client_seq = r.client.next_client_seq; queue = drop n r.client.queue }) l.conns
            ∙ ap (λ i. record c.client { next_client_seq = i; queue = drop n r.client.queue }) l.next ∙ ap (λ i. record c.client { queue = drop n i }) l.queue in
            let runs : RunsFor (with_queue (drop n r.client.queue) r) y = record { running = t.replica.running; client = subst (λ z. StandsFor (with_queue (drop n r.client.queue) r).client z) same again } in
            let stands : MemberStands w.log (with_replica m new) d =
            subst (λ s. MemberStands w.log (with_replica m s) d) (sym state) (member-stepped w.log m (with_queue (drop n r.client.queue) r) c y t runs refl refl) in
            let within = (each-found (λ (b : NamedClient). b.client.doc.number ≤ length w.log) (is_client c.name) w.clients c meets.found (made-within w meets.made)).0 in (
              (with_client d v, Nothing),
              ap (linked w c) (has-link w c meets) ∙ ap (wanted w c conn) (ap (λ (ds : List Draft). wanted_count many (length ds)) (sym q) ∙ some)
                  ∙ ap (sent w c) (ap (λ (ds : List Draft). submit_all w conn (take n ds)) (sym q) ∙ e),
              record {
                client = d;
                name = refl;
                member = subst (λ log. MemberStands log (with_replica m new) d) (sym k.log) (member-grown w.log k.later (with_replica m new) d within stands);
                clients = ap (map (in_place d)) k.clients;
                guests = k.guests;
                service = service w v meets.service e;
                later = k.later;
                log = k.log;
                load = k.load;
              },
              tt,
            );
      }
