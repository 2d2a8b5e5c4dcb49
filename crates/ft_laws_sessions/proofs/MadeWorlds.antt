-- What holds of a world that well-formed events made.
use Rattle.std.proofs.Common.{◌≡◌, ℕ, ◌+◌, ◌≤◌, ◌<◌, ◌^◌, Bool, true, false, cond, ◌||◌, bytes_eq, List, [], ◌∷◌, ◌++◌, length, take, drop, Option, Some, None, Ok, Err, map, find, refl, sym, ◌∙◌, ap, subst, arith, lt-ltb}
use Rattle.std.specs.List.{list_any}
use Rattle.std.proofs.lemmas.List.{take-append-drop}
use Rattle.ft_op.specs.Document.{empty}
use Rattle.ft_props.specs.Properties.{Characters}
use Rattle.ft_sumdoc.specs.Counts.{are_distinct_names}
use Rattle.ft_sumdoc.specs.WellFormed.{IsWellCut}
use Rattle.ft_msg.specs.declared.messages.Draft.{Draft}
use Rattle.ft_msg.specs.declared.messages.Entry.{Entry}
use Rattle.ft_msg.specs.declared.views.Link.{Link}
use Rattle.ft_msg.specs.declared.views.Link.TheVariants.{Offline, Joining, Online}
use Rattle.ft_msg.specs.Client.{NaiveClient, client_over}
use Rattle.ft_msg.specs.ClientSteps.{ClientStep, is_none_pending, is_without_edits}
use Rattle.ft_msg.specs.Reached.{IsReached, from_nothing}
use Rattle.ft_msg.specs.SummaryOf.{summary_of}
use Rattle.ft_msg.specs.WellFormed.{IsWellFormedBody, IsWellFormedDraft, IsWellFormedMessage}
use Rattle.ft_seqr.specs.declared.events.Event.{Event}
use Rattle.ft_seqr.specs.Sequencer.{JoinedConnection, NaiveSequencer, is_joined}
use Rattle.ft_seqr.specs.WellFormedEvent.{IsWellFormedEvent}
use Rattle.ft_seqr.specs.World.{NamedClient, NaiveWorld, Output, Stepped, ahead_of, conn_of, connection_name, greatest_origin, in_place, is_client, known_names, left, logged, name_fault, new_world, next_conn, processed, step, submit_all, world_after, world_of}
use Rattle.ft_laws_agreement.specs.Agreement.{IsRun}
use Rattle.ft_laws_agreement.specs.Sequencing.{Each}
use Rattle.ft_laws_summaries.proofs.FormedClients.{IsFormed}
use Rattle.ft_laws_summaries.proofs.Lists.{each-found, each-taken, each-weaker}
use Rattle.ft_laws_sessions.specs.FormedLogs.{AllMayBeTaken, MayBeTaken}
use Rattle.ft_laws_sessions.specs.MadeWorlds.{IsMade}
use Rattle.ft_laws_sessions.specs.NewNames.{IsNewName}
use Rattle.ft_laws_sessions.proofs.ClientEvents.{linked-joined, served-restarts, served-sends}
use Rattle.ft_laws_sessions.proofs.FormedLaws.{entries-are-well_formed}
use Rattle.ft_laws_sessions.proofs.FormedReads.{submission-formed}
use Rattle.ft_laws_sessions.proofs.KeptLoad.{step-loads}
use Rattle.ft_laws_sessions.proofs.Links.{IsLinked}
use Rattle.ft_laws_sessions.proofs.LoadLaws.{each-below, each-costs, leads-count}
use Rattle.ft_laws_sessions.proofs.NameLaws.{connections-have-new_names, guests-have-new_names}
use Rattle.ft_laws_sessions.proofs.Orders.{IsBase, gone, leads-up, submit-sequenced}
use Rattle.ft_laws_sessions.proofs.Owing.{AreDistinct, debt, entry_cost, owing, owing_of, total, total-append}
use Rattle.ft_laws_sessions.proofs.Served.{IsServed}
use Rattle.ft_laws_sessions.proofs.ValidLaws.{greatest-low, summaries-are-well_cut}
use Rattle.ft_laws_sessions.proofs.WorldEvents.{IsReachedWorld, Serves, ahead-is, debt-is, first-reached, found-name, found-serves, found-submits, left-found, processes-all, reaches}
use Rattle.ft_laws_sessions.proofs.WorldLaws.{world-reached}

-- ---- what is known of such a world

made-world : (w : NaiveWorld) → IsMade w → IsReachedWorld ⊥ 0 w
made-world w m = subst (IsReachedWorld ⊥ 0) m.made (world-reached m.events)

-- with what is known where the events were well formed
formed-world : (w : NaiveWorld) → IsMade w → IsReachedWorld (Unit {0}) 0 w
formed-world w m = subst (IsReachedWorld (Unit {0}) 0) m.made (reaches (Unit {0}) m.events new_world (first-reached (Unit {0})) (λ f. m.taken))

-- ---- how worlds are made

pub made-first : IsMade new_world
made-first = record { events = []; taken = tt; made = refl; load = omega arith }

one-more : (events : List Event) (w : NaiveWorld) (e : Event) → world_of w (events ++ (e ∷ [])) ≡ world_after (world_of w events) e
one-more [] w e = refl
one-more (first ∷ events) w e = one-more events (world_after w first) e

one-more-taken : (events : List Event) (w : NaiveWorld) (e : Event) → AllMayBeTaken w events → MayBeTaken (world_of w events) e → AllMayBeTaken w (events ++ (e ∷ []))
one-more-taken [] w e h may = (may, tt)
one-more-taken (first ∷ events) w e h may = (h.0, one-more-taken events (world_after w first) e h.1 may)

pub made-next : (w : NaiveWorld) → IsMade w → (e : Event) → IsWellFormedEvent e → (p : NaiveWorld × Output) → step w e ≡ Ok p → p.0.load ≤ 2 ^ 52 → IsMade p.0
made-next w m e formed p h low =
    let loads = step-loads w e p h in
    let may : MayBeTaken w e = record { event = formed; text = submission-formed e; load = omega (arith, loads, low) } in
    let after : world_after w e ≡ p.0 = ap (λ (s : Stepped). elim s [ Err refusal ↦ w | Ok q ↦ q.0 ]) h in
    record {
      events = m.events ++ (e ∷ []);
      taken = one-more-taken m.events new_world e m.taken (subst (λ v. MayBeTaken v e) (sym m.made) may);
      made = one-more m.events new_world e ∙ (ap (λ v. world_after v e) m.made ∙ after);
      load = low;
    }

-- ---- clients

names-any : (name : Characters) (cs : List NamedClient) → list_any (bytes_eq name) (map (λ (c : NamedClient). c.name) cs) ≡ list_any (is_client name) cs
names-any name [] = refl
names-any name (c ∷ cs) = ap (λ b. bytes_eq name c.name || b) (names-any name cs)

distinct-names : (cs : List NamedClient) → AreDistinct cs → are_distinct_names (map (λ (c : NamedClient). c.name) cs) ≡ true
distinct-names [] h = refl
distinct-names (c ∷ cs) h = rw (names-any c.name cs ∙ h.0, distinct-names cs h.1) refl

pub made-distinct : (w : NaiveWorld) → IsMade w → are_distinct_names (map (λ (c : NamedClient). c.name) w.clients) ≡ true
made-distinct w m = distinct-names w.clients (made-world w m).distinct

-- a client that went from the empty document on
run-reached : (x : NaiveClient) (steps : List ClientStep) → IsRun steps x → IsReached x
run-reached x steps run = record { start = empty; starts = from_nothing; steps = steps; made = run.made; bodies = run.bodies }

pub made-reached : (w : NaiveWorld) → IsMade w → Each (λ c. IsReached c.client) w.clients
made-reached w m =
    let r = made-world w m in
    each-weaker (Serves ⊥ r.owner (length w.names) w.sequencer w.log) (λ (c : NamedClient). IsReached c.client)
    (λ c s. run-reached c.client s.served.steps s.served.run) w.clients r.clients

pub made-within : (w : NaiveWorld) → IsMade w → Each (λ c. c.client.doc.number ≤ length w.log) w.clients
made-within w m =
    let r = made-world w m in
    let count = leads-count w.log 0 0 w.sequencer.number w.sequencer.minimum r.base.order in
    each-weaker (Serves ⊥ r.owner (length w.names) w.sequencer w.log) (λ (c : NamedClient). c.client.doc.number ≤ length w.log)
    (λ c s. let up = leads-up s.rest c.client.doc.number c.client.doc.minimum w.sequencer.number w.sequencer.minimum s.served.order in omega (arith, up, count))
    w.clients r.clients

-- ---- the log and the names

pub made-formed : (w : NaiveWorld) → IsMade w → Each (λ entry. IsWellFormedMessage entry.msg) w.log
made-formed w m = subst (λ (v : NaiveWorld). Each (λ (entry : Entry). IsWellFormedMessage entry.msg) v.log) m.made (entries-are-well_formed m.events m.taken)

pub made-known : (w : NaiveWorld) → IsMade w → (n : ℕ) → greatest_origin (take n w.log) ≤ length w.names
made-known w m n =
    let r = made-world w m in
    greatest-low (take n w.log) 0 (length w.names) (omega arith) (each-taken (λ e. e.origin ≤ length w.names) n w.log r.base.origins)

pub made-connection : (w : NaiveWorld) → IsMade w → (name : Characters) (c : NamedClient) → find (is_client name) w.clients ≡ Some c → next_conn w < 2 ^ 64
    → IsNewName w.names (connection_name c.name (c.connects + 1))
made-connection w m name c =
    subst (λ (v : NaiveWorld). find (is_client name) v.clients ≡ Some c → next_conn v < 2 ^ 64 → IsNewName v.names (connection_name c.name (c.connects + 1))) m.made
    (connections-have-new_names m.events name c)

pub made-guest : (w : NaiveWorld) → IsMade w → (name : Characters) → name_fault w name ≡ None → next_conn w < 2 ^ 64 → IsNewName w.names (connection_name name 1)
made-guest w m name =
    subst (λ (v : NaiveWorld). name_fault v name ≡ None → next_conn v < 2 ^ 64 → IsNewName v.names (connection_name name 1)) m.made (guests-have-new_names m.events name)

-- ---- what a client takes and sends

pub made-takes : (w : NaiveWorld) → IsMade w → (name : Characters) (c : NamedClient) (conn n : ℕ) → find (is_client name) w.clients ≡ Some c
    → conn_of c.client.link ≡ Some conn → n ≤ length (ahead_of w c.client) → (y : NaiveClient) × (processed c.client (take n (ahead_of w c.client)) ≡ Ok y)
made-takes w m name c conn n f k l =
    let r = made-world w m in
    let s = found-serves ⊥ w r name c f in
    let t = processes-all ⊥ r.owner (length w.names) w.sequencer w.log c.name (take n s.rest) (drop n s.rest) c.client
    (subst (λ es. IsServed r.owner (length w.names) w.sequencer w.log c.name es c.client) (sym (take-append-drop n s.rest)) s.served) s.formed (λ f. absurd f) in
    (t.y, ap (λ es. processed c.client (take n es)) (ahead-is ⊥ r.owner w c s.rest s.served) ∙ t.takes)

pub made-sends : (w : NaiveWorld) → IsMade w → (name : Characters) (c : NamedClient) (conn n : ℕ) → find (is_client name) w.clients ≡ Some c
    → conn_of c.client.link ≡ Some conn → n ≤ length c.client.queue → (v : NaiveWorld) × (submit_all w conn (take n c.client.queue) ≡ Ok v)
made-sends w m name c conn n f k l =
    let r = made-world w m in
    let t = found-submits ⊥ w r c (found-serves ⊥ w r name c f) conn k n in
    (t.v, t.submits)

pub made-left : (w : NaiveWorld) → IsMade w → (name : Characters) (c : NamedClient) (conn : ℕ) → find (is_client name) w.clients ≡ Some c
    → conn_of c.client.link ≡ Some conn → (v : NaiveWorld) × (left conn w ≡ Some v)
made-left w m name c conn f k =
    let r = made-world w m in
    let s = found-serves ⊥ w r name c f in
    let x = c.client in
    let l = (linked-joined x.conns x.doc.number x.next_client_seq x.queue x.pending s.rest w.sequencer conn x.link k s.served.link).0 in
    (logged (gone w.sequencer conn l.j) w, left-found ⊥ w conn l.j l.has.joined)

-- ---- a client with nothing pending

pub made-start : (w : NaiveWorld) → IsMade w → (name from : Characters) (c : NamedClient) → name_fault w name ≡ None → find (is_client from) w.clients ≡ Some c
    → c.client.pending ≡ [] → IsReached (client_over c.client.doc)
made-start w m name from c u f none =
    let r = made-world w m in
    let s = found-serves ⊥ w r from c f in
    let t = served-restarts r.owner (length w.names) w.sequencer w.log c.name name s.rest c.client none s.served in
    run-reached (client_over c.client.doc) t.steps t.run

pub made-cut : (w : NaiveWorld) → IsMade w → (name : Characters) (c : NamedClient) → find (is_client name) w.clients ≡ Some c → c.client.pending ≡ []
    → IsWellCut (summary_of (known_names w c.client) c.client.doc)
made-cut w m name c f none =
    let low = m.load in
    subst (λ (v : NaiveWorld). find (is_client name) v.clients ≡ Some c → is_without_edits c.client ≡ true → v.load < 2 ^ 53
    → IsWellCut (summary_of (known_names v c.client) c.client.doc)) m.made (summaries-are-well_cut m.events name c) f (ap is_none_pending none) (omega (arith, low))

-- ---- drafts

-- the drafts of a client in order, where what the log cost and the client owes is at most k
drafts-formed : (k : ℕ) (owner : ℕ → Option Characters) (count : ℕ) (ds : List Draft) (q : NaiveSequencer) (log : List Entry) (name : Characters)
    (rest : List Entry) (x : NaiveClient) (conn : ℕ) → k < 2 ^ 53 → IsBase count q log → conn_of x.link ≡ Some conn → x.queue ≡ ds
    → IsServed owner count q log name rest x → total entry_cost log + owing_of x rest ≤ k → IsFormed x → Each IsWellFormedDraft ds
drafts-formed k owner count [] q log name rest x conn small b c u s low formed = tt
drafts-formed k owner count (d ∷ ds) q log name rest x conn small b c u s low formed =
    let t = served-sends owner count q log name rest x conn d ds b c u s in
    let i = submit-sequenced q conn d t.p t.submits in
    let last = (each-found (λ (j : JoinedConnection). j.client_seq ≤ q.number) (is_joined conn) q.joined i.j i.found b.sent).0 in
    let next = i.accepted.next in
    let below = i.accepted.below in
    let number = leads-count log 0 0 q.number q.minimum b.order in
    let cost = each-costs log in
    let more = total-append entry_cost log (t.p.1 ∷ []) in
    let queued : owing_of x rest ≡ owing x.conns rest x.pending (d ∷ ds) = ap (owing x.conns rest x.pending) u in
    let owes = t.owes in
    let here : IsWellFormedDraft d = record {
      client_seq = lt-ltb d.client_seq (2 ^ 53) (omega (arith, small, last, next, number, cost, queued, owes, low));
      ref_seq = lt-ltb d.ref_seq (2 ^ 53) (omega (arith, small, below, number, cost, low));
      body = subst IsWellFormedBody (ap (λ (z : NaiveSequencer × Entry). z.1.msg.body) i.same) (t.formed formed);
    } in (
      here,
      drafts-formed k owner count ds t.p.0 (log ++ (t.p.1 ∷ [])) name (rest ++ (t.p.1 ∷ [])) (record x { queue = ds }) conn small t.logged.base c refl t.served
          (omega (arith, more, queued, owes, low)) formed,
    )

-- those of a client
queue-formed : (w : NaiveWorld) (r : IsReachedWorld (Unit {0}) 0 w) (c : NamedClient) → w.load ≤ 2 ^ 52
    → Serves (Unit {0}) r.owner (length w.names) w.sequencer w.log c → debt w.log c ≤ total (debt w.log) w.clients → Each IsWellFormedDraft c.client.queue
queue-formed w r c low s less = by c.client.link refl s.served.link
  where
    sent : (conn : ℕ) → conn_of c.client.link ≡ Some conn → Each IsWellFormedDraft c.client.queue
    sent conn h =
        let owes : debt w.log c ≡ owing_of c.client s.rest =
        debt-is (Unit {0}) r.owner (length w.names) w.sequencer w.log c.name s.rest c.client s.served in
        let paid = r.paid in
        drafts-formed w.load r.owner (length w.names) c.client.queue w.sequencer w.log c.name s.rest c.client conn (omega (arith, low)) r.base h refl s.served
        (omega (arith, owes, paid, less)) (s.formed tt)

    by : (k : Link) → c.client.link ≡ k
        → IsLinked c.client.conns c.client.doc.number c.client.next_client_seq c.client.queue c.client.pending s.rest w.sequencer k
        → Each IsWellFormedDraft c.client.queue
    by Offline e l = subst (Each IsWellFormedDraft) (sym l.unsent) tt
    by (Joining conn) e l = sent conn (ap conn_of e)
    by (Online conn) e l = sent conn (ap conn_of e)

pub made-queue : (w : NaiveWorld) → IsMade w → Each (λ c. Each IsWellFormedDraft c.client.queue) w.clients
made-queue w m =
    let r = formed-world w m in
    each-below (debt w.log) (Serves (Unit {0}) r.owner (length w.names) w.sequencer w.log) (λ (c : NamedClient). Each IsWellFormedDraft c.client.queue)
    (total (debt w.log) w.clients) (λ c s less. queue-formed w r c m.load s less) w.clients (omega arith) r.clients

-- ---- a client in its place

none-placed : (d : NamedClient) (cs : List NamedClient) → list_any (is_client d.name) cs ≡ false → map (in_place d) cs ≡ cs
none-placed d [] h = refl
none-placed d (c ∷ cs) h = by (is_client d.name c) h (none-placed d cs)
  where
    by : (b : Bool) → b || list_any (is_client d.name) cs ≡ false → (list_any (is_client d.name) cs ≡ false → map (in_place d) cs ≡ cs)
        → cond b d c ∷ map (in_place d) cs ≡ c ∷ cs
    by true k ih = (cc)
    by false k ih = ap (λ xs. c ∷ xs) (ih k)

found-placed : (name : Characters) (c : NamedClient) (cs : List NamedClient) → name ≡ c.name → AreDistinct cs → find (is_client name) cs ≡ Some c → map (in_place c) cs ≡ cs
found-placed name c [] s a h = (cc)
found-placed name c (x ∷ cs) s a h = by (is_client name x) refl h (found-placed name c cs s a.1)
  where
    placed : (b : Bool) → x ≡ c → cond b c x ≡ x
    placed true e = sym e
    placed false e = refl

    by : (b : Bool) → is_client name x ≡ b → cond b (Some x) (find (is_client name) cs) ≡ Some c
        → (find (is_client name) cs ≡ Some c → map (in_place c) cs ≡ cs) → cond (is_client c.name x) c x ∷ map (in_place c) cs ≡ x ∷ cs
    by true e k ih =
        let here : x ≡ c = (cc) in
        let none : list_any (is_client c.name) cs ≡ false = ap (λ (z : NamedClient). list_any (is_client z.name) cs) (sym here) ∙ a.0 in
        ap (λ y. y ∷ map (in_place c) cs) (placed (is_client c.name x) here) ∙ ap (λ xs. x ∷ xs) (none-placed c cs none)
    by false e k ih =
        let other : is_client c.name x ≡ false = ap (λ n. is_client n x) (sym s) ∙ e in
        ap (λ b. cond b c x ∷ map (in_place c) cs) other ∙ ap (λ xs. x ∷ xs) (ih k)

pub placed-same : (w : NaiveWorld) → IsMade w → (name : Characters) (c : NamedClient) → find (is_client name) w.clients ≡ Some c → map (in_place c) w.clients ≡ w.clients
placed-same w m name c f =
    let named = found-name ⊥ w.clients c (record { name = name; found = f }) in
    found-placed name c w.clients named (made-world w m).distinct f
