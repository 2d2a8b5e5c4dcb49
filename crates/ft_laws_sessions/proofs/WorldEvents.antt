-- Each event keeps what is known of a world, and has no refusal but those of its row.
use Rattle.std.proofs.Common.{◌≡◌, ℕ, ◌+◌, ◌≤◌, ◌<◌, ◌^◌, Bool, true, false, cond, ◌&&◌, ◌||◌, nat_eq, nat_le, nat_lt, List, [], ◌∷◌, ◌++◌, bytes_eq, encode_utf8_all, length, take, drop, Option, Some, None, Result, Ok, Err, map, find, option_map, refl, sym, ◌∙◌, ap, subst, arith}
use Rattle.std.specs.List.{list_any}
use Rattle.std.proofs.lemmas.List.{length-append, take-append-drop, drop_at}
use Rattle.std.proofs.lemmas.Slice.Eq.{bytes_eq-Decides}
use Rattle.ft_op.specs.declared.operations.ChannelOp.{ChannelOp}
use Rattle.ft_msg.specs.declared.faults.Cause.{Cause}
use Rattle.ft_msg.specs.declared.faults.Cause.TheVariants as cause
use Rattle.ft_msg.specs.declared.faults.EditFault.{EditFault}
use Rattle.ft_msg.specs.declared.faults.EditFault.TheVariants as edit
use Rattle.ft_msg.specs.declared.faults.LinkFault.{LinkFault}
use Rattle.ft_msg.specs.declared.faults.LinkFault.TheVariants as link
use Rattle.ft_msg.specs.declared.faults.ProcessFault.{ProcessFault}
use Rattle.ft_msg.specs.declared.messages.Body.TheVariants as bodies
use Rattle.ft_msg.specs.declared.messages.Draft.{Draft}
use Rattle.ft_msg.specs.declared.messages.Entry.{Entry}
use Rattle.ft_msg.specs.declared.messages.Message.{Message}
use Rattle.ft_msg.specs.declared.views.Link.{Link}
use Rattle.ft_msg.specs.declared.views.Link.TheVariants.{Offline, Joining, Online}
use Rattle.ft_seqr.specs.declared.events.HowMany.{HowMany}
use Rattle.ft_seqr.specs.declared.events.Event.{Event}
use Rattle.ft_seqr.specs.declared.events.Event.TheVariants as event
use Rattle.ft_seqr.specs.declared.nacks.Nack.{Nack}
use Rattle.ft_seqr.specs.declared.refusals.Refusal.{Refusal}
use Rattle.ft_seqr.specs.declared.refusals.Refusal.TheVariants.{ClientLimit, NameInUse, NotConnected as Parted, Foreign, Nacked, NothingToDeliver, NothingToTicket, OutOfOrder, OutOfRange, UnknownClient}
use Rattle.ft_props.specs.Properties.{Characters}
use Rattle.ft_op.specs.Document.{Document, empty}
use Rattle.serde_json.specs.Data.{Data}
use Rattle.ft_msg.specs.Applied.{applied}
use Rattle.ft_msg.specs.Blame.{blame}
use Rattle.ft_msg.specs.Content.{content}
use Rattle.ft_msg.specs.Client.{NaiveClient, PendingEdit, client_over, connect, drop_link, local_edit, noop}
use Rattle.ft_msg.specs.MessageGrammar.{draft, message}
use Rattle.ft_msg.specs.Process.{is_op_kind}
use Rattle.ft_seqr.specs.Refusals.{refusal_number, refusal_of_cause, refusal_of_edit, refusal_of_link, refusal_of_process}
use Rattle.ft_seqr.specs.SameMessage.{same_message}
use Rattle.ft_seqr.specs.Sequencer.{JoinedConnection, NaiveSequencer, is_joined, join, submit}
use Rattle.ft_seqr.specs.SessionReport.{as_applied, as_shown, head_line, output_lines}
use Rattle.ft_seqr.specs.ViewLines.{content_lines}
use Rattle.ft_seqr.specs.World.{Nothing, Texts, View, NamedClient, NamedGuest, NaiveWorld, Output, Stepped, ahead_of, blame_client, body_load, conn_of, connect_client, connection_name, wanted_count, deliver_client, drop_client, edit_client, enter_guest, happen, in_place, is_client, is_guest, joined, left, loaded, logged, new_world, next_conn, noop_client, now, of_client, of_guest, offer_client, offer_message, offer_next, op_load, part_guest, processed, quietly, start_client, started, step, submit_draft, submit_guest, submit_all, text_load, ticket_client, unless_pending, with_client, with_name, world_after, world_of}
use Rattle.ft_laws_agreement.specs.Sequencing.{Each}
use Rattle.ft_laws_agreement.proofs.CountedEntries.{entries-counted}
use Rattle.ft_laws_agreement.proofs.EveryClientReady.{pending-stays-on_top}
use Rattle.ft_laws_agreement.proofs.NumberTests.{same_number}
use Rattle.ft_laws_sessions.specs.Worlds.{refusals_of}
use Rattle.ft_laws_summaries.proofs.Lists.{each-any, each-found, each-more, each-weaker}
use Rattle.ft_laws_sessions.proofs.Orders.{IsBase, gone, leave-found, submit-sequenced}
use Rattle.ft_laws_sessions.proofs.Links.{is_owed, owed}
use Rattle.ft_laws_sessions.proofs.Owing.{AreDistinct, OthersSame, behind, behind-none, body-loaded, body_count, body_inserts, debt, distinct-more, distinct-placed, each-within, edit_cost, entry_cost, inserts-loaded, owing, owing-more, owing_of, total, total-append, total-placed, total-same}
use Rattle.ft_msg.specs.Agreed.{agreed}
use Rattle.ft_laws_sessions.proofs.SkippedEntries.{entry-skips}
use Rattle.ft_laws_sessions.proofs.Served.{IsOwned, IsServed, served-known, served-more, served-takes}
use Rattle.ft_laws_sessions.proofs.ConnectionNames.{IsFound, IsNamed, IsUnused, named-connected, named-entered, named-placed, named-started}
use Rattle.ft_laws_sessions.proofs.EditFaults.{edit-fault, is_edit_fault}
use Rattle.ft_laws_sessions.proofs.ClientEvents.{IsLogged, connect-owes, drop-made, edit-owes, join-logged, leave-logged, linked-joined, noop-owes, owner-new, owner-old, rest-known, sequence-logged, served-connects, served-drops, served-edits, served-idles, served-new, served-restarts, served-sends, with_owner}
use Rattle.ft_msg.specs.WellFormed.{IsWellFormedBody}
use Rattle.ft_msg.specs.Acknowledgement.{after_own_message}
use Rattle.ft_msg.specs.Process.{after_entry, after_foreign_message, come_online, is_op, is_own, is_own_join, process, process_fault}
use Rattle.ft_laws_agreement.specs.Sequencing.{IsReady}
use Rattle.ft_laws_agreement.proofs.EveryClientReady.{every-client-ready}
use Rattle.ft_laws_agreement.proofs.ReconnectedClient.{reconnection-keeps-views}
use Rattle.ft_laws_sessions.specs.FormedLogs.{AllMayBeTaken, MayBeTaken}
use Rattle.ft_laws_summaries.proofs.FormedClients.{IsFormed, IsFormedEdit, edit-formed, foreign-formed, join-formed, own-formed}
use Rattle.ft_laws_sessions.proofs.Sizes.{served-sized}

module _ (F : Type 0) where
  -- ---- what is known of a world

  -- a client took the first messages of the log
  pub record Serves (owner : ℕ → Option Characters) (count : ℕ) (q : NaiveSequencer) (log : List Entry) (c : NamedClient) : Type 0 where
    pub rest : List Entry
    pub served : IsServed owner count q log c.name rest c.client
    pub formed : F → IsFormed c.client

  -- a guest's connection is no client's
  pub record IsGuest (owner : ℕ → Option Characters) (count : ℕ) (g : NamedGuest) : Type 0 where
    pub by : owner g.conn ≡ None
    pub known : g.conn ≤ count

  -- what the log and the clients have cost, and what was skipped, is at most the load and so much more
  abbrev pub IsPaid : ℕ → List Entry → List NamedClient → Type 0
  IsPaid n log clients = total entry_cost log + total (debt log) clients + (agreed log).skipped ≤ n

  pub record IsReachedWorld (more : ℕ) (w : NaiveWorld) : Type 0 where
    pub owner : ℕ → Option Characters
    pub base : IsBase (length w.names) w.sequencer w.log
    pub clients : Each (Serves owner (length w.names) w.sequencer w.log) w.clients
    pub guests : Each (IsGuest owner (length w.names)) w.guests
    pub named : IsNamed (length w.names) w.clients w.guests w.names
    pub distinct : AreDistinct w.clients
    pub paid : IsPaid (w.load + more) w.log w.clients
    pub bodies : F → Each (λ e. IsWellFormedBody e.msg.body) w.log
    pub bound : F → w.load + more < 2 ^ 53

  -- a client of a world, with what is known of it
  pub record Meets (w : NaiveWorld) (r : IsReachedWorld 0 w) (c : NamedClient) : Type 0 where
    pub rest : List Entry
    pub served : IsServed r.owner (length w.names) w.sequencer w.log c.name rest c.client
    pub formed : F → IsFormed c.client
    pub found : IsFound w.clients c

  -- the same is known of the world after an event, and what the event writes is the same in both forms
  pub record IsTurned (more : ℕ) (w : NaiveWorld) (output : Output) : Type 0 where
    pub reached : IsReachedWorld more w
    pub same : output_lines as_shown w output ≡ output_lines as_applied w output

  -- the event is taken, or it has a refusal of its row
  abbrev pub Turns : ℕ → Event → Stepped → Type 0
  Turns more e (Err refusal) = list_any (nat_eq (refusal_number refusal)) (refusals_of e) ≡ true
  Turns more e (Ok p) = IsTurned more p.0 p.1

  -- and what it adds to the load pays for it
  abbrev pub Goes : Event → Stepped → Type 0
  Goes e s = Turns (1 + text_load e) e s

  -- an event that writes nothing
  quiet-turn : (more : ℕ) (w : NaiveWorld) → IsReachedWorld more w → IsTurned more w Nothing
  quiet-turn more w r = record { reached = r; same = refl }

  reached-more : (m n : ℕ) (w : NaiveWorld) → m ≤ n → (F → w.load + n < 2 ^ 53) → IsReachedWorld m w → IsReachedWorld n w
  reached-more m n w l b r = record {
    bodies = r.bodies;
    bound = b;
    owner = r.owner;
    base = r.base;
    clients = r.clients;
    guests = r.guests;
    named = r.named;
    distinct = r.distinct;
    paid = let p = r.paid in omega (arith, p, l);
  }

  -- an event that writes JSON values
  texts-turn : (more : ℕ) (w : NaiveWorld) (values : List Data) → (F → w.load + more < 2 ^ 53) → IsReachedWorld 0 w → IsTurned more w (Texts values)
  texts-turn more w values b r = record { reached = reached-more 0 more w (omega arith) b r; same = refl }

  -- ---- one client changes, and no message is numbered

  -- another client than the one of this name
  abbrev pub Others : Characters → (NamedClient → Type 0) → List NamedClient → Type 0
  Others name P cs = Each (λ c. is_client name c ≡ false → P c) cs

  others-all : (name : Characters) (P : NamedClient → Type 0) (cs : List NamedClient) → Each P cs → Others name P cs
  others-all name P cs h = each-weaker P (λ c. is_client name c ≡ false → P c) (λ c p e. p) cs h

  placed : (P : NamedClient → Type 0) (d : NamedClient) (cs : List NamedClient) → Others d.name P cs → P d → Each P (map (in_place d) cs)
  placed P d [] h p = tt
  placed P d (c ∷ cs) h p = (by (is_client d.name c) refl, placed P d cs h.1 p)
    where
      by : (b : Bool) → is_client d.name c ≡ b → P (cond b d c)
      by true e = p
      by false e = h.0 e

  -- the world with the client in its place
  -- a client that keeps its name and its connections
  same-named : (count : ℕ) (clients : List NamedClient) (guests : List NamedGuest) (names : List Characters) (c : NamedClient) (x : NaiveClient)
      → IsFound clients c → IsNamed count clients guests names
      → IsNamed count (map (in_place (record c { client = x })) clients) guests names
  same-named count clients guests names c x i h =
      named-placed count clients guests names c (record c { client = x }) i refl (omega arith)
      (each-found (λ (a : NamedClient). a.connects ≤ count) (is_client i.name) clients c i.found h.counted).0 h

  -- the name under which a client is found is its own
  pub found-name : (clients : List NamedClient) (c : NamedClient) (i : IsFound clients c) → i.name ≡ c.name
  found-name clients c i = (bytes_eq-Decides i.name c.name).0 (each-found (λ (a : NamedClient). Unit {0}) (is_client i.name) clients c i.found (units clients)).1
    where
      units : (cs : List NamedClient) → Each (λ (a : NamedClient). Unit {0}) cs
      units [] = tt
      units (a ∷ cs) = (tt, units cs)

  -- what a client that took the log but for the rest owes
  pub debt-is : (owner : ℕ → Option Characters) (count : ℕ) (q : NaiveSequencer) (log : List Entry) (name : Characters) (rest : List Entry) (x : NaiveClient)
      → IsServed owner count q log name rest x
      → owing_of x (drop x.doc.number log) ≡ owing_of x rest
  debt-is owner count q log name rest x s = ap (owing_of x) (ap (drop x.doc.number) (sym s.entries) ∙ drop_at _ rest x.doc.number (sym (entries-counted s.steps x s.run.made)))

  same-debts : (name : Characters) (f : NamedClient → ℕ) (cs : List NamedClient) → OthersSame name f f cs
  same-debts name f [] = tt
  same-debts name f (c ∷ cs) = (λ e. refl, same-debts name f cs)

  pub own-step : (w : NaiveWorld) (r : IsReachedWorld 0 w) (c : NamedClient) (x : NaiveClient) (m : Meets w r c)
      (s : Serves r.owner (length w.names) w.sequencer w.log (record c { client = x })) (k : ℕ)
      → owing_of x s.rest ≤ owing_of c.client m.rest + k → (F → w.load + k < 2 ^ 53) → IsReachedWorld k (with_client (record c { client = x }) w)
  own-step w r c x m s k h b =
      let d : NamedClient = record c { client = x } in
      let placed_sum = total-placed (debt w.log) (debt w.log) m.found.name c d w.clients r.distinct m.found.found (sym (found-name w.clients c m.found))
      (same-debts m.found.name (debt w.log) w.clients) in
      let before : debt w.log c ≡ owing_of c.client m.rest = debt-is r.owner (length w.names) w.sequencer w.log c.name m.rest c.client m.served in
      let after : debt w.log d ≡ owing_of x s.rest = debt-is r.owner (length w.names) w.sequencer w.log c.name s.rest x s.served in
      let p = r.paid in
      record {
        owner = r.owner;
        base = r.base;
        clients = placed (Serves r.owner (length w.names) w.sequencer w.log) d w.clients
            (others-all d.name (Serves r.owner (length w.names) w.sequencer w.log) w.clients r.clients) s;
        guests = r.guests;
        named = same-named (length w.names) w.clients w.guests w.names c x m.found r.named;
        distinct = distinct-placed d w.clients r.distinct;
        paid = omega (arith, placed_sum, before, after, p, h);
        bodies = r.bodies;
        bound = b;
      }

  -- ---- a message is numbered

  -- no client of this name has the connection
  abbrev pub IsApart : (ℕ → Option Characters) → ℕ → Characters → Type 0
  IsApart owner conn name = owner conn ≡ Some name → ⊥

  not-any : (owner : ℕ → Option Characters) (count : ℕ) (name : Characters) (conn : ℕ) (conns : List ℕ) → IsApart owner conn name
      → Each (IsOwned owner count name) conns → list_any (nat_eq conn) conns ≡ false
  not-any owner count name conn conns a h = by (list_any (nat_eq conn) conns) refl
    where
      by : (b : Bool) → list_any (nat_eq conn) conns ≡ b → b ≡ false
      by true e = absurd (a (each-any (IsOwned owner count name) conn conns e h).by)
      by false e = refl

  not-same : (owner : ℕ → Option Characters) (count : ℕ) (name : Characters) (conn other : ℕ) → IsApart owner conn name → IsOwned owner count name other → nat_eq other conn ≡ false
  not-same owner count name conn other a o = by (nat_eq other conn) refl
    where
      by : (b : Bool) → nat_eq other conn ≡ b → b ≡ false
      by true e = absurd (a (subst (λ c. owner c ≡ Some name) (same_number other conn e) o.by))
      by false e = refl

  and-none : (b : Bool) → b && false ≡ false
  and-none true = refl
  and-none false = refl

  -- the message is none of the client's own
  unowed : (owner : ℕ → Option Characters) (count : ℕ) (q : NaiveSequencer) (log : List Entry) (conn : ℕ) (p : NaiveSequencer × Entry) (name : Characters)
      (conns : List ℕ) → IsApart owner conn name → IsLogged count q log conn p
      → Each (IsOwned owner count name) conns → is_owed conns p.1 ≡ false
  unowed owner count q log conn p name conns a g h =
      ap (λ o. is_op_kind p.1.msg.kind && list_any (nat_eq o) conns) g.origin
      ∙ (ap (λ b. is_op_kind p.1.msg.kind && b) (not-any owner count name conn conns a h) ∙ and-none (is_op_kind p.1.msg.kind))

  -- a client that has not the connection stays served
  serves-logged : (owner other : ℕ → Option Characters) (count more : ℕ) (q : NaiveSequencer) (log : List Entry) (conn : ℕ) (p : NaiveSequencer × Entry)
      (c : NamedClient) → count ≤ more → ((k : ℕ) → k ≤ count → other k ≡ owner k)
      → IsApart other conn c.name → IsLogged more q log conn p → Serves owner count q log c → Serves other more p.0 (log ++ (p.1 ∷ [])) c
  serves-logged owner other count more q log conn p c l k a g s =
      let v = served-known owner other count more q log c.name s.rest c.client l k s.served in
      let none = unowed other more q log conn p c.name c.client.conns a g v.conns in
      record {
        formed = s.formed;
        rest = s.rest ++ (p.1 ∷ []);
        served = served-more other more q p.0 log c.name s.rest c.client p.1 g.follows g.number g.minimum none (λ o h. g.kept o (not-same other more c.name conn o a h)) v;
      }

  -- and owes as much as before
  logged-debt : (owner other : ℕ → Option Characters) (count more : ℕ) (q : NaiveSequencer) (log : List Entry) (conn : ℕ) (p : NaiveSequencer × Entry)
      (c : NamedClient) → count ≤ more → ((k : ℕ) → k ≤ count → other k ≡ owner k)
      → IsApart other conn c.name → IsLogged more q log conn p → Serves owner count q log c → debt (log ++ (p.1 ∷ [])) c ≡ debt log c
  logged-debt owner other count more q log conn p c l k a g s =
      let v = served-known owner other count more q log c.name s.rest c.client l k s.served in
      let none = unowed other more q log conn p c.name c.client.conns a g v.conns in
      debt-is other more p.0 (log ++ (p.1 ∷ [])) c.name (s.rest ++ (p.1 ∷ [])) c.client
      (served-more other more q p.0 log c.name s.rest c.client p.1 g.follows g.number g.minimum none (λ o h. g.kept o (not-same other more c.name conn o a h)) v)
      ∙ (owing-more c.client.conns s.rest p.1 c.client.pending c.client.queue none ∙ sym (debt-is owner count q log c.name s.rest c.client s.served))

  -- so do all but those of one name
  others-logged : (owner other : ℕ → Option Characters) (count more : ℕ) (q : NaiveSequencer) (log : List Entry) (conn : ℕ) (p : NaiveSequencer × Entry)
      (name : Characters) (cs : List NamedClient) → count ≤ more
      → ((k : ℕ) → k ≤ count → other k ≡ owner k) → ((c : NamedClient) → is_client name c ≡ false → IsApart other conn c.name) → IsLogged more q log conn p
      → Others name (Serves owner count q log) cs
      → Others name (Serves other more p.0 (log ++ (p.1 ∷ []))) cs
  others-logged owner other count more q log conn p name cs l k a g h =
      each-weaker (λ c. is_client name c ≡ false → Serves owner count q log c) (λ c. is_client name c ≡ false → Serves other more p.0 (log ++ (p.1 ∷ [])) c)
      (λ c s e. serves-logged owner other count more q log conn p c l k (a c e) g (s e)) cs h

  -- so do all where the connection is no client's
  all-logged : (owner other : ℕ → Option Characters) (count more : ℕ) (q : NaiveSequencer) (log : List Entry) (conn : ℕ) (p : NaiveSequencer × Entry)
      (cs : List NamedClient) → count ≤ more
      → ((k : ℕ) → k ≤ count → other k ≡ owner k) → other conn ≡ None → IsLogged more q log conn p → Each (Serves owner count q log) cs
      → Each (Serves other more p.0 (log ++ (p.1 ∷ []))) cs
  all-logged owner other count more q log conn p cs l k n g h =
      each-weaker (Serves owner count q log) (Serves other more p.0 (log ++ (p.1 ∷ [])))
      (λ c s. serves-logged owner other count more q log conn p c l k (λ e. let wrong : None ≡ Some c.name = sym n ∙ e in (cc)) g s) cs h

  -- all but those of one name owe as much as before
  others-debts : (owner other : ℕ → Option Characters) (count more : ℕ) (q : NaiveSequencer) (log : List Entry) (conn : ℕ) (p : NaiveSequencer × Entry)
      (name : Characters) (cs : List NamedClient) → count ≤ more
      → ((k : ℕ) → k ≤ count → other k ≡ owner k) → ((c : NamedClient) → is_client name c ≡ false → IsApart other conn c.name) → IsLogged more q log conn p
      → Others name (Serves owner count q log) cs
      → OthersSame name (debt log) (debt (log ++ (p.1 ∷ []))) cs
  others-debts owner other count more q log conn p name cs l k a g h =
      each-weaker (λ c. is_client name c ≡ false → Serves owner count q log c) (λ c. is_client name c ≡ false → debt (log ++ (p.1 ∷ [])) c ≡ debt log c)
      (λ c s e. logged-debt owner other count more q log conn p c l k (a c e) g (s e)) cs h

  -- so do all where the connection is no client's
  all-debts : (owner other : ℕ → Option Characters) (count more : ℕ) (q : NaiveSequencer) (log : List Entry) (conn : ℕ) (p : NaiveSequencer × Entry)
      (cs : List NamedClient) → count ≤ more
      → ((k : ℕ) → k ≤ count → other k ≡ owner k) → other conn ≡ None → IsLogged more q log conn p → Each (Serves owner count q log) cs
      → total (debt (log ++ (p.1 ∷ []))) cs ≡ total (debt log) cs
  all-debts owner other count more q log conn p cs l k n g h =
      total-same (debt log) (debt (log ++ (p.1 ∷ []))) cs
      (each-weaker (Serves owner count q log) (λ c. debt (log ++ (p.1 ∷ [])) c ≡ debt log c)
      (λ c s. logged-debt owner other count more q log conn p c l k (λ e. let wrong : None ≡ Some c.name = sym n ∙ e in (cc)) g s) cs h)

  -- a client in the place of the one that was found, where a message was numbered that it owed or that is paid for
  placed-paid : (n k : ℕ) (log : List Entry) (e : Entry) (c d : NamedClient) (cs : List NamedClient) (i : IsFound cs c) → AreDistinct cs → d.name ≡ c.name
      → OthersSame c.name (debt log) (debt (log ++ (e ∷ []))) cs
      → debt (log ++ (e ∷ [])) d + entry_cost e ≤ debt log c + k → body_count e.msg.body ≡ 0 → IsPaid n log cs
      → IsPaid (n + k) (log ++ (e ∷ [])) (map (in_place d) cs)
  placed-paid n k log e c d cs i a s o h z p =
      let name = found-name cs c i in
      let sum = total-placed (debt log) (debt (log ++ (e ∷ []))) i.name c d cs a i.found (s ∙ sym name)
      (subst (λ m. OthersSame m (debt log) (debt (log ++ (e ∷ []))) cs) (sym name) o) in
      let cost = total-append entry_cost log (e ∷ []) in
      let skips = entry-skips log e in
      omega (arith, sum, cost, h, p, skips, z)

  -- one name's connections are not another's
  apart-name : (owner : ℕ → Option Characters) (conn : ℕ) (name other : Characters) → owner conn ≡ Some name → bytes_eq name other ≡ false → IsApart owner conn other
  apart-name owner conn name other o e h =
      let both : Some name ≡ Some other = sym o ∙ h in
      let same : name ≡ other = (cc) in
      let t : bytes_eq name other ≡ true = (bytes_eq-Decides name other).1 same in
      let wrong : true ≡ false = sym t ∙ e in
      (cc)

  guests-known : (owner other : ℕ → Option Characters) (count more : ℕ) (gs : List NamedGuest) → count ≤ more → ((k : ℕ) → k ≤ count → other k ≡ owner k)
      → Each (IsGuest owner count) gs → Each (IsGuest other more) gs
  guests-known owner other count more gs l k h =
      each-weaker (IsGuest owner count) (IsGuest other more) (λ g i. record { by = k g.conn i.known ∙ i.by; known = let b = i.known in omega (arith, b, l) }) gs h

  -- ---- look-ups

  -- what is found has been served
  pub found-serves : (w : NaiveWorld) (r : IsReachedWorld 0 w) (name : Characters) (c : NamedClient) → find (is_client name) w.clients ≡ Some c → Meets w r c
  found-serves w r name c f =
      let s = (each-found (Serves r.owner (length w.names) w.sequencer w.log) (is_client name) w.clients c f r.clients).0 in
      record { rest = s.rest; served = s.served; formed = s.formed; found = record { name = name; found = f } }

  abbrev chosen : (NamedClient → Stepped) → Option NamedClient → Stepped
  chosen f None = Err UnknownClient
  chosen f (Some c) = f c

  -- an event of a client
  of-client : (w : NaiveWorld) (name : Characters) (e : Event) (f : NamedClient → Stepped) → list_any (nat_eq 2) (refusals_of e) ≡ true
      → ((c : NamedClient) → find (is_client name) w.clients ≡ Some c → Goes e (f c)) → Goes e (of_client w name f)
  of-client w name e f t g = by (find (is_client name) w.clients) refl
    where
      by : (o : Option NamedClient) → find (is_client name) w.clients ≡ o → Goes e (chosen f o)
      by None h = t
      by (Some c) h = g c h

  abbrev chosen_guest : (NamedGuest → Stepped) → Option NamedGuest → Stepped
  chosen_guest f None = Err UnknownClient
  chosen_guest f (Some g) = f g

  -- an event of a guest
  of-guest : (w : NaiveWorld) (name : Characters) (e : Event) (f : NamedGuest → Stepped) → list_any (nat_eq 2) (refusals_of e) ≡ true
      → ((g : NamedGuest) → find (is_guest name) w.guests ≡ Some g → Goes e (f g)) → Goes e (of_guest w name f)
  of-guest w name e f t k = by (find (is_guest name) w.guests) refl
    where
      by : (o : Option NamedGuest) → find (is_guest name) w.guests ≡ o → Goes e (chosen_guest f o)
      by None h = t
      by (Some g) h = k g h

  -- ---- starts

  abbrev named : Stepped → Option Refusal → Stepped
  named taken (Some refusal) = Err refusal
  named taken None = taken

  -- a name's fault is one of two
  with-name : (w : NaiveWorld) (name : Characters) (e : Event) (taken : Stepped) → list_any (nat_eq 3) (refusals_of e) ≡ true
      → list_any (nat_eq 12) (refusals_of e) ≡ true → (IsUnused w.clients w.guests name → Goes e taken) → Goes e (with_name w name taken)
  with-name w name e taken t u h = by (list_any (is_client name) w.clients || list_any (is_guest name) w.guests) (nat_le 16 (length w.clients + length w.guests)) refl
    where
      by : (a b : Bool) → list_any (is_client name) w.clients || list_any (is_guest name) w.guests ≡ a
          → Goes e (named taken (cond a (Some NameInUse) (cond b (Some ClientLimit) None)))
      by true b k = t
      by false true k = u
      by false false k = h k

  first-false : (a b : Bool) → a || b ≡ false → a ≡ false
  first-false true b h = (cc)
  first-false false b h = refl

  -- a new client owes nothing
  new-debt : (doc : Document) (es : List Entry) → total edit_cost (behind es (client_over doc).pending) ≡ 0
  new-debt doc es = ap (total edit_cost) (behind-none {B = PendingEdit} es)

  started-reached : (w : NaiveWorld) (r : IsReachedWorld 0 w) (name : Characters) (doc : Document) → IsUnused w.clients w.guests name
      → Serves r.owner (length w.names) w.sequencer w.log (record { name = name; connects = 0; client = client_over doc }) → (F → w.load + 1 < 2 ^ 53)
      → IsReachedWorld 1 (started w name doc)
  started-reached w r name doc u s b =
      let d : NamedClient = record { name = name; connects = 0; client = client_over doc } in
      record {
        owner = r.owner;
        base = r.base;
        clients = each-more (Serves r.owner (length w.names) w.sequencer w.log) w.clients d r.clients s;
        guests = r.guests;
        named = named-started (length w.names) w.clients w.guests w.names d refl u r.named;
        distinct = distinct-more w.clients d r.distinct (first-false (list_any (is_client name) w.clients) (list_any (is_guest name) w.guests) u);
        paid = let sum = total-append (debt w.log) w.clients (d ∷ []) in let none = new-debt doc (owed [] (drop doc.number w.log)) in let p = r.paid in omega (arith, sum, none, p);
        bodies = r.bodies;
        bound = b;
      }

  -- an event that nothing pending lets pass
  unless-pending : (x : NaiveClient) (e : Event) (taken : Stepped) → list_any (nat_eq 11) (refusals_of e) ≡ true → (x.pending ≡ [] → Goes e taken) → Goes e (unless_pending x taken)
  unless-pending x e taken t h = by x.pending refl
    where
      by : (edits : List PendingEdit) → x.pending ≡ edits → Goes e (unless_pending (record x { pending = edits }) taken)
      by [] p = h p
      by (edit ∷ edits) p = t

  start-turns : (w : NaiveWorld) (r : IsReachedWorld 0 w) (name : Characters) (from : Option Characters) → IsUnused w.clients w.guests name
      → (F → w.load + 1 < 2 ^ 53) → Goes (event.Start name from) (start_client w name from)
  start-turns w r name None u b = quiet-turn _ _ (started-reached w r name empty u
      (record { rest = w.log; served = served-new r.owner (length w.names) w.sequencer w.log name r.base; formed = λ f. tt }) b)
  start-turns w r name (Some from) u b =
      of-client w from (event.Start name (Some from)) (λ c. unless_pending c.client (quietly (started w name c.client.doc))) refl
      (λ c f. unless-pending c.client (event.Start name (Some from)) (quietly (started w name c.client.doc)) refl
      (λ none. let s = found-serves w r from c f in
      quiet-turn _ _ (started-reached w r name c.client.doc u (record {
        rest = s.rest;
        served = served-restarts r.owner (length w.names) w.sequencer w.log
            c.name name s.rest c.client none s.served;
        formed = λ g. tt;
      }) b)))

  -- ---- connects

  new-count : (names : List Characters) (name : Characters) → length (names ++ (name ∷ [])) ≡ length names + 1
  new-count names name = length-append names (name ∷ [])

  -- a client with the same document and edits
  same-formed : (x y : NaiveClient) → (y.doc ≡ x.doc) × (y.pending ≡ x.pending) → IsFormed x → IsFormed y
  same-formed x y e f = subst (λ (d : Document). Each (IsFormedEdit d.text.items) y.pending) (sym e.0) (subst (Each (IsFormedEdit x.doc.text.items)) (sym e.1) f)

  connect-same : (x y : NaiveClient) (conn : ℕ) (k : Link) → connect (record x { link = k }) conn ≡ Ok y → (y.doc ≡ x.doc) × (y.pending ≡ x.pending)
  connect-same x y conn Offline h =
      let same : record x { link = Joining conn; conns = x.conns ++ (conn ∷ []); next_client_seq = 1 } ≡ y = (cc) in
      (ap (λ (z : NaiveClient). z.doc) (sym same), ap (λ (z : NaiveClient). z.pending) (sym same))
  connect-same x y conn (Joining other) h = (cc)
  connect-same x y conn (Online other) h = (cc)

  noop-same : (x y : NaiveClient) (k : Link) → noop (record x { link = k }) ≡ Ok y → (y.doc ≡ x.doc) × (y.pending ≡ x.pending)
  noop-same x y Offline h = (cc)
  noop-same x y (Joining conn) h = (cc)
  noop-same x y (Online conn) h = (ap (λ (z : NaiveClient). z.doc) (sym same), ap (λ (z : NaiveClient). z.pending) (sym same))
    where
      same : record x {
        link = Online conn;
        next_client_seq = x.next_client_seq + 1;
        queue = x.queue ++
            (record { client_seq = x.next_client_seq; ref_seq = x.doc.number; body = bodies.Nothing } ∷ []);
      } ≡ y
      same = (cc)

  connected-reached : (w : NaiveWorld) (r : IsReachedWorld 0 w) (c : NamedClient) (x : NaiveClient) → Meets w r c → connect c.client (next_conn w) ≡ Ok x
      → (F → w.load + 1 < 2 ^ 53)
      → IsReachedWorld 1 (with_client (record c { client = x; connects = c.connects + 1 }) (joined (connection_name c.name (c.connects + 1)) w))
  connected-reached w r c x s h b =
      let n = length w.names in
      let label = connection_name c.name (c.connects + 1) in
      let other = with_owner r.owner (n + 1) (Some c.name) in
      let old = owner-old r.owner n (Some c.name) in
      let p = join w.sequencer (n + 1) label in
      let g = join-logged n w.sequencer w.log label r.base in
      let d : NamedClient = record c { client = x; connects = c.connects + 1 } in
      let e = sym (new-count w.names label) in
      let apart : (a : NamedClient) → is_client c.name a ≡ false → IsApart other (n + 1) a.name = λ a b. apart-name other (n + 1) c.name a.name
      (owner-new r.owner (n + 1) (Some c.name)) b in
      let cs : Others c.name (Serves other (n + 1) p.0 (w.log ++ (p.1 ∷ []))) w.clients =
      others-logged r.owner other n (n + 1) w.sequencer w.log (n + 1) p c.name w.clients (omega arith) old apart g
      (others-all c.name (Serves r.owner n w.sequencer w.log) w.clients r.clients) in
      let now = served-connects r.owner n w.sequencer w.log c.name label s.rest c.client x r.base h s.served in
      let own : Serves other (n + 1) p.0 (w.log ++ (p.1 ∷ [])) d = record {
        rest = s.rest ++ (p.1 ∷ []);
        served = now;
        formed = λ f. same-formed c.client x
            (connect-same c.client x (n + 1) c.client.link h) (s.formed f);
      } in
      let others = others-debts r.owner other n (n + 1) w.sequencer w.log (n + 1) p c.name w.clients (omega arith) old apart g
      (others-all c.name (Serves r.owner n w.sequencer w.log) w.clients r.clients) in
      let owes : debt (w.log ++ (p.1 ∷ [])) d ≡ debt w.log c =
      debt-is other (n + 1) p.0 (w.log ++ (p.1 ∷ [])) c.name (s.rest ++ (p.1 ∷ [])) x now
      ∙ (connect-owes n w.sequencer w.log label s.rest c.client x h (rest-known r.owner n w.sequencer w.log c.name s.rest c.client r.base s.served)
      ∙ sym (debt-is r.owner n w.sequencer w.log c.name s.rest c.client s.served)) in
      record {
        owner = other;
        base = subst (λ m. IsBase m p.0 (w.log ++ (p.1 ∷ []))) e g.base;
        clients = subst (λ m. Each (Serves other m p.0 (w.log ++ (p.1 ∷ []))) (map (in_place d) w.clients)) e
            (placed (Serves other (n + 1) p.0 (w.log ++ (p.1 ∷ []))) d w.clients cs own);
        guests = subst (λ m. Each (IsGuest other m) w.guests) e (guests-known r.owner other n (n + 1) w.guests (omega arith) old r.guests);
        named = subst (λ m. IsNamed m (map (in_place d) w.clients) w.guests (w.names ++ (label ∷ []))) e
            (named-connected n w.clients w.guests w.names c d s.found refl refl r.named);
        distinct = distinct-placed d w.clients r.distinct;
        paid = let p = placed-paid (w.load + 0) 1 w.log p.1 c d w.clients s.found r.distinct refl others (omega (arith, owes)) refl r.paid in omega (arith, p);
        bodies = λ f. each-more (λ e. IsWellFormedBody e.msg.body) w.log p.1 (r.bodies f) tt;
        bound = b;
      }

  abbrev connected : NaiveWorld → NamedClient → Result NaiveClient LinkFault → Stepped
  connected w c (Err fault) = Err (refusal_of_link fault)
  connected w c (Ok x) = quietly (with_client (record c { client = x; connects = c.connects + 1 }) (joined (connection_name c.name (c.connects + 1)) w))

  connect-fault : (x : NaiveClient) (conn : ℕ) (k : Link) (fault : LinkFault) → connect (record x { link = k }) conn ≡ Err fault → fault ≡ link.AlreadyConnected
  connect-fault x conn Offline fault h = (cc)
  connect-fault x conn (Joining other) fault h = (cc)
  connect-fault x conn (Online other) fault h = (cc)

  connect-turns : (w : NaiveWorld) (r : IsReachedWorld 0 w) (name : Characters) → (F → MayBeTaken w (event.Connect name))
      → Goes (event.Connect name) (of_client w name (connect_client w))
  connect-turns w r name may = of-client w name (event.Connect name) (connect_client w) refl one
    where
      by : (c : NamedClient) → Meets w r c → (a : Result NaiveClient LinkFault) → connect c.client (next_conn w) ≡ a → Goes (event.Connect name) (connected w c a)
      by c s (Err fault) h = subst (λ f. list_any (nat_eq (refusal_number (refusal_of_link f))) (2 ∷ 4 ∷ []) ≡ true)
          (sym (connect-fault c.client (next_conn w) c.client.link fault h)) refl
      by c s (Ok x) h = quiet-turn _ _ (connected-reached w r c x s h (λ f. (may f).load))

      one : (c : NamedClient) → find (is_client name) w.clients ≡ Some c → Goes (event.Connect name) (connect_client w c)
      one c f = by c (found-serves w r name c f) (connect c.client (next_conn w)) refl

  -- ---- drops

  abbrev dropped_link : NaiveWorld → NamedClient → Result NaiveClient LinkFault → Stepped
  dropped_link v c (Err fault) = Err (refusal_of_link fault)
  dropped_link v c (Ok x) = quietly (with_client (record c { client = x }) v)

  abbrev dropped_left : NamedClient → Option NaiveWorld → Stepped
  dropped_left c None = Err Parted
  dropped_left c (Some v) = dropped_link v c (drop_link c.client)

  abbrev dropped : NaiveWorld → NamedClient → Option ℕ → Stepped
  dropped w c None = Err Parted
  dropped w c (Some conn) = dropped_left c (left conn w)

  pub left-found : (w : NaiveWorld) (conn : ℕ) (j : JoinedConnection) → find (is_joined conn) w.sequencer.joined ≡ Some j → left conn w ≡ Some (logged (gone w.sequencer conn j) w)
  left-found w conn j f = ap (λ (o : Option (NaiveSequencer × Entry)). elim o [ None ↦ None | Some p ↦ Some (logged p w) ]) (leave-found w.sequencer conn j f)

  -- the world after a message of a client's connection, with the client in its place
  logged-reached : (w : NaiveWorld) (r : IsReachedWorld 0 w) (c : NamedClient) (x : NaiveClient) (conn : ℕ) (p : NaiveSequencer × Entry) (m : Meets w r c)
      → r.owner conn ≡ Some c.name → IsLogged (length w.names) w.sequencer w.log conn p
      → (own : Serves r.owner (length w.names) p.0 (w.log ++ (p.1 ∷ [])) (record c { client = x })) → owing_of x own.rest + entry_cost p.1 ≤ owing_of c.client m.rest + 1
      → body_count p.1.msg.body ≡ 0 → (F → IsWellFormedBody p.1.msg.body) → (F → w.load + 1 < 2 ^ 53) → IsReachedWorld 1 (with_client (record c { client = x }) (logged p w))
  logged-reached w r c x conn p m o g own h z body b =
      let n = length w.names in
      let d : NamedClient = record c { client = x } in
      let apart : (a : NamedClient) → is_client c.name a ≡ false → IsApart r.owner conn a.name = λ a b. apart-name r.owner conn c.name a.name o b in
      let cs : Others c.name (Serves r.owner n p.0 (w.log ++ (p.1 ∷ []))) w.clients =
      others-logged r.owner r.owner n n w.sequencer w.log conn p c.name w.clients (omega arith) (λ k l. refl) apart g
      (others-all c.name (Serves r.owner n w.sequencer w.log) w.clients r.clients) in
      let others = others-debts r.owner r.owner n n w.sequencer w.log conn p c.name w.clients (omega arith) (λ k l. refl) apart g
      (others-all c.name (Serves r.owner n w.sequencer w.log) w.clients r.clients) in
      let before : debt w.log c ≡ owing_of c.client m.rest = debt-is r.owner n w.sequencer w.log c.name m.rest c.client m.served in
      let after : debt (w.log ++ (p.1 ∷ [])) d ≡ owing_of x own.rest = debt-is r.owner n p.0 (w.log ++ (p.1 ∷ [])) c.name own.rest x own.served in
      record {
        owner = r.owner;
        base = g.base;
        clients = placed (Serves r.owner n p.0 (w.log ++ (p.1 ∷ []))) d w.clients cs own;
        guests = r.guests;
        named = same-named n w.clients w.guests w.names c x m.found r.named;
        distinct = distinct-placed d w.clients r.distinct;
        paid = let p = placed-paid (w.load + 0) 1 w.log p.1 c d w.clients m.found r.distinct refl others (omega (arith, before, after, h)) z r.paid in omega (arith, p);
        bodies = λ f. each-more (λ e. IsWellFormedBody e.msg.body) w.log p.1 (r.bodies f) (body f);
        bound = b;
      }

  drop-turns : (w : NaiveWorld) (r : IsReachedWorld 0 w) (name : Characters) → (F → MayBeTaken w (event.Drop name)) → Goes (event.Drop name) (of_client w name (drop_client w))
  drop-turns w r name may = of-client w name (event.Drop name) (drop_client w) refl one
    where
      by : (c : NamedClient) → Meets w r c → (o : Option ℕ) → conn_of c.client.link ≡ o → Goes (event.Drop name) (dropped w c o)
      by c s None h = refl
      by c s (Some conn) h =
          let x = c.client in
          let q = w.sequencer in
          let n = length w.names in
          let l = (linked-joined x.conns x.doc.number x.next_client_seq x.queue x.pending s.rest q conn x.link h s.served.link).0 in
          let o = each-any (IsOwned r.owner n c.name) conn x.conns l.has.own s.served.conns in
          let p = gone q conn l.j in
          let d : NamedClient = record c { client = record x { link = Offline; queue = [] } } in
          let g : IsLogged n q w.log conn p = leave-logged n q w.log conn l.j r.base l.has.joined in
          let own : Serves r.owner n p.0 (w.log ++ (p.1 ∷ [])) d = record {
            rest = s.rest ++ (p.1 ∷ []);
            served = served-drops r.owner n q w.log c.name s.rest
                x conn l.j r.base l.has.joined h s.served;
            formed = s.formed;
          } in
          let owes = owing-more x.conns s.rest p.1 x.pending x.queue refl in
          let here : IsReachedWorld 1 (with_client d (logged p w)) = logged-reached w r c (record x { link = Offline; queue = [] }) conn p s o.by g own
          (omega (arith, owes)) refl (λ f. tt) (λ f. (may f).load) in
          subst (λ v. Goes (event.Drop name) (dropped_left c v)) (sym (left-found w conn l.j l.has.joined))
          (subst (λ a. Goes (event.Drop name) (dropped_link (logged p w) c a)) (sym (drop-made x conn x.link h)) (quiet-turn _ _ here))

      one : (c : NamedClient) → find (is_client name) w.clients ≡ Some c → Goes (event.Drop name) (drop_client w c)
      one c f = by c (found-serves w r name c f) (conn_of c.client.link) refl

  -- ---- edits and noops

  abbrev edited : NaiveWorld → NamedClient → Result NaiveClient EditFault → Stepped
  edited w c (Err fault) = Err (refusal_of_edit fault)
  edited w c (Ok x) = quietly (with_client (record c { client = x }) w)

  edit-number : (fault : EditFault) → is_edit_fault fault ≡ true → list_any (nat_eq (refusal_number (refusal_of_edit fault))) (2 ∷ 13 ∷ 14 ∷ 6 ∷ []) ≡ true
  edit-number edit.IdInUse h = refl
  edit-number edit.NoSuchInterval h = refl
  edit-number (edit.OutOfRange n) h = refl
  edit-number edit.OutOfMemory h = (cc)
  edit-number (edit.Stopped seq) h = (cc)

  edit-turns : (w : NaiveWorld) (r : IsReachedWorld 0 w) (name : Characters) (op : ChannelOp) → (F → MayBeTaken w (event.Edit name op))
      → Goes (event.Edit name op) (of_client w name (λ c. edit_client w c op))
  edit-turns w r name op may = of-client w name (event.Edit name op) (λ c. edit_client w c op) refl one
    where
      by : (c : NamedClient) → Meets w r c → (a : Result NaiveClient EditFault) → local_edit c.client op ≡ a → Goes (event.Edit name op) (edited w c a)
      by c s (Err fault) h = edit-number fault (edit-fault c.client op fault h)
      by c s (Ok x) h =
          let v = served-edits r.owner (length w.names) w.sequencer w.log c.name s.rest c.client x op h s.served in
          let own : Serves r.owner (length w.names) w.sequencer w.log (record c { client = x }) =
          record { rest = s.rest; served = v; formed = λ f. edit-formed c.client x op (every-client-ready v.steps x v.run.made v.run.bodies) (may f).event h (s.formed f) } in
          quiet-turn _ _ (own-step w r c x s own (1 + op_load op) (let owes = edit-owes c.client x op s.rest h in let less = inserts-loaded op in omega
          (arith, owes, less)) (λ f. (may f).load))

      one : (c : NamedClient) → find (is_client name) w.clients ≡ Some c → Goes (event.Edit name op) (edit_client w c op)
      one c f = by c (found-serves w r name c f) (local_edit c.client op) refl

  abbrev idled : NaiveWorld → NamedClient → Result NaiveClient LinkFault → Stepped
  idled w c (Err fault) = Err (refusal_of_link fault)
  idled w c (Ok x) = quietly (with_client (record c { client = x }) w)

  noop-fault : (x : NaiveClient) (k : Link) (fault : LinkFault) → noop (record x { link = k }) ≡ Err fault → fault ≡ link.NotConnected
  noop-fault x Offline fault h = (cc)
  noop-fault x (Joining other) fault h = (cc)
  noop-fault x (Online other) fault h = (cc)

  noop-turns : (w : NaiveWorld) (r : IsReachedWorld 0 w) (name : Characters) → (F → MayBeTaken w (event.Noop name)) → Goes (event.Noop name) (of_client w name (noop_client w))
  noop-turns w r name may = of-client w name (event.Noop name) (noop_client w) refl one
    where
      by : (c : NamedClient) → Meets w r c → (a : Result NaiveClient LinkFault) → noop c.client ≡ a → Goes (event.Noop name) (idled w c a)
      by c s (Err fault) h = subst (λ f. list_any (nat_eq (refusal_number (refusal_of_link f))) (2 ∷ 5 ∷ []) ≡ true) (sym (noop-fault c.client c.client.link fault h)) refl
      by c s (Ok x) h =
          let own : Serves r.owner (length w.names) w.sequencer w.log (record c { client = x }) =
          record {
            rest = s.rest;
            served = served-idles r.owner (length w.names) w.sequencer w.log c.name s.rest c.client x h s.served;
            formed = λ f.
                same-formed c.client x (noop-same c.client x c.client.link h) (s.formed f);
          } in
          quiet-turn _ _ (own-step w r c x s own 1 (noop-owes c.client x s.rest h) (λ f. (may f).load))

      one : (c : NamedClient) → find (is_client name) w.clients ≡ Some c → Goes (event.Noop name) (noop_client w c)
      one c f = by c (found-serves w r name c f) (noop c.client) refl

  -- ---- tickets

  -- what is known while a client's drafts are submitted: of the other clients, and of this one
  pub record IsBetween (owner : ℕ → Option Characters) (c : NamedClient) (w : NaiveWorld) : Type 0 where
    pub base : IsBase (length w.names) w.sequencer w.log
    pub others : Others c.name (Serves owner (length w.names) w.sequencer w.log) w.clients
    pub guests : Each (IsGuest owner (length w.names)) w.guests
    pub named : IsNamed (length w.names) w.clients w.guests w.names
    pub found : IsFound w.clients c
    pub distinct : AreDistinct w.clients

  -- drafts of the client are accepted one after another
  pub record IsSubmitted (owner : ℕ → Option Characters) (c : NamedClient) (w : NaiveWorld) (conn : ℕ) (ds later : List Draft) (x : NaiveClient) : Type 0 where
    pub v : NaiveWorld
    pub submits : submit_all w conn ds ≡ Ok v
    pub between : IsBetween owner c v
    pub rest : List Entry
    pub served : IsServed owner (length v.names) v.sequencer v.log c.name rest (record x { queue = later })
    pub load : v.load ≡ w.load
    pub bodies : F → Each (λ e. IsWellFormedBody e.msg.body) v.log
    pub paid : IsPaid w.load v.log (map (in_place (record c { client = record x { queue = later } })) v.clients)

  abbrev submitted_on : NaiveWorld → ℕ → List Draft → Result (NaiveSequencer × Entry) Nack → Result NaiveWorld Refusal
  submitted_on w conn ds (Err nack) = Err (Nacked nack)
  submitted_on w conn ds (Ok p) = submit_all (logged p w) conn ds

  -- a client whose first draft was numbered, in the place of the client as it was before
  sent-paid : (n : ℕ) (log : List Entry) (e : Entry) (c b d : NamedClient) (cs : List NamedClient) (i : IsFound cs c) → AreDistinct cs → b.name ≡ c.name
      → d.name ≡ c.name → OthersSame c.name (debt log) (debt (log ++ (e ∷ []))) cs
      → debt (log ++ (e ∷ [])) d + entry_cost e ≤ debt log b → (agreed (log ++ (e ∷ []))).skipped ≤ (agreed log).skipped → IsPaid n log (map (in_place b) cs)
      → IsPaid n (log ++ (e ∷ [])) (map (in_place d) cs)
  sent-paid n log e c b d cs i a sb sd o h z p =
      let name = found-name cs c i in
      let first = total-placed (debt log) (debt log) i.name c b cs a i.found (sb ∙ sym name) (same-debts i.name (debt log) cs) in
      let then = total-placed (debt log) (debt (log ++ (e ∷ []))) i.name c d cs a i.found (sd ∙ sym name)
      (subst (λ m. OthersSame m (debt log) (debt (log ++ (e ∷ []))) cs) (sym name) o) in
      let cost = total-append entry_cost log (e ∷ []) in
      omega (arith, first, then, cost, h, p, z)

  then-submitted : (w : NaiveWorld) (conn : ℕ) (d : Draft) (ds : List Draft) (p : NaiveSequencer × Entry) (v : NaiveWorld) → submit w.sequencer conn d ≡ Ok p
      → submit_all (logged p w) conn ds ≡ Ok v → submit_all w conn (d ∷ ds) ≡ Ok v
  then-submitted w conn d ds p v h g = ap (submitted_on w conn ds) h ∙ g

  submits-all : (owner : ℕ → Option Characters) (c : NamedClient) (ds later : List Draft) (w : NaiveWorld) (conn : ℕ) (x : NaiveClient) (rest : List Entry)
      → IsBetween owner c w → conn_of x.link ≡ Some conn → x.queue ≡ ds ++ later
      → IsServed owner (length w.names) w.sequencer w.log c.name rest x → IsPaid w.load w.log (map (in_place (record c { client = x })) w.clients)
      → (F → IsFormed x) → (F → Each (λ e. IsWellFormedBody e.msg.body) w.log) → IsSubmitted owner c w conn ds later x
  submits-all owner c [] later w conn x rest b k u s paid formed bodies = record {
    v = w;
    submits = refl;
    between = b;
    rest = rest;
    served = subst (λ ys. IsServed owner (length w.names) w.sequencer w.log c.name rest (record x { queue = ys })) u s;
    load = refl;
    bodies = bodies;
    paid = subst (λ ys. IsPaid w.load w.log (map (in_place (record c { client = record x { queue = ys } })) w.clients)) u paid;
  }
  submits-all owner c (d ∷ ds) later w conn x rest b k u s paid formed bodies =
      let n = length w.names in
      let t = served-sends owner n w.sequencer w.log c.name rest x conn d (ds ++ later) b.base k u s in
      let apart : (a : NamedClient) → is_client c.name a ≡ false → IsApart owner conn a.name = λ a e. apart-name owner conn c.name a.name t.owned e in
      let next : IsBetween owner c (logged t.p w) = record {
        base = t.logged.base;
        others = others-logged owner owner n n w.sequencer w.log conn t.p c.name w.clients (omega arith) (λ i l. refl) apart t.logged b.others;
        guests = b.guests;
        named = b.named;
        found = b.found;
        distinct = b.distinct;
      } in
      let y = record x { queue = ds ++ later } in
      let others = others-debts owner owner n n w.sequencer w.log conn t.p c.name w.clients (omega arith) (λ i l. refl) apart t.logged b.others in
      let more = sent-paid w.load w.log t.p.1 c (record c { client = x }) (record c { client = y }) w.clients b.found b.distinct refl refl others (
      let before = debt-is owner n w.sequencer w.log c.name rest x s in
      let after = debt-is owner n t.p.0 (w.log ++ (t.p.1 ∷ [])) c.name (rest ++ (t.p.1 ∷ [])) y t.served in
      let queued : owing_of x rest ≡ owing x.conns rest x.pending (d ∷ (ds ++ later)) = ap (owing x.conns rest x.pending) u in
      let owes = t.owes in
      omega (arith, before, after, queued, owes)
      ) t.skips paid in
      let m = submits-all owner c ds later (logged t.p w) conn (record x { queue = ds ++ later }) (rest ++ (t.p.1 ∷ [])) next k refl t.served more formed
      (λ f. each-more (λ e. IsWellFormedBody e.msg.body) w.log t.p.1 (bodies f) (t.formed (formed f))) in
      record {
        v = m.v;
        submits = then-submitted w conn d ds t.p m.v t.submits m.submits;
        between = m.between;
        rest = m.rest;
        served = m.served;
        load = m.load;
        paid = m.paid;
        bodies = m.bodies;
      }

  abbrev ticketed_so : NamedClient → ℕ → Result NaiveWorld Refusal → Stepped
  ticketed_so c n (Err refusal) = Err refusal
  ticketed_so c n (Ok v) = quietly (with_client (record c { client = record c.client { queue = drop n c.client.queue } }) v)

  abbrev ticketed : NaiveWorld → NamedClient → ℕ → Option ℕ → Stepped
  ticketed w c conn None = Err (NothingToTicket (length c.client.queue))
  ticketed w c conn (Some n) = ticketed_so c n (submit_all w conn (take n c.client.queue))

  abbrev ticketing : NaiveWorld → NamedClient → HowMany → Option ℕ → Stepped
  ticketing w c many None = Err Parted
  ticketing w c many (Some conn) = ticketed w c conn (wanted_count many (length c.client.queue))

  -- the first drafts of a client that was found are accepted
  pub found-submits : (w : NaiveWorld) (r : IsReachedWorld 0 w) (c : NamedClient) → Meets w r c → (conn : ℕ) → conn_of c.client.link ≡ Some conn → (n : ℕ)
      → IsSubmitted r.owner c w conn (take n c.client.queue) (drop n c.client.queue) c.client
  found-submits w r c s conn h n =
      let x = c.client in
      let b : IsBetween r.owner c w = record {
        base = r.base;
        others = others-all c.name (Serves r.owner (length w.names) w.sequencer w.log) w.clients
            r.clients;
        guests = r.guests;
        named = r.named;
        found = s.found;
        distinct = r.distinct;
      } in
      let same = total-placed (debt w.log) (debt w.log) s.found.name c c w.clients r.distinct s.found.found (sym (found-name w.clients c s.found))
      (same-debts s.found.name (debt w.log) w.clients) in
      let first : IsPaid w.load w.log (map (in_place (record c { client = x })) w.clients) = let p = r.paid in omega (arith, same, p) in
      submits-all r.owner c (take n x.queue) (drop n x.queue) w conn x s.rest b h (sym (take-append-drop n x.queue)) s.served first s.formed r.bodies

  ticket-turns : (w : NaiveWorld) (r : IsReachedWorld 0 w) (name : Characters) (many : HowMany) → (F → MayBeTaken w (event.Ticket name many))
      → Goes (event.Ticket name many) (of_client w name (λ c. ticket_client w c many))
  ticket-turns w r name many may = of-client w name (event.Ticket name many) (λ c. ticket_client w c many) refl one
    where
      some : (c : NamedClient) → Meets w r c → (conn : ℕ) → conn_of c.client.link ≡ Some conn → (o : Option ℕ) → Goes (event.Ticket name many) (ticketed w c conn o)
      some c s conn h None = refl
      some c s conn h (Some n) =
          let x = c.client in
          let m = found-submits w r c s conn h n in
          let d : NamedClient = record c { client = record x { queue = drop n x.queue } } in
          let here : IsReachedWorld 1 (with_client d m.v) = record {
            owner = r.owner;
            base = m.between.base;
            clients = placed (Serves r.owner (length m.v.names) m.v.sequencer m.v.log) d m.v.clients m.between.others
                (record { rest = m.rest; served = m.served; formed = s.formed });
            guests = m.between.guests;
            named = same-named (length m.v.names) m.v.clients m.v.guests m.v.names c (record x { queue = drop n x.queue }) m.between.found m.between.named;
            distinct = distinct-placed d m.v.clients m.between.distinct;
            paid = let p = m.paid in let l = m.load in omega (arith, p, l);
            bodies = m.bodies;
            bound = λ f. let l = m.load in let b = (may f).load in omega (arith, l, b);
          } in
          subst (λ a. Goes (event.Ticket name many) (ticketed_so c n a)) (sym m.submits) (quiet-turn _ _ here)

      by : (c : NamedClient) → Meets w r c → (o : Option ℕ) → conn_of c.client.link ≡ o → Goes (event.Ticket name many) (ticketing w c many o)
      by c s None h = refl
      by c s (Some conn) h = some c s conn h (wanted_count many (length c.client.queue))

      one : (c : NamedClient) → find (is_client name) w.clients ≡ Some c → Goes (event.Ticket name many) (ticket_client w c many)
      one c f = by c (found-serves w r name c f) (conn_of c.client.link) refl

  -- ---- deliveries and offers

  -- the messages ahead of a client are the rest of the log
  pub ahead-is : (owner : ℕ → Option Characters) (w : NaiveWorld) (c : NamedClient) (rest : List Entry)
      → IsServed owner (length w.names) w.sequencer w.log c.name rest c.client → ahead_of w c.client ≡ rest
  ahead-is owner w c rest s = ap (drop c.client.doc.number) (sym s.entries) ∙ drop_at _ rest c.client.doc.number (sym (entries-counted s.steps c.client s.run.made))

  -- the client processes entries one after another
  pub record IsProcessed (owner : ℕ → Option Characters) (count : ℕ) (q : NaiveSequencer) (log : List Entry) (name : Characters) (x : NaiveClient)
      (es later : List Entry) : Type 0 where
    pub y : NaiveClient
    pub takes : processed x es ≡ Ok y
    pub served : IsServed owner count q log name later y
    pub owes : owing_of y later ≤ owing_of x (es ++ later)
    pub formed : F → IsFormed y

  abbrev processed_on : Entry → List Entry → Result NaiveClient ProcessFault → Result NaiveClient Refusal
  processed_on e es (Err fault) = Err (refusal_of_process e.msg.seq fault)
  processed_on e es (Ok y) = processed y es

  -- what a client answers by the fault of an entry
  abbrev answer_of : NaiveClient → Entry → Option ProcessFault → Result NaiveClient ProcessFault
  answer_of x e (Some fault) = Err fault
  answer_of x e None = Ok (after_entry x e)

  -- a client keeps what is pending well formed, where its lists have fewer elements than 2^53
  takes-formed : (owner : ℕ → Option Characters) (count : ℕ) (q : NaiveSequencer) (log : List Entry) (name : Characters) (rest : List Entry)
      (x y : NaiveClient) (e : Entry) → IsServed owner count q log name (e ∷ rest) x → IsServed owner count q log name rest y
      → process x e ≡ Ok y → total entry_cost log + owing_of x (e ∷ rest) < 2 ^ 53 → IsFormed x → IsFormed y
  takes-formed owner count q log name rest x y e s v h b f = by (process_fault x e) h
    where
      before : IsReady x
      before = every-client-ready s.steps x s.run.made s.run.bodies

      after : IsReady y
      after = every-client-ready v.steps y v.run.made v.run.bodies

      taken : (a c : Bool) → cond a (come_online x e) (cond c (after_own_message x e) (after_foreign_message x e)) ≡ y → IsFormed y
      taken true c g =
          let z = served-sized owner count q log name (e ∷ rest) x s in
          subst IsFormed g
          (join-formed (total entry_cost log + owing_of x (e ∷ rest)) x e b z.text z.rows z.cols before (subst IsReady (sym g) after)
          (λ k l. (reconnection-keeps-views s.steps x e k s.run.made s.run.bodies l).text) f)
      taken false true g = subst IsFormed g (own-formed x e before (subst IsReady (sym g) after) f)
      taken false false g = subst IsFormed g (foreign-formed x e (subst IsReady (sym g) after) f)

      by : (o : Option ProcessFault) → answer_of x e o ≡ Ok y → IsFormed y
      by (Some fault) g = (cc)
      by None g = let same : after_entry x e ≡ y = (cc) in taken (is_own_join x.link e.msg.kind e.origin) (is_op e.msg.body && is_own x e) same

  pub processes-all : (owner : ℕ → Option Characters) (count : ℕ) (q : NaiveSequencer) (log : List Entry) (name : Characters) (es later : List Entry)
      (x : NaiveClient) → IsServed owner count q log name (es ++ later) x
      → (F → IsFormed x) → (F → total entry_cost log + owing_of x (es ++ later) < 2 ^ 53) → IsProcessed owner count q log name x es later
  processes-all owner count q log name [] later x s formed bound = record { y = x; takes = refl; served = s; owes = omega arith; formed = formed }
  processes-all owner count q log name (e ∷ es) later x s formed bound =
      let t = served-takes owner count q log name (es ++ later) x e s in
      let m = processes-all owner count q log name es later t.y t.served (λ f. takes-formed owner count q log name (es ++ later) x t.y e s t.served t.processed
      (bound f) (formed f)) (λ f. let b = bound f in let o = t.owes in omega (arith, b, o)) in
      record {
        y = m.y;
        takes = ap (processed_on e es) t.processed ∙ m.takes;
        served = m.served;
        owes = let first = t.owes in let later = m.owes in omega
            (arith, first, later);
        formed = m.formed;
      }

  -- what a client that was found owes is paid for
  found-bound : (w : NaiveWorld) (r : IsReachedWorld 0 w) (c : NamedClient) (rest : List Entry) → IsFound w.clients c
      → IsServed r.owner (length w.names) w.sequencer w.log c.name rest c.client → w.load < 2 ^ 53
      → total entry_cost w.log + owing_of c.client rest < 2 ^ 53
  found-bound w r c rest i s b =
      let one = (each-found (λ (a : NamedClient). debt w.log a ≤ total (debt w.log) w.clients) (is_client i.name) w.clients c i.found
      (each-within (debt w.log) w.clients (total (debt w.log) w.clients) (omega arith))).0 in
      let owes : debt w.log c ≡ owing_of c.client rest = debt-is r.owner (length w.names) w.sequencer w.log c.name rest c.client s in
      let p = r.paid in
      omega (arith, one, owes, p, b)

  now-turns : (w : NaiveWorld) (r : IsReachedWorld 0 w) (e : Event) (c : NamedClient) (es later : List Entry) → IsFound w.clients c
      → IsServed r.owner (length w.names) w.sequencer w.log c.name (es ++ later) c.client → (F → IsFormed c.client)
      → (F → w.load + (1 + text_load e) < 2 ^ 53) → Goes e (now w c (processed c.client es))
  now-turns w r e c es later i s formed b =
      let low : F → w.load < 2 ^ 53 = λ f. (let h = b f in omega (arith, h)) in
      let m = processes-all r.owner (length w.names) w.sequencer w.log c.name es later c.client s formed (λ f. found-bound w r c (es ++ later) i s (low f)) in
      subst (λ a. Goes e (now w c a)) (sym m.takes)
      (quiet-turn _ _ (own-step w r c m.y (record { rest = es ++ later; served = s; formed = formed; found = i })
      (record { rest = later; served = m.served; formed = m.formed }) (1 + text_load e) (let less = m.owes in omega (arith, less)) b))

  abbrev delivered : NaiveWorld → NamedClient → Option ℕ → Stepped
  delivered w c None = Err (NothingToDeliver (length (ahead_of w c.client)))
  delivered w c (Some n) = now w c (processed c.client (take n (ahead_of w c.client)))

  abbrev delivering : NaiveWorld → NamedClient → HowMany → Option ℕ → Stepped
  delivering w c many None = Err Parted
  delivering w c many (Some conn) = delivered w c (wanted_count many (length (ahead_of w c.client)))

  deliver-turns : (w : NaiveWorld) (r : IsReachedWorld 0 w) (name : Characters) (many : HowMany) → (F → MayBeTaken w (event.Deliver name many))
      → Goes (event.Deliver name many) (of_client w name (λ c. deliver_client w c many))
  deliver-turns w r name many may = of-client w name (event.Deliver name many) (λ c. deliver_client w c many) refl one
    where
      some : (c : NamedClient) → Meets w r c → (o : Option ℕ) → Goes (event.Deliver name many) (delivered w c o)
      some c s None = refl
      some c s (Some n) =
          let a : take n (ahead_of w c.client) ≡ take n s.rest = ap (take n) (ahead-is r.owner w c s.rest s.served) in
          subst (λ es. Goes (event.Deliver name many) (now w c (processed c.client es))) (sym a)
          (now-turns w r (event.Deliver name many) c (take n s.rest) (drop n s.rest) s.found
          (subst (λ es. IsServed r.owner (length w.names) w.sequencer w.log c.name es c.client) (sym (take-append-drop n s.rest)) s.served) s.formed (λ f. (may f).load))

      by : (c : NamedClient) → Meets w r c → (o : Option ℕ) → Goes (event.Deliver name many) (delivering w c many o)
      by c s None = refl
      by c s (Some conn) = some c s (wanted_count many (length (ahead_of w c.client)))

      one : (c : NamedClient) → find (is_client name) w.clients ≡ Some c → Goes (event.Deliver name many) (deliver_client w c many)
      one c f = by c (found-serves w r name c f) (conn_of c.client.link)

  -- a text without a reading has one of two refusals
  cause-number : (e : Event) (fault : Cause) → list_any (nat_eq 1) (refusals_of e) ≡ true → list_any (nat_eq 15) (refusals_of e) ≡ true
      → list_any (nat_eq (refusal_number (refusal_of_cause fault))) (refusals_of e) ≡ true
  cause-number e cause.CountLimit a b = b
  cause-number e cause.NotUtf8 a b = a
  cause-number e cause.NotJson a b = a
  cause-number e cause.Fraction a b = a
  cause-number e cause.TooDeep a b = a
  cause-number e (cause.Missing field) a b = a
  cause-number e (cause.WrongKind field) a b = a
  cause-number e (cause.UnknownType n) a b = a
  cause-number e (cause.Reversed p q) a b = a
  cause-number e cause.NestedGroup a b = a
  cause-number e cause.UnknownWord a b = a
  cause-number e cause.OutOfMemory a b = a

  abbrev offered : NaiveWorld → NamedClient → Result Message Cause → Stepped
  offered w c (Err fault) = Err (refusal_of_cause fault)
  offered w c (Ok m) = offer_message w c m

  abbrev offering : NaiveWorld → NamedClient → Characters → Option ℕ → Stepped
  offering w c text None = Err Parted
  offering w c text (Some conn) = offered w c (message (encode_utf8_all text))

  offer-turns : (w : NaiveWorld) (r : IsReachedWorld 0 w) (name text : Characters) → (F → MayBeTaken w (event.Offer name text))
      → Goes (event.Offer name text) (of_client w name (λ c. offer_client w c text))
  offer-turns w r name text may = of-client w name (event.Offer name text) (λ c. offer_client w c text) refl one
    where
      same : (c : NamedClient) (m : Message) (entry : Entry) (es : List Entry) → IsFound w.clients c
          → IsServed r.owner (length w.names) w.sequencer w.log c.name (entry ∷ es) c.client → (F → IsFormed c.client) → (b : Bool)
          → Goes (event.Offer name text) (cond b (now w c (processed c.client (entry ∷ []))) (Err (Foreign m.seq)))
      same c m entry es i s g true = now-turns w r (event.Offer name text) c (entry ∷ []) es i s g (λ f. (may f).load)
      same c m entry es i s g false = refl

      next : (c : NamedClient) (m : Message) (es : List Entry) → IsFound w.clients c → IsServed r.owner (length w.names) w.sequencer w.log c.name es c.client
          → (F → IsFormed c.client) → Goes (event.Offer name text) (offer_next w c m es)
      next c m [] i s g = refl
      next c m (entry ∷ es) i s g = same c m entry es i s g (same_message m entry.msg)

      ordered : (c : NamedClient) (m : Message) (s : Meets w r c) (b : Bool)
          → Goes (event.Offer name text) (cond b (offer_next w c m (ahead_of w c.client)) (Err (OutOfOrder (c.client.doc.number + 1) m.seq)))
      ordered c m s true = subst (λ es. Goes (event.Offer name text) (offer_next w c m es)) (sym (ahead-is r.owner w c s.rest s.served)) (next c m s.rest s.found s.served s.formed)
      ordered c m s false = refl

      read : (c : NamedClient) → Meets w r c → (a : Result Message Cause) → Goes (event.Offer name text) (offered w c a)
      read c s (Err fault) = cause-number (event.Offer name text) fault refl refl
      read c s (Ok m) = ordered c m s (nat_eq m.seq (c.client.doc.number + 1))

      by : (c : NamedClient) → Meets w r c → (o : Option ℕ) → Goes (event.Offer name text) (offering w c text o)
      by c s None = refl
      by c s (Some conn) = read c s (message (encode_utf8_all text))

      one : (c : NamedClient) → find (is_client name) w.clients ≡ Some c → Goes (event.Offer name text) (offer_client w c text)
      one c f = by c (found-serves w r name c f) (conn_of c.client.link)

  -- ---- guests

  entered-reached : (w : NaiveWorld) (r : IsReachedWorld 0 w) (name : Characters) → IsUnused w.clients w.guests name → (F → w.load + 1 < 2 ^ 53)
      → IsReachedWorld 1 (enter_guest w name)
  entered-reached w r name u b =
      let n = length w.names in
      let label = connection_name name 1 in
      let other = with_owner r.owner (n + 1) None in
      let old = owner-old r.owner n None in
      let p = join w.sequencer (n + 1) label in
      let g = join-logged n w.sequencer w.log label r.base in
      let e = sym (new-count w.names label) in
      let guest : NamedGuest = record { name = name; conn = n + 1 } in
      let fresh = owner-new r.owner (n + 1) None in
      record {
        owner = other;
        base = subst (λ m. IsBase m p.0 (w.log ++ (p.1 ∷ []))) e g.base;
        clients = subst (λ m. Each (Serves other m p.0 (w.log ++ (p.1 ∷ []))) w.clients) e
            (all-logged r.owner other n (n + 1) w.sequencer w.log (n + 1) p w.clients (omega arith) old fresh g r.clients);
        guests = subst (λ m. Each (IsGuest other m) (w.guests ++ (guest ∷ []))) e
            (each-more (IsGuest other (n + 1)) w.guests guest (guests-known r.owner other n (n + 1) w.guests (omega arith) old r.guests)
            (record { by = fresh; known = omega arith }));
        named = subst (λ m. IsNamed m w.clients (w.guests ++ (guest ∷ [])) (w.names ++ (label ∷ []))) e (named-entered n w.clients w.guests w.names guest u r.named);
        distinct = r.distinct;
        paid = let sum = all-debts r.owner other n (n + 1) w.sequencer w.log (n + 1) p w.clients (omega arith) old fresh g r.clients in let cost = total-append
            entry_cost w.log (p.1 ∷ []) in let skips = entry-skips w.log p.1 in let p = r.paid in omega (arith, sum, cost, p, skips);
        bodies = λ f. each-more (λ e. IsWellFormedBody e.msg.body) w.log p.1 (r.bodies f) tt;
        bound = b;
      }

  -- the world after a message of a guest's connection
  guest-reached : (w : NaiveWorld) (r : IsReachedWorld 0 w) (conn : ℕ) (p : NaiveSequencer × Entry) (k : ℕ) → r.owner conn ≡ None
      → IsLogged (length w.names) w.sequencer w.log conn p → entry_cost p.1 + body_count p.1.msg.body ≤ k
      → (F → IsWellFormedBody p.1.msg.body) → (F → w.load + k < 2 ^ 53) → IsReachedWorld k (logged p w)
  guest-reached w r conn p k o g h body b = record {
    bodies = λ f. each-more (λ e. IsWellFormedBody e.msg.body) w.log p.1 (r.bodies f) (body f);
    bound = b;
    owner = r.owner;
    base = g.base;
    clients = all-logged r.owner r.owner (length w.names) (length w.names) w.sequencer w.log conn p w.clients (omega arith) (λ k l. refl) o g r.clients;
    guests = r.guests;
    named = r.named;
    distinct = r.distinct;
    paid =
        let sum = all-debts r.owner r.owner (length w.names) (length w.names) w.sequencer w.log conn p w.clients (omega arith) (λ k l. refl) o g r.clients in
        let cost = total-append entry_cost w.log (p.1 ∷ []) in
        let paid = r.paid in
        let skips = entry-skips w.log p.1 in
        omega (arith, sum, cost, paid, h, skips);
  }

  abbrev quiet : Result NaiveWorld Refusal → Stepped
  quiet (Err refusal) = Err refusal
  quiet (Ok v) = quietly v

  abbrev drafted : NaiveWorld → NamedGuest → Result Draft Cause → Stepped
  drafted w g (Err fault) = Err (refusal_of_cause fault)
  drafted w g (Ok d) = submit_draft w g d

  submit-turns : (w : NaiveWorld) (r : IsReachedWorld 0 w) (name text : Characters) → (F → MayBeTaken w (event.Submit name text))
      → Goes (event.Submit name text) (of_guest w name (λ g. submit_guest w g text))
  submit-turns w r name text may = of-guest w name (event.Submit name text) (λ g. submit_guest w g text) refl one
    where
      load_of : Result Draft Cause → ℕ
      load_of (Ok d) = body_load d.body
      load_of (Err fault) = 0

      sent : (g : NamedGuest) (d : Draft) → IsGuest r.owner (length w.names) g → (F → IsWellFormedBody d.body) → (F → w.load + (1 + body_load d.body) < 2 ^ 53)
          → (a : Result (NaiveSequencer × Entry) Nack) → submit w.sequencer g.conn d ≡ a
          → Turns (1 + body_load d.body) (event.Submit name text) (quiet (submitted_on w g.conn [] a))
      sent g d i body b (Err nack) h = refl
      sent g d i body b (Ok p) h =
          let t = submit-sequenced w.sequencer g.conn d p h in
          let l : IsLogged (length w.names) w.sequencer w.log g.conn p =
          subst (IsLogged (length w.names) w.sequencer w.log g.conn) (sym t.same) (sequence-logged (length w.names) w.sequencer w.log g.conn t.j d r.base t.found t.accepted) in
          let cost : entry_cost p.1 ≡ 1 + body_inserts d.body = ap (λ (z : NaiveSequencer × Entry). entry_cost z.1) t.same in
          let less = body-loaded d.body in
          let same : p.1.msg.body ≡ d.body = ap (λ (z : NaiveSequencer × Entry). z.1.msg.body) t.same in
          let subs : body_count p.1.msg.body ≡ body_count d.body = ap body_count same in
          quiet-turn _ _ (guest-reached w r g.conn p (1 + body_load d.body) i.by l (omega (arith, cost, less, subs)) (λ f. subst IsWellFormedBody (sym same) (body f)) b)

      read : (g : NamedGuest) → IsGuest r.owner (length w.names) g → (a : Result Draft Cause) → draft (encode_utf8_all text) ≡ a
          → (F → w.load + (1 + load_of a) < 2 ^ 53) → Turns (1 + load_of a) (event.Submit name text) (drafted w g a)
      read g i (Err fault) e b = cause-number (event.Submit name text) fault refl refl
      read g i (Ok d) e b = sent g d i (λ f. ((may f).text d e).body) b (submit w.sequencer g.conn d) refl

      one : (g : NamedGuest) → find (is_guest name) w.guests ≡ Some g → Goes (event.Submit name text) (submit_guest w g text)
      one g f = read g (each-found (IsGuest r.owner (length w.names)) (is_guest name) w.guests g f r.guests).0 (draft (encode_utf8_all text)) refl (λ f. (may f).load)

  abbrev parted : Option NaiveWorld → Stepped
  parted None = Err Parted
  parted (Some v) = quietly v

  left-none : (w : NaiveWorld) (conn : ℕ) → find (is_joined conn) w.sequencer.joined ≡ None → left conn w ≡ None
  left-none w conn f = ap (λ (o : Option (NaiveSequencer × Entry)). elim o [ None ↦ None | Some p ↦ Some (logged p w) ])
      (ap (λ (o : Option JoinedConnection). option_map (gone w.sequencer conn) o) f)

  part-turns : (w : NaiveWorld) (r : IsReachedWorld 0 w) (name : Characters) → (F → MayBeTaken w (event.Part name)) → Goes (event.Part name) (of_guest w name (part_guest w))
  part-turns w r name may = of-guest w name (event.Part name) (part_guest w) refl one
    where
      by : (g : NamedGuest) → IsGuest r.owner (length w.names) g → (o : Option JoinedConnection) → find (is_joined g.conn) w.sequencer.joined ≡ o
          → Goes (event.Part name) (parted (left g.conn w))
      by g i None f = subst (λ v. Goes (event.Part name) (parted v)) (sym (left-none w g.conn f)) refl
      by g i (Some j) f =
          subst (λ v. Goes (event.Part name) (parted v)) (sym (left-found w g.conn j f))
          (quiet-turn _ _ (guest-reached w r g.conn (gone w.sequencer g.conn j) 1 i.by
          (leave-logged (length w.names) w.sequencer w.log g.conn j r.base f) (omega arith) (λ f. tt) (λ f. (may f).load)))

      one : (g : NamedGuest) → find (is_guest name) w.guests ≡ Some g → Goes (event.Part name) (part_guest w g)
      one g f = by g (each-found (IsGuest r.owner (length w.names)) (is_guest name) w.guests g f r.guests).0 (find (is_joined g.conn) w.sequencer.joined) refl

  -- ---- all events

  blame-turns : (w : NaiveWorld) (r : IsReachedWorld 0 w) (name : Characters) (a b : ℕ) (x : NaiveClient) → (F → w.load + 1 < 2 ^ 53)
      → Goes (event.Blame name a b) (blame_client w x a b)
  blame-turns w r name a b x low = by _ (nat_lt (length (blame x)) b)
    where
      by : (values : List Data) (t : Bool) → Goes (event.Blame name a b) (cond t (Err (OutOfRange (length (blame x)))) (Ok (w, Texts values)))
      by values true = refl
      by values false = texts-turn _ w values low r

  -- what a client shows is what the log will show of it
  show-turns : (w : NaiveWorld) (r : IsReachedWorld 0 w) (name : Characters) → (F → w.load + 1 < 2 ^ 53) → Goes (event.Show name) (of_client w name (λ c. Ok (w, View c)))
  show-turns w r name low = of-client w name (event.Show name) (λ c. Ok (w, View c)) refl one
    where
      one : (c : NamedClient) → find (is_client name) w.clients ≡ Some c → Goes (event.Show name) (Ok (w, View c))
      one c f =
          let s = found-serves w r name c f in
          let top : content c.client ≡ applied c.client w.log (next_conn w) =
          pending-stays-on_top s.served.steps c.client s.rest (next_conn w) s.served.run.made s.served.run.bodies
          ∙ ap (λ log. applied c.client log (next_conn w)) s.served.entries in
          record { reached = reached-more 0 1 w (omega arith) low r; same = ap (λ v. head_line c ∷ content_lines v) top }

  happens : (w : NaiveWorld) (r : IsReachedWorld 0 w) (e : Event) → (F → MayBeTaken w e) → Goes e (happen w e)
  happens w r (event.Start name None) may = with-name w name (event.Start name None) (start_client w name None) refl refl (λ u. start-turns w r name None u (λ f. (may f).load))
  happens w r (event.Start name (Some from)) may = with-name w name (event.Start name (Some from)) (start_client w name (Some from)) refl refl
      (λ u. start-turns w r name (Some from) u (λ f. (may f).load))
  happens w r (event.Connect name) may = connect-turns w r name may
  happens w r (event.Drop name) may = drop-turns w r name may
  happens w r (event.Edit name op) may = edit-turns w r name op may
  happens w r (event.Ticket name many) may = ticket-turns w r name many may
  happens w r (event.Deliver name many) may = deliver-turns w r name many may
  happens w r (event.Noop name) may = noop-turns w r name may
  happens w r (event.Show name) may = show-turns w r name (λ f. (may f).load)
  happens w r (event.Queue name) may = of-client w name (event.Queue name) _ refl (λ c f. texts-turn _ w _ (λ g. (may g).load) r)
  happens w r (event.Compact name) may = of-client w name (event.Compact name) _ refl (λ c f. quiet-turn _ w (reached-more 0 1 w (omega arith) (λ g. (may g).load) r))
  happens w r (event.Summary name) may = of-client w name (event.Summary name) _ refl
      (λ c f. unless-pending c.client (event.Summary name) _ refl (λ none. texts-turn _ w _ (λ g. (may g).load) r))
  happens w r (event.Offer name text) may = offer-turns w r name text may
  happens w r event.History may = texts-turn _ w _ (λ g. (may g).load) r
  happens w r (event.Guest name) may = with-name w name (event.Guest name) (quietly (enter_guest w name)) refl refl
      (λ u. quiet-turn _ _ (entered-reached w r name u (λ f. (may f).load)))
  happens w r (event.Submit name text) may = submit-turns w r name text may
  happens w r (event.Part name) may = part-turns w r name may
  happens w r (event.Overlap name label a b) may = of-client w name (event.Overlap name label a b) _ refl (λ c f. texts-turn _ w _ (λ g. (may g).load) r)
  happens w r (event.Blame name a b) may = of-client w name (event.Blame name a b) _ refl (λ c f. blame-turns w r name a b c.client (λ g. (may g).load))
  happens w r (event.Authors name) may = of-client w name (event.Authors name) _ refl (λ c f. texts-turn _ w _ (λ g. (may g).load) r)

  -- the load changes nothing that is known
  loaded-lines : (w : NaiveWorld) (n : ℕ) (o : Output) → output_lines as_shown w o ≡ output_lines as_applied w o
      → output_lines as_shown (record w { load = n }) o ≡ output_lines as_applied (record w { load = n }) o
  loaded-lines w n Nothing h = h
  loaded-lines w n (View c) h = h
  loaded-lines w n (Texts values) h = h

  loaded-reached : (w : NaiveWorld) (n : ℕ) → IsReachedWorld n w → IsReachedWorld 0 (record w { load = w.load + n })
  loaded-reached w n r = record {
    bodies = r.bodies;
    bound = λ f. (let b = r.bound f in omega (arith, b));
    owner = r.owner;
    base = r.base;
    clients = r.clients;
    guests = r.guests;
    named = r.named;
    distinct = r.distinct;
    paid = let p = r.paid in omega (arith, p);
  }

  loaded-turns : (e : Event) (n : ℕ) (s : Stepped) → Turns n e s → Turns 0 e (loaded n s)
  loaded-turns e n (Err refusal) h = h
  loaded-turns e n (Ok p) h = record { reached = loaded-reached p.0 n h.reached; same = loaded-lines p.0 (p.0.load + n) p.1 h.same }

  pub steps-turn : (w : NaiveWorld) (r : IsReachedWorld 0 w) (e : Event) → (F → MayBeTaken w e) → Turns 0 e (step w e)
  steps-turn w r e may = loaded-turns e (1 + text_load e) (happen w e) (happens w r e may)

  abbrev gone_on : NaiveWorld → Stepped → NaiveWorld
  gone_on w (Err refusal) = w
  gone_on w (Ok p) = p.0

  after-reached : (w : NaiveWorld) (r : IsReachedWorld 0 w) (e : Event) (s : Stepped) → Turns 0 e s → IsReachedWorld 0 (gone_on w s)
  after-reached w r e (Err refusal) h = r
  after-reached w r e (Ok p) h = h.reached

  pub reaches : (es : List Event) (w : NaiveWorld) → IsReachedWorld 0 w → (F → AllMayBeTaken w es) → IsReachedWorld 0 (world_of w es)
  reaches [] w r may = r
  reaches (e ∷ es) w r may = reaches es (world_after w e) (after-reached w r e (step w e) (steps-turn w r e (λ f. (may f).0))) (λ f. (may f).1)

  pub first-reached : IsReachedWorld 0 new_world
  first-reached = record {
    owner = λ conn. None;
    base = record { order = (refl, refl); within = omega arith; joined = tt; origins = tt; sources = tt; counted = omega arith; told = tt; sent = tt };
    clients = tt;
    guests = tt;
    named = record { taken = tt; counted = tt; apart = λ l. refl };
    distinct = tt;
    paid = omega arith;
    bodies = λ f. tt;
    bound = λ f. omega arith;
  }
