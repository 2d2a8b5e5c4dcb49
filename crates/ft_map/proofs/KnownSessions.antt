-- Each event of a map session keeps what is known of it, and none is refused by the sequencer.
use Rattle.std.proofs.Common.{◌≡◌, ℕ, zero, suc, ◌+◌, ◌≤◌, Bool, true, false, cond, nat_eq, nat_le, List, [], ◌∷◌, ◌++◌, bytes_eq, length, Option, Some, None, option_map, Result, Ok, Err, take, drop, find, refl, sym, ◌∙◌, ap, subst, arith}
use Rattle.std.proofs.Math.Seq.{drop-append_seam, take-append_seam}
use Rattle.std.specs.Prelude.{⊤}
use Rattle.std.specs.List.{list_any}
use Rattle.std.specs.Option.{option_or}
use Rattle.std.proofs.lemmas.Bool.Decides.{nat_tests}
use Rattle.std.proofs.lemmas.List.{length-append}
use Rattle.std.proofs.lemmas.List.Folds.{find-append}
use Rattle.std.proofs.lemmas.Slice.Eq.{bytes_eq-Decides}
use Rattle.ft_msg.specs.declared.messages.Entry.{Entry}
use Rattle.ft_msg.specs.declared.messages.MsgKind.TheVariants as kind
use Rattle.ft_msg.specs.declared.views.Link.{Link}
use Rattle.ft_msg.specs.declared.views.Link.TheVariants.{Offline, Joining, Online}
use Rattle.ft_seqr.specs.declared.events.HowMany.{HowMany}
use Rattle.ft_seqr.specs.declared.nacks.Nack.{Nack}
use Rattle.ft_seqr.specs.declared.refusals.Refusal.{Refusal}
use Rattle.ft_seqr.specs.declared.refusals.Refusal.TheVariants.{AlreadyConnected, ClientLimit, NameInUse, Nacked, NotConnected, NothingToDeliver, Pending, UnknownClient}
use Rattle.ft_seqr.specs.RefusalKinds.{HadStopped, MeansOf, RefusalKind, Refused, WantsMemory, is_want, refusal_kind, wants_memory}
use Rattle.ft_seqr.specs.Sequencer.{JoinedConnection, NaiveSequencer, is_joined, leave, next, notice, sequence, submitted}
use Rattle.ft_seqr.specs.World.{conn_of, connection_name, name_limit, wanted_count}
use Rattle.ft_map.specs.declared.events.MapEvent.{MapEvent}
use Rattle.ft_map.specs.declared.events.MapEvent.TheVariants as event
use Rattle.ft_map.specs.declared.log.MapDraft.{MapDraft}
use Rattle.ft_map.specs.declared.log.MapEntry.{MapEntry}
use Rattle.ft_shared_map.specs.declared.ops.MapOp.{MapOp}
use Rattle.ft_shared_map.specs.Maps.{Characters, FiniteMap, put_all}
use Rattle.ft_map.specs.MapClient.{MapClient, after_entries, agreed_map, client_over, dropped, edited, joining}
use Rattle.ft_map.specs.MapSession.{MapOutput, MapService, MapSession, MapStepped, MapTurned, NamedMapClient, Nothing, Summary, ahead_of, asked, connect_client, deliver_client, drop_client, edit_client, is_client, joined, left, logged, new_session, next_conn, of_client, replaced, session_after, session_of, settled, show_client, start_client, started, step, submit_all, submit_one, summary_client, ticket_client, turned, with_name}
use Rattle.ft_map.specs.MapWorlds.{HasNoNack}
use Rattle.ft_map.specs.MapViews.{IsReached, NoDraftIsRefused, ViewsAreAgreedMaps}
use Rattle.ft_map.proofs.JoinedConnections.{IsAccepted, after_draft, joined-left, joined-more, joined-named, joined-new, joined-other, joined-submitted, least_ref-found, others, same_number, submit-accepted, within-later, within-more, within-others, within-submitted}
use Rattle.ft_map.proofs.Served.{IsLinked, IsOnline, IsQueue, queue-up, sent-foreign, sent-none, sent_op}
use Rattle.ft_map.proofs.ServedSteps.{IsBase, IsNumbered, KeepsOwners, Serves, base-minimum, moved, moved-base, serves-begun, serves-delivered, serves-dropped, serves-edited, serves-empty, serves-joins, serves-more, serves-sent}
use Rattle.ft_map.proofs.Submitting.{one_of, submit-first, then_all, ticketed, ticketed_by, ticketing, with_queue}
use Rattle.ft_map.proofs.Turns.{named_step}

-- it isn't the sequencer's
abbrev pub IsNoNack : Refusal → Type 0
IsNoNack why = (nack : Nack) → why ≡ Nacked nack → ⊥

-- after an event of the client with this name, which becomes x: what orders the messages is as it should be, and all clients stay served
pub record IsTurned (owner other : ℕ → Characters) (s t : MapService) (name : Characters) (x : MapClient) : Type 0 where
  pub base : IsBase t
  pub own : Serves other t name x
  pub others : (label : Characters) (y : MapClient) → (label ≡ name → ⊥) → Serves owner s label y → Serves other t label y

abbrev pub Turns : (ℕ → Characters) → MapService → Characters → NamedMapClient → MapTurned → Type 0
Turns owner s name c (Err why) = IsNoNack why
Turns owner s name c (Ok turn) = (other : ℕ → Characters) × (turn.client.name ≡ c.name) × IsTurned owner other s turn.service name turn.client.client

-- ---- connections

-- other connections than one of this owner
apart : (owner : ℕ → Characters) (name label : Characters) (conn k : ℕ) → owner conn ≡ name → owner k ≡ label → (label ≡ name → ⊥) → nat_eq k conn ≡ false
apart owner name label conn k o p other = by (nat_eq k conn) refl
  where
    by : (b : Bool) → nat_eq k conn ≡ b → b ≡ false
    by true e = absurd (other (sym p ∙ ap owner (same_number k conn e) ∙ o))
    by false e = refl

-- no connection of another client sent it
apart-any : (owner : ℕ → Characters) (s : MapService) (name label : Characters) (conn : ℕ) (y : MapClient) → owner conn ≡ name → (label ≡ name → ⊥) → Serves owner s label y → list_any (nat_eq conn) y.conns ≡ false
apart-any owner s name label conn y o other v = by (list_any (nat_eq conn) y.conns) refl
  where
    by : (b : Bool) → list_any (nat_eq conn) y.conns ≡ b → b ≡ false
    by true e = absurd (other (sym (v.served.conns conn e).1 ∙ o))
    by false e = refl

module _ (owner : ℕ → Characters) (s : MapService) (name : Characters) (base : IsBase s) where
  idle : (x : MapClient) → Serves owner s name x → IsTurned owner owner s s name x
  idle x v = record { base = base; own = v; others = λ label y other w. w }

  keeps-owners : KeepsOwners s owner owner
  keeps-owners k l = refl

  -- ---- joining

  abbrev new_connection : Characters → JoinedConnection
  new_connection word = record { conn = next_conn s; name = word; ref_seq = s.sequencer.minimum; client_seq = 0 }

  abbrev joined_then : Characters → List JoinedConnection
  joined_then word = s.sequencer.joined ++ new_connection word ∷ []

  abbrev join_entry : Characters → MapEntry
  join_entry word = record { entry = notice (next (joined_then word) s.sequencer) (next_conn s) word kind.Join; op = None }

  abbrev owner_then : ℕ → Characters
  owner_then k = cond (nat_eq k (next_conn s)) name (owner k)

  join-numbered : (word : Characters) → IsNumbered s (joined_then word) (next_conn s) (join_entry word)
  join-numbered word =
      let n = s.sequencer.number in
      record {
        more = omega arith;
        within = within-more n (next_conn s) s.sequencer.joined (new_connection word) (base-minimum s base) (omega arith)
            (within-later n n s.connections (next_conn s) s.sequencer.joined (omega arith) (omega arith) base.joined);
        seq = refl;
        origin = omega arith;
      }

  not-new : (k : ℕ) → k ≤ s.connections → nat_eq k (next_conn s) ≡ false
  not-new k l = grind (arith, nat_tests)

  is-new : nat_eq (next_conn s) (next_conn s) ≡ true
  is-new = grind (arith, nat_tests)

  keeps-joining : KeepsOwners s owner owner_then
  keeps-joining k l = ap (λ b. cond b name (owner k)) (not-new k l)

  join-turned : (word : Characters) (x : MapClient) → x.link ≡ Offline → Serves owner s name x → IsTurned owner owner_then s (joined word s) name (joining (next_conn s) x)
  join-turned word x link v =
      let g = join-numbered word in
      let low : s.sequencer.minimum ≤ s.sequencer.number = base-minimum s base in
      record {
        base = moved-base s (joined_then word) (next_conn s) (join_entry word) base g;
        own = serves-joins owner owner_then s (joined_then word) (next_conn s) (join_entry word) base g keeps-joining name x (next_conn s) (new_connection word) refl link refl (omega arith)
            (ap (λ b. cond b name (owner (next_conn s))) is-new)
            (joined-new s.sequencer.number s.connections s.sequencer.joined (new_connection word) refl base.joined) refl (omega (arith, low)) is-new v;
        others = λ label y other w.
            serves-more owner owner_then s (joined_then word) (next_conn s) (join_entry word) base g keeps-joining label y (sent-none y.conns (join_entry word) refl)
            (λ k h. joined-more k s.sequencer.joined (new_connection word) (not-new k (w.served.conns k h).0)) w;
      }

  abbrev connecting : NamedMapClient → Link → MapTurned
  connecting c Offline = Ok (record {
    service = joined (connection_name c.name (c.connects + 1)) s;
    client = record { name = c.name; connects = c.connects + 1; client = joining (next_conn s) c.client };
    output = Nothing;
  })
  connecting c (Joining conn) = Err AlreadyConnected
  connecting c (Online conn) = Err AlreadyConnected

  connect-turns : (c : NamedMapClient) → Serves owner s name c.client → Turns owner s name c (connect_client s c)
  connect-turns c v = by c.client.link refl
    where
      by : (link : Link) → c.client.link ≡ link → Turns owner s name c (connecting c link)
      by Offline e = (owner_then, refl, join-turned (connection_name c.name (c.connects + 1)) c.client e v)
      by (Joining conn) e = λ nack h. absurd cc
      by (Online conn) e = λ nack h. absurd cc

  -- ---- leaving

  abbrev leave_entry : ℕ → JoinedConnection → MapEntry
  leave_entry conn j = record { entry = notice (next (others conn s.sequencer.joined) s.sequencer) conn j.name kind.Leave; op = None }

  abbrev gone : ℕ → JoinedConnection → MapService
  gone conn j = moved s (others conn s.sequencer.joined) s.connections (leave_entry conn j)

  abbrev gone_with : ℕ → JoinedConnection → NaiveSequencer × Entry
  gone_with conn j = (next (others conn s.sequencer.joined) s.sequencer, notice (next (others conn s.sequencer.joined) s.sequencer) conn j.name kind.Leave)

  left-found : (conn : ℕ) (j : JoinedConnection) → find (is_joined conn) s.sequencer.joined ≡ Some j → left conn s ≡ Some (gone conn j)
  left-found conn j f =
      let out : leave s.sequencer conn ≡ Some (gone_with conn j) = ap (λ (o : Option JoinedConnection). option_map (gone_with conn) o) f in
      ap (λ (o : Option (NaiveSequencer × Entry)). option_map (λ (p : NaiveSequencer × Entry). logged p None s) o) out

  leave-turned : (x : MapClient) (conn : ℕ) (j : JoinedConnection) → list_any (nat_eq conn) x.conns ≡ true → Serves owner s name x → IsTurned owner owner s (gone conn j) name (dropped x)
  leave-turned x conn j own v =
      let mine = v.served.conns conn own in
      let joined_now = others conn s.sequencer.joined in
      let g : IsNumbered s joined_now s.connections (leave_entry conn j) = record { more = omega arith; within = within-others s.sequencer.number s.connections conn s.sequencer.joined base.joined; seq = refl; origin = mine.0 } in
      record {
        base = moved-base s joined_now s.connections (leave_entry conn j) base g;
        own = serves-dropped owner owner s joined_now s.connections (leave_entry conn j) base g keeps-owners name x refl v;
        others = λ label y other w.
            serves-more owner owner s joined_now s.connections (leave_entry conn j) base g keeps-owners label y (sent-none y.conns (leave_entry conn j) refl)
            (λ k h. joined-left k conn s.sequencer.joined (apart owner name label conn k mine.1 (w.served.conns k h).1 other)) w;
      }

  abbrev dropped_by : NamedMapClient → Option MapService → MapTurned
  dropped_by c None = Err NotConnected
  dropped_by c (Some t) = turned t c (dropped c.client)

  abbrev dropping : NamedMapClient → Option ℕ → MapTurned
  dropping c None = Err NotConnected
  dropping c (Some conn) = dropped_by c (left conn s)

  drop-turns : (c : NamedMapClient) → Serves owner s name c.client → Turns owner s name c (drop_client s c)
  drop-turns c v = by c.client.link v.served.linked
    where
      leaves : (conn : ℕ) (j : JoinedConnection) → list_any (nat_eq conn) c.client.conns ≡ true → find (is_joined conn) s.sequencer.joined ≡ Some j → Turns owner s name c (dropped_by c (left conn s))
      leaves conn j own f = subst (λ o. Turns owner s name c (dropped_by c o)) (sym (left-found conn j f)) (owner, refl, leave-turned c.client conn j own v)

      by : (link : Link) → IsLinked c.client v.rest s.sequencer link → Turns owner s name c (dropping c (conn_of link))
      by Offline l = λ nack h. absurd cc
      by (Joining conn) l = leaves conn l.has.j l.has.own l.has.found
      by (Online conn) l = leaves conn l.has.j l.has.own l.has.found

  -- ---- what the sequencer has no part in

  edit-turns : (c : NamedMapClient) (op : MapOp) → Serves owner s name c.client → Turns owner s name c (turned s c (edited op c.client))
  edit-turns c op v = (owner, refl, idle (edited op c.client) (serves-edited owner s name c.client op v))

  ask-turns : (c : NamedMapClient) → Serves owner s name c.client → (other : ℕ → Characters) × (c.name ≡ c.name) × IsTurned owner other s s name c.client
  ask-turns c v = (owner, refl, idle c.client v)

  abbrev summarized : NamedMapClient → List MapOp → MapTurned
  summarized c [] = asked s c (Summary c.client)
  summarized c (op ∷ ops) = Err (Pending (length c.client.state.pending))

  summary-turns : (c : NamedMapClient) → Serves owner s name c.client → Turns owner s name c (summary_client s c)
  summary-turns c v = by c.client.state.pending
    where
      by : (ops : List MapOp) → Turns owner s name c (summarized c ops)
      by [] = ask-turns c v
      by (op ∷ ops) = λ nack h. absurd cc

  rest-ahead : (x : MapClient) (v : Serves owner s name x) → ahead_of s x ≡ v.rest
  rest-ahead x v = ap (drop x.number) v.served.log ∙ ap (λ n. drop n (v.seen ++ v.rest)) v.served.number ∙ drop-append_seam v.seen v.rest

  abbrev delivered_by : NamedMapClient → Option ℕ → MapTurned
  delivered_by c None = Err (NothingToDeliver (length (ahead_of s c.client)))
  delivered_by c (Some n) = turned s c (after_entries c.client (take n (ahead_of s c.client)))

  abbrev delivering : NamedMapClient → HowMany → Option ℕ → MapTurned
  delivering c many None = Err NotConnected
  delivering c many (Some conn) = delivered_by c (wanted_count many (length (ahead_of s c.client)))

  deliver-turns : (c : NamedMapClient) (many : HowMany) → Serves owner s name c.client → Turns owner s name c (deliver_client many s c)
  deliver-turns c many v = by (conn_of c.client.link)
    where
      so-many : (o : Option ℕ) → Turns owner s name c (delivered_by c o)
      so-many None = λ nack h. absurd cc
      so-many (Some n) = (
        owner,
        refl,
        idle (after_entries c.client (take n (ahead_of s c.client))) (subst (λ es. Serves owner s name (after_entries c.client (take n es))) (sym (rest-ahead c.client v))
            (serves-delivered owner s name n v.seen v.rest c.client v.served)),
      )

      by : (o : Option ℕ) → Turns owner s name c (delivering c many o)
      by None = λ nack h. absurd cc
      by (Some conn) = so-many (wanted_count many (length (ahead_of s c.client)))

-- ---- drafts

-- so many unsent messages of the client are numbered
pub record AreSubmitted (owner : ℕ → Characters) (s : MapService) (name : Characters) (x : MapClient) (conn : ℕ) (first rest : List MapDraft) : Type 0 where
  pub after : MapService
  pub all : submit_all s conn first ≡ Ok after
  pub turned : IsTurned owner owner s after name (with_queue rest x)

module _ (owner : ℕ → Characters) (name : Characters) where
  abbrev sent_entry : MapService → JoinedConnection → MapDraft → MapEntry
  sent_entry s j d = record { entry = (sequence s.sequencer j d.draft).1; op = Some d.op }

  abbrev sequenced : MapService → JoinedConnection → MapDraft → MapService
  sequenced s j d = moved s (after_draft j.conn d.draft s.sequencer.joined) s.connections (sent_entry s j d)

  -- the oldest one
  submit-turned : (s : MapService) (base : IsBase s) (x : MapClient) (conn : ℕ) (d : MapDraft) (ds : List MapDraft) → x.link ≡ Online conn → x.queue ≡ d ∷ ds → (v : Serves owner s name x)
      → IsOnline x v.rest s.sequencer conn → AreSubmitted owner s name x conn (d ∷ []) ds
  submit-turned s base x conn d ds link queue v l =
      let j = l.has.j in
      let q = s.sequencer in
      let mine = v.served.conns conn l.has.own in
      let named : j.conn ≡ conn = joined-named conn q.joined j l.has.found in
      let numbers : IsQueue j.client_seq j.ref_seq (d ∷ ds) x.number x.next_client_seq = subst (λ k. IsQueue j.client_seq j.ref_seq k x.number x.next_client_seq) queue l.numbers in
      let up : d.draft.ref_seq ≤ x.number = queue-up (j.client_seq + 1) d.draft.ref_seq ds x.number x.next_client_seq numbers.2 in
      let least : q.minimum ≤ j.ref_seq = subst (λ n. n ≤ j.ref_seq) (sym base.minimum) (least_ref-found q.number conn q.joined j l.has.found) in
      let number = base.number in
      let reached = v.served.number in
      let whole : length s.log ≡ length v.seen + length v.rest = ap length v.served.log ∙ length-append v.seen v.rest in
      let below : d.draft.ref_seq ≤ q.number = omega (arith, up, number, reached, whole) in
      let rising : j.ref_seq ≤ d.draft.ref_seq = numbers.1 in
      let accepted : IsAccepted q j d.draft = record { next = numbers.0; above = omega (arith, least, rising); rising = rising; below = below } in
      let joined_now = after_draft j.conn d.draft q.joined in
      let e = sent_entry s j d in
      let g : IsNumbered s joined_now s.connections e = record {
        more = omega arith;
        within = within-submitted q.number s.connections j.conn d.draft q.joined below base.joined;
        seq = refl;
        origin = subst (λ k. k ≤ s.connections) (sym named) mine.0;
      } in
      let same : KeepsOwners s owner owner = λ k h. refl in
      let one : submit_one s conn d ≡ Ok (sequenced s j d) = ap (one_of s d) (submit-accepted q conn j d.draft l.has.found accepted) in
      let sends : sent_op x.conns e ≡ d.op ∷ [] = ap (λ k. cond (list_any (nat_eq k) x.conns) (d.op ∷ []) []) named ∙ ap (λ b. cond b (d.op ∷ []) []) l.has.own in
      let found : find (is_joined conn) joined_now ≡ Some (submitted d.draft j) = subst (λ k. find (is_joined conn) (after_draft k d.draft q.joined) ≡ Some (submitted d.draft j)) (sym named) (joined-submitted conn d.draft q.joined j l.has.found) in
      record {
        after = sequenced s j d;
        all = submit-first conn d [] s ∙ ap (then_all conn []) one;
        turned = record {
          base = moved-base s joined_now s.connections e base g;
          own = serves-sent owner owner s joined_now s.connections e base g same name x conn d ds v l link queue sends found;
          others = λ label y other w.
              serves-more owner owner s joined_now s.connections e base g same label y
              (sent-foreign y.conns e (ap (λ k. list_any (nat_eq k) y.conns) named ∙ apart-any owner s name label conn y mine.1 other w))
              (λ k h. joined-other k j.conn d.draft q.joined (ap (nat_eq k) named ∙ apart owner name label conn k mine.1 (w.served.conns k h).1 other)) w;
        };
      }

  turned-then : (s t u : MapService) (x y : MapClient) → IsTurned owner owner s t name x → IsTurned owner owner t u name y → IsTurned owner owner s u name y
  turned-then s t u x y a b = record { base = b.base; own = b.own; others = λ label z other w. b.others label z other (a.others label z other w) }

  none-turned : (s : MapService) (base : IsBase s) (x : MapClient) (conn : ℕ) (ds : List MapDraft) → x.queue ≡ ds → Serves owner s name x → AreSubmitted owner s name x conn [] ds
  none-turned s base x conn ds queue v = record { after = s; all = refl; turned = idle owner s name base (with_queue ds x) (subst (λ q. Serves owner s name (with_queue q x)) queue v) }

  -- and then others
  next-submitted : (s : MapService) (x : MapClient) (conn : ℕ) (d : MapDraft) (ds first rest : List MapDraft) (a : AreSubmitted owner s name x conn (d ∷ []) ds)
      → AreSubmitted owner a.after name (with_queue ds x) conn first rest → AreSubmitted owner s name x conn (d ∷ first) rest
  next-submitted s x conn d ds first rest a b = record {
    after = b.after;
    all = submit-first conn d first s ∙ one (submit_one s conn d) (sym (submit-first conn d [] s) ∙ a.all);
    turned = turned-then s a.after b.after (with_queue ds x) (with_queue rest x) a.turned b.turned;
  }
    where
      one : (r : Result MapService Refusal) → then_all conn [] r ≡ Ok a.after → then_all conn first r ≡ Ok b.after
      one (Err why) h = absurd cc
      one (Ok t) h = let same : t ≡ a.after = (cc) in ap (λ (u : MapService). submit_all u conn first) same ∙ b.all

  online-submits : (n : ℕ) (ds : List MapDraft) (s : MapService) (base : IsBase s) (x : MapClient) (conn : ℕ) → x.link ≡ Online conn → x.queue ≡ ds → Serves owner s name x
      → AreSubmitted owner s name x conn (take n ds) (drop n ds)
  online-submits zero ds s base x conn link queue v = none-turned s base x conn ds queue v
  online-submits (suc n) [] s base x conn link queue v = none-turned s base x conn [] queue v
  online-submits (suc n) (d ∷ ds) s base x conn link queue v =
      let l : IsOnline x v.rest s.sequencer conn = subst (λ k. IsLinked x v.rest s.sequencer k) link v.served.linked in
      let a = submit-turned s base x conn d ds link queue v l in
      next-submitted s x conn d ds (take n ds) (drop n ds) a (online-submits n ds a.after a.turned.base (with_queue ds x) conn link refl a.turned.own)

  joining-submits : (n : ℕ) (s : MapService) (base : IsBase s) (x : MapClient) (conn : ℕ) → x.queue ≡ [] → Serves owner s name x → AreSubmitted owner s name x conn (take n []) (drop n [])
  joining-submits zero s base x conn queue v = none-turned s base x conn [] queue v
  joining-submits (suc n) s base x conn queue v = none-turned s base x conn [] queue v

  module _ (s : MapService) (base : IsBase s) (c : NamedMapClient) (v : Serves owner s name c.client) where
    ticket-turns : (many : HowMany) → Turns owner s name c (ticket_client many s c)
    ticket-turns many = by c.client.link refl v.served.linked
      where
        submits : (n conn : ℕ) → AreSubmitted owner s name c.client conn (take n c.client.queue) (drop n c.client.queue) → Turns owner s name c (ticketed_by s c conn (Some n))
        submits n conn a = subst (λ r. Turns owner s name c (ticketed c (drop n c.client.queue) r)) (sym a.all) (owner, refl, a.turned)

        so-many : (conn : ℕ) → ((n : ℕ) → AreSubmitted owner s name c.client conn (take n c.client.queue) (drop n c.client.queue)) → (o : Option ℕ) → Turns owner s name c (ticketed_by s c conn o)
        so-many conn f None = λ nack h. absurd cc
        so-many conn f (Some n) = submits n conn (f n)

        by : (link : Link) → c.client.link ≡ link → IsLinked c.client v.rest s.sequencer link → Turns owner s name c (ticketing s c many (conn_of link))
        by Offline e l = λ nack h. absurd cc
        by (Joining conn) e l =
            so-many conn (λ n. subst (λ q. AreSubmitted owner s name c.client conn (take n q) (drop n q)) (sym l.empty) (joining-submits n s base c.client conn l.empty v))
            (wanted_count many (length c.client.queue))
        by (Online conn) e l = so-many conn (λ n. online-submits n c.client.queue s base c.client conn e refl v) (wanted_count many (length c.client.queue))

-- ---- sessions

-- the messages are ordered as they should be, and each client is served
pub record IsKnown (w : MapSession) : Type 0 where
  pub base : IsBase w.service
  pub owner : ℕ → Characters
  pub serves : (name : Characters) (c : NamedMapClient) → find (is_client name) w.clients ≡ Some c → Serves owner w.service name c.client

abbrev pub IsKept : MapStepped → Type 0
IsKept (Err why) = IsNoNack why
IsKept (Ok p) = IsKnown p.0

same-name : (name other : Characters) → bytes_eq name other ≡ true → name ≡ other
same-name name other h = (bytes_eq-Decides name other).0 h

-- a client that is found has the name
named : (name : Characters) (cs : List NamedMapClient) (c : NamedMapClient) → find (is_client name) cs ≡ Some c → name ≡ c.name
named name [] c h = absurd cc
named name (b ∷ cs) c h = by (λ g. named name cs c g) (is_client name b) refl h
  where
    by : (find (is_client name) cs ≡ Some c → name ≡ c.name) → (t : Bool) → bytes_eq name b.name ≡ t → cond t (Some b) (find (is_client name) cs) ≡ Some c → name ≡ c.name
    by ih true e g = let same : b ≡ c = (cc) in same-name name b.name e ∙ ap (λ (d : NamedMapClient). d.name) same
    by ih false e g = ih g

module _ (name : Characters) (d : NamedMapClient) (is : d.name ≡ name) where
  found-replaced : (cs : List NamedMapClient) (c : NamedMapClient) → find (is_client name) cs ≡ Some c → find (is_client name) (replaced name d cs) ≡ Some d
  found-replaced [] c h = absurd cc
  found-replaced (b ∷ cs) c h = by (λ g. found-replaced cs c g) (is_client name b) refl h
    where
      own : is_client name d ≡ true
      own = (bytes_eq-Decides name d.name).1 (sym is)

      by : (find (is_client name) cs ≡ Some c → find (is_client name) (replaced name d cs) ≡ Some d) → (t : Bool) → is_client name b ≡ t → cond t (Some b) (find (is_client name) cs) ≡ Some c
          → find (is_client name) (cond t (d ∷ cs) (b ∷ replaced name d cs)) ≡ Some d
      by ih true e g = rw own refl
      by ih false e g = rw e (ih g)

  others-replaced : (label : Characters) (cs : List NamedMapClient) → bytes_eq label name ≡ false → find (is_client label) (replaced name d cs) ≡ find (is_client label) cs
  others-replaced label [] h = refl
  others-replaced label (b ∷ cs) h = by (others-replaced label cs h) (is_client name b) refl
    where
      new : is_client label d ≡ false
      new = ap (bytes_eq label) is ∙ h

      by : find (is_client label) (replaced name d cs) ≡ find (is_client label) cs → (t : Bool) → is_client name b ≡ t
          → find (is_client label) (cond t (d ∷ cs) (b ∷ replaced name d cs)) ≡ find (is_client label) (b ∷ cs)
      by ih true e = let old : is_client label b ≡ false = ap (bytes_eq label) (sym (same-name name b.name e)) ∙ h in rw (new, old) refl
      by ih false e = ap (λ (o : Option NamedMapClient). cond (is_client label b) (Some b) o) ih

module _ (w : MapSession) (k : IsKnown w) where
  -- a client after its event in the place of the one that was found
  turn-known : (name : Characters) (c d : NamedMapClient) (t : MapService) (other : ℕ → Characters) → find (is_client name) w.clients ≡ Some c → d.name ≡ c.name
      → IsTurned k.owner other w.service t name d.client → IsKnown (record { clients = replaced name d w.clients; service = t })
  turn-known name c d t other f same turn = record {
    base = turn.base;
    owner = other;
    serves = λ label e g. by label e (bytes_eq label name) refl g;
  }
    where
      is : d.name ≡ name
      is = same ∙ sym (named name w.clients c f)

      by : (label : Characters) (e : NamedMapClient) (b : Bool) → bytes_eq label name ≡ b → find (is_client label) (replaced name d w.clients) ≡ Some e → Serves other t label e.client
      by label e true h g =
          let one : label ≡ name = same-name label name h in
          let there : Some d ≡ Some e = sym (found-replaced name d is w.clients c f) ∙ ap (λ l. find (is_client l) (replaced name d w.clients)) (sym one) ∙ g in
          let it : d ≡ e = (cc) in
          subst (λ l. Serves other t l e.client) (sym one) (subst (λ (i : NamedMapClient). Serves other t name i.client) it turn.own)
      by label e false h g =
          turn.others label e.client (λ one. differ (ap (λ l. bytes_eq l name) one ∙ (bytes_eq-Decides name name).1 refl) h)
          (k.serves label e (sym (others-replaced name d is label w.clients h) ∙ g))
        where
          differ : bytes_eq label name ≡ true → bytes_eq label name ≡ false → ⊥
          differ p q = absurd cc

  settle-kept : (name : Characters) (c : NamedMapClient) (t : MapTurned) → find (is_client name) w.clients ≡ Some c → Turns k.owner w.service name c t → IsKept (settled w name t)
  settle-kept name c (Err why) f h = h
  settle-kept name c (Ok turn) f h = turn-known name c turn.client turn.service h.0 f h.1 h.2

  abbrev found_step : Characters → (MapService → NamedMapClient → MapTurned) → Option NamedMapClient → MapStepped
  found_step name f None = Err UnknownClient
  found_step name f (Some c) = settled w name (f w.service c)

  client-kept : (name : Characters) (f : MapService → NamedMapClient → MapTurned)
      → ((c : NamedMapClient) → Serves k.owner w.service name c.client → Turns k.owner w.service name c (f w.service c)) → IsKept (of_client w name f)
  client-kept name f h = by (find (is_client name) w.clients) refl
    where
      by : (o : Option NamedMapClient) → find (is_client name) w.clients ≡ o → IsKept (found_step name f o)
      by None e = λ nack g. absurd cc
      by (Some c) e = settle-kept name c (f w.service c) e (h c (k.serves name c e))

  abbrev new_client : Characters → MapClient → NamedMapClient
  new_client name x = record { name = name; connects = 0; client = x }

  -- a new client
  started-known : (name : Characters) (x : MapClient) → ((label : Characters) → Serves k.owner w.service label x) → IsKept (started w name x)
  started-known name x v = record {
    base = k.base;
    owner = k.owner;
    serves = λ label c h. by label c (find (is_client label) w.clients) refl (sym (find-append (is_client label) w.clients (new_client name x ∷ [])) ∙ h);
  }
    where
      last : (label : Characters) (c : NamedMapClient) (t : Bool) → cond t (Some (new_client name x)) None ≡ Some c → Serves k.owner w.service label c.client
      last label c true h = let same : new_client name x ≡ c = (cc) in subst (λ (d : NamedMapClient). Serves k.owner w.service label d.client) same (v label)
      last label c false h = absurd cc

      by : (label : Characters) (c : NamedMapClient) (o : Option NamedMapClient) → find (is_client label) w.clients ≡ o
          → option_or o (find (is_client label) (new_client name x ∷ [])) ≡ Some c → Serves k.owner w.service label c.client
      by label c (Some d) f h = k.serves label c (f ∙ h)
      by label c None f h = last label c (is_client label (new_client name x)) h

  abbrev begun_by : Characters → NamedMapClient → List MapOp → MapStepped
  begun_by name c [] = started w name (client_over c.client.state.acked c.client.number c.client.minimum)
  begun_by name c (op ∷ ops) = Err (Pending (length c.client.state.pending))

  abbrev begun : Characters → Option NamedMapClient → MapStepped
  begun name None = Err UnknownClient
  begun name (Some c) = begun_by name c c.client.state.pending

  start-kept : (name : Characters) (from : Option Characters) → IsKept (start_client w name from)
  start-kept name None = started-known name (client_over [] 0 0) (λ label. serves-empty k.owner w.service label k.base.logged)
  start-kept name (Some from) = by (find (is_client from) w.clients) refl
    where
      copies : (c : NamedMapClient) (ops : List MapOp) → Serves k.owner w.service from c.client → IsKept (begun_by name c ops)
      copies c [] v = started-known name (client_over c.client.state.acked c.client.number c.client.minimum) (λ label. serves-begun k.owner w.service label from c.client v)
      copies c (op ∷ ops) v = λ nack h. absurd cc

      by : (o : Option NamedMapClient) → find (is_client from) w.clients ≡ o → IsKept (begun name o)
      by None e = λ nack h. absurd cc
      by (Some c) e = copies c c.client.state.pending (k.serves from c e)

  named-kept : (name : Characters) (taken : MapStepped) → IsKept taken → IsKept (with_name w name taken)
  named-kept name taken h = by (list_any (is_client name) w.clients) (nat_le name_limit (length w.clients))
    where
      by : (a b : Bool) → IsKept (named_step (cond a (Some NameInUse) (cond b (Some ClientLimit) None)) taken)
      by true b = λ nack g. absurd cc
      by false true = λ nack g. absurd cc
      by false false = h

  -- each event keeps it
  pub step-kept : (e : MapEvent) → IsKept (step w e)
  step-kept (event.Start name from) = named-kept name (start_client w name from) (start-kept name from)
  step-kept (event.Connect name) = client-kept name connect_client (λ c v. connect-turns k.owner w.service name k.base c v)
  step-kept (event.Drop name) = client-kept name drop_client (λ c v. drop-turns k.owner w.service name k.base c v)
  step-kept (event.Edit name op) = client-kept name (edit_client op) (λ c v. edit-turns k.owner w.service name k.base c op v)
  step-kept (event.Ticket name many) = client-kept name (ticket_client many) (λ c v. ticket-turns k.owner name w.service k.base c v many)
  step-kept (event.Deliver name many) = client-kept name (deliver_client many) (λ c v. deliver-turns k.owner w.service name k.base c many v)
  step-kept (event.Show name) = client-kept name show_client (λ c v. ask-turns k.owner w.service name k.base c v)
  step-kept (event.Summary name) = client-kept name summary_client (λ c v. summary-turns k.owner w.service name k.base c v)

-- ---- all that events reach

new-known : IsKnown new_session
new-known = record {
  base = record { number = refl; minimum = refl; joined = tt; logged = tt };
  owner = λ k. [];
  serves = λ name c h. absurd cc;
}

abbrev went_on : MapSession → MapStepped → MapSession
went_on w (Err why) = w
went_on w (Ok p) = p.0

events-known : (es : List MapEvent) (w : MapSession) → IsKnown w → IsKnown (session_of w es)
events-known [] w k = k
events-known (e ∷ es) w k = events-known es (session_after w e) (by (step w e) (step-kept w k e))
  where
    by : (r : MapStepped) → IsKept r → IsKnown (went_on w r)
    by (Err why) h = k
    by (Ok p) h = h

pub reached-known : (es : List MapEvent) → IsKnown (session_of new_session es)
reached-known es = events-known es new_session new-known

pub views : ViewsAreAgreedMaps
views es name c reaches =
    let w = session_of new_session es in
    let v = (reached-known es).serves name c reaches in
    let seen : v.seen ≡ take c.client.number w.service.log =
    sym (ap (take c.client.number) v.served.log ∙ ap (λ n. take n (v.seen ++ v.rest)) v.served.number ∙ take-append_seam v.seen v.rest) in
    ap (λ (m : FiniteMap). put_all m c.client.state.pending) (v.served.acked ∙ ap agreed_map seen)

session_of-more : (es : List MapEvent) (w : MapSession) (e : MapEvent) → session_of w (es ++ e ∷ []) ≡ session_after (session_of w es) e
session_of-more [] w e = refl
session_of-more (x ∷ es) w e = session_of-more es (session_after w x) e

-- events reach what an event makes of a session that they reach
pub reached-next : (w v : MapSession) (e : MapEvent) (output : MapOutput) → IsReached w → step w e ≡ Ok (v, output) → IsReached v
reached-next w v e output (es, is) h = (es ++ e ∷ [], session_of-more es new_session e ∙ ap (λ (x : MapSession). session_after x e) is ∙ ap (went_on w) h)

-- also where it is refused for another reason than OutOfMemory
pub reached-refused : (w v : MapSession) (why : Refusal) (stopped : Bool) (A : Type 0) → stopped ≡ is_want why → IsReached w → MeansOf (refusal_kind why) ⊤ ((v ≡ w) × A) → stopped ≡ false → IsReached v
reached-refused w v why stopped A is r h running = by (refusal_kind why) (sym is ∙ running) h
  where
    by : (k : RefusalKind) → wants_memory k ≡ false → MeansOf k ⊤ ((v ≡ w) × A) → IsReached v
    by WantsMemory e m = absurd cc
    by HadStopped e m = absurd m
    by Refused e m = subst IsReached (sym m.0) r

pub no-nack : NoDraftIsRefused
no-nack es e nack h = subst IsKept h (step-kept (session_of new_session es) (reached-known es) e) nack refl

pub reached-unrefused : (w : MapSession) (e : MapEvent) → IsReached w → HasNoNack (step w e)
reached-unrefused w e (es, is) = subst (λ (x : MapSession). HasNoNack (step x e)) is (no-nack es e)
