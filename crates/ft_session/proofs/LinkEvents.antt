-- A client connects and goes offline.
use Rattle.std.proofs.Common.{◌≡◌, ◌<◌, ◌≤◌, ℕ, ◌+◌, ◌^◌, max, List, [], length, Option, Some, None, Result, Ok, Err, refl, sym, ◌∙◌, ap, subst, arith}
use Rattle.ft_base.proofs.Options.{some-same}
use Rattle.ft_props.specs.Properties.{Characters}
use Rattle.ft_laws_summaries.proofs.Lists.{each-found}
use Rattle.ft_msg.specs.declared.faults.LinkFault.{LinkFault}
use Rattle.ft_msg.specs.declared.faults.LinkFault.TheVariants as link
use Rattle.ft_msg.specs.declared.messages.Entry.{Entry}
use Rattle.ft_msg.specs.declared.views.Link.{Link}
use Rattle.ft_msg.specs.declared.views.Link.TheVariants.{Offline, Joining, Online}
use Rattle.ft_msg.specs.Answers.{Answers, ReplicaState, RunsFor, link_fault_kind}
use Rattle.ft_msg.specs.Client.{NaiveClient, connect, drop_link}
use Rattle.ft_msg.proofs.LinkSteps.{stands-link}
use Rattle.ft_seqr.specs.declared.refusals.Refusal.{Refusal}
use Rattle.ft_seqr.specs.declared.refusals.Refusal.TheVariants.{NotConnected}
use Rattle.ft_seqr.specs.Refusals.{refusal_of_link}
use Rattle.ft_seqr.specs.Sequencer.{NaiveSequencer, leave}
use Rattle.ft_seqr.specs.World.{NaiveWorld, NamedClient, Nothing, Stepped, conn_of, connect_client, connection_name, drop_client, is_client, joined, left, logged, next_conn, quietly, with_client}
use Rattle.ft_laws_sessions.specs.NewNames.{IsNewName}
use Rattle.ft_laws_sessions.proofs.MadeWorlds.{made-connection, made-within}
use Rattle.ft_session.specs.declared.outputs.Out.TheVariants as out
use Rattle.ft_session.specs.Services.{AnswersService, left_or_refused}
use Rattle.ft_seqr.specs.RefusalKinds.{refusal_kind}
use Rattle.ft_session.specs.Worlds.{AnswersClient, Meets, MeetsSome, MemberStands, MemberState, ServiceState, service_of}
use Rattle.ft_seqr.proofs.RefusalKinds.{means-weaker}
use Rattle.ft_session.proofs.RefusalKinds.{fault-means, link-alike, some-none}
use Rattle.ft_session.proofs.Numbers.{connect-number, drop-number}
use Rattle.ft_session.proofs.OwnEvents.{meets-reached, member-stepped, with_replica}
use Rattle.ft_session.proofs.Placing.{member-grown}

-- the name of the next connection is new
pub new-name : (m : MemberState) (s : ServiceState) (connects : ℕ) (name : Characters) → MeetsSome m s → length s.names + 1 < 2 ^ 64 → connects ≡ m.connects + 1
    → name ≡ connection_name m.name connects → IsNewName s.names name
new-name m s connects name some few k n =
    let w = some.world in
    let c = some.client in
    let t = some.meets.member in
    let names : s.names ≡ w.names = ap (λ (a : ServiceState). a.names) some.meets.service in
    let made = made-connection w some.meets.made c.name c some.meets.found (subst (λ (ns : List Characters). length ns + 1 < 2 ^ 64) names few) in
    subst (λ ns. IsNewName ns name) (sym names)
    (subst (λ l. IsNewName w.names l) (sym (n ∙ ap (λ l. connection_name l connects) t.name ∙ ap (connection_name c.name) (k ∙ ap (λ i. i + 1) t.connects))) made)

pub ok-same : (v u : NaiveWorld) (r : Result NaiveWorld Refusal) → r ≡ Ok v → r ≡ Ok u → v ≡ u
ok-same v u r h k = (cc)

module _ (m : MemberState) (before : ServiceState) (new : ReplicaState) where
  -- a client as it connects
  abbrev after_connect : NaiveWorld → NamedClient → Result NaiveClient LinkFault → Stepped
  after_connect w c r = elim r [
    | Err fault ↦ Err (refusal_of_link fault)
    | Ok x ↦ quietly (with_client (record c { client = x; connects = c.connects + 1 }) (joined (connection_name c.name (c.connects + 1)) w))
  ]

  same-conn : (w : NaiveWorld) (conn : ℕ) → before ≡ service_of w → conn ≡ length before.names + 1 → conn ≡ next_conn w
  same-conn w conn s h = h ∙ ap (λ (a : ServiceState). length a.names + 1) s

  pub connect-refused : (conn : ℕ) (fault : LinkFault) → conn ≡ length before.names + 1 → Answers link_fault_kind 0 (λ x. connect x conn) m.replica new (Err fault)
      → AnswersClient connect_client m (with_replica m new) before before (Err (refusal_of_link fault))
  connect-refused conn fault h a = record {
    client = λ w c meets. means-weaker (refusal_kind (refusal_of_link fault))
        (λ p. (ap (with_replica m) p.0, refl, ap (after_connect w c) (ap (connect c.client) (sym (same-conn w conn meets.service h)) ∙ p.1)))
        (fault-means _ m.replica new (link_fault_kind fault) (refusal_kind (refusal_of_link fault)) (link-alike fault) meets.member.replica.running a.state
        (a.client c.client (meets-reached w c m before meets) meets.member.replica.client));
  }

  pub connect-taken : (after : ServiceState) (conn connects : ℕ) (name : Characters) → conn ≡ length before.names + 1 → connects ≡ m.connects + 1
      → name ≡ connection_name m.name connects → Answers link_fault_kind 0 (λ x. connect x conn) m.replica new (Ok tt)
      → ((w : NaiveWorld) → before ≡ service_of w → AnswersService before after (Ok (joined name w)) (Ok tt))
      → AnswersClient connect_client m (record m { replica = new; connects = connects }) before after (Ok out.Nothing)
  connect-taken after conn connects name h k n a service = record {
    client = λ w c meets.
        let t = meets.member in
        let (y, e, f) = a.client c.client (meets-reached w c m before meets) t.replica.client in
        let counted : connects ≡ c.connects + 1 = k ∙ ap (λ i. i + 1) t.connects in
        let named : name ≡ connection_name c.name (c.connects + 1) = n ∙ ap (λ l. connection_name l connects) t.name ∙ ap (connection_name c.name) counted in
        let v = joined (connection_name c.name (c.connects + 1)) w in
        let d : NamedClient = record c { client = y; connects = c.connects + 1 } in
        let (u, g, q) = service w meets.service in
        let kept : after ≡ service_of v = q ∙ ap service_of (sym (ok-same (joined name w) u (Ok (joined name w)) refl g)) ∙ ap (λ l. service_of (joined l w)) named in
        let o : new.origin ≡ m.replica.origin = a.state.origin ∙ (let z : max m.replica.origin 0 ≡ m.replica.origin = omega arith in z) in
        let runs : RunsFor new y = record { running = a.state.runs; client = f.client } in
        let stood = member-stepped w.log m new c y t runs o (connect-number conn c.client y e) in
        let stands : MemberStands w.log (record m { replica = new; connects = connects }) d =
        record { name = stood.name; replica = stood.replica; connects = counted; origin = stood.origin } in
        let number : y.doc.number ≡ c.client.doc.number = connect-number conn c.client y e in
        let within = (each-found (λ (b : NamedClient). b.client.doc.number ≤ length w.log) (is_client c.name) w.clients c meets.found (made-within w meets.made)).0 in (
          (with_client d v, Nothing),
          ap (after_connect w c) (ap (connect c.client) (sym (same-conn w conn meets.service h)) ∙ e),
          record {
            client = d;
            name = refl;
            member = member-grown w.log _ (record m { replica = new; connects = connects }) d (omega (arith, number, within)) stands;
            clients = refl;
            guests = refl;
            service = kept;
            later = _;
            log = refl;
            load = refl;
          },
          tt,
        );
  }

-- a client as it goes offline
module _ (m : MemberState) (before : ServiceState) where
  abbrev dropped : NaiveWorld → NamedClient → Result NaiveClient LinkFault → Stepped
  dropped v c r = elim r [ Err fault ↦ Err (refusal_of_link fault) | Ok x ↦ quietly (with_client (record c { client = x }) v) ]

  abbrev gone : NaiveWorld → NamedClient → Option NaiveWorld → Stepped
  gone w c o = elim o [ None ↦ Err NotConnected | Some v ↦ dropped v c (drop_link c.client) ]

  abbrev linked : NaiveWorld → NamedClient → Option ℕ → Stepped
  linked w c o = elim o [ None ↦ Err NotConnected | Some conn ↦ gone w c (left conn w) ]

  pub drop-offline : conn_of m.replica.client.link ≡ None → AnswersClient drop_client m m before before (Err NotConnected)
  drop-offline h = record {
    client = λ w c meets. (refl, refl, ap (linked w c) (ap conn_of (sym (stands-link m.replica.client c.client meets.member.replica.client).link) ∙ h));
  }

  module _ (conn : ℕ) (h : conn_of m.replica.client.link ≡ Some conn) where
    drop-linked : (w : NaiveWorld) (c : NamedClient) → Meets w c m before → drop_client w c ≡ gone w c (left conn w)
    drop-linked w c meets = ap (linked w c) (ap conn_of (sym (stands-link m.replica.client c.client meets.member.replica.client).link) ∙ h)

    without : (w : NaiveWorld) (o : Option NaiveWorld) (why : Refusal) → elim o as (λ _. Result NaiveWorld Refusal) [ None ↦ Err NotConnected | Some v ↦ Ok v ] ≡ Err why
        → (c : NamedClient) → gone w c o ≡ Err why
    without w None why e c = let q : NotConnected ≡ why = (cc) in ap Err q
    without w (Some v) why e c = (cc)

    pub drop-refused : (why : Refusal) (after : ServiceState) → ((w : NaiveWorld) → before ≡ service_of w → AnswersService before after (left_or_refused conn w) (Err why))
        → AnswersClient drop_client m m before after (Err why)
    drop-refused why after service = record {
      client = λ w c meets. means-weaker (refusal_kind why) (λ p. (refl, p.0, drop-linked w c meets ∙ without w (left conn w) why p.1 c)) (service w meets.service);
    }

    left-known : (w v : NaiveWorld) (o : Option NaiveWorld) → elim o as (λ _. Result NaiveWorld Refusal) [ None ↦ Err NotConnected | Some u ↦ Ok u ] ≡ Ok v → o ≡ Some v
    left-known w v None e = (cc)
    left-known w v (Some u) e = let q : u ≡ v = (cc) in ap Some q

    -- a connection that left told it in the log, and nothing else changed
    left-logged : (w v : NaiveWorld) (o : Option (NaiveSequencer × Entry)) → elim o as (λ _. Option NaiveWorld) [ None ↦ None | Some p ↦ Some (logged p w) ] ≡ Some v
        → (p : NaiveSequencer × Entry) × (v ≡ logged p w)
    left-logged w v None e = (cc)
    left-logged w v (Some p) e = (p, sym (some-same (logged p w) v e))

    pub drop-taken : (after : ServiceState) (new : ReplicaState) → ((w : NaiveWorld) → before ≡ service_of w → AnswersService before after (left_or_refused conn w) (Ok tt))
        → Answers link_fault_kind 0 drop_link m.replica new (Ok tt) → AnswersClient drop_client m (with_replica m new) before after (Ok out.Nothing)
    drop-taken after new service a = record {
      client = λ w c meets.
          let t = meets.member in
          let (y, e, f) = a.client c.client (meets-reached w c m before meets) t.replica.client in
          let (u, g, q) = service w meets.service in
          let known : left conn w ≡ Some u = left-known w u (left conn w) g in
          let (p, k) = left-logged w u (leave w.sequencer conn) known in
          let d : NamedClient = record c { client = y } in
          let v = logged p w in
          let o : new.origin ≡ m.replica.origin = a.state.origin ∙ (let z : max m.replica.origin 0 ≡ m.replica.origin = omega arith in z) in
          let number : y.doc.number ≡ c.client.doc.number = drop-number c.client y e in
          let stands = member-stepped w.log m new c y t (record { running = a.state.runs; client = f.client }) o number in
          let within = (each-found (λ (b : NamedClient). b.client.doc.number ≤ length w.log) (is_client c.name) w.clients c meets.found (made-within w meets.made)).0 in (
            (with_client d v, Nothing),
            drop-linked w c meets ∙ ap (gone w c) (known ∙ ap Some k) ∙ ap (dropped v c) e,
            record {
              client = d;
              name = refl;
              member = member-grown w.log _ (with_replica m new) d (omega (arith, number, within)) stands;
              clients = refl;
              guests = refl;
              service = q ∙ ap service_of k;
              later = _;
              log = refl;
              load = refl;
            },
            tt,
          );
    }

    abbrev dropped_by : NaiveClient → Link → Result NaiveClient LinkFault
    dropped_by x l = elim l as (λ _. Result NaiveClient LinkFault) [ Offline ↦ Err link.NotConnected | _ ↦ Ok (record x { link = Offline; queue = [] }) ]

    linked-drops : (x : NaiveClient) (l : Link) → x.link ≡ l → conn_of l ≡ Some conn → (fault : LinkFault) → drop_link x ≡ Err fault → ⊥
    linked-drops x Offline e g fault k = (cc)
    linked-drops x (Joining n) e g fault k = let p : dropped_by x (Joining n) ≡ Err fault = sym (ap (dropped_by x) e) ∙ k in (cc)
    linked-drops x (Online n) e g fault k = let p : dropped_by x (Online n) ≡ Err fault = sym (ap (dropped_by x) e) ∙ k in (cc)

    -- the replica takes it then
    pub drop-wanting : (after : ServiceState) (new : ReplicaState) (fault : LinkFault) → Answers link_fault_kind 0 drop_link m.replica new (Err fault)
        → AnswersClient drop_client m (with_replica m new) before after (Err (refusal_of_link fault))
    drop-wanting after new link.OutOfMemory a = record { client = λ w c meets. tt }
    drop-wanting after new (link.Stopped seq) a = record { client = λ w c meets. some-none m.replica.stop seq meets.member.replica.running a.state.0 }
    drop-wanting after new link.AlreadyConnected a = record {
      client = λ w c meets. absurd (linked-drops c.client c.client.link refl (ap conn_of (sym (stands-link m.replica.client c.client meets.member.replica.client).link) ∙ h)
          link.AlreadyConnected (a.client c.client (meets-reached w c m before meets) meets.member.replica.client));
    }
    drop-wanting after new link.NotConnected a = record {
      client = λ w c meets. absurd (linked-drops c.client c.client.link refl (ap conn_of (sym (stands-link m.replica.client c.client meets.member.replica.client).link) ∙ h)
          link.NotConnected (a.client c.client (meets-reached w c m before meets) meets.member.replica.client));
    }

-- a connection always joins, but where it is out of memory
pub join-wanting : (m new : MemberState) (before after : ServiceState) (name : Characters) (why : Refusal)
    → ((w : NaiveWorld) → before ≡ service_of w → AnswersService before after (Ok (joined name w)) (Err why)) → AnswersClient connect_client m new before after (Err why)
join-wanting m new before after name why h = record {
  client = λ w c meets. means-weaker (refusal_kind why) (λ p. never (joined name w) why p.1) (h w meets.service);
}
  where
    never : {A : Type 0} (v : NaiveWorld) (why : Refusal) → Ok v ≡ Err why → A
    never v why e = (cc)
