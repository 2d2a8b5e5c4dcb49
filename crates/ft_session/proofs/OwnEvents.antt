-- An event that changes one replica alone.
use Rattle.std.proofs.Common.{◌≡◌, max, List, [], take, Result, Ok, Err, refl, sym, ◌∙◌, ap, subst, arith, append-nil}
use Rattle.std.specs.Prelude.{⊤, IfOk}
use Rattle.ft_seqr.specs.Refusals.{refusal_of_view}
use Rattle.ft_laws_summaries.proofs.Lists.{each-found}
use Rattle.ft_msg.specs.declared.faults.ViewFault.{ViewFault}
use Rattle.ft_msg.specs.declared.faults.ViewFault.TheVariants as viewing
use Rattle.ft_msg.specs.declared.messages.Entry.{Entry}
use Rattle.ft_msg.specs.Answers.{Answers, FaultKind, ReplicaState, RunsFor, view_fault_kind}
use Rattle.ft_msg.specs.Client.{NaiveClient}
use Rattle.ft_msg.specs.Compacted.{StandsFor}
use Rattle.ft_msg.specs.Reached.{IsReached}
use Rattle.ft_seqr.specs.declared.refusals.Refusal.{Refusal}
use Rattle.ft_seqr.specs.declared.refusals.Refusal.TheVariants.{OutOfMemory}
use Rattle.ft_seqr.specs.World.{NaiveWorld, NamedClient, Nothing, Stepped, greatest_origin, is_client, quietly, with_client}
use Rattle.ft_laws_sessions.proofs.MadeWorlds.{made-reached, placed-same}
use Rattle.std.specs.Result.{IsErr, IsErrAnd}
use Rattle.ft_session.specs.declared.outputs.Out.{Out}
use Rattle.ft_session.specs.declared.outputs.Out.TheVariants as out
use Rattle.ft_seqr.specs.RefusalKinds.{MeansOf, refusal_kind}
use Rattle.ft_session.specs.Outputs.{WritesAs}
use Rattle.ft_session.specs.Worlds.{AnswersClient, LeavesClient, Meets, MeetsSome, MemberStands, MemberState, ServiceState}
use Rattle.ft_seqr.proofs.RefusalKinds.{means-weaker}
use Rattle.ft_session.proofs.RefusalKinds.{SayAlike, fault-means, some-none}

-- the client that a member meets is one that steps made
pub meets-reached : (w : NaiveWorld) (c : NamedClient) (m : MemberState) (s : ServiceState) → Meets w c m s → IsReached c.client
meets-reached w c m s meets = (each-found (λ (d : NamedClient). IsReached d.client) (is_client c.name) w.clients c meets.found (made-reached w meets.made)).0

-- the member with another replica
abbrev pub with_replica : MemberState → ReplicaState → MemberState
with_replica m r = record m { replica = r }

-- an event that is one step of its client
abbrev pub own_event : {E : Type 0} → (E → Refusal) → (NaiveClient → Result NaiveClient E) → NaiveWorld → NamedClient → Stepped
own_event refusal step w c = elim (step c.client) [ Err fault ↦ Err (refusal fault) | Ok x ↦ quietly (with_client (record c { client = x }) w) ]

-- a step that no message makes keeps what a member knows
pub member-stepped : (log : List Entry) (m : MemberState) (r : ReplicaState) (c : NamedClient) (y : NaiveClient) → MemberStands log m c → RunsFor r y
    → r.origin ≡ m.replica.origin → y.doc.number ≡ c.client.doc.number → MemberStands log (with_replica m r) (record c { client = y })
member-stepped log m r c y s runs o n = record {
  name = s.name;
  replica = runs;
  connects = s.connects;
  origin = o ∙ (s.origin ∙ ap (λ k. greatest_origin (take k log)) (sym n));
}

-- what such an event leaves behind
pub leaves-stepped : (w : NaiveWorld) (c : NamedClient) (m : MemberState) (r : ReplicaState) (s : ServiceState) (y : NaiveClient) → Meets w c m s → RunsFor r y
    → r.origin ≡ m.replica.origin → y.doc.number ≡ c.client.doc.number → LeavesClient w c (with_replica m r) s (with_client (record c { client = y }) w)
leaves-stepped w c m r s y meets runs o n = record {
  client = record c { client = y };
  name = refl;
  member = member-stepped w.log m r c y meets.member runs o n;
  clients = refl;
  guests = refl;
  service = meets.service;
  later = [];
  log = sym (append-nil w.log);
  load = refl;
}

-- what holds of a refusal holds of the answer by which `?` hands it on
pub handed-on : {A E : Type 0} (P : Result A E → Type 0) (e : E) (result : Result A E) → IsErr result × IsErrAnd result (λ why. why ≡ e) → P (Err e) → P result
handed-on P e (Ok o) h p = let k = h.0 in (cc)
handed-on P e (Err why) h p = subst (λ w. P (Err w)) (sym h.1) p

-- what holds of what a value is written as, and of OutOfMemory, holds of the answer
pub written-as : {A E : Type 0} (P : Result Out Refusal → Type 0) (written : A → Out) (x : Result A E) (result : Result Out Refusal)
    → P (Err OutOfMemory) → IfOk x (λ a. P (Ok (written a))) → WritesAs written x result → P result
written-as P written (Ok a) (Ok o) w h e = subst (λ p. P (Ok p)) (sym e) h
written-as P written (Ok a) (Err why) w h e = subst (λ r. P (Err r)) (sym e) w
written-as P written (Err want) result w h e = subst P (sym e) w

-- the same where it is known what the value is
pub written-known : {A E : Type 0} (P : Result Out Refusal → Type 0) (written : A → Out) (a : A) (x : Result A E) (result : Result Out Refusal)
    → P (Err OutOfMemory) → IfOk x (λ b. b ≡ a) → P (Ok (written a)) → WritesAs written x result → P result
written-known {A} {E} P written a (Ok b) result w e h k = written-as {E = E} P written (Ok b) result w (subst (λ c. P (Ok (written c))) (sym e) h) k
written-known P written a (Err want) result w e h k = subst P (sym k) w

module _ {E : Type 0} (kind : E → FaultKind) (refusal : E → Refusal) (step : NaiveClient → Result NaiveClient E) (m : MemberState) (s : ServiceState) (new : ReplicaState) where
  abbrev after_step : NaiveWorld → NamedClient → Result NaiveClient E → Stepped
  after_step w c r = elim r [ Err fault ↦ Err (refusal fault) | Ok x ↦ quietly (with_client (record c { client = x }) w) ]

  -- it is taken
  pub own-taken : ((x y : NaiveClient) → step x ≡ Ok y → y.doc.number ≡ x.doc.number) → Answers kind 0 step m.replica new (Ok tt)
      → AnswersClient (own_event refusal step) m (with_replica m new) s s (Ok out.Nothing)
  own-taken number a = record {
    client = λ w c meets.
        let (y, e, f) = a.client c.client (meets-reached w c m s meets) meets.member.replica.client in
        let o : new.origin ≡ m.replica.origin = a.state.origin ∙ (let g : max m.replica.origin 0 ≡ m.replica.origin = omega arith in g) in (
          (with_client (record c { client = y }) w, Nothing),
          ap (after_step w c) e,
          leaves-stepped w c m new s y meets (record { running = a.state.runs; client = f.client }) o (number c.client y e),
          tt,
        );
  }

  -- it is refused
  pub own-refused : (fault : E) → SayAlike (kind fault) (refusal_kind (refusal fault)) → Answers kind 0 step m.replica new (Err fault)
      → AnswersClient (own_event refusal step) m (with_replica m new) s s (Err (refusal fault))
  own-refused fault alike a = record {
    client = λ w c meets. means-weaker (refusal_kind (refusal fault)) (λ p. (ap (with_replica m) p.0, refl, ap (after_step w c) p.1))
        (fault-means _ m.replica new (kind fault) (refusal_kind (refusal fault)) alike meets.member.replica.running a.state
        (a.client c.client (meets-reached w c m s meets) meets.member.replica.client));
  }

  -- the same where `?` hands the refusal on
  pub own-refused-as : (fault : E) (result : Result Out Refusal) → SayAlike (kind fault) (refusal_kind (refusal fault)) → Answers kind 0 step m.replica new (Err fault)
      → IsErr result × IsErrAnd result (λ why. why ≡ refusal fault) → AnswersClient (own_event refusal step) m (with_replica m new) s s result
  own-refused-as fault result alike a e =
      handed-on (λ r. AnswersClient (own_event refusal step) m (with_replica m new) s s r) (refusal fault) result e (own-refused fault alike a)

-- ---- compaction

ok-client : (x y : NaiveClient) (r : Result NaiveClient ViewFault) → r ≡ Ok x → r ≡ Ok y → x ≡ y
ok-client x y r h k = (cc)

module _ (m : MemberState) (s : ServiceState) (new : ReplicaState) where
  -- it changes nothing that a client shows
  pub compact-taken : Answers view_fault_kind 0 (λ x. Ok x) m.replica new (Ok tt) → AnswersClient (λ w c. quietly w) m (with_replica m new) s s (Ok out.Nothing)
  compact-taken a = record {
    client = λ w c meets.
        let (y, e, f) = a.client c.client (meets-reached w c m s meets) meets.member.replica.client in
        let same : c.client ≡ y = ok-client c.client y (Ok c.client) refl e in
        let o : new.origin ≡ m.replica.origin = a.state.origin ∙ (let g : max m.replica.origin 0 ≡ m.replica.origin = omega arith in g) in
        let t = meets.member in (
          (w, Nothing),
          refl,
          record {
            client = c;
            name = refl;
            member = record {
              name = t.name;
              replica = record { running = a.state.runs; client = subst (StandsFor new.client) (sym same) f.client };
              connects = t.connects;
              origin = o ∙ t.origin;
            };
            clients = sym (placed-same w meets.made c.name c meets.found);
            guests = refl;
            service = meets.service;
            later = [];
            log = sym (append-nil w.log);
            load = refl;
          },
          tt,
        );
  }

  compact-wanting : (fault : ViewFault) → Answers view_fault_kind 0 (λ x. Ok x) m.replica new (Err fault) → (w : NaiveWorld) (c : NamedClient) → Meets w c m s
      → (R : Type 0) → MeansOf (refusal_kind (refusal_of_view fault)) ⊤ R
  compact-wanting viewing.OutOfMemory a w c meets R = tt
  compact-wanting (viewing.Stopped seq) a w c meets R = some-none m.replica.stop seq meets.member.replica.running a.state.0

  pub compact-refused : (fault : ViewFault) → Answers view_fault_kind 0 (λ x. Ok x) m.replica new (Err fault)
      → AnswersClient (λ w c. quietly w) m (with_replica m new) s s (Err (refusal_of_view fault))
  compact-refused fault a = record { client = λ w c meets. compact-wanting fault a w c meets _ }

-- what a member answers, by its view
pub by-view : {event : NaiveWorld → NamedClient → Stepped} {m old new : MemberState} {before after : ServiceState} {result : Result Out Refusal}
    → m ≡ old → AnswersClient event m new before after result → AnswersClient event old new before after result
by-view {event} {m} {old} {new} {before} {after} {result} e a = subst (λ o. AnswersClient event o new before after result) e a

-- a refusal that `?` hands on
pub client-handed : {event : NaiveWorld → NamedClient → Stepped} {old new : MemberState} {before after : ServiceState} (why : Refusal) (result : Result Out Refusal)
    → IsErr result × IsErrAnd result (λ w. w ≡ why) → AnswersClient event old new before after (Err why) → AnswersClient event old new before after result
client-handed {event} {old} {new} {before} {after} why result h a = handed-on (λ r. AnswersClient event old new before after r) why result h a

-- what a member answers that doesn't change, by its view
pub unchanged : {event : NaiveWorld → NamedClient → Stepped} {m old : MemberState} {before after : ServiceState} {result : Result Out Refusal}
    → m ≡ old → AnswersClient event m m before after result → AnswersClient event old old before after result
unchanged {event} {m} {old} {before} {after} {result} e a = subst (λ o. AnswersClient event o o before after result) e a

-- nothing is said of OutOfMemory
pub client-wants : {event : NaiveWorld → NamedClient → Stepped} {old new : MemberState} {before after : ServiceState} (why : Refusal) (result : Result Out Refusal)
    → IsErr result × IsErrAnd result (λ w. w ≡ why) → (r : Result (Unit {0}) Refusal) → r ≡ Err why → r ≡ Err OutOfMemory → AnswersClient event old new before after result
client-wants {event} {old} {new} {before} {after} why result h r e k =
    client-handed why result h (subst (λ w. AnswersClient event old new before after (Err w)) (same r OutOfMemory why k e) (record { client = λ w c meets. tt }))
  where
    same : (r : Result (Unit {0}) Refusal) (a b : Refusal) → r ≡ Err a → r ≡ Err b → a ≡ b
    same r a b h k = (cc)

-- what a member meets, by its view
pub meets-view : {m old : MemberState} {s : ServiceState} → m ≡ old → MeetsSome old s → MeetsSome m s
meets-view {m} {old} {s} e h = subst (λ o. MeetsSome o s) (sym e) h

-- what a member answers with a new replica, by its view before
pub same-new : {event : NaiveWorld → NamedClient → Stepped} {m old : MemberState} {before after : ServiceState} {result : Result Out Refusal}
    → m ≡ old → (r : ReplicaState) → AnswersClient event old (with_replica old r) before after result → AnswersClient event old (with_replica m r) before after result
same-new {event} {m} {old} {before} {after} {result} e r a = subst (λ o. AnswersClient event old (with_replica o r) before after result) (sym e) a
