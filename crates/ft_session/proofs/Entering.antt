-- Clients and guests come into a session.
use Rattle.std.proofs.Common.{◌≡◌, ◌≤◌, ℕ, ◌+◌, List, [], ◌∷◌, ◌++◌, length, Option, Some, None, Ok, Err, find, refl, sym, ◌∙◌, ap, subst, arith}
use Rattle.std.proofs.lemmas.List.{length-take-le, nil_from_length}
use Rattle.std.specs.Prelude.{⊤, slice_get}
use Rattle.std.specs.List.{position}
use Rattle.std.proofs.lemmas.Iterator.Adapters.{position_from-zero}
use Rattle.ft_base.proofs.Options.{some-same}
use Rattle.ft_props.specs.Properties.{Characters}
use Rattle.ft_laws_summaries.proofs.Lists.{each-found}
use Rattle.ft_sumdoc.specs.declared.summary.SumDoc.{SumDoc}
use Rattle.ft_op.specs.Document.{Document, empty}
use Rattle.ft_msg.specs.declared.faults.SummaryFault.{SummaryFault}
use Rattle.ft_msg.specs.declared.faults.SummaryFault.TheVariants as summing
use Rattle.ft_msg.specs.Answers.{AnswersSummary, ReplicaState, RunsFor, StartsOver}
use Rattle.ft_msg.specs.Client.{NaiveClient, PendingEdit, client_over}
use Rattle.ft_msg.specs.Compacted.{StandsFor}
use Rattle.ft_msg.specs.Indexed.{IndexedClient}
use Rattle.ft_msg.specs.Reached.{IsReached}
use Rattle.ft_msg.specs.Summary.{GivesDocument, doc_of}
use Rattle.ft_seqr.specs.declared.refusals.Refusal.{Refusal}
use Rattle.ft_seqr.specs.declared.refusals.Refusal.TheVariants.{Pending, UnknownClient}
use Rattle.ft_seqr.specs.Refusals.{refusal_of_summary}
use Rattle.ft_seqr.specs.World.{NaiveWorld, NamedClient, NamedGuest, Nothing, Stepped, connection_name, enter_guest, is_client, joined, name_fault, next_conn, quietly, start_client, started, unless_pending, with_name}
use Rattle.ft_laws_sessions.specs.MadeWorlds.{IsMade}
use Rattle.ft_laws_sessions.proofs.MadeWorlds.{made-distinct, made-known, made-reached, made-start}
use Rattle.ft_session.specs.declared.outputs.Out.TheVariants as out
use Rattle.ft_session.specs.Effects.{KeepsTrimmed}
use Rattle.ft_session.specs.Entrances.{AnswersName, IsCopyOf, new_member}
use Rattle.ft_seqr.specs.RefusalKinds.{MeansOf, Refused, refusal_kind}
use Rattle.ft_session.specs.Worlds.{AnswersHappening, MeetsSome, MembersStand, MemberStands, MemberState, ServiceState, SessionState, SessionStands, has_name, service_of}
use Rattle.ft_seqr.proofs.RefusalKinds.{means-weaker}
use Rattle.ft_session.proofs.RefusalKinds.{some-none}
use Rattle.ft_session.proofs.Counting.{stands-pending}
use Rattle.ft_session.proofs.Placing.{found, not_found, stand-more}
use Rattle.ft_session.proofs.TrimmedCopies.{keeps-trimmed}

-- ---- names

-- a refusal of the session
pub refused-means : {R : Type 0} (why : Refusal) → refusal_kind why ≡ Refused → R → MeansOf (refusal_kind why) ⊤ R
refused-means {R} why h r = subst (λ k. MeansOf k ⊤ R) (sym h) r

-- the name can't be given
pub name-refused : (s : SessionState) (name : Characters) (why : Refusal) (taken : NaiveWorld → Stepped)
    → ((w : NaiveWorld) → SessionStands s w → AnswersName (name_fault w name) (Err why)) → AnswersHappening (λ w. with_name w name (taken w)) s s (Err why)
name-refused s name why taken h = record {
  world = λ w made stands.
      let (e, k) = h w stands in
      refused-means why k (refl, ap (λ o. elim o [ Some refusal ↦ Err refusal | None ↦ taken w ]) e);
}

-- ---- clients

-- the session with one replica more
abbrev pub with_member : SessionState → MemberState → SessionState
with_member s m = record s { members = s.members ++ (m ∷ []) }

module _ (s : SessionState) (name : Characters) (free : (w : NaiveWorld) → SessionStands s w → name_fault w name ≡ None) where
  named : (w : NaiveWorld) (taken : Stepped) → SessionStands s w → with_name w name taken ≡ taken
  named w taken stands = ap (λ o. elim o [ Some refusal ↦ Err refusal | None ↦ taken ]) (free w stands)

  starts : (w : NaiveWorld) (doc : Document) (r : ReplicaState) → SessionStands s w
      → MemberStands w.log (new_member name r) (record { name = name; connects = 0; client = client_over doc })
      → SessionStands (with_member s (new_member name r)) (started w name doc)
  starts w doc r stands m = record {
    members = stand-more w.log s.members w.clients (new_member name r) (record { name = name; connects = 0; client = client_over doc }) stands.members m;
    guests = stands.guests;
    service = stands.service;
  }

  -- an empty client starts
  pub start-taken : (r : ReplicaState) → StartsOver r empty 0
      → AnswersHappening (λ w. with_name w name (start_client w name None)) s (with_member s (new_member name r)) (Ok out.Nothing)
  start-taken r over = record {
    world = λ w made stands. (
      (started w name empty, Nothing),
      named w (start_client w name None) stands,
      starts w empty r stands (record { name = refl; replica = over.runs; connects = refl; origin = over.origin }),
      refl,
      tt,
    );
  }

  module _ (from : Characters) where
    found-from : (w : NaiveWorld) (c : NamedClient) → find (is_client from) w.clients ≡ Some c
        → start_client w name (Some from) ≡ unless_pending c.client (quietly (started w name c.client.doc))
    found-from w c h = ap (λ o. elim o [ None ↦ Err UnknownClient | Some d ↦ unless_pending d.client (quietly (started w name d.client.doc)) ]) h

    -- a client over the document of another one starts
    pub start_from-taken : (r : ReplicaState) → ((w : NaiveWorld) → IsMade w → SessionStands s w → (n : Characters) → name_fault w n ≡ None → IsCopyOf w n from r)
        → AnswersHappening (λ w. with_name w name (start_client w name (Some from))) s (with_member s (new_member name r)) (Ok out.Nothing)
    start_from-taken r copies = record {
      world = λ w made stands.
          let copy = copies w made stands name (free w stands) in
          let c = copy.client in (
            (started w name c.client.doc, Nothing),
            named w (start_client w name (Some from)) stands ∙ (found-from w c copy.found ∙ idle-taken c.client (quietly (started w name c.client.doc)) c.client.pending copy.idle),
            starts w c.client.doc r stands copy.stands,
            refl,
            tt,
          );
    }
      where
        idle-taken : (x : NaiveClient) (taken : Stepped) (edits : List PendingEdit) → edits ≡ []
            → elim edits as (λ _. Stepped) [ [] ↦ taken | edit ∷ rest ↦ Err (Pending (length x.pending)) ] ≡ taken
        idle-taken x taken edits h = ap (λ es. elim es as (λ _. Stepped) [ [] ↦ taken | edit ∷ rest ↦ Err (Pending (length x.pending)) ]) h

    pub start_from-refused : (why : Refusal)
        → ((w : NaiveWorld) → IsMade w → SessionStands s w → (n : Characters) → MeansOf (refusal_kind why) ⊤ (start_client w n (Some from) ≡ Err why))
        → AnswersHappening (λ w. with_name w name (start_client w name (Some from))) s s (Err why)
    start_from-refused why refuses = record {
      world = λ w made stands. means-weaker (refusal_kind why) (λ e. (refl, named w (start_client w name (Some from)) stands ∙ e)) (refuses w made stands name);
    }

-- ---- what is pending

pub idle-alike : (r : IndexedClient) (x : NaiveClient) → StandsFor r x → r.pending ≡ [] → x.pending ≡ []
idle-alike r x s h = let n = stands-pending r x s in let k = ap length h in nil_from_length x.pending (omega (arith, n, k))

-- a client that has edits pending
pub unless-refused : (x : NaiveClient) (taken : Stepped) → ¬ (x.pending ≡ []) → unless_pending x taken ≡ Err (Pending (length x.pending))
unless-refused x taken h = by x.pending h
  where
    by : (edits : List PendingEdit) → ¬ (edits ≡ [])
        → elim edits as (λ _. Stepped) [ [] ↦ taken | edit ∷ rest ↦ Err (Pending (length x.pending)) ] ≡ Err (Pending (length x.pending))
    by [] g = absurd (g refl)
    by (edit ∷ edits) g = refl

pub unless-taken : (x : NaiveClient) (taken : Stepped) → x.pending ≡ [] → unless_pending x taken ≡ taken
unless-taken x taken h = ap (λ es. elim es as (λ _. Stepped) [ [] ↦ taken | edit ∷ rest ↦ Err (Pending (length x.pending)) ]) h

-- the refusal of a summary, in a running replica
pub summary-refused : (names : List Characters) (r : ReplicaState) (x : NaiveClient) (taken : Stepped) (fault : SummaryFault) → RunsFor r x
    → AnswersSummary names r (Err fault) → MeansOf (refusal_kind (refusal_of_summary fault)) ⊤ (unless_pending x taken ≡ Err (refusal_of_summary fault))
summary-refused names r x taken summing.OutOfMemory s a = tt
summary-refused names r x taken (summing.Stopped seq) s a = some-none r.stop seq s.running a
summary-refused names r x taken (summing.Pending count) s a =
    let n = stands-pending r.client x s.client in
    unless-refused x taken (λ e. a.2 (nil_from_length r.client.pending (let k = ap length e in omega (arith, n, k))))
    ∙ ap (λ k. Err (Pending k)) (sym (a.1 ∙ n))

-- the names that a member's replica knows are in the table
pub member-known : (w : NaiveWorld) (m : MemberState) (c : NamedClient) → IsMade w → MemberStands w.log m c → m.replica.origin ≤ length w.names
member-known w m c made t = subst (λ n. n ≤ length w.names) (sym t.origin) (made-known w made c.client.doc.number)

-- a replica that starts from the summary of another one
pub summary-copies : (w : NaiveWorld) (made : IsMade w) (from name : Characters) (c : NamedClient) (m : MemberState) (sum : SumDoc) (new : ReplicaState)
    → find (is_client from) w.clients ≡ Some c → MemberStands w.log m c → IsReached c.client → AnswersSummary w.names m.replica (Ok sum)
    → StartsOver new (doc_of sum) (length sum.conns)
    → ((whole : Document) → IsReached (client_over whole) → GivesDocument sum whole → RunsFor new (client_over whole))
    → name_fault w name ≡ None → IsCopyOf w name from new
summary-copies w made from name c m sum new found t reached a over stands free =
    let idle : c.client.pending ≡ [] = idle-alike m.replica.client c.client t.replica.client a.idle in
    let s = a.doc c.client reached t.replica.client in
    let known = member-known w m c made t in
    record {
      client = c;
      found = found;
      idle = idle;
      stands = record {
        name = refl;
        replica = stands c.client.doc (made-start w made name from c free found idle) s.gives;
        connects = refl;
        origin = over.origin ∙ (ap (λ (d : SumDoc). length d.conns) s.written ∙ (length-take-le m.replica.origin w.names known ∙ t.origin));
      };
    }

-- ---- guests

-- a guest enters
pub guest-enters : (s : SessionState) (name : Characters) (conn : ℕ) (label : Characters) (after : ServiceState) → ((w : NaiveWorld) → SessionStands s w → name_fault w name ≡ None)
    → conn ≡ length s.service.names + 1 → label ≡ connection_name name 1 → ((w : NaiveWorld) → s.service ≡ service_of w → after ≡ service_of (joined label w))
    → ((w : NaiveWorld) → IsMade w → SessionStands s w → MembersStand (joined label w).log s.members w.clients)
    → AnswersHappening (λ w. with_name w name (quietly (enter_guest w name))) s
    (record { members = s.members; guests = s.guests ++ (record { name = name; conn = conn } ∷ []); service = after }) (Ok out.Nothing)
guest-enters s name conn label after free h l service members = record {
  world = λ w made stands.
      let g : NamedGuest = record { name = name; conn = conn } in
      let same : conn ≡ next_conn w = h ∙ ap (λ (a : ServiceState). length a.names + 1) stands.service in (
        (enter_guest w name, Nothing),
        ap (λ o. elim o [ Some refusal ↦ Err refusal | None ↦ quietly (enter_guest w name) ]) (free w stands),
        record {
          members = subst (λ n. MembersStand (joined n w).log s.members w.clients) l (members w made stands);
          guests = ap (λ gs. gs ++ (g ∷ [])) stands.guests ∙ ap (λ n. w.guests ++ (record { name = name; conn = n } ∷ [])) same;
          service = service w stands.service ∙ ap (λ n. service_of (joined n w)) l;
        },
        refl,
        tt,
      );
}

pub meets-known : (m : MemberState) (s : ServiceState) → MeetsSome m s → m.replica.origin ≤ length s.names
meets-known m s some =
    subst (λ (names : List Characters). m.replica.origin ≤ length names) (sym (ap (λ (a : ServiceState). a.names) some.meets.service))
    (member-known some.world m some.client some.meets.made some.meets.member)

-- ---- the client at a place

-- the client for which the replica at the place of a name stands
pub record StandsAt (w : NaiveWorld) (name : Characters) (m : MemberState) : Type 0 where
  pub client : NamedClient
  pub named : client.name ≡ name
  pub found : find (is_client name) w.clients ≡ Some client
  pub stands : MemberStands w.log m client

module _ (s : SessionState) (name : Characters) (w : NaiveWorld) (made : IsMade w) (stands : SessionStands s w) where
  pub none-at : position (has_name name) s.members ≡ None → find (is_client name) w.clients ≡ None
  none-at h = not_found w.log name 0 s.members w.clients stands.members (sym (position_from-zero (has_name name) s.members) ∙ h)

  pub one-at : (i : ℕ) (m : MemberState) → position (has_name name) s.members ≡ Some i → slice_get s.members i ≡ Some m → StandsAt w name m
  one-at i m place at =
      let (j, q, f) = found w.log name 0 i s.members w.clients stands.members (made-distinct w made) (sym (position_from-zero (has_name name) s.members) ∙ place) in
      let k : j ≡ i = omega (arith, q) in
      let same : f.state ≡ m = some-same f.state m (sym f.at ∙ ap (slice_get s.members) k ∙ at) in
      record { client = f.member; named = f.named; found = f.found; stands = subst (λ a. MemberStands w.log a f.member) same f.stands }

  pub meets-at : (i : ℕ) (m : MemberState) → position (has_name name) s.members ≡ Some i → slice_get s.members i ≡ Some m → MeetsSome m s.service
  meets-at i m place at =
      let a = one-at i m place at in
      record {
        world = w;
        client = a.client;
        meets = record {
          made = made;
          found = subst (λ n. find (is_client n) w.clients ≡ Some a.client) (sym a.named) a.found;
          member = a.stands;
          service = stands.service;
        };
      }

  -- a replica over the document of the client of that name
  from-found : (n : Characters) (o : Option NamedClient) → find (is_client name) w.clients ≡ o
      → start_client w n (Some name) ≡ elim o as (λ _. Stepped) [ None ↦ Err UnknownClient | Some d ↦ unless_pending d.client (quietly (started w n d.client.doc)) ]
  from-found n o h = ap (λ o. elim o as (λ _. Stepped) [ None ↦ Err UnknownClient | Some d ↦ unless_pending d.client (quietly (started w n d.client.doc)) ]) h

  pub copy-unknown : (n : Characters) → position (has_name name) s.members ≡ None → start_client w n (Some name) ≡ Err UnknownClient
  copy-unknown n h = from-found n None (none-at h)

  pub copy-refused : (i : ℕ) (m : MemberState) (fault : SummaryFault) → position (has_name name) s.members ≡ Some i → slice_get s.members i ≡ Some m
      → AnswersSummary s.service.names m.replica (Err fault) → (n : Characters)
      → MeansOf (refusal_kind (refusal_of_summary fault)) ⊤ (start_client w n (Some name) ≡ Err (refusal_of_summary fault))
  copy-refused i m fault place at answers n =
      let a = one-at i m place at in
      means-weaker (refusal_kind (refusal_of_summary fault)) (λ e. from-found n (Some a.client) a.found ∙ e)
      (summary-refused s.service.names m.replica a.client.client (quietly (started w n a.client.client.doc)) fault a.stands.replica answers)

  pub copy-taken : (i : ℕ) (m : MemberState) (sum : SumDoc) (new : ReplicaState) → position (has_name name) s.members ≡ Some i → slice_get s.members i ≡ Some m
      → AnswersSummary s.service.names m.replica (Ok sum) → StartsOver new (doc_of sum) (length sum.conns)
      → ((whole : Document) → IsReached (client_over whole) → GivesDocument sum whole → RunsFor new (client_over whole))
      → (n : Characters) → name_fault w n ≡ None → IsCopyOf w n name new
  copy-taken i m sum new place at answers over runs n free =
      let a = one-at i m place at in
      let reached = (each-found (λ (d : NamedClient). IsReached d.client) (is_client name) w.clients a.client a.found (made-reached w made)).0 in
      let known : AnswersSummary w.names m.replica (Ok sum) =
      subst (λ names. AnswersSummary names m.replica (Ok sum)) (ap (λ (b : ServiceState). b.names) stands.service) answers in
      summary-copies w made name n a.client m sum new a.found a.stands reached known over runs free

  -- it keeps what a summary keeps of that document
  pub copy-trimmed : (i : ℕ) (m : MemberState) (sum : SumDoc) (new : ReplicaState) → position (has_name name) s.members ≡ Some i → slice_get s.members i ≡ Some m
      → AnswersSummary s.service.names m.replica (Ok sum) → StartsOver new (doc_of sum) (length sum.conns)
      → (c : NamedClient) → find (is_client name) w.clients ≡ Some c → KeepsTrimmed new c.client.doc
  copy-trimmed i m sum new place at answers over c h =
      let a = one-at i m place at in
      let reached = (each-found (λ (d : NamedClient). IsReached d.client) (is_client name) w.clients a.client a.found (made-reached w made)).0 in
      let same : a.client ≡ c = some-same a.client c (sym a.found ∙ h) in
      subst (λ (d : NamedClient). KeepsTrimmed new d.client.doc) same
      (keeps-trimmed sum a.client.client.doc (answers.doc a.client.client reached a.stands.replica.client).gives new (length sum.conns) over)
