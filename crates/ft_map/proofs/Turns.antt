-- The client of an event among the clients of a map session, and names.
use Rattle.std.proofs.Common.{◌≡◌, ℕ, zero, suc, ◌+◌, ◌<◌, ◌≤◌, le-leb, nat_le, Bool, true, false, cond, ◌||◌, List, [], ◌∷◌, ◌++◌, length, Option, Some, None, refl, sym, ◌∙◌, ap, subst, arith}
use Rattle.std.proofs.Math.ListN.{set}
use Rattle.std.proofs.lemmas.Bool.Decides.{nat_tests}
use Rattle.std.specs.Result.{IsErr, IsErrAnd}
use Rattle.std.specs.Prelude.{Result, Ok, Err, is_some}
use Rattle.std.specs.List.{find, list_any, position, position_from, slice_get}
use Rattle.std.proofs.lemmas.Iterator.Adapters.{position_from-zero}
use Rattle.ft_seqr.specs.declared.refusals.Refusal.{Refusal}
use Rattle.ft_seqr.specs.declared.refusals.Refusal.TheVariants.{ClientLimit, NameInUse, Pending, UnknownClient}
use Rattle.ft_seqr.specs.World.{name_limit}
use Rattle.ft_map.specs.declared.events.MapEvent.TheVariants as event
use Rattle.ft_map.specs.declared.events.MapEvent.{MapEvent}
use Rattle.ft_map.specs.declared.events.MapOut.{MapOut}
use Rattle.ft_map.specs.declared.events.MapOut.TheVariants as out
use Rattle.ft_map.specs.MapClient.{MapClient, client_over}
use Rattle.ft_shared_map.specs.declared.ops.MapOp.{MapOp}
use Rattle.ft_map.specs.declared.world.MapAct.{MapAct}
use Rattle.ft_shared_map.specs.Maps.{Characters}
use Rattle.ft_map.specs.MapActs.{turn_of}
use Rattle.ft_map.specs.MapSession.{MapService, MapSession, MapStepped, MapTurned, NamedMapClient, Nothing, Summary, asked, is_client, name_fault, of_client, replaced, settled, start_client, started, step, summary_client, unless_pending}
use Rattle.ft_seqr.specs.RefusalKinds.{refusal_kind}
use Rattle.ft_seqr.proofs.RefusalKinds.{means-weaker}
use Rattle.ft_map.specs.MapWorlds.{AnswersPending, AnswersSession, AnswersStart, AnswersTurn, HasNoNack}

-- what a search by name finds: the client at a place, which is the first of that name
pub record Found (name : Characters) (cs : List NamedMapClient) (i : ℕ) : Type 0 where
  pub client : NamedMapClient
  pub at : slice_get cs i ≡ Some client
  pub found : find (is_client name) cs ≡ Some client
  pub put : (d : NamedMapClient) → replaced name d cs ≡ set cs i d

later : (name : Characters) (c : NamedMapClient) (cs : List NamedMapClient) (j : ℕ) → is_client name c ≡ false → Found name cs j → Found name (c ∷ cs) (suc j)
later name c cs j e f = record {
  client = f.client;
  at = f.at;
  found = rw e f.found;
  put = λ d. rw e (ap (λ ds. c ∷ ds) (f.put d));
}

found_from : (name : Characters) (k i : ℕ) (cs : List NamedMapClient) → position_from (is_client name) k cs ≡ Some i → (j : ℕ) × (i ≡ k + j) × Found name cs j
found_from name k i [] h = absurd cc
found_from name k i (c ∷ cs) h = step_at (is_client name c) refl h (λ p. found_from name (k + 1) i cs p)
  where
    on : is_client name c ≡ false → (j : ℕ) × (i ≡ k + 1 + j) × Found name cs j → (j : ℕ) × (i ≡ k + j) × Found name (c ∷ cs) j
    on e (j, q, f) = (suc j, omega arith, later name c cs j e f)

    step_at : (b : Bool) → is_client name c ≡ b → cond b (Some k) (position_from (is_client name) (k + 1) cs) ≡ Some i
        → (position_from (is_client name) (k + 1) cs ≡ Some i → (j : ℕ) × (i ≡ k + 1 + j) × Found name cs j) → (j : ℕ) × (i ≡ k + j) × Found name (c ∷ cs) j
    step_at true e p rest = let q : k ≡ i = (cc) in (0, omega arith, record { client = c; at = refl; found = rw e refl; put = λ d. rw e refl })
    step_at false e p rest = on e (rest p)

pub found : (name : Characters) (i : ℕ) (cs : List NamedMapClient) → position (is_client name) cs ≡ Some i → Found name cs i
found name i cs h = let (j, q, f) = found_from name 0 i cs (sym (position_from-zero (is_client name) cs) ∙ h) in let e : j ≡ i = omega (arith, q) in subst (Found name cs) e f

not_found_from : (name : Characters) (k : ℕ) (cs : List NamedMapClient) → position_from (is_client name) k cs ≡ None → find (is_client name) cs ≡ None
not_found_from name k [] h = refl
not_found_from name k (c ∷ cs) h = step_at (is_client name c) refl h (λ p. not_found_from name (k + 1) cs p)
  where
    step_at : (b : Bool) → is_client name c ≡ b → cond b (Some k) (position_from (is_client name) (k + 1) cs) ≡ None
        → (position_from (is_client name) (k + 1) cs ≡ None → find (is_client name) cs ≡ None) → find (is_client name) (c ∷ cs) ≡ None
    step_at true e p rest = absurd cc
    step_at false e p rest = rw e (rest p)

pub not_found : (name : Characters) (cs : List NamedMapClient) → position (is_client name) cs ≡ None → find (is_client name) cs ≡ None
not_found name cs h = not_found_from name 0 cs (sym (position_from-zero (is_client name) cs) ∙ h)

-- whether one of that name is found
any_from : (name : Characters) (k : ℕ) (cs : List NamedMapClient) → is_some (position_from (is_client name) k cs) ≡ list_any (is_client name) cs
any_from name k [] = refl
any_from name k (c ∷ cs) = step (is_client name c) (any_from name (k + 1) cs)
  where
    step : (b : Bool) → is_some (position_from (is_client name) (k + 1) cs) ≡ list_any (is_client name) cs
        → is_some (cond b (Some k) (position_from (is_client name) (k + 1) cs)) ≡ (b || list_any (is_client name) cs)
    step true h = refl
    step false h = h

pub any_found : (name : Characters) (cs : List NamedMapClient) → is_some (position (is_client name) cs) ≡ list_any (is_client name) cs
any_found name cs = ap (λ (o : Option ℕ). is_some o) (position_from-zero (is_client name) cs) ∙ any_from name 0 cs

-- ---- whether a name can be given

module _ (w : MapSession) (name : Characters) where
  abbrev fault_by : Bool → Bool → Option Refusal
  fault_by used full = cond used (Some NameInUse) (cond full (Some ClientLimit) None)

  pub fault-named : list_any (is_client name) w.clients ≡ true → name_fault w name ≡ Some NameInUse
  fault-named h = ap (λ b. fault_by b (nat_le name_limit (length w.clients))) h

  pub fault-full : list_any (is_client name) w.clients ≡ false → 16 ≤ length w.clients → name_fault w name ≡ Some ClientLimit
  fault-full h many = ap (λ b. fault_by b (nat_le name_limit (length w.clients))) h ∙ ap (fault_by false) (le-leb 16 (length w.clients) many)

  pub fault-none : list_any (is_client name) w.clients ≡ false → length w.clients < 16 → name_fault w name ≡ None
  fault-none h few =
      let under : nat_le name_limit (length w.clients) ≡ false = grind (arith, nat_tests) in
      ap (λ b. fault_by b (nat_le name_limit (length w.clients))) h ∙ ap (fault_by false) under

-- what holds of a refusal holds of the answer by which `?` hands it on
pub handed-on : {A E : Type 0} (P : Result A E → Type 0) (e : E) (result : Result A E) → IsErr result × IsErrAnd result (λ why. why ≡ e) → P (Err e) → P result
handed-on P e (Ok o) h p = let k = h.0 in (cc)
handed-on P e (Err why) h p = subst (λ w. P (Err w)) (sym h.1) p

same_set : {A : Type 0} (xs : List A) (i : ℕ) (x : A) → slice_get xs i ≡ Some x → set xs i x ≡ xs
same_set [] i x h = refl
same_set (y ∷ xs) zero x h = let e : x ≡ y = (cc) in ap (λ z. z ∷ xs) e
same_set (y ∷ xs) (suc i) x h = ap (λ zs. y ∷ zs) (same_set xs i x h)

-- ---- events

-- nobody has the name
pub unknown : (w : MapSession) (name : Characters) (turn : MapService → NamedMapClient → MapTurned) → position (is_client name) w.clients ≡ None → of_client w name turn ≡ Err UnknownClient
unknown w name turn p =
    ap (λ (o : Option NamedMapClient). elim o as (λ _. MapStepped) [ None ↦ Err UnknownClient | Some c ↦ settled w name (turn w.service c) ]) (not_found name w.clients p)

module _ (w : MapSession) (name : Characters) (turn : MapService → NamedMapClient → MapTurned) (i : ℕ) (c : NamedMapClient) (at : position (is_client name) w.clients ≡ Some i) (is : slice_get w.clients i ≡ Some c) where
  settles : of_client w name turn ≡ settled w name (turn w.service c)
  settles =
      let f = found name i w.clients at in
      let same : f.client ≡ c = (let h : Some f.client ≡ Some c = sym f.at ∙ is in cc) in
      ap (λ (o : Option NamedMapClient). elim o as (λ _. MapStepped) [ None ↦ Err UnknownClient | Some d ↦ settled w name (turn w.service d) ]) (f.found ∙ ap Some same)

  unchanged : (new : NamedMapClient) (after : MapService) → new ≡ c → after ≡ w.service → record { clients = set w.clients i new; service = after } ≡ w
  unchanged new after h k =
      ap (λ (d : NamedMapClient). let v : MapSession = record { clients = set w.clients i d; service = after } in v) h
      ∙ ap (λ (s : MapService). let v : MapSession = record { clients = set w.clients i c; service = s } in v) k
      ∙ ap (λ (cs : List NamedMapClient). let v : MapSession = record { clients = cs; service = w.service } in v) (same_set w.clients i c is)

  -- and what doesn't refuse it doesn't refuse its client
  pub turn-taken : HasNoNack (of_client w name turn) → HasNoNack (turn w.service c)
  turn-taken h = λ nack t. h nack (settles ∙ ap (settled w name) t)

  -- the session answers as its client does
  pub answered : (new : NamedMapClient) (after : MapService) (result : Result MapOut Refusal) → AnswersTurn c new w.service after (turn w.service c) result
      → AnswersSession w (record { clients = set w.clients i new; service = after }) (of_client w name turn) result
  answered new after (Ok out) (output, turned, told) = (
    output,
    settles ∙ ap (settled w name) turned ∙ ap (λ (cs : List NamedMapClient). Ok (record { clients = cs; service = after }, output)) ((found name i w.clients at).put new),
    told,
  )
  answered new after (Err why) h = means-weaker (refusal_kind why) (λ p. (unchanged new after p.0 p.1, settles ∙ ap (settled w name) p.2)) h

-- ---- how a client comes in

-- what becomes of a new name, by why it can't be given, if it can't
abbrev pub named_step : Option Refusal → MapStepped → MapStepped
named_step fault taken = elim fault as (λ _. MapStepped) [ Some refusal ↦ Err refusal | None ↦ taken ]

module _ (w : MapSession) (name : Characters) (from : Option Characters) where
  by_name : (fault : Option Refusal) → name_fault w name ≡ fault → step w (event.Start name from) ≡ named_step fault (start_client w name from)
  by_name fault h = ap (λ (o : Option Refusal). named_step o (start_client w name from)) h

  -- the client comes in
  pub start-taken : name_fault w name ≡ None → (x : MapClient) (new : MapSession) → AnswersStart w from (Ok x)
      → new ≡ record w { clients = w.clients ++ record { name = name; connects = 0; client = x } ∷ [] } → AnswersSession w new (step w (event.Start name from)) (Ok out.Nothing)
  start-taken free x new h is = (Nothing, by_name None free ∙ h name ∙ ap (λ (v : MapSession). let r : MapStepped = Ok (v, Nothing) in r) (sym is), tt)

-- ---- whether anything is pending

pub nothing-pending : {A : Type 0} (x : MapClient) (taken : Result A Refusal) → x.state.pending ≡ [] → unless_pending x taken ≡ taken
nothing-pending x taken h = rw h refl

some-pending : {A : Type 0} (x : MapClient) (taken : Result A Refusal) (ops : List MapOp) → x.state.pending ≡ ops → 0 < length ops → unless_pending x taken ≡ Err (Pending (length ops))
some-pending x taken [] h l = absurd (omega arith)
some-pending x taken (op ∷ ops) h l = rw h refl

pub summary-refused : (s : MapService) (c : NamedMapClient) (why : Refusal) → AnswersPending c.client.state.pending (Err why) → AnswersTurn c c s s (summary_client s c) (Err why)
summary-refused s c why h =
    subst (λ (refusal : Refusal). AnswersTurn c c s s (summary_client s c) (Err refusal)) (sym h.1) (refl, refl, some-pending c.client (asked s c (Summary c.client)) c.client.state.pending refl h.0)

-- ---- who begins a client

module _ (w : MapSession) (from : Characters) where
  abbrev begins : Characters → Option NamedMapClient → MapStepped
  begins name o = elim o as (λ _. MapStepped) [
    | None ↦ Err UnknownClient
    | Some c ↦ unless_pending c.client (started w name (client_over c.client.state.acked c.client.number c.client.minimum))
  ]

  -- there is no such client to begin from
  pub begin-unknown : position (is_client from) w.clients ≡ None → AnswersStart w (Some from) (Err UnknownClient)
  begin-unknown p = λ name. ap (begins name) (not_found from w.clients p)

  module _ (i : ℕ) (c : NamedMapClient) (at : position (is_client from) w.clients ≡ Some i) (is : slice_get w.clients i ≡ Some c) where
    there : find (is_client from) w.clients ≡ Some c
    there =
        let f = found from i w.clients at in
        let same : Some f.client ≡ Some c = sym f.at ∙ is in
        f.found ∙ same

    pub begin-pending : (why : Refusal) → AnswersPending c.client.state.pending (Err why) → AnswersStart w (Some from) (Err why)
    begin-pending why h =
        subst (λ (refusal : Refusal). AnswersStart w (Some from) (Err refusal)) (sym h.1)
        (λ name. ap (begins name) there ∙ some-pending c.client (started w name (client_over c.client.state.acked c.client.number c.client.minimum)) c.client.state.pending refl h.0)

    pub begin-copied : (x : MapClient) → c.client.state.pending ≡ [] → x ≡ client_over c.client.state.acked c.client.number c.client.minimum → AnswersStart w (Some from) (Ok x)
    begin-copied x none h = λ name.
        ap (begins name) there ∙ nothing-pending c.client (started w name (client_over c.client.state.acked c.client.number c.client.minimum)) none ∙ ap (started w name) (sym h)

-- ---- as the code has them

-- what a session answers to an event, by what the event is
pub as-event : (w new : MapSession) {e done : MapEvent} (result : Result MapOut Refusal) → e ≡ done → AnswersSession w new (step w done) result → AnswersSession w new (step w e) result
as-event w new {e} {done} result h a = subst (λ (x : MapEvent). AnswersSession w new (step w x) result) (sym h) a

pub no-nack_as : (w : MapSession) {e done : MapEvent} → e ≡ done → HasNoNack (step w e) → HasNoNack (step w done)
no-nack_as w {e} {done} h n = subst (λ (x : MapEvent). HasNoNack (step w x)) h n

-- what a client answers to what happens to it, by what that is
pub as-turn : (old new : NamedMapClient) (before after : MapService) {act done : MapAct} (result : Result MapOut Refusal) → act ≡ done
    → AnswersTurn old new before after (turn_of done before old) result → AnswersTurn old new before after (turn_of act before old) result
as-turn old new before after {act} {done} result h a = subst (λ (x : MapAct). AnswersTurn old new before after (turn_of x before old) result) (sym h) a
