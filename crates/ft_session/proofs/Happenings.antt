-- What one client answers to its event, its session answers.
use Rattle.std.proofs.Common.{◌≡◌, ℕ, zero, suc, ◌+◌, Bool, true, false, cond, List, [], ◌∷◌, ◌++◌, Option, Some, None, Result, Ok, Err, find, map, refl, sym, ◌∙◌, ap, subst, arith, append-nil, slice_get}
use Rattle.std.proofs.lemmas.Iterator.Adapters.{position_from-zero}
use Rattle.std.specs.List.{position, position_from}
use Rattle.std.specs.Prelude.{IfOk}
use Rattle.std.proofs.Math.ListN.{set}
use Rattle.std.proofs.lemmas.Slice.Eq.{bytes_eq-Decides}
use Rattle.ft_base.proofs.Options.{some-same}
use Rattle.ft_props.specs.Properties.{Characters}
use Rattle.ft_seqr.specs.declared.refusals.Refusal.{Refusal}
use Rattle.ft_seqr.specs.declared.refusals.Refusal.TheVariants.{UnknownClient}
use Rattle.ft_seqr.specs.World.{NaiveWorld, NamedClient, NamedGuest, Stepped, in_place, is_client, of_client}
use Rattle.ft_laws_sessions.specs.MadeWorlds.{IsMade}
use Rattle.ft_laws_sessions.proofs.MadeWorlds.{made-distinct, made-within, placed-same}
use Rattle.ft_session.specs.declared.acts.ClientAct.{ClientAct}
use Rattle.ft_session.specs.declared.outputs.Out.{Out}
use Rattle.ft_session.specs.Acts.{ClientActEffect, NamedActEffect}
use Rattle.ft_seqr.specs.RefusalKinds.{refusal_kind}
use Rattle.ft_session.specs.Worlds.{AnswersAsked, AnswersClient, AnswersHappening, AnswersReading, AnswersSession, AnswersStepped, LeavesClient, Meets, MeetsSome, MembersStand, MemberStands, MemberState, ServiceState, SessionStandsForSome, SessionState, SessionStands, has_name}
use Rattle.ft_seqr.proofs.RefusalKinds.{means-weaker}
use Rattle.ft_session.proofs.Placing.{Found, found, not_found, stand-grown}

-- ---- what is asked

-- nothing changes
pub leaves-same : (w : NaiveWorld) (c : NamedClient) (m : MemberState) (s : ServiceState) → Meets w c m s → LeavesClient w c m s w
leaves-same w c m s meets = record {
  client = c;
  name = refl;
  member = meets.member;
  clients = sym (placed-same w meets.made c.name c meets.found);
  guests = refl;
  service = meets.service;
  later = [];
  log = sym (append-nil w.log);
  load = refl;
}

asked-stepped : (w : NaiveWorld) (c : NamedClient) (m : MemberState) (s : ServiceState) (stepped : Stepped) (result : Result Out Refusal) → Meets w c m s
    → AnswersAsked w stepped result → AnswersStepped w c m m s s stepped result
asked-stepped w c m s stepped (Ok out) meets (output, e, t) = ((w, output), e, leaves-same w c m s meets, t)
asked-stepped w c m s stepped (Err why) meets h = means-weaker (refusal_kind why) (λ q. (refl, refl, q)) h

pub reading-answers : (f : NaiveWorld → NamedClient → Stepped) (m : MemberState) (s : ServiceState) (result : Result Out Refusal) → AnswersReading f m s result
    → AnswersClient f m m s s result
reading-answers f m s result a = record { client = λ w c meets. asked-stepped w c m s (f w c) result meets (a.client w c meets) }

-- ---- the event of a client

abbrev of_which : (NamedClient → Stepped) → Option NamedClient → Stepped
of_which f o = elim o [ None ↦ Err UnknownClient | Some d ↦ f d ]

-- what becomes of an event of a client that is found
pub of-found : (w : NaiveWorld) (n : Characters) (c : NamedClient) (f : NamedClient → Stepped) → n ≡ c.name → find (is_client c.name) w.clients ≡ Some c → of_client w n f ≡ f c
of-found w n c f e h = ap (of_which f) (ap (λ k. find (is_client k) w.clients) e ∙ h)

-- ---- what a client's event makes of its replica

-- it is the one that is found under its name
set-found_from : (name : Characters) (m : MemberState) → has_name name m ≡ true → (k j : ℕ) (ms : List MemberState) → position_from (has_name name) k ms ≡ Some j
    → (l : ℕ) × (j ≡ k + l) × (find (has_name name) (set ms l m) ≡ Some m)
set-found_from name m t k j [] q = (cc)
set-found_from name m t k j (x ∷ ms) q = step (has_name name x) refl (set-found_from name m t (k + 1) j ms) q
  where
    step : (b : Bool) → has_name name x ≡ b
        → (position_from (has_name name) (k + 1) ms ≡ Some j → (l : ℕ) × (j ≡ k + 1 + l) × (find (has_name name) (set ms l m) ≡ Some m))
        → cond b (Some k) (position_from (has_name name) (k + 1) ms) ≡ Some j → (l : ℕ) × (j ≡ k + l) × (find (has_name name) (set (x ∷ ms) l m) ≡ Some m)
    step true f ih g = let p : k ≡ j = some-same k j g in (0, omega arith, rw t refl)
    step false f ih g = let (l, p, h) = ih g in (suc l, omega arith, rw f h)

set-found : (name : Characters) (i : ℕ) (ms : List MemberState) (m : MemberState) → position (has_name name) ms ≡ Some i → has_name name m ≡ true
    → find (has_name name) (set ms i m) ≡ Some m
set-found name i ms m h t =
    let (l, p, f) = set-found_from name m t 0 i ms (sym (position_from-zero (has_name name) ms) ∙ h) in
    let same : l ≡ i = omega (arith, p) in
    subst (λ n. find (has_name name) (set ms n m) ≡ Some m) same f

-- ---- the session

module _ (step : NaiveWorld → NamedClient → Stepped) (name : Characters) (ms : List MemberState) (guests : List NamedGuest) (before : ServiceState) where
  abbrev pub whole : List MemberState → ServiceState → SessionState
  whole members service = record { members = members; guests = guests; service = service }

  abbrev event : NaiveWorld → Stepped
  event w = of_client w name (step w)

  pub happened-to_none : position (has_name name) ms ≡ None → AnswersHappening event (whole ms before) (whole ms before) (Err UnknownClient)
  happened-to_none h = record {
    world = λ w made s. (refl, ap (of_which (step w)) (not_found w.log name 0 ms w.clients s.members (sym (position_from-zero (has_name name) ms) ∙ h)));
  }

  module _ (i : ℕ) (m : MemberState) (place : position (has_name name) ms ≡ Some i) (at : slice_get ms i ≡ Some m) where
    -- the client of that name
    here : (w : NaiveWorld) → IsMade w → SessionStands (whole ms before) w → Found w.log name ms i w.clients
    here w made s =
        let (j, q, f) = found w.log name 0 i ms w.clients s.members (made-distinct w made) (sym (position_from-zero (has_name name) ms) ∙ place) in
        let k : j ≡ i = omega (arith, q) in
        subst (λ l. Found w.log name ms l w.clients) k f

    same-state : (a b : MemberState) → slice_get ms i ≡ Some a → slice_get ms i ≡ Some b → a ≡ b
    same-state a b h k = (cc)

    meets-here : (w : NaiveWorld) (made : IsMade w) (s : SessionStands (whole ms before) w) → Meets w (here w made s).member m before
    meets-here w made s =
        let f = here w made s in
        record {
          made = made;
          found = subst (λ n. find (is_client n) w.clients ≡ Some f.member) (sym f.named) f.found;
          member = subst (λ a. MemberStands w.log a f.member) (same-state f.state m f.at at) f.stands;
          service = s.service;
        }

    pub meets-some : SessionStandsForSome (whole ms before) → MeetsSome m before
    meets-some s = record { world = s.world; client = (here s.world s.made s.stands).member; meets = meets-here s.world s.made s.stands }

    module _ (new : MemberState) (after : ServiceState) where
      -- the session after it
      stands-after : (w v : NaiveWorld) (made : IsMade w) (s : SessionStands (whole ms before) w) → LeavesClient w (here w made s).member new after v
          → SessionStands (whole (set ms i new) after) v
      stands-after w v made s l =
          let grown : MembersStand (w.log ++ l.later) ms w.clients = stand-grown w.log l.later ms w.clients (made-within w made) s.members in
          let later : MembersStand v.log ms w.clients = subst (λ log. MembersStand log ms w.clients) (sym l.log) grown in
          let (j, q, f) = found v.log name 0 i ms w.clients later (made-distinct w made) (sym (position_from-zero (has_name name) ms) ∙ place) in
          let k : j ≡ i = omega (arith, q) in
          record {
            members = subst (λ cs. MembersStand v.log (set ms i new) cs) (sym l.clients)
                (subst (λ n. MembersStand v.log (set ms n new) (map (in_place l.client) w.clients)) k (f.put new l.client (l.name ∙ (here w made s).named) l.member));
            guests = s.guests ∙ sym l.guests;
            service = l.service;
          }

      set-same : new ≡ m → whole (set ms i new) before ≡ whole ms before
      set-same h = ap (λ l. whole l before) (ap (λ a. set ms i a) h ∙ put-back i ms at)
        where
          put-back : (k : ℕ) (xs : List MemberState) → slice_get xs k ≡ Some m → set xs k m ≡ xs
          put-back k [] g = refl
          put-back zero (x ∷ xs) g = let p : x ≡ m = (cc) in ap (λ a. a ∷ xs) (sym p)
          put-back (suc k) (x ∷ xs) g = ap (λ l. x ∷ l) (put-back k xs g)

      of-here : (w : NaiveWorld) (made : IsMade w) (s : SessionStands (whole ms before) w) → event w ≡ step w (here w made s).member
      of-here w made s = let f = here w made s in of-found w name f.member (step w) (sym f.named) (meets-here w made s).found

      stepped : (w : NaiveWorld) (made : IsMade w) (s : SessionStands (whole ms before) w) (result : Result Out Refusal)
          → AnswersStepped w (here w made s).member m new before after (step w (here w made s).member) result
          → AnswersSession (whole ms before) (whole (set ms i new) after) w (event w) result
      stepped w made s (Ok out) (p, q, l, t) = (p, of-here w made s ∙ q, stands-after w p.0 made s l, l.load, t)
      stepped w made s (Err why) h = means-weaker (refusal_kind why)
          (λ p. (ap (λ a. whole (set ms i new) a) p.1 ∙ set-same p.0, of-here w made s ∙ p.2)) h

      pub happened-to : (result : Result Out Refusal) → AnswersClient step m new before after result
          → AnswersHappening event (whole ms before) (whole (set ms i new) after) result
      happened-to result a = record { world = λ w made s. stepped w made s result (a.client w (here w made s).member (meets-here w made s)) }

      -- what it makes of its replica
      pub happened-effect : (compacts : Bool) (act : ClientAct) → SessionStandsForSome (whole ms before) → (result : Result Out Refusal)
          → AnswersClient step m new before after result → IfOk result (λ out. ClientActEffect compacts act new out)
          → IfOk result (λ out. NamedActEffect compacts act name (whole (set ms i new) after) out)
      happened-effect compacts act s (Err why) a h = tt
      happened-effect compacts act s (Ok out) a h =
          let f = here s.world s.made s.stands in
          let (p, k, l, t) = a.client s.world f.member (meets-here s.world s.made s.stands) in
          record {
            member = new;
            found = set-found name i ms new place ((bytes_eq-Decides name new.name).1 (sym (l.member.name ∙ (l.name ∙ f.named))));
            effect = h;
          }

pub stands-session : {s old : SessionState} → s ≡ old → SessionStandsForSome old → SessionStandsForSome s
stands-session {s} {old} e h = subst SessionStandsForSome (sym e) h
