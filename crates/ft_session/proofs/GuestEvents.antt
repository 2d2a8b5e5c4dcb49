-- What guests send, and how they go.
use Rattle.std.proofs.Common.{◌≡◌, ◌<◌, ◌^◌, ℕ, suc, ◌+◌, ◌-◌, Bool, true, false, cond, List, [], ◌∷◌, ◌++◌, find, get_or, length, map, Option, Some, None, Result, Ok, Err, refl, sym, ◌∙◌, ap, subst, arith}
use Rattle.std.specs.List.{position, position_from}
use Rattle.std.proofs.lemmas.Iterator.Adapters.{position_from-zero}
use Rattle.ft_base.proofs.Options.{some-same}
use Rattle.serde_json.specs.Written.{compact_text}
use Rattle.ft_props.specs.Properties.{Characters}
use Rattle.ft_laws_agreement.specs.Sequencing.{Each}
use Rattle.ft_msg.specs.WellFormed.{IsWellFormedMessage}
use Rattle.ft_msg.specs.Written.{written_message}
use Rattle.ft_msg.specs.declared.faults.Cause.{Cause}
use Rattle.ft_msg.specs.declared.messages.Draft.{Draft}
use Rattle.ft_msg.specs.declared.messages.Entry.{Entry}
use Rattle.ft_seqr.specs.declared.events.Event.TheVariants as event
use Rattle.ft_seqr.specs.declared.refusals.Refusal.{Refusal}
use Rattle.ft_seqr.specs.declared.refusals.Refusal.TheVariants.{NotConnected, UnknownClient}
use Rattle.ft_seqr.specs.Refusals.{refusal_of_cause}
use Rattle.ft_seqr.specs.Sequencer.{NaiveSequencer, leave}
use Rattle.ft_seqr.specs.World.{NaiveWorld, NamedGuest, Nothing, Stepped, connection_name, happen, is_guest, joined, left, logged, name_fault, of_guest, part_guest, quietly, submit_all, Texts}
use Rattle.ft_laws_sessions.specs.MadeWorlds.{IsMade}
use Rattle.ft_laws_sessions.specs.NewNames.{IsNewName}
use Rattle.ft_laws_sessions.proofs.MadeWorlds.{made-formed, made-guest, made-within}
use Rattle.ft_session.specs.declared.outputs.Out.TheVariants as out
use Rattle.ft_session.specs.Acts.{submitted_guest, submitted_or_refused}
use Rattle.ft_session.specs.Services.{AnswersService, left_or_refused}
use Rattle.ft_seqr.specs.RefusalKinds.{refusal_kind}
use Rattle.ft_session.specs.Worlds.{AnswersHappening, MembersStand, ServiceState, SessionStandsForSome, SessionState, SessionStands, service_of}
use Rattle.ft_session.proofs.Entering.{guest-enters}
use Rattle.ft_session.proofs.LinkEvents.{ok-same}
use Rattle.ft_session.proofs.Placing.{stand-grown}
use Rattle.ft_seqr.proofs.RefusalKinds.{means-weaker}
use Rattle.ft_session.proofs.RefusalKinds.{cause-means}
use Rattle.ft_session.proofs.Submissions.{IsSubmitted, submitted-leaves}

-- ---- the guest of a name

module _ (name : Characters) where
  none-from : (k : ℕ) (gs : List NamedGuest) → position_from (is_guest name) k gs ≡ None → find (is_guest name) gs ≡ None
  none-from k [] h = refl
  none-from k (g ∷ gs) h = step (is_guest name g) h (none-from (k + 1) gs)
    where
      step : (b : Bool) → cond b (Some k) (position_from (is_guest name) (k + 1) gs) ≡ None
          → (position_from (is_guest name) (k + 1) gs ≡ None → find (is_guest name) gs ≡ None) → cond b (Some g) (find (is_guest name) gs) ≡ None
      step true e rest = (cc)
      step false e rest = rest e

  found-from : (k i : ℕ) (gs : List NamedGuest) → position_from (is_guest name) k gs ≡ Some i
      → (j : ℕ) × (i ≡ k + j) × ((g : NamedGuest) → g ≡ get_or gs j g → find (is_guest name) gs ≡ Some g)
  found-from k i [] h = (cc)
  found-from k i (d ∷ gs) h = step (is_guest name d) h (found-from (k + 1) i gs)
    where
      later : (j : ℕ) × (i ≡ k + 1 + j) × ((g : NamedGuest) → g ≡ get_or gs j g → find (is_guest name) gs ≡ Some g)
          → (j : ℕ) × (i ≡ k + j) × ((g : NamedGuest) → g ≡ get_or (d ∷ gs) j g → find (is_guest name) gs ≡ Some g)
      later (j, q, f) = (suc j, omega arith, f)

      step : (b : Bool) → cond b (Some k) (position_from (is_guest name) (k + 1) gs) ≡ Some i
          → (position_from (is_guest name) (k + 1) gs ≡ Some i → (j : ℕ) × (i ≡ k + 1 + j) × ((g : NamedGuest) → g ≡ get_or gs j g → find (is_guest name) gs ≡ Some g))
          → (j : ℕ) × (i ≡ k + j) × ((g : NamedGuest) → g ≡ get_or (d ∷ gs) j g → cond b (Some d) (find (is_guest name) gs) ≡ Some g)
      step true e rest = let q : k ≡ i = some-same k i e in (0, omega arith, λ g h. ap Some (sym h))
      step false e rest = later (rest e)

  guest-none : (gs : List NamedGuest) → position (is_guest name) gs ≡ None → find (is_guest name) gs ≡ None
  guest-none gs h = none-from 0 gs (sym (position_from-zero (is_guest name) gs) ∙ h)

  guest-found : (gs : List NamedGuest) (i : ℕ) (g : NamedGuest) → position (is_guest name) gs ≡ Some i → g ≡ get_or gs i g → find (is_guest name) gs ≡ Some g
  guest-found gs i g place at =
      let (j, q, f) = found-from 0 i gs (sym (position_from-zero (is_guest name) gs) ∙ place) in
      let k : j ≡ i = omega (arith, q) in
      f g (at ∙ ap (λ l. get_or gs l g) (sym k))

-- ---- the session

module _ (s : SessionState) (name : Characters) where
  pub part-unknown : position (is_guest name) s.guests ≡ None → AnswersHappening (λ w. happen w (event.Part name)) s s (Err UnknownClient)
  part-unknown h = record {
    world = λ w made stands.
        let none = guest-none name w.guests (subst (λ gs. position (is_guest name) gs ≡ None) stands.guests h) in
        (refl, ap (λ o. elim o as (λ _. Stepped) [ None ↦ Err UnknownClient | Some g ↦ part_guest w g ]) none);
  }

  pub submit-unknown : (read : Result Draft Cause) → position (is_guest name) s.guests ≡ None
      → AnswersHappening (λ w. of_guest w name (λ g. submitted_guest w g read)) s s (Err UnknownClient)
  submit-unknown read h = record {
    world = λ w made stands.
        let none = guest-none name w.guests (subst (λ gs. position (is_guest name) gs ≡ None) stands.guests h) in
        (refl, ap (λ o. elim o as (λ _. Stepped) [ None ↦ Err UnknownClient | Some g ↦ submitted_guest w g read ]) none);
  }

  -- its messages come to the log
  pub service-grows : (w v : NaiveWorld) (after : ServiceState) (later : List Entry) → IsMade w → SessionStands s w → v.log ≡ w.log ++ later → v.clients ≡ w.clients
      → v.guests ≡ w.guests → after ≡ service_of v → SessionStands (record s { service = after }) v
  service-grows w v after later made stands log clients guests service = record {
    members = subst (λ l. MembersStand l s.members v.clients) (sym log)
        (subst (λ cs. MembersStand (w.log ++ later) s.members cs) (sym clients) (stand-grown w.log later s.members w.clients (made-within w made) stands.members));
    guests = stands.guests ∙ sym guests;
    service = service;
  }

  module _ (i : ℕ) (g : NamedGuest) (place : position (is_guest name) s.guests ≡ Some i) (at : g ≡ get_or s.guests i g) where
    found-here : (w : NaiveWorld) → SessionStands s w → find (is_guest name) w.guests ≡ Some g
    found-here w stands = subst (λ gs. find (is_guest name) gs ≡ Some g) stands.guests (guest-found name s.guests i g place at)

    -- ---- it goes

    parted : (w : NaiveWorld) → SessionStands s w → happen w (event.Part name) ≡ part_guest w g
    parted w stands = ap (λ o. elim o as (λ _. Stepped) [ None ↦ Err UnknownClient | Some d ↦ part_guest w d ]) (found-here w stands)

    not-left : (o : Option NaiveWorld) (why : Refusal) → elim o as (λ _. Result NaiveWorld Refusal) [ None ↦ Err NotConnected | Some v ↦ Ok v ] ≡ Err why
        → elim o as (λ _. Stepped) [ None ↦ Err NotConnected | Some v ↦ quietly v ] ≡ Err why
    not-left None why e = let q : NotConnected ≡ why = (cc) in ap Err q
    not-left (Some v) why e = (cc)

    pub part-refused : (why : Refusal) (after : ServiceState) → ((w : NaiveWorld) → s.service ≡ service_of w → AnswersService s.service after (left_or_refused g.conn w) (Err why))
        → AnswersHappening (λ w. happen w (event.Part name)) s (record s { service = after }) (Err why)
    part-refused why after service = record {
      world = λ w made stands. means-weaker (refusal_kind why)
          (λ p. (ap (λ a. record s { service = a }) p.0, parted w stands ∙ not-left (left g.conn w) why p.1)) (service w stands.service);
    }

    left-as : (o : Option NaiveWorld) (v : NaiveWorld) → elim o as (λ _. Result NaiveWorld Refusal) [ None ↦ Err NotConnected | Some u ↦ Ok u ] ≡ Ok v → o ≡ Some v
    left-as None v e = (cc)
    left-as (Some u) v e = let q : u ≡ v = (cc) in ap Some q

    left-logged : (w v : NaiveWorld) (o : Option (NaiveSequencer × Entry)) → elim o as (λ _. Option NaiveWorld) [ None ↦ None | Some p ↦ Some (logged p w) ] ≡ Some v
        → (p : NaiveSequencer × Entry) × (v ≡ logged p w)
    left-logged w v None e = (cc)
    left-logged w v (Some p) e = (p, sym (some-same (logged p w) v e))

    pub part-taken : (after : ServiceState) → ((w : NaiveWorld) → s.service ≡ service_of w → AnswersService s.service after (left_or_refused g.conn w) (Ok tt))
        → AnswersHappening (λ w. happen w (event.Part name)) s (record s { service = after }) (Ok out.Nothing)
    part-taken after service = record {
      world = λ w made stands.
          let (v, e, q) = service w stands.service in
          let known : left g.conn w ≡ Some v = left-as (left g.conn w) v e in
          let (p, k) = left-logged w v (leave w.sequencer g.conn) known in (
            (logged p w, Nothing),
            parted w stands ∙ ap (λ o. elim o as (λ _. Stepped) [ None ↦ Err NotConnected | Some u ↦ quietly u ]) (known ∙ ap Some k),
            service-grows w (logged p w) after (p.1 ∷ []) made stands refl refl refl (q ∙ ap service_of k),
            refl,
            tt,
          );
    }

    -- ---- it sends

    module _ (read : Result Draft Cause) where
      abbrev submits : NaiveWorld → Stepped
      submits w = of_guest w name (λ d. submitted_guest w d read)

      abbrev submitted : Result NaiveWorld Refusal → Stepped
      submitted r = elim r [ Err refusal ↦ Err refusal | Ok v ↦ quietly v ]

      -- the draft, or what stands for it
      sent-as : (w : NaiveWorld) (r : Result Draft Cause) → submitted_guest w g r ≡ submitted (submitted_or_refused w g.conn r)
      sent-as w (Ok d) = refl
      sent-as w (Err fault) = refl

      sends : (w : NaiveWorld) → SessionStands s w → submits w ≡ submitted (submitted_or_refused w g.conn read)
      sends w stands = ap (λ o. elim o as (λ _. Stepped) [ None ↦ Err UnknownClient | Some d ↦ submitted_guest w d read ]) (found-here w stands) ∙ sent-as w read

      read-leaves : (w v : NaiveWorld) (r : Result Draft Cause) → submitted_or_refused w g.conn r ≡ Ok v → IsSubmitted w v
      read-leaves w v (Err fault) e = (cc)
      read-leaves w v (Ok d) e = submitted-leaves (d ∷ []) w v g.conn e

      module _ (after : ServiceState) where
        pub submit-refused : (why : Refusal) → ((w : NaiveWorld) → s.service ≡ service_of w → AnswersService s.service after (submitted_or_refused w g.conn read) (Err why))
            → AnswersHappening submits s (record s { service = after }) (Err why)
        submit-refused why service = record {
          world = λ w made stands. means-weaker (refusal_kind why)
              (λ p. (ap (λ a. record s { service = a }) p.0, sends w stands ∙ ap submitted p.1)) (service w stands.service);
        }

        pub submit-taken : ((w : NaiveWorld) → s.service ≡ service_of w → AnswersService s.service after (submitted_or_refused w g.conn read) (Ok tt))
            → AnswersHappening submits s (record s { service = after }) (Ok out.Nothing)
        submit-taken service = record {
          world = λ w made stands.
              let (v, e, q) = service w stands.service in
              let l = read-leaves w v read e in (
                (v, Nothing),
                sends w stands ∙ ap submitted e,
                service-grows w v after l.later made stands l.log l.clients l.guests q,
                l.load,
                tt,
              );
        }

-- ---- the draft of a text

module _ (read : Result Draft Cause) (before : ServiceState) (conn : ℕ) where
  -- it is none
  pub text-unread : (cause : Cause) → read ≡ Err cause → (w : NaiveWorld) → AnswersService before before (submitted_or_refused w conn read) (Err (refusal_of_cause cause))
  text-unread cause e w = cause-means cause (refl, ap (submitted_or_refused w conn) e)

  pub text-read : (d : Draft) (after : ServiceState) (result : Result (Unit {0}) Refusal) → read ≡ Ok d → (w : NaiveWorld)
      → AnswersService before after (submit_all w conn (d ∷ [])) result → AnswersService before after (submitted_or_refused w conn read) result
  text-read d after result e w a = subst (λ r. AnswersService before after r result) (sym (ap (submitted_or_refused w conn) e)) a

-- ---- a guest enters

module _ (s : SessionState) (name label : Characters) where
  pub enter-new : SessionStandsForSome s → ((w : NaiveWorld) → SessionStands s w → name_fault w name ≡ None)
      → length s.service.names < 2 ^ 32 - 1 → label ≡ connection_name name 1
      → IsNewName s.service.names label
  enter-new some free few l =
      let w = some.world in
      let names : s.service.names ≡ w.names = ap (λ (a : ServiceState). a.names) some.stands.service in
      let low : length s.service.names + 1 < 2 ^ 64 = omega (arith, few) in
      let made = made-guest w some.made name (free w some.stands) (subst (λ (ns : List Characters). length ns + 1 < 2 ^ 64) names low) in
      subst (λ ns. IsNewName ns label) (sym names) (subst (IsNewName w.names) (sym l) made)

  joined-refuses : {R : Type 0} (w : NaiveWorld) (why : Refusal) → Ok w ≡ Err why → R
  joined-refuses w why e = (cc)

  pub enter-refused : (after : ServiceState) (why : Refusal) → ((w : NaiveWorld) → s.service ≡ service_of w → AnswersService s.service after (Ok (joined label w)) (Err why))
      → AnswersHappening (λ w. happen w (event.Guest name)) s (record s { service = after }) (Err why)
  enter-refused after why service = record {
    world = λ w made stands. means-weaker (refusal_kind why) (λ p. joined-refuses (joined label w) why p.1) (service w stands.service);
  }

  pub enter-taken : (conn : ℕ) (after : ServiceState) (new : SessionState) → ((w : NaiveWorld) → SessionStands s w → name_fault w name ≡ None)
      → conn ≡ length s.service.names + 1 → label ≡ connection_name name 1
      → ((w : NaiveWorld) → s.service ≡ service_of w → AnswersService s.service after (Ok (joined label w)) (Ok tt))
      → new ≡ record { members = s.members; guests = s.guests ++ (record { name = name; conn = conn } ∷ []); service = after }
      → AnswersHappening (λ w. happen w (event.Guest name)) s new (Ok out.Nothing)
  enter-taken conn after new free h l service e =
      subst (λ n. AnswersHappening (λ w. happen w (event.Guest name)) s n (Ok out.Nothing)) (sym e)
      (guest-enters s name conn label after free h l
      (λ w k. let (v, q, r) = service w k in r ∙ ap service_of (sym (ok-same (joined label w) v (Ok (joined label w)) refl q)))
      (λ w made stands. stand-grown w.log _ s.members w.clients (made-within w made) stands.members))

-- ---- the log

pub log-formed : (s : SessionState) → SessionStandsForSome s → Each (λ (entry : Entry). IsWellFormedMessage entry.msg) s.service.log
log-formed s some = subst (Each (λ (entry : Entry). IsWellFormedMessage entry.msg)) (sym (ap (λ (a : ServiceState). a.log) some.stands.service))
    (made-formed some.world some.made)

pub history-told : (s : SessionState) (texts : List (List ℕ)) → texts ≡ map compact_text (map (λ (entry : Entry). written_message entry.msg) s.service.log)
    → AnswersHappening (λ w. happen w event.History) s s (Ok (out.Texts texts))
history-told s texts h = record {
  world = λ w made stands. (
    (w, Texts (map (λ (entry : Entry). written_message entry.msg) w.log)),
    refl,
    stands,
    refl,
    h ∙ ap (λ (a : ServiceState). map compact_text (map (λ (entry : Entry). written_message entry.msg) a.log)) stands.service,
  );
}
