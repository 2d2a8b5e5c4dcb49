-- What becomes of an event becomes of what it does.
use Rattle.std.proofs.Common.{◌≡◌, ◌≤◌, ℕ, nat_le, Bool, true, Result, Ok, Err, sym, ◌∙◌, ap, subst, arith}
use Rattle.std.specs.Prelude.{IfOk, IsTrue}
use Rattle.std.proofs.lemmas.Bool.Decides.{nat_tests}
use Rattle.ft_base.proofs.Booleans.{both}
use Rattle.ft_op.specs.WellFormed.{is_count, is_range}
use Rattle.ft_props.specs.Properties.{Characters}
use Rattle.ft_seqr.specs.declared.events.Event.{Event}
use Rattle.ft_seqr.specs.declared.refusals.Refusal.{Refusal}
use Rattle.ft_seqr.specs.WellFormedEvent.{IsWellFormedEvent}
use Rattle.ft_seqr.specs.World.{NaiveWorld, happen, of_client, of_guest, text_load}
use Rattle.ft_session.specs.declared.acts.Act.{Act}
use Rattle.ft_session.specs.declared.acts.Act.TheVariants.{OfClient, OfSession}
use Rattle.ft_session.specs.declared.acts.ClientAct.{ClientAct}
use Rattle.ft_session.specs.declared.acts.ClientAct.TheVariants as client
use Rattle.ft_session.specs.declared.acts.SessionAct.{SessionAct}
use Rattle.ft_session.specs.declared.acts.SessionAct.TheVariants as session
use Rattle.ft_session.specs.declared.outputs.Out.{Out}
use Rattle.ft_session.specs.Acts.{ActEffect, ClientActEffect, IsAct, IsClientAct, IsSessionAct, IsWellFormedAct, IsWellFormedClientAct, NamedActEffect, SessionActEffect, act_load, act_step, client_load, client_step, draft_load, message_load, offered_client, session_load, session_step, submitted_guest}
use Rattle.ft_session.specs.Effects.{SessionEffect}
use Rattle.ft_session.specs.Worlds.{AnswersClient, AnswersHappening, AnswersReading, AnswersSession, MemberState, ServiceState, SessionState}
use Rattle.ft_session.proofs.Happenings.{reading-answers}

-- ---- what becomes of it

client-happens : (w : NaiveWorld) (name : Characters) (act : ClientAct) (e : Event) → IsClientAct name act e → happen w e ≡ of_client w name (client_step act w)
client-happens w name client.Connect e h = ap (happen w) h
client-happens w name client.Drop e h = ap (happen w) h
client-happens w name (client.Edit op) e h = ap (happen w) h
client-happens w name (client.Ticket many) e h = ap (happen w) h
client-happens w name (client.Deliver many) e h = ap (happen w) h
client-happens w name client.Noop e h = ap (happen w) h
client-happens w name client.Show e h = ap (happen w) h
client-happens w name client.Queue e h = ap (happen w) h
client-happens w name client.Compact e h = ap (happen w) h
client-happens w name client.Summary e h = ap (happen w) h
client-happens w name (client.Offer read) e (text, h, r) = ap (happen w) h ∙ ap (λ x. of_client w name (λ c. offered_client w c x)) r
client-happens w name (client.Overlap label a b) e h = ap (happen w) h
client-happens w name (client.Blame a b) e h = ap (happen w) h
client-happens w name client.Authors e h = ap (happen w) h

session-happens : (w : NaiveWorld) (act : SessionAct) (e : Event) → IsSessionAct act e → happen w e ≡ session_step w act
session-happens w (session.Start name from) e h = ap (happen w) h
session-happens w session.History e h = ap (happen w) h
session-happens w (session.Guest name) e h = ap (happen w) h
session-happens w (session.Submit name read) e (text, h, r) = ap (happen w) h ∙ ap (λ x. of_guest w name.now (λ g. submitted_guest w g x)) r
session-happens w (session.Part name) e h = ap (happen w) h

act-happens : (w : NaiveWorld) (act : Act) (e : Event) → IsAct act e → happen w e ≡ act_step w act
act-happens w (OfClient name act) e h = client-happens w name.now act e h
act-happens w (OfSession act) e h = session-happens w act e h

-- what a session answers to what an event does, it answers to the event
pub event-answers : (act : Act) (e : Event) (old new : SessionState) (result : Result Out Refusal) → IsAct act e → AnswersHappening (λ w. act_step w act) old new result
    → AnswersHappening (λ w. happen w e) old new result
event-answers act e old new result h a = record {
  world = λ w made stands. subst (λ stepped. AnswersSession old new w stepped result) (sym (act-happens w act e h)) (a.world w made stands);
}

-- ---- what it adds to the load

client-loads : (name : Characters) (act : ClientAct) (e : Event) → IsClientAct name act e → client_load act ≡ text_load e
client-loads name client.Connect e h = sym (ap text_load h)
client-loads name client.Drop e h = sym (ap text_load h)
client-loads name (client.Edit op) e h = sym (ap text_load h)
client-loads name (client.Ticket many) e h = sym (ap text_load h)
client-loads name (client.Deliver many) e h = sym (ap text_load h)
client-loads name client.Noop e h = sym (ap text_load h)
client-loads name client.Show e h = sym (ap text_load h)
client-loads name client.Queue e h = sym (ap text_load h)
client-loads name client.Compact e h = sym (ap text_load h)
client-loads name client.Summary e h = sym (ap text_load h)
client-loads name (client.Offer read) e (text, h, r) = sym (ap text_load h ∙ ap message_load r)
client-loads name (client.Overlap label a b) e h = sym (ap text_load h)
client-loads name (client.Blame a b) e h = sym (ap text_load h)
client-loads name client.Authors e h = sym (ap text_load h)

session-loads : (act : SessionAct) (e : Event) → IsSessionAct act e → session_load act ≡ text_load e
session-loads (session.Start name from) e h = sym (ap text_load h)
session-loads session.History e h = sym (ap text_load h)
session-loads (session.Guest name) e h = sym (ap text_load h)
session-loads (session.Submit name read) e (text, h, r) = sym (ap text_load h ∙ ap draft_load r)
session-loads (session.Part name) e h = sym (ap text_load h)

pub act-loads : (act : Act) (e : Event) → IsAct act e → act_load act ≡ text_load e
act-loads (OfClient name act) e h = client-loads name.now act e h
act-loads (OfSession act) e h = session-loads act e h

-- ---- what it needs

in-range : (a b : ℕ) → IsTrue (is_range a b) → a ≤ b
in-range a b h = let p : nat_le a b ≡ true = (both (nat_le a b) (is_count b) h).0 in grind (arith, nat_tests, p)

client-formed : (name : Characters) (act : ClientAct) (e : Event) → IsClientAct name act e → IsWellFormedEvent e → IsWellFormedClientAct act
client-formed name (client.Edit op) e h f = subst IsWellFormedEvent h f
client-formed name (client.Overlap label a b) e h f = in-range a b (subst IsWellFormedEvent h f)
client-formed name (client.Blame a b) e h f = in-range a b (subst IsWellFormedEvent h f)
client-formed name _ e h f = tt

pub act-formed : (act : Act) (e : Event) → IsAct act e → IsWellFormedEvent e → IsWellFormedAct act
act-formed (OfClient name act) e h f = client-formed name.now act e h f
act-formed (OfSession act) e h f = tt

-- ---- what it makes of the replicas

module _ (compacts : Bool) (e : Event) (old new : SessionState) (out : Out) where
  effect-as : (f : Event) → e ≡ f → SessionEffect compacts f old new out → SessionEffect compacts e old new out
  effect-as f h x = subst (λ d. SessionEffect compacts d old new out) (sym h) x

  client-effect : (name : Characters) (act : ClientAct) → IsClientAct name act e → NamedActEffect compacts act name new out → SessionEffect compacts e old new out
  client-effect name client.Show h x = effect-as _ h (record { member = x.member; found = x.found; effect = x.effect })
  client-effect name client.Compact h x = effect-as _ h (record { member = x.member; found = x.found; effect = x.effect })
  client-effect name client.Connect h x = effect-as _ h tt
  client-effect name client.Drop h x = effect-as _ h tt
  client-effect name (client.Edit op) h x = effect-as _ h tt
  client-effect name (client.Ticket many) h x = effect-as _ h tt
  client-effect name (client.Deliver many) h x = effect-as _ h tt
  client-effect name client.Noop h x = effect-as _ h tt
  client-effect name client.Queue h x = effect-as _ h tt
  client-effect name client.Summary h x = effect-as _ h tt
  client-effect name (client.Offer read) (text, h, r) x = effect-as _ h tt
  client-effect name (client.Overlap label a b) h x = effect-as _ h tt
  client-effect name (client.Blame a b) h x = effect-as _ h tt
  client-effect name client.Authors h x = effect-as _ h tt

  session-effect : (act : SessionAct) → IsSessionAct act e → SessionActEffect compacts act old new out → SessionEffect compacts e old new out
  session-effect (session.Start name from) h x = effect-as _ h x
  session-effect session.History h x = effect-as _ h tt
  session-effect (session.Guest name) h x = effect-as _ h tt
  session-effect (session.Submit name read) (text, h, r) x = effect-as _ h tt
  session-effect (session.Part name) h x = effect-as _ h tt

  pub act-effect : (act : Act) → IsAct act e → ActEffect compacts act old new out → SessionEffect compacts e old new out
  act-effect (OfClient name act) h x = client-effect name.now act h x
  act-effect (OfSession act) h x = session-effect act h x

-- ---- as the code has them

-- what a client answers to one of the things that happen to it
pub as-client : {act done : ClientAct} {m new : MemberState} {before after : ServiceState} {result : Result Out Refusal} → act ≡ done → AnswersClient (client_step done) m new before after result
    → AnswersClient (client_step act) m new before after result
as-client {act} {done} {m} {new} {before} {after} {result} h a = subst (λ x. AnswersClient (client_step x) m new before after result) (sym h) a

-- the same where it is asked
pub as-asked : {act done : ClientAct} {m : MemberState} {s : ServiceState} {result : Result Out Refusal} → act ≡ done → AnswersReading (client_step done) m s result
    → AnswersClient (client_step act) m m s s result
as-asked {act} {done} {m} {s} {result} h a = as-client h (reading-answers (client_step done) m s result a)

-- what makes nothing more of a replica than that it stands for its client
pub without-effect : (compacts : Bool) {act done : ClientAct} (m : MemberState) → act ≡ done → (result : Result Out Refusal)
    → ((out : Out) → ClientActEffect compacts done m out) → IfOk result (λ out. ClientActEffect compacts act m out)
without-effect compacts {act} {done} m h (Ok out) e = subst (λ a. ClientActEffect compacts a m out) (sym h) (e out)
without-effect compacts m h (Err why) e = tt

-- what a session answers to one of the things that happen to it
pub as-session : {act done : SessionAct} {old new : SessionState} {result : Result Out Refusal} → act ≡ done → AnswersHappening (λ w. session_step w done) old new result
    → AnswersHappening (λ w. session_step w act) old new result
as-session {act} {done} {old} {new} {result} h a = subst (λ x. AnswersHappening (λ w. session_step w x) old new result) (sym h) a

pub as-act : {act done : Act} {old new : SessionState} {result : Result Out Refusal} → act ≡ done → AnswersHappening (λ w. act_step w done) old new result
    → AnswersHappening (λ w. act_step w act) old new result
as-act {act} {done} {old} {new} {result} h a = subst (λ x. AnswersHappening (λ w. act_step w x) old new result) (sym h) a
