-- A world takes an event with its load.
use Rattle.std.proofs.Common.{◌≡◌, ◌≤◌, ◌^◌, ℕ, ◌+◌, [], Bool, true, false, Result, Ok, Err, refl, sym, ◌∙◌, ap, subst}
use Rattle.std.specs.Prelude.{IfOk, ⊤}
use Rattle.std.specs.Result.{IsErr, IsErrAnd}
use Rattle.ft_seqr.specs.declared.events.Event.{Event}
use Rattle.ft_seqr.specs.declared.refusals.Refusal.{Refusal}
use Rattle.ft_seqr.specs.declared.refusals.Refusal.TheVariants.{OutOfMemory, Stopped}
use Rattle.ft_seqr.specs.WellFormedEvent.{IsWellFormedEvent}
use Rattle.ft_seqr.specs.World.{NaiveWorld, happen, loaded, new_world, step, text_load}
use Rattle.ft_seqr.specs.Sequencer.{new_sequencer}
use Rattle.ft_laws_sessions.proofs.MadeWorlds.{made-first, made-next}
use Rattle.ft_session.specs.declared.acts.Act.{Act}
use Rattle.ft_session.specs.declared.outputs.Counts.{Counts}
use Rattle.ft_session.specs.declared.outputs.Out.{Out}
use Rattle.ft_session.specs.Acts.{ActEffect, IsAct}
use Rattle.ft_session.specs.Effects.{SessionEffect}
use Rattle.ft_session.specs.Outputs.{counts_of}
use Rattle.ft_session.specs.declared.world.Taken.{Taken}
use Rattle.ft_session.specs.Steps.{AnswersLoaded, StandsAtLoad, StandsAtLoadForSome}
use Rattle.ft_seqr.specs.RefusalKinds.{MeansOf, RefusalKind, HadStopped, Refused, WantsMemory, is_want, refusal_kind}
use Rattle.ft_session.specs.Worlds.{AnswersEvent, AnswersHappening, RunsForSome, MembersStand, SessionStandsForSome, SessionState, StopsWithCounts, WorldStands, WorldState}
use Rattle.ft_session.proofs.ActSteps.{act-effect}
use Rattle.ft_session.proofs.OwnEvents.{handed-on}
use Rattle.ft_seqr.proofs.RefusalKinds.{means-weaker}

pub stands-some : (s : SessionState) (load : ℕ) → StandsAtLoadForSome s load → SessionStandsForSome s
stands-some s load h = record { world = h.world; made = h.stands.made; stands = h.stands.stands }

module _ (e : Event) (formed : IsWellFormedEvent e) (old new : SessionState) (load : ℕ) where
  -- it is taken
  pub step-taken : (out : Out) (after : ℕ) (counts : Counts) → AnswersHappening (λ w. happen w e) old new (Ok out) → after ≡ load + (1 + text_load e) → after ≤ 2 ^ 52
      → ((w : NaiveWorld) → MembersStand w.log new.members w.clients → counts ≡ counts_of w)
      → AnswersLoaded e old new load (Ok (record { out = out; load = after; counts = counts }))
  step-taken out after counts a sum low counted = record {
    world = λ w s.
        let (p, k, t, l, told) = a.world w s.made s.stands in
        let n = 1 + text_load e in
        let v : NaiveWorld = record p.0 { load = p.0.load + n } in
        let stepped : step w e ≡ Ok (v, p.1) = ap (loaded n) k in
        let same : after ≡ p.0.load + n = sum ∙ ap (λ i. i + n) (s.loaded ∙ sym l) in
        let small : v.load ≤ 2 ^ 52 = subst (λ i. i ≤ 2 ^ 52) same low in (
          (v, p.1),
          stepped,
          record {
            made = made-next w s.made e formed (v, p.1) stepped small;
            stands = record { members = t.members; guests = t.guests; service = t.service };
            loaded = same;
          },
          counted v t.members,
          told,
        );
  }

  -- it is refused
  pub step-refused : (why : Refusal) → AnswersHappening (λ w. happen w e) old new (Err why) → AnswersLoaded e old new load (Err why)
  step-refused why a = record {
    world = λ w s. means-weaker (refusal_kind why) (λ p. (p.0, ap (loaded (1 + text_load e)) p.1)) (a.world w s.made s.stands);
  }

  pub step-handed : (why : Refusal) (result : Result Taken Refusal) → IsErr result × IsErrAnd result (λ w. w ≡ why) → AnswersHappening (λ w. happen w e) old new (Err why)
      → AnswersLoaded e old new load result
  step-handed why result h a = handed-on (λ r. AnswersLoaded e old new load r) why result h (step-refused why a)

-- what it made of the replicas
pub taken-effect : (compacts : Bool) (e : Event) (old new : SessionState) (act : Act) → IsAct act e → (result : Result Taken Refusal)
    → IfOk result (λ taken. ActEffect compacts act old new taken.out) → IfOk result (λ taken. SessionEffect compacts e old new taken.out)
taken-effect compacts e old new act h (Ok taken) x = act-effect compacts e old new taken.out act h x
taken-effect compacts e old new act h (Err why) x = tt

-- ---- the world

abbrev pub world_with : SessionState → ℕ → Counts → Bool → WorldState
world_with s load counts stopped = record { session = s; load = load; counts = counts; stopped = stopped }

false-true : {A : Type 0} (b : Bool) → b ≡ false → b ≡ true → A
false-true b h k = (cc)

-- a stopped world says so
pub stopped-answers : (e : Event) (w : WorldState) → w.stopped ≡ true → AnswersEvent e w w (Err Stopped)
stopped-answers e w h = record { runs = λ n s. false-true w.stopped s.running h; stopped = λ k. (refl, refl) }

module _ (s : SessionState) (load : ℕ) (counts : Counts) (stopped : Bool) (running : stopped ≡ false) where
  pub at-load : RunsForSome (world_with s load counts stopped) → StandsAtLoadForSome s load
  at-load h =
      let (n, t) = h running in
      record { world = n; stands = record { made = t.made; stands = t.session; loaded = t.load } }

  stands-world : (w : NaiveWorld) → WorldStands (world_with s load counts stopped) w → StandsAtLoad w s load
  stands-world w t = record { made = t.made; stands = t.session; loaded = t.load }

  module _ (e : Event) (new : SessionState) where
    pub world-taken : (taken : Taken) → AnswersLoaded e s new load (Ok taken)
        → AnswersEvent e (world_with s load counts stopped) (world_with new taken.load taken.counts stopped) (Ok taken.out)
    world-taken taken a = record {
      runs = λ w t.
          let (p, k, q, n, told) = a.world w (stands-world w t) in
          (p, k, record { running = running; session = q.stands; made = q.made; load = q.loaded; counts = n }, told);
      stopped = λ h. false-true stopped running h;
    }

    by-kind : (why : Refusal) (k : RefusalKind) (w : NaiveWorld) → refusal_kind why ≡ k → MeansOf k ⊤ ((new ≡ s) × (step w e ≡ Err why))
        → MeansOf k (StopsWithCounts (world_with s load counts stopped) (world_with new load counts (is_want why)))
        ((world_with new load counts (is_want why) ≡ world_with s load counts stopped) × (step w e ≡ Err why))
    by-kind why WantsMemory w q h = record { stopped = want why q; counts = refl }
      where
        want : (why : Refusal) → refusal_kind why ≡ WantsMemory → is_want why ≡ true
        want OutOfMemory q = refl
        want Stopped q = (cc)
        want _ q = (cc)
    by-kind why HadStopped w q h = absurd h
    by-kind why Refused w q h = (ap (λ a. world_with a load counts (is_want why)) h.0 ∙ ap (world_with s load counts) (other why q ∙ sym running), h.1)
      where
        other : (why : Refusal) → refusal_kind why ≡ Refused → is_want why ≡ false
        other OutOfMemory q = (cc)
        other Stopped q = (cc)
        other _ q = refl

    pub world-refused : (why : Refusal) (now : Bool) → now ≡ is_want why → AnswersLoaded e s new load (Err why)
        → AnswersEvent e (world_with s load counts stopped) (world_with new load counts now) (Err why)
    world-refused why now h a = subst (λ b. AnswersEvent e (world_with s load counts stopped) (world_with new load counts b) (Err why)) (sym h) (record {
      runs = λ w t. by-kind why (refusal_kind why) w refl (a.world w (stands-world w t));
      stopped = λ k. false-true stopped running k;
    })

-- what a world answers, by its view
pub by-world : {e : Event} {w old new : WorldState} {result : Result Out Refusal} → w ≡ old → AnswersEvent e w new result → AnswersEvent e old new result
by-world {e} {w} {old} {new} {result} h a = subst (λ o. AnswersEvent e o new result) h a

abbrev pub no_counts : Counts
no_counts = record { skipped = 0; other = 0 }

-- a world before the first event
pub new-stands : (s : SessionState) → s ≡ record { members = []; guests = []; service = record { sequencer = new_sequencer; names = []; log = [] } } → WorldStands (world_with s 0 no_counts false) new_world
new-stands s h = subst (λ a. WorldStands (world_with a 0 no_counts false) new_world) (sym h) (record {
  running = refl;
  session = record { members = tt; guests = refl; service = refl };
  made = made-first;
  load = refl;
  counts = refl;
})
