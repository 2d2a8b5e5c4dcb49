-- A map world answers as its session does, and stops at OutOfMemory.
use Rattle.std.proofs.Common.{◌≡◌, Bool, true, false, Result, Ok, Err, refl, sym, ◌∙◌, ap, subst}
use Rattle.std.specs.Prelude.{⊤}
use Rattle.ft_seqr.specs.declared.refusals.Refusal.{Refusal}
use Rattle.ft_seqr.specs.declared.refusals.Refusal.TheVariants.{Stopped}
use Rattle.ft_map.specs.declared.events.MapEvent.{MapEvent}
use Rattle.ft_map.specs.declared.events.MapOut.{MapOut}
use Rattle.ft_map.specs.MapSession.{MapSession, step}
use Rattle.ft_seqr.specs.RefusalKinds.{HadStopped, MeansOf, RefusalKind, Refused, WantsMemory, is_want, refusal_kind, wants_memory}
use Rattle.ft_map.specs.MapWorlds.{AnswersMapEvent, AnswersSession, MapWorldState}

abbrev pub world_with : MapSession → Bool → MapWorldState
world_with s stopped = record { session = s; stopped = stopped }

pub false-true : {A : Type 0} (b : Bool) → b ≡ false → b ≡ true → A
false-true b h k = absurd cc

-- a stopped world says so
pub stopped-answers : (e : MapEvent) (w : MapWorldState) → w.stopped ≡ true → AnswersMapEvent e w w (Err Stopped)
stopped-answers e w h = record { runs = λ k. false-true w.stopped k h; stopped = λ k. (refl, refl) }

module _ (e : MapEvent) (s new : MapSession) (stopped : Bool) (running : stopped ≡ false) where
  pub world-taken : (out : MapOut) → AnswersSession s new (step s e) (Ok out) → AnswersMapEvent e (world_with s stopped) (world_with new stopped) (Ok out)
  world-taken out (output, stepped, told) = record { runs = λ h. (output, stepped, running, told); stopped = λ h. false-true stopped running h }

  pub world-refused : (why : Refusal) (b : Bool) → b ≡ is_want why → AnswersSession s new (step s e) (Err why) → AnswersMapEvent e (world_with s stopped) (world_with new b) (Err why)
  world-refused why b is a = record { runs = λ h. by_kind (refusal_kind why) is a; stopped = λ h. false-true stopped running h }
    where
      by_kind : (k : RefusalKind) → b ≡ wants_memory k → MeansOf k ⊤ ((new ≡ s) × (step s e ≡ Err why))
          → MeansOf k (b ≡ true) ((world_with new b ≡ world_with s stopped) × (step s e ≡ Err why))
      by_kind WantsMemory i h = i
      by_kind HadStopped i h = absurd h
      by_kind Refused i (same, refused) = (ap (λ (v : MapSession). world_with v b) same ∙ ap (λ x. world_with s x) (i ∙ sym running), refused)

pub by-world : {e : MapEvent} {w old new : MapWorldState} {result : Result MapOut Refusal} → w ≡ old → AnswersMapEvent e w new result → AnswersMapEvent e old new result
by-world {e} {w} {old} {new} {result} h a = subst (λ (o : MapWorldState). AnswersMapEvent e o new result) h a
