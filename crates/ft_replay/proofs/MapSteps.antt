-- What a map world answers to an event, and what a map session of the program tells of it and holds then.
use Rattle.std.proofs.Common.{◌≡◌, ℕ, Bool, List, Some, None, Result, Ok, Err, refl, sym, ◌∙◌, ap, subst}
use Rattle.std.specs.Prelude.{IfOk}
use Rattle.ft_seqr.specs.declared.refusals.Refusal.{Refusal}
use Rattle.ft_seqr.specs.declared.refusals.Refusal.TheVariants.{OutOfMemory}
use Rattle.ft_seqr.specs.RefusalKinds.{refusal_kind}
use Rattle.ft_map.specs.declared.events.MapEvent.{MapEvent}
use Rattle.ft_map.specs.declared.events.MapOut.{MapOut}
use Rattle.ft_map.specs.MapEventReader.{IsRefused}
use Rattle.ft_map.specs.MapReport.{answer, answer_reading, output_lines, take_line}
use Rattle.ft_map.specs.MapSession.{MapOutput, MapSession, step}
use Rattle.ft_map.specs.MapWorlds.{AnswersMapEvent, MapWorldState, Tells}
use Rattle.ft_replay.specs.declared.listener.Told.{Told}
use Rattle.ft_replay.specs.declared.listener.Told.TheVariants as told
use Rattle.ft_replay.specs.LineForm.{bytes_of}
use Rattle.ft_replay.specs.Listening.{IsStep, told_refusal, told_text}
use Rattle.ft_replay.specs.MapRuns.{running}
use Rattle.ft_replay.proofs.SessionSteps.{means-refused}

abbrev world_of : MapSession → Bool → MapWorldState
world_of w stopped = record { session = w; stopped = stopped }

-- the line is no event
pub line-refused : {E : Type 0} (Holds : MapSession → Type 0) (w : MapSession) (line : List ℕ) (why : Refusal) (r : Result Told E) → IfOk r (λ said. said ≡ told.Refused why)
    → IfOk r (λ said. why ≡ OutOfMemory → ⊥) → ((why ≡ OutOfMemory → ⊥) → IsRefused line why) → Holds w → IfOk r (λ said. IsStep Holds said (take_line w line))
line-refused Holds w line why (Err want) is other refused h = tt
line-refused Holds w line why (Ok said) is other refused h =
    let (cause, reads, same) = refused other in
    subst (λ t. IsStep Holds t (take_line w line)) (sym is)
    (subst (λ a. IsStep Holds (told.Refused why) (answer_reading w a)) (sym reads) (record { holds = h; text = refl; refusal = ap Some same }))

module _ (e : MapEvent) (old new : MapWorldState) (w : MapSession) (runs : old ≡ running w) where
  -- the world refused the event, and is as it was
  pub told-refused : {E : Type 0} (why : Refusal) (r : Result Told E) → IfOk r (λ said. said ≡ told.Refused why) → IfOk r (λ said. why ≡ OutOfMemory → ⊥)
      → AnswersMapEvent e old new (Err why) → IfOk r (λ said. IsStep (λ v. new ≡ running v) said (answer w (step w e)))
  told-refused why (Err want) is other answers = tt
  told-refused why (Ok said) is other answers =
      let h = means-refused _ _ why (refusal_kind why) refl other (answers.runs (ap (λ (x : MapWorldState). x.stopped) runs)) in
      subst (λ t. IsStep (λ v. new ≡ running v) t (answer w (step w e))) (sym is)
      (subst (λ s. IsStep (λ v. new ≡ running v) (told.Refused why) (answer w s)) (sym h.1 ∙ ap (λ (x : MapWorldState). step x.session e) runs)
      (record { holds = h.0 ∙ runs; text = refl; refusal = refl }))

  -- the world took it
  pub told-by : {E : Type 0} (out : MapOut) (r : Result Told E) → AnswersMapEvent e old new (Ok out)
      → ((output : MapOutput) → Tells output out → IfOk r (λ said. told_text said ≡ bytes_of (output_lines output)))
      → IfOk r (λ said. told_refusal said ≡ None) → IfOk r (λ said. IsStep (λ v. new ≡ running v) said (answer w (step w e)))
  told-by out (Err want) answers text taken = tt
  told-by out (Ok said) answers text taken =
      let a = answers.runs (ap (λ (x : MapWorldState). x.stopped) runs) in
      subst (λ s. IsStep (λ v. new ≡ running v) said (answer w s)) (sym a.1 ∙ ap (λ (x : MapWorldState). step x.session e) runs)
      (record { holds = ap (world_of new.session) a.2; text = text a.0 a.3; refusal = taken })
