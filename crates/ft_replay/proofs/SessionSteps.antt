-- What a world answers to an event, and what a session of the program tells of it and holds then.
use Rattle.std.proofs.Common.{◌≡◌, ℕ, List, Some, None, Result, Ok, Err, refl, sym, ap, subst}
use Rattle.std.specs.Prelude.{IfOk}
use Rattle.ft_seqr.specs.declared.events.Event.{Event}
use Rattle.ft_seqr.specs.declared.refusals.Refusal.{Refusal}
use Rattle.ft_seqr.specs.declared.refusals.Refusal.TheVariants.{OutOfMemory, Stopped}
use Rattle.ft_seqr.specs.EventReader.{IsRefused}
use Rattle.ft_seqr.specs.RefusalKinds.{MeansOf, RefusalKind, HadStopped, Refused, WantsMemory, refusal_kind}
use Rattle.ft_seqr.specs.SessionReport.{answer, answer_reading, as_shown, output_lines, take_line}
use Rattle.ft_seqr.specs.World.{NaiveWorld, Output, step}
use Rattle.ft_session.specs.declared.outputs.Out.{Out}
use Rattle.ft_session.specs.Outputs.{Tells}
use Rattle.ft_session.specs.Worlds.{AnswersEvent, WorldStands, WorldState}
use Rattle.ft_replay.specs.declared.listener.Told.{Told}
use Rattle.ft_replay.specs.declared.listener.Told.TheVariants as told
use Rattle.ft_replay.specs.LineForm.{bytes_of}
use Rattle.ft_replay.specs.Listening.{IsStep, told_refusal, told_text}

-- what a refusal means that isn't OutOfMemory
pub means-refused : (A B : Type 0) (why : Refusal) (kind : RefusalKind) → refusal_kind why ≡ kind → (why ≡ OutOfMemory → ⊥) → MeansOf kind A B → B
means-refused A B why WantsMemory is other h = absurd (wants why is other)
  where
    wants : (why : Refusal) → refusal_kind why ≡ WantsMemory → (why ≡ OutOfMemory → ⊥) → ⊥
    wants OutOfMemory q o = o refl
    wants Stopped q o = (cc)
    wants _ q o = (cc)
means-refused A B why HadStopped is other h = absurd h
means-refused A B why Refused is other h = h

-- the line is no event
pub line-refused : {E : Type 0} (Holds : NaiveWorld → Type 0) (w : NaiveWorld) (line : List ℕ) (why : Refusal) (r : Result Told E) → IfOk r (λ said. said ≡ told.Refused why)
    → IfOk r (λ said. why ≡ OutOfMemory → ⊥) → ((why ≡ OutOfMemory → ⊥) → IsRefused line why) → Holds w → IfOk r (λ said. IsStep Holds said (take_line as_shown w line))
line-refused Holds w line why (Err want) is other refused h = tt
line-refused Holds w line why (Ok said) is other refused h =
    let (cause, reads, same) = refused other in
    subst (λ t. IsStep Holds t (take_line as_shown w line)) (sym is)
    (subst (λ a. IsStep Holds (told.Refused why) (answer_reading as_shown w a)) (sym reads) (record { holds = h; text = refl; refusal = ap Some same }))

module _ {old new : WorldState} (w : NaiveWorld) (e : Event) (stands : WorldStands old w) where
  -- the world refused the event, and is as it was
  pub event-refused : (why : Refusal) → (why ≡ OutOfMemory → ⊥) → AnswersEvent e old new (Err why) → (new ≡ old) × (step w e ≡ Err why)
  event-refused why other answers = means-refused _ _ why (refusal_kind why) refl other (answers.runs w stands)

  pub told-refused : {E : Type 0} (why : Refusal) (r : Result Told E) → IfOk r (λ said. said ≡ told.Refused why) → IfOk r (λ said. why ≡ OutOfMemory → ⊥)
      → AnswersEvent e old new (Err why) → IfOk r (λ said. IsStep (WorldStands new) said (answer as_shown w (step w e)))
  told-refused why (Err want) is other answers = tt
  told-refused why (Ok said) is other answers =
      let h = event-refused why other answers in
      subst (λ t. IsStep (WorldStands new) t (answer as_shown w (step w e))) (sym is)
      (subst (λ s. IsStep (WorldStands new) (told.Refused why) (answer as_shown w s)) (sym h.1)
      (record { holds = subst (λ x. WorldStands x w) (sym h.0) stands; text = refl; refusal = refl }))

  -- the world took it
  pub told-taken : (out : Out) (said : Told) → AnswersEvent e old new (Ok out)
      → ((v : NaiveWorld) (output : Output) → Tells output out → told_text said ≡ bytes_of (output_lines as_shown v output)) → told_refusal said ≡ None
      → IsStep (WorldStands new) said (answer as_shown w (step w e))
  told-taken out said answers text taken =
      let a = answers.runs w stands in
      subst (λ s. IsStep (WorldStands new) said (answer as_shown w s)) (sym a.1) (record { holds = a.2; text = text a.0.0 a.0.1 a.3; refusal = taken })

  -- the same as far as what it wrote can be told
  pub told-by : {E : Type 0} (out : Out) (r : Result Told E) → AnswersEvent e old new (Ok out)
      → ((v : NaiveWorld) (output : Output) → Tells output out → IfOk r (λ said. told_text said ≡ bytes_of (output_lines as_shown v output)))
      → IfOk r (λ said. told_refusal said ≡ None) → IfOk r (λ said. IsStep (WorldStands new) said (answer as_shown w (step w e)))
  told-by out (Ok said) answers text taken = told-taken out said answers text taken
  told-by out (Err fault) answers text taken = tt
