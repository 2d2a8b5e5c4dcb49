-- All steps of a client that is compacted in between, and what a replica answers that stands for a client.
use Rattle.std.proofs.Common.{◌≡◌, Bool, true, false, cond, List, [], ◌∷◌, ◌++◌, Option, Some, None, Result, Ok, Err, append-nil, append_assoc, refl, sym, ◌∙◌, ap, subst}
use Rattle.std.specs.List.{list_all}
use Rattle.std.proofs.lemmas.List.Folds.{list_all-append}
use Rattle.ft_base.proofs.Booleans.{both}
use Rattle.ft_msg.specs.declared.faults.ViewFault.TheVariants.{OutOfMemory, Stopped}
use Rattle.ft_op.specs.Document.{Document}
use Rattle.ft_msg.specs.Answers.{AnswersClient, FaultKind, MeansRefusal, Refusal, ReplicaState, RiseAlike, StoppedBefore, WantOfMemory, held_in}
use Rattle.ft_msg.specs.Client.{NaiveClient, client_over}
use Rattle.ft_laws_agreement.specs.Starts.{IsSoundRun, IsSoundStart}
use Rattle.ft_laws_agreement.proofs.SummaryStarts.{reached-run}
use Rattle.ft_msg.specs.ClientSteps.{ClientStep, Edits, Connects, Drops, Idles, Sends, Restarts, Takes, after_step, has_fitting_body, is_without_edits, taken_entries, unless_refused}
use Rattle.ft_msg.specs.Compacted.{IsCompacted, StandsFor}
use Rattle.ft_msg.specs.Reached.{IsReached}
use Rattle.ft_msg.proofs.ReplicaStarts.{keeps-itself}
use Rattle.ft_laws_compaction.specs.Keeping.{AnswersAlike, CompactingSteps, DoesStepOnEach, ReplicaCompacts, StepsAlike, compacts, each_takes, ends, none_takes, refused, steps_on, taken}
use Rattle.ft_laws_compaction.proofs.Compacting.{compacts-further}
use Rattle.ft_laws_compaction.proofs.CountsKept.{rises-kept}
use Rattle.ft_laws_compaction.proofs.KeptSteps.{connects-alike, drops-alike, edits-answer, entries-answer, idles-alike, restarts-alike, sends-alike}
use Rattle.ft_laws_compaction.proofs.Runs.{run-next, taken-append}

-- ---- one step

answers-steps : (E : Type 0) {r s : Result NaiveClient E} → AnswersAlike E r s → StepsAlike (unless_refused r) (unless_refused s)
answers-steps E (refused fault) = none_takes
answers-steps E (taken kept x k) = each_takes kept x k

restarts-step : (x kept : NaiveClient) → IsCompacted kept x → StepsAlike (after_step kept Restarts) (after_step x Restarts)
restarts-step x kept k = subst (λ b. StepsAlike (cond b (Some (client_over kept.doc)) None) (after_step x Restarts)) (sym (ap is_without_edits k.rest))
    (step (is_without_edits x) refl)
  where
    step : (b : Bool) → is_without_edits x ≡ b → StepsAlike (cond b (Some (client_over kept.doc)) None) (cond b (Some (client_over x.doc)) None)
    step true e = each_takes (client_over kept.doc) (client_over x.doc) (restarts-alike x kept k e)
    step false e = none_takes

pub step-alike : (steps : List ClientStep) (x kept : NaiveClient) (step : ClientStep) → IsSoundRun steps x → IsCompacted kept x
    → list_all has_fitting_body (taken_entries (step ∷ [])) ≡ true → StepsAlike (after_step kept step) (after_step x step)
step-alike steps x kept (Edits op) run k fits = answers-steps _ (edits-answer steps x kept op run k)
step-alike steps x kept (Connects conn) run k fits = answers-steps _ (connects-alike x kept conn k)
step-alike steps x kept Drops run k fits = answers-steps _ (drops-alike x kept k)
step-alike steps x kept Idles run k fits = answers-steps _ (idles-alike x kept k)
step-alike steps x kept Sends run k fits = each_takes _ _ (sends-alike x kept k)
step-alike steps x kept Restarts run k fits = restarts-step x kept k
step-alike steps x kept (Takes entry) run k fits = answers-steps _ (entries-answer steps x kept entry run k (both (has_fitting_body entry) true fits).0)

-- ---- all steps

-- the client that takes the steps without being compacted
abbrev Kept : List ClientStep → NaiveClient → Type 0
Kept steps kept = (x : NaiveClient) × (IsSoundRun steps x × IsCompacted kept x)

pub taken-alike : {o p : Option NaiveClient} (y : NaiveClient) → StepsAlike o p → o ≡ Some y → (z : NaiveClient) × ((p ≡ Some z) × IsCompacted y z)
taken-alike y none_takes e = (cc)
taken-alike y (each_takes kept x k) e =
    let same : kept ≡ y = (cc) in
    (x, (refl, subst (λ w. IsCompacted w x) same k))

steps-kept : (before : List ClientStep) {start kept : NaiveClient} (x : NaiveClient) {steps : List ClientStep} → IsSoundRun before x → IsCompacted start x
    → CompactingSteps start steps kept → list_all has_fitting_body (taken_entries steps) ≡ true → Kept (before ++ steps) kept
steps-kept before {start} x run k ends fits = (x, (subst (λ ss. IsSoundRun ss x) (sym (append-nil before)) run, k))
steps-kept before x run k (compacts c rest) fits = steps-kept before x run (compacts-further x _ _ k c) rest fits
steps-kept before {start} {kept} x run k (steps_on {y = y} {step = step} {steps = steps} e rest) fits =
    let f = both (list_all has_fitting_body (taken_entries (step ∷ []))) (list_all has_fitting_body (taken_entries steps))
    (sym (list_all-append has_fitting_body (taken_entries (step ∷ [])) (taken_entries steps)) ∙ ap (list_all has_fitting_body) (sym (taken-append (step ∷ []) steps)) ∙ fits) in
    let t = taken-alike y (step-alike before x start step run k f.0) e in
    subst (λ ss. Kept ss kept) (append_assoc before (step ∷ []) steps) (steps-kept (before ++ (step ∷ [])) t.0
    (record { start = run.start; run = run-next before step x t.0 run t.1.0 f.0 }) t.1.1 rest f.1)

-- a client that is compacted in between keeps the one that isn't
pub compacting-keeps : (start : Document) (steps : List ClientStep) (kept : NaiveClient) → IsSoundStart start → CompactingSteps (client_over start) steps kept
    → list_all has_fitting_body (taken_entries steps) ≡ true → (x : NaiveClient) × (IsSoundRun steps x × IsCompacted kept x)
compacting-keeps start steps kept sound c fits = steps-kept [] (client_over start)
    (record { start = start; run = record { sound = sound; made = refl; bodies = refl } }) (keeps-itself (client_over start)) c fits

-- ---- replicas

module _ (E : Type 0) where
  ok-alike : {r s : Result NaiveClient E} (y : NaiveClient) → AnswersAlike E r s → r ≡ Ok y → (z : NaiveClient) × ((s ≡ Ok z) × IsCompacted y z)
  ok-alike y (refused fault) e = (cc)
  ok-alike y (taken kept x k) e =
      let same : kept ≡ y = (cc) in
      (x, (refl, subst (λ w. IsCompacted w x) same k))

  err-alike : {r s : Result NaiveClient E} (fault : E) → AnswersAlike E r s → r ≡ Err fault → s ≡ Err fault
  err-alike fault (refused f) e = e
  err-alike fault (taken kept x k) e = (cc)

  refusal-alike : (k : FaultKind) (p q : Type 0) → (p → q) → MeansRefusal k p → MeansRefusal k q
  refusal-alike WantOfMemory p q f h = tt
  refusal-alike (StoppedBefore seq) p q f h = tt
  refusal-alike Refusal p q f h = f h

  pub replica-answers : (kind : E → FaultKind) (old new : ReplicaState) (step : NaiveClient → Result NaiveClient E) (result : Result (Unit {0}) E)
      (start : Document) (x : NaiveClient) (r : IsReached x) → r.start ≡ start
      → ((kept : NaiveClient) → IsCompacted kept x → AnswersAlike E (step kept) (step x)) → DoesStepOnEach start kind old new step result
      → StandsFor old.client x → AnswersClient kind old new x (step x) result
  replica-answers kind old new step (Ok u) start x r e alike does s =
      let d = does s.kept (record { whole = x; reached = r; starts = e; keeps = s.keeps }) s.shows in
      let a = ok-alike d.0 (alike s.kept s.keeps) d.1 in
      (a.0, a.1.0, record { client = record { kept = d.0; shows = d.2; keeps = a.1.1 }; held = rises-kept old.held new.held s.kept x d.0 a.0 s.keeps a.1.1 d.3 })
  replica-answers kind old new step (Err fault) start x r e alike does s =
      refusal-alike (kind fault) (step s.kept ≡ Err fault) (step x ≡ Err fault) (err-alike fault (alike s.kept s.keeps))
      (does s.kept (record { whole = x; reached = r; starts = e; keeps = s.keeps }) s.shows)

pub replica-compacts : ReplicaCompacts
replica-compacts start old new (Ok u) (held, does) x r e s =
    let d = does s.kept (record { whole = x; reached = r; starts = e; keeps = s.keeps }) s.shows in
    let same : RiseAlike old.held old.held (held_in x.doc) (held_in x.doc) = record { text = refl; rows = refl; cols = refl } in (
      x,
      refl,
      record {
        client = record { kept = d.0; shows = d.2; keeps = compacts-further x s.kept d.0 s.keeps d.1 };
        held = subst
            (λ h. RiseAlike old.held h (held_in x.doc) (held_in x.doc)) (sym held) same;
      },
    )
replica-compacts start old new (Err OutOfMemory) does x r e s = tt
replica-compacts start old new (Err (Stopped seq)) does x r e s = tt

-- the steps of each client of which promises speak
pub reached-sound : (x : NaiveClient) (r : IsReached x) → IsSoundRun r.steps x
reached-sound x r = record { start = r.start; run = reached-run x r }
