-- The ways in which a replica keeps its promise on a step.
use Rattle.std.proofs.Common.{◌≡◌, ℕ, None, Result, Ok, Err, refl, sym, subst}
use Rattle.ft_msg.specs.Answers.{Answers, AnswersFault, FaultKind, Follows, GoesOn, MeansRefusal, Refusal, ReplicaState, StandsForSome}
use Rattle.ft_msg.specs.Client.{NaiveClient}
use Rattle.ft_msg.specs.Compacted.{StandsFor}
use Rattle.ft_msg.specs.Reached.{IsReached}

module _ {E : Type 0} (kind : E → FaultKind) (sender : ℕ) (step : NaiveClient → Result NaiveClient E) (old : ReplicaState) where
  -- each client for which it stands refuses, and so does it
  pub answers_refusal : (fault : E) → kind fault ≡ Refusal → old.stop ≡ None → ((x : NaiveClient) → IsReached x → StandsFor old.client x → step x ≡ Err fault) → Answers kind sender step old old (Err fault)
  answers_refusal fault e h refuses = record {
    state = subst (AnswersFault old old) (sym e) (h, refl);
    client = λ x reached stands. subst (λ k. MeansRefusal k (step x ≡ Err fault)) (sym e) (refuses x reached stands);
  }

  -- each client for which it stands takes the step, and so does it
  pub answers_step : (new : ReplicaState) → GoesOn sender old new → ((x : NaiveClient) → IsReached x → StandsFor old.client x → (y : NaiveClient) × (step x ≡ Ok y) × Follows old new x y) → Answers kind sender step old new (Ok tt)
  answers_step new goes takes = record { state = goes; client = takes }

  -- it stands for some client after a step that it takes
  pub some-after : (new : ReplicaState) → ((x y : NaiveClient) → IsReached x → step x ≡ Ok y → IsReached y) → StandsForSome old → Answers kind sender step old new (Ok tt) → StandsForSome new
  some-after new keeps s a h = let (x, r, t) = s a.state.ran in let (y, k, f) = a.client x r t in (y, keeps x y r k, f.client)
