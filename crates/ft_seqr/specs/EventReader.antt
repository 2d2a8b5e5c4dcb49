-- What a reader of events answers.
use Rattle.std.specs.Prelude.{◌≡◌, ◌≢◌, ℕ, List, Result, Ok, Err, IfOk, IfErr}
use Rattle.ft_msg.specs.declared.faults.Cause.{Cause}
use Rattle.ft_seqr.specs.declared.events.Event.{Event}
use Rattle.ft_seqr.specs.declared.refusals.Refusal.{Refusal}
use Rattle.ft_seqr.specs.declared.refusals.Refusal.TheVariants.{OutOfMemory, Stopped}
use Rattle.ft_seqr.specs.EventGrammar.{event}
use Rattle.ft_seqr.specs.Refusals.{refusal_of_cause}

-- the line has no reading, for a cause that has this refusal
abbrev pub IsRefused : List ℕ → Refusal → Type 0
IsRefused line refusal = (cause : Cause) × (event line ≡ Err cause) × (refusal ≡ refusal_of_cause cause)

-- the event of the line, or the refusal of its first fault, or OutOfMemory
pub record ReadsEvent (line : List ℕ) (result : Result Event Refusal) : Type 0 where
  pub ok : IfOk result (λ e. event line ≡ Ok e)
  pub err : IfErr result (λ refusal. refusal ≢ OutOfMemory → IsRefused line refusal)
  pub stopped : IfErr result (λ refusal. refusal ≢ Stopped)
