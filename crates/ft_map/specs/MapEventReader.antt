-- What a reader of the events of a map session answers.
use Rattle.std.specs.Prelude.{◌≡◌, ◌≢◌, ℕ, List, Result, Ok, Err, IfOk, IfErr}
use Rattle.ft_msg.specs.declared.faults.Cause.{Cause}
use Rattle.ft_seqr.specs.declared.refusals.Refusal.{Refusal}
use Rattle.ft_seqr.specs.declared.refusals.Refusal.TheVariants.{OutOfMemory, Stopped}
use Rattle.ft_seqr.specs.Refusals.{refusal_of_cause}
use Rattle.ft_map.specs.declared.events.MapEvent.{MapEvent}
use Rattle.ft_map.specs.MapGrammar.{map_event}

-- the line has no reading, for a cause that has this refusal
abbrev pub IsRefused : List ℕ → Refusal → Type 0
IsRefused line refusal = (cause : Cause) × (map_event line ≡ Err cause) × (refusal ≡ refusal_of_cause cause)

-- the event of the line, or the refusal of its first fault, or OutOfMemory
pub record ReadsMapEvent (line : List ℕ) (result : Result MapEvent Refusal) : Type 0 where
  pub ok : IfOk result (λ e. map_event line ≡ Ok e)
  pub err : IfErr result (λ refusal. refusal ≢ OutOfMemory → IsRefused line refusal)
  pub stopped : IfErr result (λ refusal. refusal ≢ Stopped)
