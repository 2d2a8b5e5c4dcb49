-- The observer of a summary and of the messages behind it: the first line that isn't blank is the summary, and then it takes each
-- message that a line is. Where the summary is refused it starts with nothing.
use Rattle.std.specs.Prelude.{ℕ, Bool, true, false, List, Result, Ok, Err, if◌then◌else◌}
use Rattle.ft_sumdoc.specs.declared.summary.SumDoc.{SumDoc}
use Rattle.ft_sumdoc.specs.declared.summary.SumFault.{SumFault}
use Rattle.ft_sumdoc.specs.Summary.{summary}
use Rattle.ft_msg.specs.Summary.{doc_of}
use Rattle.ft_seqr.specs.declared.refusals.Refusal.TheVariants.{Summary}
use Rattle.ft_seqr.specs.Walk.{Step, passes, refuses}
use Rattle.ft_replay.specs.Observation.{Observation, nothing_observed, observe}

-- whether the summary's line was there, and what the observer has
pub record Loading : Type 0 where
  pub begun : Bool
  pub seen : Observation

-- before the summary
abbrev pub nothing_loaded : Loading
nothing_loaded = record { begun = false; seen = nothing_observed }

-- behind the summary
abbrev pub loaded : Observation → Loading
loaded seen = record { begun = true; seen = seen }

-- what an observer has that starts from a summary
abbrev pub observation_of : SumDoc → Observation
observation_of sum = record { names = sum.conns; doc = doc_of sum }

-- what a text makes that is a summary, or is none
abbrev pub load_reading : Result SumDoc SumFault → Step Loading
load_reading (Ok sum) = passes (loaded (observation_of sum))
load_reading (Err fault) = refuses (loaded nothing_observed) (Summary fault)

-- the observer's step
abbrev pub load_step : Step Observation → Step Loading
load_step step = record { made = loaded step.made; told = step.told; refusal = step.refusal }

-- what a line makes
abbrev pub load_line : Loading → List ℕ → Step Loading
load_line at line = if at.begun then load_step (observe at.seen line) else load_reading (summary line)
