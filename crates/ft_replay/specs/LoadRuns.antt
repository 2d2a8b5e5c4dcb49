-- What the listener of a summary and its messages stands for.
use Rattle.std.specs.Prelude.{◌≡◌, ℕ, true, length}
use Rattle.ft_io.specs.Reader.{input_limit}
use Rattle.ft_msg.specs.Answers.{ReplicaState}
use Rattle.ft_replay.specs.declared.loading.LoadRun.{LoadRun}
use Rattle.ft_replay.specs.declared.loading.LoadRun.TheVariants.{Observing, Waiting}
use Rattle.ft_replay.specs.Loading.{Loading, nothing_loaded}
use Rattle.ft_replay.specs.Observers.{Observes}

-- it waits for its summary, or its observer stands for what was made behind that
abbrev pub Loads : {R : Type 0} → (R → ReplicaState) → LoadRun R → Loading → Type 0
Loads state (Waiting alloc) at = at ≡ nothing_loaded
Loads state (Observing observer) at = (at.begun ≡ true) × Observes observer.names (state observer.replica) at.seen

-- how many names it has, or at most gets with its summary: that is no longer than an input
abbrev pub names_reserved : {R : Type 0} → LoadRun R → ℕ
names_reserved (Waiting alloc) = input_limit
names_reserved (Observing observer) = length observer.names
