-- What the observer of the program stands for.
use Rattle.std.specs.Prelude.{◌≡◌, ℕ, List}
use Rattle.ft_msg.specs.Answers.{ReplicaState, RunsFor}
use Rattle.ft_msg.specs.Client.{client_over}
use Rattle.ft_msg.specs.Reached.{IsReached}
use Rattle.ft_replay.specs.Observation.{Observation}

-- with these names of connections a replica stands for what an observer has: it runs for a client over its document, which steps made
pub record Observes (table : List (List ℕ)) (replica : ReplicaState) (seen : Observation) : Type 0 where
  pub known : table ≡ seen.names
  pub runs : RunsFor replica (client_over seen.doc)
  pub reached : IsReached (client_over seen.doc)
