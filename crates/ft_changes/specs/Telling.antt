-- What a replica tells of a step.
use Rattle.std.specs.Prelude.{◌≡◌, List, ◌++◌, Result, Ok}
use Rattle.ft_msg.specs.Answers.{ReplicaState}
use Rattle.ft_msg.specs.Client.{NaiveClient}
use Rattle.ft_msg.specs.Compacted.{IsCompacted, StandsFor}
use Rattle.ft_msg.specs.Reached.{IsReached}
use Rattle.ft_changes.specs.declared.changes.ViewChange.{ViewChange}
use Rattle.ft_changes.specs.Shown.{after_changes, shown_content}

-- changes that are told by a client which keeps one for which the replica stands; it may have been compacted further since
pub record ToldByOne (told : NaiveClient → List ViewChange) (old : ReplicaState) (changes : List ViewChange) : Type 0 where
  pub whole : NaiveClient
  pub reached : IsReached whole
  pub stands : StandsFor old.client whole
  pub kept : NaiveClient
  pub keeps : IsCompacted kept whole
  pub told_is : changes ≡ told kept

-- where the step adds changes to those from before: they are just those that are told of it, and they lead on the editor of each
-- client for which the replica stood
pub record TellsChanges {E : Type 0} (step : NaiveClient → Result NaiveClient E) (told : NaiveClient → List ViewChange) (old : ReplicaState)
    (before after : List ViewChange) : Type 0 where
  pub changes : List ViewChange
  pub added : after ≡ before ++ changes
  pub least : ToldByOne told old changes
  pub leads : (x y : NaiveClient) → IsReached x → StandsFor old.client x → step x ≡ Ok y → after_changes (shown_content x) changes ≡ shown_content y
