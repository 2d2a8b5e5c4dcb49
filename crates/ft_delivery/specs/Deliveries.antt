-- What is known of a replica that is to process entries of a log.
use Rattle.std.specs.Prelude.{◌≡◌, cond, List, [], ◌∷◌, Option, Some, None, Ok, fold, max}
use Rattle.ft_msg.specs.declared.messages.Entry.{Entry}
use Rattle.ft_msg.specs.declared.messages.Message.{Message}
use Rattle.ft_msg.specs.Answers.{ReplicaState, RunsFor}
use Rattle.ft_msg.specs.Client.{NaiveClient}
use Rattle.ft_msg.specs.Reached.{IsReached}
use Rattle.ft_msg.specs.WellFormed.{IsWellFormedMessage}
use Rattle.ft_laws_agreement.specs.Sequencing.{Each}
use Rattle.ft_seqr.specs.SameMessage.{same_message}
use Rattle.ft_seqr.specs.World.{processed}

-- a client processes the entries, and is another one then
pub record Processes (r : ReplicaState) (entries : List Entry) (x y : NaiveClient) : Type 0 where
  pub reached : IsReached x
  pub runs : RunsFor r x
  pub takes : processed x entries ≡ Ok y

-- the replica stands for a client that processes the entries, which are well formed
pub record CanProcess (r : ReplicaState) (entries : List Entry) : Type 0 where
  pub before : NaiveClient
  pub after : NaiveClient
  pub processes : Processes r entries before after
  pub formed : Each (λ entry. IsWellFormedMessage entry.msg) entries

-- the replica stands for the client, and knows the connections in the entries too
pub record HasProcessed (old new : ReplicaState) (entries : List Entry) (y : NaiveClient) : Type 0 where
  pub runs : RunsFor new y
  pub origin : new.origin ≡ fold (λ n entry. max n entry.origin) old.origin entries

-- the next of the messages, if it is the one offered
abbrev pub offered_entry : Message → List Entry → Option Entry
offered_entry m [] = None
offered_entry m (entry ∷ entries) = cond (same_message m entry.msg) (Some entry) None
