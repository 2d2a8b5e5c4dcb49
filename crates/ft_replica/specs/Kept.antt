-- A client over its own document as a replica: the clients for which it stands, and what it shows of itself.
use Rattle.std.specs.Prelude.{◌≡◌, ◌≤◌, ◌&&◌, nat_eq, ℕ, Bool, false, Option, Some, None, []}
use Rattle.ft_msg.specs.declared.messages.Entry.{Entry}
use Rattle.ft_msg.specs.Answers.{ReplicaState}
use Rattle.ft_msg.specs.Client.{NaiveClient, floor}
use Rattle.ft_msg.specs.Compacted.{IsCompacted}
use Rattle.ft_msg.specs.Indexed.{IndexedDocument}
use Rattle.ft_msg.specs.Process.{is_op}
use Rattle.ft_msg.specs.Reached.{IsReached}
use Rattle.ft_laws_summaries.specs.Runs.{IsFormedRun}
use Rattle.ft_replica.specs.declared.document.OwnNumbers.{OwnNumbers}
use Rattle.ft_replica.specs.Linked.{IsLinkedAs, LinkedState, client_shown}
use Rattle.ft_replica.specs.Own.{HeldDocument, ShownDocument}
use Rattle.ft_replica.specs.Stopping.{StoppingState}

-- ---- what it shows

-- a document of which only the numbers are told
abbrev pub numbers_alone : OwnNumbers → IndexedDocument
numbers_alone n = record { text = []; rows = []; cols = []; intervals = []; cells = []; skipped = n.skipped; other = n.other; number = n.number; minimum = n.minimum }

abbrev pub state_at : {D : Type 0} → (D → ShownDocument) → LinkedState D → ℕ → Option OwnNumbers → ReplicaState
state_at shown s origin None = record { client = client_shown shown s; held = (shown s.document).counts; origin = origin; stop = None }
state_at shown s origin (Some n) = record {
  client = record (client_shown shown s) { doc = numbers_alone n };
  held = record { text = n.text; rows = n.rows; cols = n.cols };
  origin = origin;
  stop = Some n.number;
}

-- the replica that keeps this client: after a stop it tells the numbers from before
abbrev pub state_of : {D : Type 0} → (D → ShownDocument) → StoppingState D → ReplicaState
state_of shown s = state_at shown s.client s.origin s.stop

-- ---- what it stands for

-- whether it is an operation of nobody
abbrev pub is_of_nobody : Entry → Bool
is_of_nobody entry = is_op entry.msg.body && nat_eq entry.origin 0

-- a client that its steps made, where no operation of nobody was among them by the connections up to the greatest; one that
-- keeps it; and this is the client for which it stands
pub record IsKept {D : Type 0} (holds : D → HeldDocument → Type 0) (s : LinkedState D) (origin : ℕ) (nameless : Bool) : Type 0 where
  pub whole : NaiveClient
  pub reached : IsReached whole
  pub formed : nameless ≡ false → IsFormedRun origin whole
  pub kept : NaiveClient
  pub keeps : IsCompacted kept whole
  pub low : ℕ
  pub above : low ≤ floor kept
  pub linked : IsLinkedAs holds low s kept

-- while it runs, there are such clients
abbrev pub Holds : {D : Type 0} → (D → HeldDocument → Type 0) → StoppingState D → Bool → Type 0
Holds holds s nameless = s.stop ≡ None → IsKept holds s.client s.origin nameless
