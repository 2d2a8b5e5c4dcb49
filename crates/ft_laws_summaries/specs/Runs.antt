-- The clients of which a summary can be written: each message that they took is well formed, and its sender known.
use Rattle.std.specs.Prelude.{◌≡◌, ◌≤◌, ℕ, true, List, Some, length}
use Rattle.ft_op.specs.Document.{Document, empty}
use Rattle.ft_sumdoc.specs.declared.summary.SumDoc.{SumDoc}
use Rattle.ft_sumdoc.specs.Valid.{IsValidSummary}
use Rattle.ft_msg.specs.declared.messages.Entry.{Entry}
use Rattle.ft_msg.specs.Client.{NaiveClient, client_over}
use Rattle.ft_msg.specs.ClientSteps.{ClientStep, after_steps, taken_entries}
use Rattle.ft_msg.specs.Process.{is_op}
use Rattle.ft_msg.specs.Summary.{doc_of}
use Rattle.ft_msg.specs.WellFormed.{IsWellFormedMessage}
use Rattle.ft_laws_agreement.specs.Sequencing.{Each}

-- a document from which a client starts that knows n connections: the empty one, or that of a summary with at most so many
pub data IsStartWithin (n : ℕ) : Document → Type 0 where
  from_nothing : IsStartWithin n empty
  from_summary : {sum : SumDoc} → IsValidSummary sum → length sum.conns ≤ n → IsStartWithin n (doc_of sum)

-- the message is well formed and by one of n connections, or by nobody where it isn't an operation
pub record IsFormedEntry (n : ℕ) (entry : Entry) : Type 0 where
  pub message : IsWellFormedMessage entry.msg
  pub sender : is_op entry.msg.body ≡ true → 1 ≤ entry.origin
  pub within : entry.origin ≤ n

-- a client that steps make from such a document on, where each message that it took is such
pub record IsFormedRun (n : ℕ) (x : NaiveClient) : Type 0 where
  pub start : Document
  pub starts : IsStartWithin n start
  pub steps : List ClientStep
  pub made : after_steps (Some (client_over start)) steps ≡ Some x
  pub entries : Each (IsFormedEntry n) (taken_entries steps)
