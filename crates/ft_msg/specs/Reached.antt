-- The clients of which promises speak: those that steps make. What a client's steps keep may be relied on by all who
-- implement one.
use Rattle.std.specs.Prelude.{◌≡◌, true, List, Some}
use Rattle.std.specs.List.{list_all}
use Rattle.ft_sumdoc.specs.declared.summary.SumDoc.{SumDoc}
use Rattle.ft_op.specs.Document.{Document, empty}
use Rattle.ft_msg.specs.Client.{NaiveClient, client_over}
use Rattle.ft_msg.specs.ClientSteps.{ClientStep, after_steps, has_fitting_body, taken_entries}
use Rattle.ft_msg.specs.Summary.{doc_of}
use Rattle.ft_sumdoc.specs.Valid.{IsValidSummary}

-- a document from which a client starts: the empty one, or that of a summary
pub data IsStart : Document → Type 0 where
  from_nothing : IsStart empty
  from_summary : {sum : SumDoc} → IsValidSummary sum → IsStart (doc_of sum)

-- a client that steps make from such a document on, refusing none, where each message has a body just where it is of type op
pub record IsReached (x : NaiveClient) : Type 0 where
  pub start : Document
  pub starts : IsStart start
  pub steps : List ClientStep
  pub made : after_steps (Some (client_over start)) steps ≡ Some x
  pub bodies : list_all has_fitting_body (taken_entries steps) ≡ true
