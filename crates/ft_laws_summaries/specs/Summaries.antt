-- The summary of a client with nothing pending, whatever the client began with.
use Rattle.std.specs.Prelude.{◌≡◌, ◌<◌, ◌≤◌, ◌^◌, ℕ, true, IsTrue, List, length}
use Rattle.ft_props.specs.Properties.{Characters}
use Rattle.ft_op.specs.Document.{Document}
use Rattle.ft_sumdoc.specs.Counts.{are_distinct_names}
use Rattle.ft_sumdoc.specs.Valid.{IsValidSummary}
use Rattle.ft_sumdoc.specs.WellFormed.{IsWellCut}
use Rattle.ft_msg.specs.Client.{NaiveClient}
use Rattle.ft_msg.specs.ClientSteps.{is_without_edits}
use Rattle.ft_msg.specs.Summary.{GivesDocument, trim}
use Rattle.ft_msg.specs.SummaryOf.{summary_of}
use Rattle.ft_laws_summaries.specs.Runs.{IsFormedRun}

-- what is asked of the numbers of a document, and of its lists as a summary keeps them
pub record IsSmall (doc : Document) : Type 0 where
  pub number : doc.number < 2 ^ 53
  pub skipped : doc.skipped < 2 ^ 53
  pub other : doc.other < 2 ^ 53
  pub text : length (trim doc).text.items < 2 ^ 53
  pub rows : length (trim doc).rows.items ≤ 2 ^ 52
  pub cols : length (trim doc).cols.items ≤ 2 ^ 52

-- with the names of the n connections whose messages the client took, it is valid, where the numbers are small
abbrev pub SummariesAreValid : Type 0
SummariesAreValid =
    (n : ℕ) (x : NaiveClient) (names : List Characters) → IsFormedRun n x → is_without_edits x ≡ true → length names ≡ n → IsTrue (are_distinct_names names) → IsSmall x.doc
    → IsValidSummary (summary_of names x.doc)

-- it gives the client's document, as a summary keeps it
abbrev pub SummariesGiveDocuments : Type 0
SummariesGiveDocuments = (n : ℕ) (x : NaiveClient) (names : List Characters) → IsFormedRun n x → is_without_edits x ≡ true → GivesDocument (summary_of names x.doc) x.doc

-- and it is cut as what is written, with fewer than 2^53 names
abbrev pub SummariesAreWellCut : Type 0
SummariesAreWellCut =
    (n : ℕ) (x : NaiveClient) (names : List Characters) → IsFormedRun n x → is_without_edits x ≡ true → length names < 2 ^ 53 → IsWellCut (summary_of names x.doc)
