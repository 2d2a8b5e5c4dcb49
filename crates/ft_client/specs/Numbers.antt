-- The numbers of a document.
use Rattle.std.specs.Prelude.{◌≡◌, ◌<◌, ◌≤◌, ◌^◌, ℕ, List, []}
use Rattle.ft_props.specs.Properties.{Characters}
use Rattle.ft_sumdoc.specs.Runs.{unit_count}
use Rattle.ft_sumdoc.specs.Segments.{text_length}
use Rattle.ft_op.specs.Document.{Document}
use Rattle.ft_msg.specs.Answers.{count_held}
use Rattle.ft_sumdoc.specs.declared.summary.SumDoc.{SumDoc}

-- the last number and the last minimum, how many sub-operations were out of range, how many messages were for another address, how
-- many rows and columns there ever were, those that are pending included, and the last stage that was taken
pub record NumberState : Type 0 where
  pub number : ℕ
  pub minimum : ℕ
  pub skipped : ℕ
  pub other : ℕ
  pub rows : ℕ
  pub cols : ℕ
  pub last : ℕ

abbrev pub no_numbers : NumberState
no_numbers = record { number = 0; minimum = 0; skipped = 0; other = 0; rows = 0; cols = 0; last = 0 }

-- those of a summary, whose document has so many rows and columns
abbrev pub summary_numbers : SumDoc → ℕ → ℕ → NumberState
summary_numbers sum rows cols = record { number = sum.seq; minimum = sum.min; skipped = sum.skipped; other = sum.other; rows = rows; cols = cols; last = 0 }

-- they are those of the document whose last stage is k
pub record HasNumbers (n : NumberState) (doc : Document) (k : ℕ) : Type 0 where
  pub number : n.number ≡ doc.number
  pub minimum : n.minimum ≡ doc.minimum
  pub skipped : n.skipped ≡ doc.skipped
  pub other : n.other ≡ doc.other
  pub rows : n.rows ≡ count_held doc.rows
  pub cols : n.cols ≡ count_held doc.cols
  pub last : n.last ≡ k
  pub fits : k < 2 ^ 64

-- a summary with these numbers and names of connections, and with nothing else
abbrev pub bare_summary : NumberState → List Characters → SumDoc
bare_summary n conns = record { seq = n.number; min = n.minimum; skipped = n.skipped; other = n.other; conns = conns; text = []; rows = []; cols = []; intervals = []; cells = [] }

-- a summary may tell its numbers, and have as many elements and units
pub record IsShortSummary (sum : SumDoc) : Type 0 where
  pub seq : sum.seq < 2 ^ 53
  pub skipped : sum.skipped < 2 ^ 53
  pub other : sum.other < 2 ^ 53
  pub text : text_length sum.text < 2 ^ 53
  pub rows : unit_count sum.rows ≤ 2 ^ 52
  pub cols : unit_count sum.cols ≤ 2 ^ 52
