-- Laws of the texts of summaries.
use Rattle.std.specs.Prelude.{◌≡◌, ℕ, List, Ok}
use Rattle.ft_sumdoc.specs.declared.summary.SumDoc.{SumDoc}
use Rattle.ft_sumdoc.specs.Representable.{IsRepresentableSummary}
use Rattle.ft_sumdoc.specs.Summary.{summary}
use Rattle.ft_sumdoc.specs.Valid.{HasOnlyValues, IsValidSummary}
use Rattle.ft_sumdoc.specs.WellFormed.{IsWellCut}
use Rattle.ft_sumdoc.specs.Written.{summary_text}

-- a summary is read back from its text
abbrev pub SummariesReadBack : Type 0
SummariesReadBack = (sum : SumDoc) → IsRepresentableSummary sum → IsValidSummary sum → IsWellCut sum → summary (summary_text sum) ≡ Ok sum

-- no two summaries have one text
abbrev pub SummariesTellApart : Type 0
SummariesTellApart = (a b : SumDoc) → IsRepresentableSummary a → IsRepresentableSummary b → IsValidSummary a → IsValidSummary b → IsWellCut a → IsWellCut b
    → summary_text a ≡ summary_text b → a ≡ b

-- each summary that is read is valid, if its values are
abbrev pub ReadSummariesAreValid : Type 0
ReadSummariesAreValid = (bytes : List ℕ) (sum : SumDoc) → summary bytes ≡ Ok sum → HasOnlyValues sum → IsValidSummary sum
