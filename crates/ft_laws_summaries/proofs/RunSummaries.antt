-- The summary of a client of such steps that has nothing pending.
use Rattle.std.proofs.Common.{◌<◌, ◌^◌, List, length, refl, sym, subst, lt-ltb}
use Rattle.ft_op.specs.Document.{Document}
use Rattle.ft_props.specs.Properties.{Characters}
use Rattle.ft_msg.specs.Summary.{GivesDocument, segment_items, trim}
use Rattle.ft_msg.specs.SummaryOf.{segments_from, summary_of}
use Rattle.ft_laws_agreement.specs.Trimming.{IsConsistent}
use Rattle.ft_laws_agreement.proofs.ConsistentDocument.{trim-consistent}
use Rattle.ft_sumdoc.specs.WellFormed.{IsWellCut}
use Rattle.ft_laws_summaries.specs.Summaries.{SummariesAreValid, SummariesAreWellCut, SummariesGiveDocuments}
use Rattle.ft_laws_summaries.proofs.FormedRuns.{formed-made}
use Rattle.ft_laws_summaries.proofs.SummaryCells.{cells-back}
use Rattle.ft_laws_summaries.proofs.SummaryCuts.{text-cut, units-differ}
use Rattle.ft_laws_summaries.proofs.SummaryIntervals.{intervals-back, segments-distinct}
use Rattle.ft_laws_summaries.proofs.SummaryLists.{IsPlain, runs-back, text-back, trim-plain}
use Rattle.ft_laws_summaries.proofs.ValidDocuments.{IsMadeBy}
use Rattle.ft_laws_summaries.proofs.ValidSummaries.{summary-valid}

-- what the summary of a document of messages gives
pub document-given : (conns : List Characters) (doc : Document) → IsPlain doc → IsConsistent doc → GivesDocument (summary_of conns doc) doc
document-given conns doc h d =
    let t = trim-plain doc h in
    let e = trim-consistent doc d in
    let text = text-back (trim doc).text.items t.text in
    rw (
      text,
      runs-back (trim doc).rows.items t.rows,
      runs-back (trim doc).cols.items t.cols,
      intervals-back (trim doc).text.items (segment_items 0 (segments_from 0 (trim doc).text.items)) text e.text.distinct
          (segments-distinct (segments_from 0 (trim doc).text.items)) t.text (trim doc).intervals e.ends,
      cells-back doc t.rows t.cols,
    ) refl

-- and how it is cut
pub document-cut : (conns : List Characters) (doc : Document) → IsPlain doc → length conns < 2 ^ 53 → IsWellCut (summary_of conns doc)
document-cut conns doc h few =
    let t = trim-plain doc h in
    record {
      conns = lt-ltb (length conns) (2 ^ 53) few;
      text = text-cut (trim doc).text.items t.text;
      rows = units-differ (trim doc).rows.items;
      cols = units-differ (trim doc).cols.items;
    }

pub summaries-give-documents : SummariesGiveDocuments
summaries-give-documents n x names r none = let made = formed-made n x r none in document-given names x.doc made.plain made.consistent

pub summaries-are-well_cut : SummariesAreWellCut
summaries-are-well_cut n x names r none few = let made = formed-made n x r none in document-cut names x.doc made.plain few

pub summaries-are-valid : SummariesAreValid
summaries-are-valid n x names r none count distinct small =
    summary-valid names x.doc (subst (λ k. IsMadeBy k x.doc) (sym count) (formed-made n x r none)) distinct small
