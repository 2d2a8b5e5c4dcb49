-- Summaries into which the lists of a document are filled.
use Rattle.ft_sumdoc.specs.declared.summary.SumDoc.{SumDoc}
use Rattle.ft_op.specs.Document.{Document}
use Rattle.ft_msg.specs.Content.{shown}
use Rattle.ft_msg.specs.SummaryOf.{segments_from, unit_runs}

-- the summary with the lists of the document in place of its own
abbrev pub with_lists : Document → SumDoc → SumDoc
with_lists doc sum = record sum {
  text = segments_from 0 doc.text.items;
  rows = unit_runs doc.rows.items;
  cols = unit_runs doc.cols.items;
  intervals = (shown doc).intervals;
  cells = (shown doc).cells;
}
