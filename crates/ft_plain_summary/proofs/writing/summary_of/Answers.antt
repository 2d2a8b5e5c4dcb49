use Rattle.std.proofs.Common.{◌≡◌, List, [], ◌∙◌, ap}
use Rattle.std.proofs.lemmas.Result.{on_ok_weaker}
use Rattle.ft_base.proofs.Results.{after-done}
use Rattle.ft_props.specs.Properties.{Characters}
use Rattle.ft_op.specs.Document.{Document}
use Rattle.ft_sumdoc.specs.declared.summary.SumDoc.{SumDoc}
use Rattle.ft_msg.specs.Summary.{trim}
use Rattle.ft_msg.specs.SummaryOf.{summary_of}
use Rattle.ft_plain_document.specs.declared.documents.building.DocumentNumbers.{DocumentNumbers}
use Rattle.ft_plain_summary.specs.FilledLists.{with_lists}
use Rattle.ft_plain_summary.proofs.writing.summary_of.Goals as goal

-- the summary of a document with these numbers
abbrev numbered : List Characters → Document → DocumentNumbers → SumDoc
numbered conns doc n = with_lists (trim doc) (record {
  seq = n.number;
  min = n.minimum;
  skipped = n.skipped;
  other = n.other;
  conns = conns;
  text = [];
  rows = [];
  cols = [];
  intervals = [];
  cells = [];
})

pub returns : goal.returns
returns c =
    let filled = c.fill_trimmed-filled in
    after-done filled.result c.after.result (λ (sum : SumDoc). sum ≡ summary_of c.args.conns c.args.doc.now) filled.new.sum
    (on_ok_weaker filled.result (λ made. made ∙ ap (numbered c.args.conns c.args.doc.now) c.numbers-numbers.ensures) filled.ensures)
    c.after.ensures.done c.after.ensures.value
