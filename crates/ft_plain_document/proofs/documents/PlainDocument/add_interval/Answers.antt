use Rattle.std.proofs.Common.{sym, ◌∙◌}
use Rattle.std.proofs.lemmas.Result.{on_ok_weaker}
use Rattle.ft_op.specs.declared.operations.TextOp.TheVariants.{IntervalAdd}
use Rattle.ft_op.specs.Document.{Document}
use Rattle.ft_plain_document.proofs.IntervalTaken.{interval-taken}
use Rattle.ft_plain_document.proofs.documents.PlainDocument.add_interval.Goals as goal

pub returns : goal.returns
returns c =
    let i = c.self.inside in
    let doc : Document = record {
      text = i.text;
      rows = i.rows;
      cols = i.cols;
      intervals = i.intervals;
      cells = i.cells;
      skipped = i.skipped;
      other = i.other;
      number = i.number;
      minimum = i.minimum;
    } in
    let op = IntervalAdd c.args.label.now c.args.id.now c.args.ends c.args.props.now in
    on_ok_weaker c.slide_ends.result (λ made. rw (← c.self.view_is)
    (interval-taken doc c.slide_ends.new.self c.args.at.c c.args.at.r op c.add.new.self c.elements_at_ends-named.result
    (sym c.ends_fit.ensures ∙ c.if-not-ends_fit.false) c.elements_at_ends-named.ensures c.in_ok-add.ensures made)) c.slide_ends.ensures.ok
