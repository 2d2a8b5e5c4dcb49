use Rattle.std.proofs.Common.{sym, ◌∙◌}
use Rattle.std.proofs.lemmas.Result.{on_ok_weaker}
use Rattle.ft_op.specs.declared.operations.TextOp.TheVariants.{IntervalChange}
use Rattle.ft_op.specs.Document.{Document}
use Rattle.ft_plain_document.proofs.IntervalTaken.{interval-taken}
use Rattle.ft_plain_document.proofs.documents.PlainDocument.change_interval.Goals as goal

pub returns : goal.returns
returns c =
    let i = c.self.inside in
    let doc : Document = record {
      text = i.text;
      rows = i.rows;
      cols = i.cols;
      intervals = i.intervals;
      cells = i.cells;
      skipped = i.skipped;
      other = i.other;
      number = i.number;
      minimum = i.minimum;
    } in
    let op = IntervalChange c.args.label.now c.args.id.now c.args.ends c.args.props.now in
    on_ok_weaker c.slide_ends.result (λ made. rw (← c.self.view_is)
    (interval-taken doc c.slide_ends.new.self c.args.at.c c.args.at.r op c.change.new.self c.elements_at_given_ends-named.result
    (sym c.given_ends_fit.ensures ∙ c.if-not-given_ends_fit.false) c.elements_at_given_ends-named.ensures c.in_ok-change.ensures made)) c.slide_ends.ensures.ok
