use Rattle.std.proofs.Common.{◌-◌, ◌++◌, ◌∙◌, ap, sym}
use Rattle.ft_base.specs.Scan.{len}
use Rattle.ft_props.specs.Element.{seen}
use Rattle.ft_op.specs.Document.{Document, elements_at_given_ends, given_ends_fit}
use Rattle.ft_op.specs.Stages.{shown_intervals}
use Rattle.ft_msg.specs.Client.{id_fault}
use Rattle.ft_plain_document.proofs.ShownStages.{ends-taken}
use Rattle.ft_plain_document.proofs.documents.PlainDocument.name_own_ends.Goals as goal

pub returns : goal.returns
returns c =
    let i = c.self.inside in
    let doc : Document = record {
      text = i.text;
      rows = i.rows;
      cols = i.cols;
      intervals = i.intervals;
      cells = i.cells;
      skipped = i.skipped;
      other = i.other;
      number = i.number;
      minimum = i.minimum;
    } in
    let op = c.args.op.now in
    let sees = seen (c.args.stage - 1) in
    let stages = c.args.pending.now ++ c.args.before.now in
    let shown = c.in_ok-shown.ensures ∙ ap (λ d. shown_intervals d.text.items d.intervals stages) (sym c.self.view_is) in
    rw (← c.self.view_is)
    (ends-taken doc stages c.args.stage op c.elements_at_given_ends.result (ap (λ is. id_fault is op) (sym shown) ∙ sym c.id_fault.ensures ∙ c.in_default.is)
    (ap (given_ends_fit (len sees i.text.items)) (sym c.ends_of-ends.ensures) ∙ sym c.given_ends_fit.ensures ∙ c.if-not-given_ends_fit.false)
    (c.elements_at_given_ends.ensures ∙ ap (elements_at_given_ends sees i.text.items) c.ends_of-ends.ensures))
