use Rattle.std.proofs.Common.{◌≡◌, ◌∙◌, ◌&&◌, List, Ok, ap, filter, not, refl}
use Rattle.std.proofs.lemmas.Result.{IfOk-at_ok}
use Rattle.ft_props.specs.Compaction.{trim_list}
use Rattle.ft_props.specs.Element.{ListElement, has_sequenced_removal}
use Rattle.ft_op.specs.Cells.{Cell, is_null}
use Rattle.ft_plain_document.proofs.documents.PlainDocument.trimmed.Goals as goal

pub returns : goal.returns
returns c =
    let d = c.self.inside in
    let all = c.in_ok-text.ensures in
    let texts = c.both-texts.ensures in
    let grid = c.all_three-grid.ensures in
    let text = IfOk-at_ok (λ l. l ≡ trim_list d.minimum d.text)
    (IfOk-at_ok (λ p. c.trimmed.result ≡ Ok p.0) all.first texts.first) c.trimmed.ensures in
    let intervals = IfOk-at_ok (λ is. is ≡ d.intervals) (IfOk-at_ok (λ p. c.copy.result ≡ Ok p.1) all.first texts.second) c.copy.ensures in
    let rows = IfOk-at_ok (λ l. l ≡ trim_list d.minimum d.rows)
    (IfOk-at_ok (λ p. c.trimmed-2.result ≡ Ok p.0) all.second grid.first) c.trimmed-2.ensures in
    let cols = IfOk-at_ok (λ l. l ≡ trim_list d.minimum d.cols)
    (IfOk-at_ok (λ p. c.trimmed-3.result ≡ Ok p.1) all.second grid.second) c.trimmed-3.ensures in
    let kept = λ (rs cs : List ListElement).
    filter (λ (x : Cell). not (is_null x.value) && not (has_sequenced_removal rs x.row) && not (has_sequenced_removal cs x.col)) d.cells in
    let cells = IfOk-at_ok (λ cs. cs ≡ kept c.as_slice.result.now c.as_slice-2.result.now)
    (IfOk-at_ok (λ p. c.trimmed-written.result ≡ Ok p.2) all.second grid.third) c.trimmed-written.ensures
    ∙ ap (λ rs. kept rs c.as_slice-2.result.now) c.as_slice.ensures.items ∙ ap (kept d.rows.items) c.as_slice-2.ensures.items in
    rw (← c.self.view_is) (rw (text, intervals, rows, cols, cells) refl)
