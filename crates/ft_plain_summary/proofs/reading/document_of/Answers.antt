use Rattle.std.proofs.Common.{◌≡◌, map, refl}
use Rattle.std.proofs.lemmas.Result.{IfOk-at_ok}
use Rattle.ft_msg.specs.Summary.{cells_of, interval_of, list_of, run_items, segment_items}
use Rattle.ft_plain_document.specs.declared.documents.building.GridParts.{GridParts}
use Rattle.ft_plain_document.specs.declared.documents.building.TextParts.{TextParts}
use Rattle.ft_plain_summary.proofs.reading.document_of.Goals as goal

pub returns : goal.returns
returns c =
    let sum = c.args.sum.now in
    let texts = segment_items 0 sum.text in
    let units = run_items 0 sum.rows in
    let others = run_items 0 sum.cols in
    let text = c.in_ok-text.ensures.first in
    let grid = c.in_ok-text.ensures.second in
    let of_text = c.text_parts.ensures in
    let of_grid = c.grid_parts.ensures in
    let items = IfOk-at_ok (λ (parts : TextParts). parts.items ≡ list_of texts) text of_text.items in
    let intervals = IfOk-at_ok (λ (parts : TextParts). parts.intervals ≡ map (interval_of texts) sum.intervals) text of_text.intervals in
    let rows = IfOk-at_ok (λ (parts : GridParts). parts.rows ≡ list_of units) grid of_grid.rows in
    let cols = IfOk-at_ok (λ (parts : GridParts). parts.cols ≡ list_of others) grid of_grid.cols in
    let cells = IfOk-at_ok (λ (parts : GridParts). parts.cells ≡ cells_of units others sum.cells) grid of_grid.cells in
    rw (c.of.ensures, items, intervals, rows, cols, cells) refl
