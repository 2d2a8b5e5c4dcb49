use Rattle.std.proofs.Common.{◌≡◌, ◌∙◌, sym}
use Rattle.std.proofs.Math.Path.{ap₂}
use Rattle.std.proofs.lemmas.Result.{IfOk-weaker}
use Rattle.ft_msg.specs.Summary.{cells_of}
use Rattle.ft_plain_summary.specs.NamedPlaces.{named_cells}
use Rattle.ft_plain_summary.proofs.NamedAtPlaces.{cells-named}
use Rattle.ft_plain_summary.proofs.named.cells_of.Goals as goal

pub returns : goal.returns
returns c =
    let recs = c.args.recs.now in
    let rows = c.as_slice.ensures.value ∙ c.in_ok-rows.ensures in
    let cols = c.as_slice-2.ensures.value ∙ c.in_ok-cols.ensures in
    IfOk-weaker c.named_cells.result (λ cells. cells ≡ named_cells c.as_slice.result.now c.as_slice-2.result.now recs)
    (λ cells. cells ≡ cells_of c.args.rows.now c.args.cols.now recs)
    (λ cells e. e ∙ ap₂ (λ r k. named_cells r k recs) rows cols ∙ sym (cells-named c.args.rows.now c.args.cols.now recs))
    c.named_cells.ensures
