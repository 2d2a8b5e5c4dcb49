use Rattle.std.proofs.Common.{◌≡◌, ◌∙◌, ap}
use Rattle.std.proofs.Math.Path.{ap₂}
use Rattle.std.proofs.lemmas.Result.{IfOk-at_ok}
use Rattle.ft_props.specs.Steps.{Sequence}
use Rattle.ft_msg.specs.Summary.{cells_of, list_of, run_items}
use Rattle.ft_plain_summary.proofs.reading.grid_parts.Goals as goal

pub returns-clause-rows : goal.returns-clause-rows
returns-clause-rows c =
    ap (λ (units : Sequence × Sequence). units.0) c.in_ok-cells.ensures.value
    ∙ IfOk-at_ok (λ l. l ≡ list_of (run_items 0 c.as_slice.result.now)) c.in_ok-units.ensures.first c.unit_list-rows.ensures
    ∙ ap (λ runs. list_of (run_items 0 runs)) c.as_slice.ensures

pub returns-clause-cols : goal.returns-clause-cols
returns-clause-cols c =
    ap (λ (units : Sequence × Sequence). units.1) c.in_ok-cells.ensures.value
    ∙ IfOk-at_ok (λ l. l ≡ list_of (run_items 0 c.as_slice-2.result.now)) c.in_ok-units.ensures.second c.unit_list.ensures
    ∙ ap (λ runs. list_of (run_items 0 runs)) c.as_slice-2.ensures

pub returns-clause-cells : goal.returns-clause-cells
returns-clause-cells c =
    let rows = IfOk-at_ok (λ l. l ≡ list_of (run_items 0 c.as_slice.result.now)) c.in_ok-units.ensures.first c.unit_list-rows.ensures
    ∙ ap (λ runs. list_of (run_items 0 runs)) c.as_slice.ensures in
    let cols = IfOk-at_ok (λ l. l ≡ list_of (run_items 0 c.as_slice-2.result.now)) c.in_ok-units.ensures.second c.unit_list.ensures
    ∙ ap (λ runs. list_of (run_items 0 runs)) c.as_slice-2.ensures in
    let of_rows = c.as_slice-3.ensures.items ∙ ap (λ (l : Sequence). l.items) rows in
    let of_cols = c.as_slice-4.ensures.items ∙ ap (λ (l : Sequence). l.items) cols in
    IfOk-at_ok (λ cs. cs ≡ cells_of c.as_slice-3.result.now c.as_slice-4.result.now c.as_slice-5.result.now)
    c.in_ok-cells.ensures.made c.cells_of-made.ensures
    ∙ ap₂ (λ rs ks. cells_of rs ks c.as_slice-5.result.now) of_rows of_cols
    ∙ ap (cells_of (run_items 0 c.args.sum.now.rows) (run_items 0 c.args.sum.now.cols)) c.as_slice-5.ensures
