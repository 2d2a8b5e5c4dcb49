use Rattle.std.proofs.Common.{Some, ap, sym, ◌∙◌}
use Rattle.std.proofs.lemmas.Result.{on_ok_weaker}
use Rattle.ft_matrix.proofs.CellPlaces.{no-col, no-row, no-value, one-placed}
use Rattle.ft_matrix.proofs.views.place_cell.Goals as goal

pub returns : goal.returns
returns c =
    on_ok_weaker c.put_over.result (λ put. one-placed c.args.cells.now c.args.rows.now c.args.cols.now c.args.key c.args.placed.now
    c.put_over.new.placed c.in-Some.row c.in-Some-place_of.col
    c.in_ok-value.value c.in-Some.ensures c.in-Some-place_of.ensures (sym c.in-Some-get.ensures ∙ ap Some (sym c.in_ok-value.ensures)) put)
    c.put_over.ensures

pub returns-in_default : goal.returns-in_default
returns-in_default c = no-row c.args.cells.now c.args.rows.now c.args.cols.now c.args.key c.args.placed.now c.in_default.ensures

pub returns-in_default-place_of : goal.returns-in_default-place_of
returns-in_default-place_of c = no-col c.args.cells.now c.args.rows.now c.args.cols.now c.args.key c.args.placed.now c.in_default-place_of.ensures

pub returns-in_default-get : goal.returns-in_default-get
returns-in_default-get c = no-value c.args.cells.now c.args.rows.now c.args.cols.now c.args.key c.args.placed.now (sym c.in_default-get.ensures)
