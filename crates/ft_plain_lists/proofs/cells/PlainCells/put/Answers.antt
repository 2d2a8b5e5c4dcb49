use Rattle.std.proofs.Common.{◌∙◌, ap, length, subst, sym}
use Rattle.std.proofs.lemmas.Result.{on_ok_weaker}
use Rattle.ft_op.specs.Cells.{Cell, is_cell, put_cell}
use Rattle.ft_plain_lists.specs.Places.{IsPlaceIn, found_place, set_or_insert}
use Rattle.ft_plain_lists.proofs.PlacedItem.{cell-put, found-in}
use Rattle.ft_plain_lists.proofs.cells.PlainCells.put.Goals as goal

pub set_or_insert-requires : goal.set_or_insert-requires
set_or_insert-requires c =
    let xs = c.self.inside.items.items in
    let cell = c.args.cell in
    let place = c.cell_place-place.ensures ∙ ap (found_place (is_cell c.cell.inside.row c.cell.inside.col)) c.as_slice.ensures.value
    ∙ ap (λ (x : Cell). found_place (is_cell x.row x.col) xs) c.cell.view_is in
    subst (λ r. IsPlaceIn r (length xs)) (sym place) (found-in (is_cell cell.row cell.col) xs)

pub returns-clause-ok : goal.returns-clause-ok
returns-clause-ok c =
    let xs = c.self.inside.items.items in
    let cell = c.args.cell in
    let place = c.cell_place-place.ensures ∙ ap (found_place (is_cell c.cell.inside.row c.cell.inside.col)) c.as_slice.ensures.value
    ∙ ap (λ (x : Cell). found_place (is_cell x.row x.col) xs) c.cell.view_is in
    on_ok_weaker c.set_or_insert.result
    (λ made. made ∙ ap (λ r. set_or_insert r cell xs) place ∙ sym (cell-put cell xs) ∙ ap (put_cell cell) c.self.view_is)
    c.set_or_insert.ensures.items
