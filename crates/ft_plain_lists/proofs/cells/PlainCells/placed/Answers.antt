use Rattle.std.proofs.Common.{◌≡◌, ◌∙◌, ap, filter, map}
use Rattle.ft_base.proofs.Results.{after-done}
use Rattle.ft_props.specs.Element.{ElementId, same_id}
use Rattle.ft_op.specs.Cells.{Cell}
use Rattle.ft_msg.specs.Content.{stage_view}
use Rattle.ft_plain_lists.specs.NamedLists.{listed}
use Rattle.ft_plain_lists.specs.PlacedCells.{placed_cells}
use Rattle.ft_plain_lists.specs.PlacedValues.{placed_value}
use Rattle.ft_plain_lists.proofs.cells.PlainCells.placed.Goals as goal

pub place_columns-done-requires-clause-columns : goal.place_columns-done-requires-clause-columns
place_columns-done-requires-clause-columns c = λ x.
    c.in_ok-columns.ensures x ∙ ap (filter (λ (cell : Cell). same_id x cell.col)) (c.as_slice.ensures.value ∙ c.self.view_is)

pub returns : goal.returns
returns c =
    let shown = stage_view c.args.stage c.args.cols.now in
    after-done c.place_columns-done.result c.after.result
    (λ rows. (x : ElementId) → map placed_value (listed x rows.lists) ≡ placed_cells c.args.self.now x 0 shown) c.place_columns-done.new.rows
    c.place_columns-done.ensures c.after.ensures.done c.after.ensures.value
