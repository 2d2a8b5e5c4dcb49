use Rattle.std.proofs.Common.{◌≡◌, ◌&&◌, ◌++◌, List, ◌∙◌, ap, filter, not}
use Rattle.std.proofs.lemmas.Result.{IfOk-at_ok, on_ok_weaker}
use Rattle.ft_base.proofs.Results.{after-done}
use Rattle.ft_props.specs.Element.{has_sequenced_removal}
use Rattle.ft_op.specs.Cells.{Cell, is_null}
use Rattle.ft_plain_lists.specs.NameTables.{HasAnswers}
use Rattle.ft_plain_lists.proofs.cells.PlainCells.trimmed.Goals as goal

pub push_kept-done-requires-clause-rows : goal.push_kept-done-requires-clause-rows
push_kept-done-requires-clause-rows c =
    IfOk-at_ok (HasAnswers (has_sequenced_removal c.args.rows.now)) c.in_ok-gone_rows.ensures.first c.removals.ensures

pub push_kept-done-requires-clause-cols : goal.push_kept-done-requires-clause-cols
push_kept-done-requires-clause-cols c =
    IfOk-at_ok (HasAnswers (has_sequenced_removal c.args.cols.now)) c.in_ok-gone_rows.ensures.second c.removals-2.ensures

pub returns : goal.returns
returns c =
    let is_kept = λ (cell : Cell).
    not (is_null cell.value) && not (has_sequenced_removal c.args.rows.now cell.row) && not (has_sequenced_removal c.args.cols.now cell.col) in
    let all = filter is_kept c.args.self.now in
    after-done c.push_kept-done.result c.after.result (λ (kept : List Cell). kept ≡ all) c.push_kept-done.new.items.items
    (on_ok_weaker c.push_kept-done.result (λ kept. kept ∙ ap (λ xs. xs ++ filter is_kept c.as_slice-cells.result.now) c.new-items.ensures.items
    ∙ ap (filter is_kept) (c.as_slice-cells.ensures.value ∙ c.self.view_is)) c.push_kept-done.ensures)
    c.after.ensures.done c.after.ensures.value
