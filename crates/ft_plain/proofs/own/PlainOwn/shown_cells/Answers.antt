use Rattle.std.proofs.Common.{◌≡◌, [], List, ◌∙◌, ap, sym, append-nil}
use Rattle.std.proofs.lemmas.Result.{IfOk-weaker}
use Rattle.ft_props.specs.Element.{ListElement}
use Rattle.ft_op.specs.Cells.{Cell}
use Rattle.ft_op.specs.Stages.{Stage}
use Rattle.ft_msg.specs.Content.{all_cells, content, stage_view}
use Rattle.ft_plain_document.specs.WrittenCells.{cells_after_stages}
use Rattle.ft_plain.specs.Own.{PlainState, client_at}
use Rattle.ft_plain.proofs.WrittenValues.{all-written}
use Rattle.ft_plain.proofs.own.PlainOwn.shown_cells.Goals as goal

pub returns : goal.returns
returns c =
    let i = c.self.inside in
    let doc = i.doc in
    let k = c.args.last in
    let stages = i.stages in
    let cols = stage_view k doc.cols.items in
    let rows = stage_view k doc.rows.items in
    let w = c.in_ok-written.written in
    let shown =
    ap (λ (xs : List ListElement). all_cells w [] (stage_view k xs) 0 (stage_view k c.rows.result.now)) c.cols.ensures
    ∙ ap (λ (xs : List ListElement). all_cells w [] cols 0 (stage_view k xs)) c.rows.ensures
    ∙ ap (λ (cs : List Cell). all_cells cs [] cols 0 rows) (c.in_ok-written.ensures ∙ ap (cells_after_stages doc.cells) c.as_slice.ensures)
    ∙ all-written doc.cells stages cols 0 rows
    ∙ ap (λ (ss : List Stage). all_cells doc.cells ss cols 0 rows) (sym (append-nil stages))
    ∙ ap (λ (d : PlainState). (content (client_at k d)).cells) c.self.view_is in
    IfOk-weaker c.shown_cells.result (λ cells. cells ≡ all_cells w [] (stage_view k c.cols.result.now) 0 (stage_view k c.rows.result.now))
    (λ cells. cells ≡ (content (client_at k c.args.self.now)).cells)
    (λ cells e. e ∙ shown) c.shown_cells.ensures
