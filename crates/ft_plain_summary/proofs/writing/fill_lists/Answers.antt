use Rattle.std.proofs.Common.{◌≡◌, ◌∙◌, [], ap, map, refl}
use Rattle.std.proofs.Math.Path.{ap₂}
use Rattle.std.proofs.lemmas.Result.{IfOk-at_ok, on_ok_weaker}
use Rattle.ft_msg.specs.Content.{all_cells, interval_record, stage_view}
use Rattle.ft_msg.specs.SummaryOf.{segments_from, unit_runs}
use Rattle.ft_plain_summary.proofs.writing.fill_lists.Goals as goal

pub returns : goal.returns
returns c =
    let doc = c.args.kept.now in
    let text = IfOk-at_ok (λ segs. segs ≡ segments_from 0 c.text.result.now)
    c.in_ok-fill.ensures.ok c.text_segments.ensures
    ∙ ap (segments_from 0) c.text.ensures.items in
    let rows = IfOk-at_ok (λ runs. runs ≡ unit_runs c.rows.result.now)
    c.in_ok-fill-2.ensures.ok c.unit_runs.ensures
    ∙ ap unit_runs c.rows.ensures in
    let cols = IfOk-at_ok (λ runs. runs ≡ unit_runs c.cols.result.now)
    c.in_ok-fill-3.ensures.ok c.unit_runs-2.ensures
    ∙ ap unit_runs c.cols.ensures in
    let intervals = IfOk-at_ok (λ is. is ≡ map (interval_record 0 c.text-2.result.now) c.intervals.result.now) c.in_ok-fill-4.ensures.ok
    c.shown_intervals-intervals.ensures
    ∙ ap₂ (λ xs is. map (interval_record 0 xs) is) c.text-2.ensures.items c.intervals.ensures in
    let all = all_cells c.cells.result.now [] (stage_view 0 c.cols-2.result.now) 0 (stage_view 0 c.rows-2.result.now) in
    let named = ap (λ cs. all_cells cs [] (stage_view 0 c.cols-2.result.now) 0 (stage_view 0 c.rows-2.result.now)) c.cells.ensures
    ∙ ap₂ (λ ks rs. all_cells doc.cells [] (stage_view 0 ks) 0 (stage_view 0 rs)) c.cols-2.ensures c.rows-2.ensures in
    on_ok_weaker c.fill-5.result
    (λ filled. (let cells = IfOk-at_ok (λ cs. cs ≡ all) filled c.shown_cells-cells.ensures ∙ named in rw (text, rows, cols, intervals, cells) refl))
    c.fill-5.ensures.ok
