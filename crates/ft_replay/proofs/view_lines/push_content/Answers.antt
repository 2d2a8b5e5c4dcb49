use Rattle.std.proofs.Common.{◌++◌, ap, map, string_bytes, ◌∙◌}
use Rattle.std.proofs.lemmas.Result.{on_ok_weaker}
use Rattle.ft_msg.specs.Answers.{view_content}
use Rattle.ft_seqr.specs.ViewLines.{cell_line, interval_line, marker_line, run_line}
use Rattle.ft_replay.specs.LineForm.{bytes_of}
use Rattle.ft_replay.proofs.ContentLines.{content_written}
use Rattle.ft_replay.proofs.view_lines.push_content.Goals as goal

pub returns : goal.returns
returns c =
    let before = string_bytes c.args.text.now in
    let text = string_bytes c.push_text_line.new.text in
    let markers = string_bytes c.push_markers.new.text in
    let runs = string_bytes c.push_runs.new.text in
    let intervals = string_bytes c.push_intervals.new.text in
    let table = string_bytes c.push_table.new.text in
    let cells = string_bytes c.push_cells.new.text in
    on_ok_weaker c.push_cells.result (λ is. content_written (view_content c.args.view.now) before text markers runs intervals table cells
    c.in_ok-push_text_line.ensures
    (c.in_ok-push_markers.ensures ∙ ap (λ shown. text ++ bytes_of (map marker_line shown)) c.as_slice.ensures)
    (c.in_ok-push_runs.ensures ∙ ap (λ shown. markers ++ bytes_of (map run_line shown)) c.as_slice-2.ensures)
    (c.in_ok-push_intervals.ensures ∙ ap (λ shown. runs ++ bytes_of (map interval_line shown)) c.as_slice-3.ensures)
    c.in_ok-push_table.ensures
    (is ∙ ap (λ shown. table ++ bytes_of (map cell_line shown)) c.as_slice-4.ensures))
    c.push_cells.ensures
