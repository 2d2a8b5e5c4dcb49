-- The lines of what a view shows, written one part behind another.
use Rattle.std.proofs.Common.{◌≡◌, ℕ, List, ◌++◌, map, refl, ◌∙◌}
use Rattle.ft_io.specs.Lines.{with_lf}
use Rattle.ft_msg.specs.Content.{ViewContent}
use Rattle.ft_seqr.specs.ViewLines.{cell_line, content_lines, interval_line, marker_line, run_line, table_lines, text_line}
use Rattle.ft_replay.specs.LineForm.{bytes_of}
use Rattle.ft_replay.proofs.ClientHeads.{lines_behind, part_behind}

-- the lines, by the text behind each part of them
pub content_written : (v : ViewContent) (before text markers runs intervals table cells : List ℕ)
    → text ≡ before ++ with_lf (text_line v.text) → markers ≡ text ++ bytes_of (map marker_line v.markers)
    → runs ≡ markers ++ bytes_of (map run_line v.runs) → intervals ≡ runs ++ bytes_of (map interval_line v.intervals)
    → table ≡ intervals ++ bytes_of (table_lines v.rows v.cols) → cells ≡ table ++ bytes_of (map cell_line v.cells)
    → cells ≡ before ++ bytes_of (content_lines v)
unfolding content_lines
content_written v before text markers runs intervals table cells text_is markers_are runs_are intervals_are table_is cells_are =
    let cell_lines = map cell_line v.cells in
    let from_table = table_lines v.rows v.cols ++ cell_lines in
    let from_intervals = map interval_line v.intervals ++ from_table in
    let from_runs = map run_line v.runs ++ from_intervals in
    let behind = map marker_line v.markers ++ from_runs in
    lines_behind before text cells (text_line v.text) (text_line v.text) behind behind text_is refl refl
    (cells_are ∙ part_behind intervals table (table_lines v.rows v.cols) cell_lines table_is
    ∙ part_behind runs intervals (map interval_line v.intervals) from_table intervals_are
    ∙ part_behind markers runs (map run_line v.runs) from_intervals runs_are
    ∙ part_behind text markers (map marker_line v.markers) from_runs markers_are)
