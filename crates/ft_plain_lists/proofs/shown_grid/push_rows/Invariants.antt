use Rattle.std.proofs.Common.{◌≡◌, ◌≤◌, [], ◌++◌, drop}
use Rattle.ft_msg.specs.Content.{all_cells, stage_view}
use Rattle.ft_plain_lists.proofs.shown_grid.push_rows.Given as goal

-- the cells so far, and those of the rest of the rows, are all
abbrev pub invariant-loop-row : goal.invariant-loop-row
invariant-loop-row l = record {
  counted : l.place ≤ l.row-index;
  all : l.shown ++ all_cells l.cells [] (stage_view l.stage l.cols) l.place (stage_view l.stage (drop l.row-index l.rows)) ≡ all_cells l.cells []
      (stage_view l.stage l.cols) 0 (stage_view l.stage l.rows);
}
