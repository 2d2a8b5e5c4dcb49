use Rattle.std.proofs.Common.{◌≡◌, List, []}
use Rattle.ft_base.proofs.Results.{after-done}
use Rattle.ft_sumdoc.specs.declared.summary.CellRec.{CellRec}
use Rattle.ft_msg.specs.Content.{all_cells, stage_view}
use Rattle.ft_plain_lists.proofs.shown_grid.shown_cells.Goals as goal

pub returns : goal.returns
returns c =
    let all = all_cells c.args.cells.now [] (stage_view c.args.stage c.args.cols.now) 0 (stage_view c.args.stage c.args.rows.now) in
    after-done c.push_rows-done.result c.after.result (λ (shown : List CellRec). shown ≡ all) c.push_rows-done.new.shown c.push_rows-done.ensures
    c.after.ensures.done c.after.ensures.value
