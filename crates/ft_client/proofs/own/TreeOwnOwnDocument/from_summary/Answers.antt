use Rattle.ft_client.proofs.Loaded.{loaded}
use Rattle.ft_client.proofs.own.TreeOwnOwnDocument.from_summary.Goals as goal

pub returns : goal.returns
returns c =
    let t = c.in_ok-text.ensures in
    let g = c.in_ok-table.ensures in
    loaded (record { text = c.in_ok-text.text; table = c.in_ok-table.table; stages = c.new.result; numbers = c.of_summary-numbers.result }) c.args.sum.now c.rows_made.result
    c.cols_made.result t.holds g.holds c.new.ensures.items c.of_summary-numbers.ensures c.rows_made.ensures c.cols_made.ensures t.floor t.given t.usable g.floor g.given g.usable
