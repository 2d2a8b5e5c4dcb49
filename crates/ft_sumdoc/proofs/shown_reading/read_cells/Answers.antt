use Rattle.std.proofs.Common.{map}
use Rattle.serde_json.specs.View.{view}
use Rattle.ft_sumdoc.specs.Items.{cell_of}
use Rattle.ft_sumdoc.proofs.NoNulls.{cells-not_null}
use Rattle.ft_sumdoc.proofs.shown_reading.read_cells.Goals as goal

pub keep_each-requires : goal.keep_each-requires
keep_each-requires c =
    rw c.deref.ensures.value (cells-not_null c.args.rows c.args.cols (view c.args.value.now) (map cell_of c.in_ok-items.items.items) c.in_ok-items.ensures.ok)
