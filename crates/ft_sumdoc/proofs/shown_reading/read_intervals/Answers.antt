use Rattle.std.proofs.Common.{map}
use Rattle.serde_json.specs.View.{view}
use Rattle.ft_sumdoc.specs.Items.{interval_of}
use Rattle.ft_sumdoc.proofs.NoNulls.{intervals-no_null}
use Rattle.ft_sumdoc.proofs.shown_reading.read_intervals.Goals as goal

pub keep_each-requires : goal.keep_each-requires
keep_each-requires c =
    rw c.deref.ensures.value (intervals-no_null c.args.elements (view c.args.value.now) (map interval_of c.in_ok-items.items.items) c.in_ok-items.ensures.ok)
