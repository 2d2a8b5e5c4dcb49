use Rattle.serde_json.specs.View.{view}
use Rattle.ft_sumdoc.specs.Items.{text_of}
use Rattle.ft_sumdoc.proofs.NoNulls.{text-no_null}
use Rattle.ft_sumdoc.proofs.summary_reading.read_narrow_lists.Goals as goal

pub read_segments-requires : goal.read_segments-requires
read_segments-requires c = rw c.deref.ensures.value (text-no_null c.args.head.now.version (view c.args.value.now) (text_of c.in_ok-items.items) c.in_ok-items.ensures.ok)
