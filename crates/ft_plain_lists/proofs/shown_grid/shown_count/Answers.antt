use Rattle.std.proofs.Common.{◌∙◌, sym}
use Rattle.ft_base.proofs.PlainList.{length-filter_seen}
use Rattle.ft_props.specs.Element.{seen}
use Rattle.ft_plain_lists.proofs.shown_grid.shown_count.Goals as goal

pub returns : goal.returns
returns c = c.seen_count.ensures ∙ sym (length-filter_seen (seen c.args.stage) c.args.items.now)
