use Rattle.std.proofs.Common.{refl}
use Rattle.ft_plain_lists.proofs.interval_views.shown_interval.Goals as goal

pub returns : goal.returns
returns c = let parts = c.in_ok-label.ensures in rw (parts.label, parts.id, parts.props, c.ranked_ends.ensures) refl
