use Rattle.std.proofs.Common.{◌≡◌, ◌++◌, drop, map}
use Rattle.ft_msg.specs.Content.{interval_record}
use Rattle.ft_plain_lists.proofs.interval_views.shown_by.Given as goal

-- the intervals so far, and the rest as it is shown, are all as they are shown
abbrev pub invariant-loop-i : goal.invariant-loop-i
invariant-loop-i l =
    l.shown.items ++ map (interval_record l.stage l.items) (drop l.i-index l.intervals) ≡ map (interval_record l.stage l.items) l.intervals
