use Rattle.std.proofs.Common.{◌≡◌, ◌++◌, drop}
use Rattle.ft_msg.specs.SummaryOf.{segments_from}
use Rattle.ft_plain_summary.specs.OpenSegments.{segments_behind}
use Rattle.ft_plain_summary.proofs.segments.text_segments.Given as goal

-- the segments so far, and those of the rest with the open one before them, are all
abbrev pub invariant-loop-i : goal.invariant-loop-i
invariant-loop-i l = l.segs ++ segments_behind l.i l.last (drop l.i l.items) ≡ segments_from 0 l.items
