use Rattle.std.proofs.Common.{◌≡◌, ◌++◌, drop, filter}
use Rattle.ft_sumdoc.specs.Meeting.{meets}
use Rattle.ft_sumdoc.proofs.meeting.meeting.Given as goal

-- those found, and those of the rest that meet the range, are all that do
abbrev pub invariant-loop-interval : goal.invariant-loop-interval
invariant-loop-interval l = l.found.items ++ filter (meets l.label l.a l.b) (drop l.interval-index l.intervals) ≡ filter (meets l.label l.a l.b) l.intervals
