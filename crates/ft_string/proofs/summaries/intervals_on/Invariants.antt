use Rattle.std.proofs.Common.{take}
use Rattle.ft_interval.specs.State.{StandsOn}
use Rattle.ft_string.specs.Loads.{HasIntervals}
use Rattle.ft_string.proofs.summaries.intervals_on.Given as goal

-- the intervals that were gone over are there
abbrev pub invariant-loop-i : goal.invariant-loop-i
invariant-loop-i l = record { has : HasIntervals (take l.i-index l.recs) l.fn.tree l.tree l.intervals.state; stands : StandsOn l.tree l.intervals }
