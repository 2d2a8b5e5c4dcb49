use Rattle.std.proofs.Common.{◌≡◌, ◌-◌, drop, map}
use Rattle.ft_sumdoc.specs.Intervals.{is_given_interval_before}
use Rattle.ft_sumdoc.specs.Forms.{rises}
use Rattle.ft_sumdoc.specs.Items.{interval_of}
use Rattle.ft_sumdoc.proofs.shown_reading.intervals_rise.Given as goal

-- those from the one before decide
abbrev pub invariant-loop-i : goal.invariant-loop-i
invariant-loop-i l = rises is_given_interval_before (map interval_of (drop (l.i - 1) l.intervals)) ≡ rises is_given_interval_before (map interval_of l.intervals)
