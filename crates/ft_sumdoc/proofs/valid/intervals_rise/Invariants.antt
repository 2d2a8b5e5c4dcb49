use Rattle.std.proofs.Common.{◌≡◌, ◌-◌, drop}
use Rattle.ft_sumdoc.specs.Forms.{rises}
use Rattle.ft_sumdoc.specs.Valid.{is_interval_before}
use Rattle.ft_sumdoc.proofs.valid.intervals_rise.Given as goal

-- those from the one before decide
abbrev pub invariant-loop-i : goal.invariant-loop-i
invariant-loop-i l = rises is_interval_before (drop (l.i - 1) l.intervals) ≡ rises is_interval_before l.intervals
