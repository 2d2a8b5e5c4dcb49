use Rattle.std.proofs.Common.{◌↔◌, drop}
use Rattle.std.specs.List.{AllByRecursion}
use Rattle.ft_sumdoc.specs.Valid.{IsInterval}
use Rattle.ft_sumdoc.proofs.valid.are_valid_intervals.Given as goal

-- the intervals that are left decide
abbrev pub invariant-loop-interval : goal.invariant-loop-interval
invariant-loop-interval l =
    AllByRecursion (IsInterval l.elements) (drop l.interval-index l.intervals) ↔ AllByRecursion (IsInterval l.elements) l.intervals
