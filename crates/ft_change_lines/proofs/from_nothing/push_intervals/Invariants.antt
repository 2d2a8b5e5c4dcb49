use Rattle.std.proofs.Common.{◌≡◌, ◌++◌, drop, map}
use Rattle.ft_changes.specs.declared.changes.ViewChange.TheVariants.{SetInterval}
use Rattle.ft_change_lines.proofs.from_nothing.push_intervals.Given as goal

-- the changes so far, and those of the rest, are all
abbrev pub invariant-loop-interval : goal.invariant-loop-interval
invariant-loop-interval l = l.changes ++ map SetInterval (drop l.interval-index l.intervals) ≡ l.initial.changes ++ map SetInterval l.intervals
