use Rattle.std.proofs.Common.{◌≡◌, ◌++◌, drop, map, take}
use Rattle.ft_changes.specs.Rest.{moved_ends}
use Rattle.ft_changes.proofs.rest.move_all.Given as goal

-- the intervals so far have moved; the rest is as it was, and completes the whole once it has moved
abbrev pub invariant-loop-interval : goal.invariant-loop-interval
invariant-loop-interval l = record {
  rest : drop l.interval-index l.intervals ≡ drop l.interval-index l.initial.intervals;
  moved : take l.interval-index l.intervals ++ map (moved_ends l.shift l.left) (drop l.interval-index l.intervals) ≡ map (moved_ends l.shift l.left) l.initial.intervals;
}
