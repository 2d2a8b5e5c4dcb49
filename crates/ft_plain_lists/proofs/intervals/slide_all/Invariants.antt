use Rattle.std.proofs.Common.{◌≡◌, ◌++◌, drop, take}
use Rattle.ft_op.specs.Intervals.{slide_ends}
use Rattle.ft_plain_lists.proofs.intervals.slide_all.Given as goal

-- the intervals so far are slid; the rest is as it was, and completes the whole once it is slid
abbrev pub invariant-loop-i : goal.invariant-loop-i
invariant-loop-i l = record {
  rest : drop l.i-index l.intervals ≡ drop l.i-index l.initial.intervals;
  slid : take l.i-index l.intervals ++ slide_ends l.items (drop l.i-index l.intervals) ≡ slide_ends l.items l.initial.intervals;
}
