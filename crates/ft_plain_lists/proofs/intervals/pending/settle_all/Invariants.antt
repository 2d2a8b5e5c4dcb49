use Rattle.std.proofs.Common.{◌≡◌, ◌++◌, drop, take}
use Rattle.ft_op.specs.Intervals.{settle_ends}
use Rattle.ft_plain_lists.proofs.intervals.pending.settle_all.Given as goal

-- the intervals so far are settled; the rest is as it was, and completes the whole once it is settled
abbrev pub invariant-loop-i : goal.invariant-loop-i
invariant-loop-i l = record {
  rest : drop l.i-index l.intervals ≡ drop l.i-index l.initial.intervals;
  settled : take l.i-index l.intervals ++ settle_ends l.items l.stage (drop l.i-index l.intervals) ≡ settle_ends l.items l.stage l.initial.intervals;
}
