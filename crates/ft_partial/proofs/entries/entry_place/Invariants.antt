use Rattle.std.proofs.Common.{◌≤◌, ◌-◌, length, take, drop}
use Rattle.ft_partial.specs.Entries.{AreUpTo, AreFrom}
use Rattle.ft_partial.proofs.entries.entry_place.Given as goal

abbrev pub invariant-loop-low : goal.invariant-loop-low
invariant-loop-low l = record {
  order : l.low ≤ l.high;
  inside : l.high ≤ length l.entries;
  below : AreUpTo l.seq (take l.low l.entries);
  above : AreFrom l.seq (drop l.high l.entries);
}

abbrev pub decreases-loop-low : goal.decreases-loop-low
decreases-loop-low l = l.high - l.low
