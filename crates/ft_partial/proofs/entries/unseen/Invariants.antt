use Rattle.std.proofs.Common.{◌≡◌, ◌≤◌, ◌%◌, ◌^◌, length, drop}
use Rattle.ft_partial.specs.Entries.{unseen}
use Rattle.ft_partial.proofs.entries.unseen.Given as goal

abbrev pub invariant-loop-i : goal.invariant-loop-i
invariant-loop-i l = record {
  inside : l.i ≤ length l.entries;
  sum : l.sum ≡ unseen l.at.r l.at.c (drop l.i l.entries) % 2 ^ 64;
}

abbrev pub decreases-loop-i : goal.decreases-loop-i
decreases-loop-i l = l.i
