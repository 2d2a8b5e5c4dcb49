use Rattle.std.proofs.Common.{◌≡◌, ◌^◌, true, nat_lt, drop}
use Rattle.std.specs.List.{list_all}
use Rattle.ft_sumdoc.specs.Rising.{numbers_rise}
use Rattle.ft_sumdoc.proofs.stamp_tests.numbers_rise.Given as goal

-- the rest decides, and its numbers are below 2^53
abbrev pub invariant-loop-mark : goal.invariant-loop-mark
invariant-loop-mark l = record {
  decides : numbers_rise l.least (drop l.mark-index l.marks) ≡ numbers_rise l.low l.marks;
  small : list_all (λ m. nat_lt m.seq (2 ^ 53)) (drop l.mark-index l.marks) ≡ true;
}
