use Rattle.std.proofs.Common.{◌≡◌, ◌≤◌, ℕ, true, length, drop, nat_eq}
use Rattle.std.specs.Prelude.{is_some}
use Rattle.std.specs.HashMap.{get}
use Rattle.std.specs.List.{list_any}
use Rattle.ft_sumdoc.specs.Rising.{conns_differ}
use Rattle.ft_sumdoc.proofs.stamp_tests.conns_differ.Given as goal

-- the connections from here on are known, and none of them stands twice
abbrev pub invariant-loop-i : goal.invariant-loop-i
invariant-loop-i l = record {
  known : (q : ℕ) → is_some (get nat_eq l.later q) ≡ list_any (λ n. nat_eq q n.conn) (drop l.i l.marks);
  distinct : conns_differ (drop l.i l.marks) ≡ true;
  place : l.i ≤ length l.marks;
}

abbrev pub decreases-loop-i : goal.decreases-loop-i
decreases-loop-i l = l.i
