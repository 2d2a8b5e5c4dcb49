use Rattle.std.proofs.Common.{◌≡◌, ◌≤◌, true, length, drop, bytes_eq, encode_utf8_all}
use Rattle.std.specs.Prelude.{is_some}
use Rattle.std.specs.HashMap.{get_by}
use Rattle.std.specs.List.{list_any}
use Rattle.ft_props.specs.Properties.{Characters}
use Rattle.ft_sumdoc.specs.Counts.{are_distinct_names}
use Rattle.ft_sumdoc.proofs.head_reading.are_distinct.Given as goal

-- the names from here on are known, and none of them stands twice
abbrev pub invariant-loop-i : goal.invariant-loop-i
invariant-loop-i l = record {
  known : (q : Characters) → is_some (get_by (λ k. bytes_eq (encode_utf8_all q) k.now) l.later) ≡ list_any (bytes_eq q) (drop l.i l.names);
  distinct : are_distinct_names (drop l.i l.names) ≡ true;
  place : l.i ≤ length l.names;
}

abbrev pub decreases-loop-i : goal.decreases-loop-i
decreases-loop-i l = l.i
