use Rattle.std.proofs.Common.{◌≡◌, ◌+◌, drop, map}
use Rattle.ft_sumdoc.specs.Items.{bounds_in, run_of}
use Rattle.ft_sumdoc.specs.Stamps.{places_behind}
use Rattle.ft_sumdoc.specs.Summary.{run_stamps}
use Rattle.ft_sumdoc.proofs.stamp_tests.run_places.Given as goal

-- the places of the rest are those behind
abbrev pub invariant-loop-run : goal.invariant-loop-run
invariant-loop-run l = record {
  behind : places_behind (bounds_in l.limits) l.place (run_stamps (map run_of (drop l.run-index l.runs))) ≡ places_behind (bounds_in l.limits) l.first (run_stamps (map run_of l.runs));
  place : l.place ≡ l.first + l.run-index;
}
