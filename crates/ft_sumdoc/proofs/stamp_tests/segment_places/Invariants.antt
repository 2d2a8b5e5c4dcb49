use Rattle.std.proofs.Common.{◌≡◌, ◌+◌, drop, map}
use Rattle.ft_sumdoc.specs.Items.{bounds_in, segment_of}
use Rattle.ft_sumdoc.specs.NarrowLists.{segments_stamps}
use Rattle.ft_sumdoc.specs.Stamps.{places_behind}
use Rattle.ft_sumdoc.proofs.stamp_tests.segment_places.Given as goal

-- the places of the rest are those behind
abbrev pub invariant-loop-seg : goal.invariant-loop-seg
invariant-loop-seg l = record {
  behind : places_behind (bounds_in l.limits) l.place (segments_stamps (map segment_of (drop l.seg-index l.segs))) ≡ places_behind (bounds_in l.limits) l.first (segments_stamps (map segment_of l.segs));
  place : l.place ≡ l.first + l.seg-index;
}
