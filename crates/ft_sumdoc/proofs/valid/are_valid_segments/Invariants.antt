use Rattle.std.proofs.Common.{◌↔◌, drop}
use Rattle.std.specs.List.{AllByRecursion}
use Rattle.ft_sumdoc.specs.Items.{bounds_in}
use Rattle.ft_sumdoc.specs.Valid.{IsSegment}
use Rattle.ft_sumdoc.proofs.valid.are_valid_segments.Given as goal

-- the segments that are left decide
abbrev pub invariant-loop-seg : goal.invariant-loop-seg
invariant-loop-seg l =
    AllByRecursion (IsSegment (bounds_in l.limits)) (drop l.seg-index l.segs) ↔ AllByRecursion (IsSegment (bounds_in l.limits)) l.segs
