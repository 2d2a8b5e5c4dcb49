use Rattle.std.proofs.Common.{drop}
use Rattle.ft_string.proofs.Appended.{SegmentsSoFar}
use Rattle.ft_string.proofs.summaries.append_all.Given as goal

-- what was put, and then the segments ahead, are all
abbrev pub invariant-loop-seg : goal.invariant-loop-seg
invariant-loop-seg l = SegmentsSoFar l.segs (drop l.seg-index l.segs) l.fn.tree l.tree
