use Rattle.std.proofs.Common.{drop, take}
use Rattle.ft_sumdoc.proofs.CutText.{IsCutSoFar}
use Rattle.ft_sumdoc.proofs.chunks.chunk_len.Given as goal

abbrev pub invariant-loop-i : goal.invariant-loop-i
invariant-loop-i l = IsCutSoFar l.place (take l.i l.segs) (drop l.i l.segs) l.segs
