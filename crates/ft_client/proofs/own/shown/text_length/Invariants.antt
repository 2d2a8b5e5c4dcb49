use Rattle.std.proofs.Common.{◌≡◌, ◌+◌, drop}
use Rattle.ft_sumdoc.specs.Segments.{text_length}
use Rattle.ft_client.proofs.own.shown.text_length.Given as goal

-- so many were counted, and then those ahead are all
abbrev pub invariant-loop-seg : goal.invariant-loop-seg
invariant-loop-seg l = l.count + text_length (drop l.seg-index l.segs) ≡ text_length l.segs
