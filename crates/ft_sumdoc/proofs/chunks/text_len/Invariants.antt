use Rattle.std.proofs.Common.{◌≡◌, ◌+◌, drop}
use Rattle.ft_sumdoc.specs.Segments.{text_length}
use Rattle.ft_sumdoc.proofs.chunks.text_len.Given as goal

-- the elements of what was passed, and those of the rest, are all
abbrev pub invariant-loop-seg : goal.invariant-loop-seg
invariant-loop-seg l = l.elements + text_length (drop l.seg-index l.segs) ≡ text_length l.segs
