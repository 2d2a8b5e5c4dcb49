use Rattle.std.proofs.Common.{◌≡◌, ◌+◌, drop, map}
use Rattle.ft_sumdoc.specs.Items.{segment_of}
use Rattle.ft_sumdoc.specs.Summary.{given_length}
use Rattle.ft_sumdoc.proofs.segment_reading.items_len.Given as goal

-- the elements of what was passed, and those of the rest, are all
abbrev pub invariant-loop-seg : goal.invariant-loop-seg
invariant-loop-seg l = l.elements + given_length (map segment_of (drop l.seg-index l.segs)) ≡ given_length (map segment_of l.segs)
