use Rattle.std.proofs.Common.{◌≡◌, ◌+◌, ◌^◌, nat_lt, drop}
use Rattle.ft_sumdoc.specs.Segments.{text_length}
use Rattle.ft_sumdoc.proofs.valid.has_few_elements.Given as goal

-- whether the rest has at most the elements that are left decides
abbrev pub invariant-loop-seg : goal.invariant-loop-seg
invariant-loop-seg l = nat_lt (text_length (drop l.seg-index l.segs)) (l.left + 1) ≡ nat_lt (text_length l.segs) (2 ^ 53)
