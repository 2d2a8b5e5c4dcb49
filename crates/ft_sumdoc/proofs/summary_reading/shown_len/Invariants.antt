use Rattle.std.proofs.Common.{◌≡◌, ◌+◌, ◌≤◌, drop}
use Rattle.ft_sumdoc.specs.Segments.{text_length, unremoved_text}
use Rattle.ft_sumdoc.proofs.summary_reading.shown_len.Given as goal

-- the elements of what was passed, and those of the rest, are all; those of the rest are few enough
abbrev pub invariant-loop-seg : goal.invariant-loop-seg
invariant-loop-seg l = record {
  shown : l.elements + unremoved_text (drop l.seg-index l.segs) ≡ unremoved_text l.segs;
  few : l.elements + text_length (drop l.seg-index l.segs) ≤ text_length l.segs;
}
