-- The segments of a text as they are made from the front: one is open, and the segment of the next element joins it or
-- ends it.
use Rattle.std.specs.Prelude.{ℕ, Bool, cond, not, ◌&&◌, List, [], ◌∷◌, Option, Some, None}
use Rattle.ft_sumdoc.specs.declared.summary.Seg.{Seg}
use Rattle.ft_sumdoc.specs.declared.summary.Seg.TheVariants.{Chars, Marker}
use Rattle.ft_sumdoc.specs.declared.summary.SegRec.{SegRec}
use Rattle.ft_sumdoc.specs.WellFormed.{are_alike}
use Rattle.ft_msg.specs.SummaryOf.{joined}

-- what a segment holds that is a marker of this reference type, or else these characters
abbrev pub body_of_parts : Option ℕ → List ℕ → Seg
body_of_parts None text = Chars text
body_of_parts (Some ref_type) text = Marker ref_type

-- the open segment, if this one ends it; a chunk begins with this one or doesn't
abbrev pub ended_segments : Bool → Option SegRec → SegRec → List SegRec
ended_segments begins None seg = []
ended_segments begins (Some last) seg = cond (not begins && are_alike last seg) [] (last ∷ [])

-- the segment that is open then
abbrev pub open_segment : Bool → Option SegRec → SegRec → SegRec
open_segment begins None seg = seg
open_segment begins (Some last) seg = cond (not begins && are_alike last seg) (joined last seg) seg
