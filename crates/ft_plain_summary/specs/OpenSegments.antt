-- The segments of a text as they are made from the front, by the elements of a plain list.
use Rattle.std.specs.Prelude.{ℕ, ◌%◌, ◌==◌, List, Option, Some, None}
use Rattle.ft_sumdoc.specs.declared.summary.SegRec.{SegRec}
use Rattle.ft_sumdoc.specs.Chunks.{chunk_length}
use Rattle.ft_plain_lists.specs.declared.elements.Content.{Content}
use Rattle.ft_plain_lists.specs.declared.elements.Content.TheVariants.{Character, Marker, Unit}
use Rattle.ft_props.specs.Element.{ListElement}
use Rattle.ft_msg.specs.SummaryOf.{extended_segments, segments_from}

-- the reference type, if it is a marker
abbrev pub reference_type : Content → Option ℕ
reference_type (Character c) = None
reference_type (Marker ref_type) = Some ref_type
reference_type Unit = None

-- the segments of elements, the first of which has the place i in the text, where this one is open before them
abbrev pub segments_behind : ℕ → Option SegRec → List ListElement → List SegRec
segments_behind i None xs = segments_from i xs
segments_behind i (Some last) xs = extended_segments (i % chunk_length == 0) last (segments_from i xs)
