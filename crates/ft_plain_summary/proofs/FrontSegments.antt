-- The segments of a text that are made from the front are those that are made from the back.
use Rattle.std.proofs.Common.{◌≡◌, ℕ, ◌+◌, ◌%◌, ◌==◌, List, ◌∷◌, ◌++◌, Option, Some, None, refl, sym, ◌∙◌, ap, append_assoc}
use Rattle.std.proofs.Math.Path.{ap₂}
use Rattle.ft_sumdoc.specs.declared.summary.SegRec.{SegRec}
use Rattle.ft_sumdoc.specs.Chunks.{chunk_length}
use Rattle.ft_props.specs.Element.{ListElement}
use Rattle.ft_msg.specs.OpenSegments.{ended_segments, open_segment}
use Rattle.ft_msg.specs.SummaryOf.{segment_of, segments_from}
use Rattle.ft_msg.proofs.FrontSegments.{extended-next}
use Rattle.ft_plain_summary.specs.OpenSegments.{segments_behind}

-- one element more
pub segments_behind-next : (i : ℕ) (last : Option SegRec) (x : ListElement) (xs : List ListElement)
    → segments_behind i last (x ∷ xs) ≡ ended_segments (i % chunk_length == 0) last (segment_of x) ++ segments_behind (i + 1)
    (Some (open_segment (i % chunk_length == 0) last (segment_of x))) xs
segments_behind-next i None x xs = refl
segments_behind-next i (Some last) x xs = extended-next (i % chunk_length == 0) ((i + 1) % chunk_length == 0) last (segment_of x) (segments_from (i + 1) xs)

-- the segments so far, after one element more
pub segments_behind-with : (i : ℕ) (last : Option SegRec) (x : ListElement) (xs rest : List ListElement) (seg : SegRec) (old new all : List SegRec)
    → rest ≡ x ∷ xs → new ≡ old ++ ended_segments (i % chunk_length == 0) last (segment_of x) → seg ≡ open_segment (i % chunk_length == 0) last (segment_of x)
    → old ++ segments_behind i last rest ≡ all → new ++ segments_behind (i + 1) (Some seg) xs ≡ all
segments_behind-with i last x xs rest seg old new all front ended opened so_far =
    let begins = i % chunk_length == 0 in
    let then_open = open_segment begins last (segment_of x) in
    ap₂ (λ ys s. ys ++ segments_behind (i + 1) (Some s) xs) ended opened
    ∙ append_assoc old (ended_segments begins last (segment_of x)) (segments_behind (i + 1) (Some then_open) xs)
    ∙ ap (λ ys. old ++ ys) (sym (segments_behind-next i last x xs))
    ∙ ap (λ r. old ++ segments_behind i last r) (sym front) ∙ so_far
