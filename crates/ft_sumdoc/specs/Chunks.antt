-- How the segments of a text are cut into chunks.
use Rattle.std.specs.Prelude.{ℕ, zero, suc, ◌+◌, nat_eq, List, [], ◌∷◌, if◌then◌else◌}
use Rattle.ft_sumdoc.specs.declared.summary.SegRec.{SegRec}
use Rattle.ft_sumdoc.specs.Segments.{body_length}

-- how many elements each chunk of the text has that is written, but the last one
abbrev pub chunk_length : ℕ
chunk_length = 10000

-- the place in its chunk of the element behind a segment that has place p in its chunk; 0 where the chunk ends with it
abbrev pub place_behind : ℕ → SegRec → ℕ
place_behind p seg = if nat_eq (p + body_length seg.body) chunk_length then 0 else p + body_length seg.body

-- chunks with a segment before them: in the first chunk, or where its own chunk ends with it in a chunk alone
abbrev pub with_segment : ℕ → SegRec → List (List SegRec) → List (List SegRec)
with_segment p seg [] = (seg ∷ []) ∷ []
with_segment zero seg (chunk ∷ chunks) = (seg ∷ []) ∷ chunk ∷ chunks
with_segment (suc p) seg (chunk ∷ chunks) = (seg ∷ chunk) ∷ chunks

-- the segments in their chunks, where the first has place p in its chunk
abbrev pub chunks_from : ℕ → List SegRec → List (List SegRec)
chunks_from p [] = []
chunks_from p (seg ∷ segs) = with_segment (place_behind p seg) seg (chunks_from (place_behind p seg) segs)

-- the chunks of a text
abbrev pub chunks : List SegRec → List (List SegRec)
chunks segs = chunks_from 0 segs
