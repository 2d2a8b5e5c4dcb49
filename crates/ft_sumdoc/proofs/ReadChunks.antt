-- The chunks of a written text are read back as its segments, and none is too long.
use Rattle.std.proofs.Common.{◌≡◌, ◌∙◌, ℕ, zero, suc, ◌+◌, ◌≤◌, Bool, true, false, List, [], ◌∷◌, ◌++◌, map, flat_map, Some, Ok, refl, ap, ap₂, arith, nat_le, nat_eq, leb-true, le-ltb, cond, ◌⊎◌, inl, inr}
use Rattle.std.specs.Prelude.{⊤}
use Rattle.std.specs.List.{AllByRecursion}
use Rattle.serde_json.specs.Data.{array}
use Rattle.ft_base.proofs.Booleans.{all_three}
use Rattle.ft_op.specs.Reading.{read_each}
use Rattle.ft_op.specs.Written.{written_items}
use Rattle.ft_op.proofs.ReadFields.{items_written}
use Rattle.ft_sumdoc.specs.declared.summary.SegRec.{SegRec}
use Rattle.ft_sumdoc.specs.Chunks.{chunk_length, chunks_from, place_behind, with_segment}
use Rattle.ft_sumdoc.specs.Segments.{GivenSegment, body_length, chunk_form, not_empty, segment_form, text_form, text_length}
use Rattle.ft_sumdoc.specs.Stamps.{Bounds, GivenStamps}
use Rattle.ft_sumdoc.specs.Summary.{given_length, segment_stamps, within_chunk}
use Rattle.ft_sumdoc.specs.WellFormed.{are_cut_from, ends_before}
use Rattle.ft_sumdoc.specs.Written.{written_chunk, written_segment_record}
use Rattle.ft_sumdoc.proofs.ReadForms.{each_of_back}
use Rattle.ft_sumdoc.proofs.ReadStamps.{AreCounts}
use Rattle.ft_sumdoc.proofs.ReadSegments.{IsSound, given_segment, segment_back}

-- ---- all segments, in order

-- the items of all lists
abbrev pub flat : {A : Type 0} → List (List A) → List A
flat xss = flat_map (λ xs. xs) xss

flat-with_segment : (p : ℕ) (seg : SegRec) (chunks : List (List SegRec)) → flat (with_segment p seg chunks) ≡ seg ∷ flat chunks
flat-with_segment p seg [] = refl
flat-with_segment zero seg (chunk ∷ chunks) = refl
flat-with_segment (suc p) seg (chunk ∷ chunks) = refl

pub flat-chunks : (p : ℕ) (segs : List SegRec) → flat (chunks_from p segs) ≡ segs
flat-chunks p [] = refl
flat-chunks p (seg ∷ segs) = flat-with_segment (place_behind p seg) seg (chunks_from (place_behind p seg) segs) ∙ ap (λ rest. seg ∷ rest) (flat-chunks (place_behind p seg) segs)

pub map-both : {A B : Type 0} (f : A → B) (xs ys : List A) → map f xs ++ map f ys ≡ map f (xs ++ ys)
map-both f [] ys = refl
map-both f (x ∷ xs) ys = ap (λ rest. f x ∷ rest) (map-both f xs ys)

pub flat-map : {A B : Type 0} (f : A → B) (xss : List (List A)) → flat (map (map f) xss) ≡ map f (flat xss)
flat-map f [] = refl
flat-map f (xs ∷ xss) = ap (λ rest. map f xs ++ rest) (flat-map f xss) ∙ map-both f xs (flat xss)

-- the stamps of all segments
abbrev stamps : GivenSegment → GivenStamps
stamps seg = seg.stamps

-- those that a segment gives
abbrev pub segment_gives : SegRec → GivenStamps
segment_gives seg = (given_segment seg).stamps

stamps_of_chunk : (chunk : List SegRec) → map stamps (map given_segment chunk) ≡ map segment_gives chunk
stamps_of_chunk [] = refl
stamps_of_chunk (seg ∷ segs) = ap (λ rest. segment_gives seg ∷ rest) (stamps_of_chunk segs)

pub all_stamps : (chunks : List (List SegRec)) → segment_stamps (map (map given_segment) chunks) ≡ map segment_gives (flat chunks)
all_stamps [] = refl
all_stamps (chunk ∷ chunks) = ap₂ (λ (xs ys : List GivenStamps). xs ++ ys) (stamps_of_chunk chunk) (all_stamps chunks) ∙ map-both segment_gives chunk (flat chunks)

-- ---- form

-- a chunk of sound segments, at least one
abbrev pub IsChunk : Bounds → List SegRec → Type 0
IsChunk b chunk = (not_empty chunk ≡ Some chunk) × AllByRecursion (IsSound b) chunk

chunk-with_segment : (b : Bounds) (p : ℕ) (seg : SegRec) (chunks : List (List SegRec)) → IsSound b seg → AllByRecursion (IsChunk b) chunks → AllByRecursion (IsChunk b) (with_segment p seg chunks)
chunk-with_segment b p seg [] h k = ((refl, (h, tt)), tt)
chunk-with_segment b zero seg (chunk ∷ chunks) h k = ((refl, (h, tt)), k)
chunk-with_segment b (suc p) seg (chunk ∷ chunks) h k = ((refl, (h, k.0.1)), k.1)

pub are_chunks : (b : Bounds) (p : ℕ) (segs : List SegRec) → AllByRecursion (IsSound b) segs → AllByRecursion (IsChunk b) (chunks_from p segs)
are_chunks b p [] h = tt
are_chunks b p (seg ∷ segs) h = chunk-with_segment b (place_behind p seg) seg (chunks_from (place_behind p seg) segs) h.0 (are_chunks b (place_behind p seg) segs h.1)

not_empty-map : (chunk : List SegRec) → not_empty chunk ≡ Some chunk → not_empty (map given_segment chunk) ≡ Some (map given_segment chunk)
not_empty-map [] h = (cc)
not_empty-map (seg ∷ segs) h = refl

chunk_back : (b : Bounds) → AreCounts b → (chunk : List SegRec) → IsChunk b chunk → chunk_form 2 (written_chunk chunk) ≡ Some (map given_segment chunk)
chunk_back b c chunk h =
    rw (items_written written_segment_record chunk, each_of_back (segment_form 2) written_segment_record given_segment (IsSound b) (segment_back b c) chunk h.1, not_empty-map chunk h.0)

pub text_back : (b : Bounds) → AreCounts b → (segs : List SegRec) → AllByRecursion (IsSound b) segs
    → text_form 2 (array (written_items written_chunk (chunks_from 0 segs))) ≡ Some (map (map given_segment) (chunks_from 0 segs))
text_back b c segs h =
    rw (items_written written_chunk (chunks_from 0 segs), each_of_back (chunk_form 2) written_chunk (map given_segment) (IsChunk b) (chunk_back b c) (chunks_from 0 segs) (are_chunks b 0 segs h))

-- ---- lengths

abbrev IsWithin : List SegRec → Type 0
IsWithin chunk = text_length chunk ≤ chunk_length

-- chunks that are not too long, where p elements stand in the first one before these
abbrev AreWithin : ℕ → List (List SegRec) → Type 0
AreWithin p [] = ⊤
AreWithin p (chunk ∷ chunks) = (p + text_length chunk ≤ chunk_length) × AllByRecursion IsWithin chunks

from_the_start : (chunks : List (List SegRec)) → AreWithin 0 chunks → AllByRecursion IsWithin chunks
from_the_start [] h = tt
from_the_start (chunk ∷ chunks) h = (omega (arith, h.0), h.1)

place_within : (p n : ℕ) (full : Bool) → nat_eq (p + n) chunk_length ≡ full → p + n ≤ chunk_length → (q : ℕ) → q ≡ cond full 0 (p + n) → (q ≡ 0) ⊎ (q ≡ p + n)
place_within p n true h k q e = inl e
place_within p n false h k q e = inr e

within-with_segment : (p q : ℕ) (seg : SegRec) (chunks : List (List SegRec)) → p + body_length seg.body ≤ chunk_length → (q ≡ 0) ⊎ (q ≡ p + body_length seg.body) → AreWithin q chunks
    → AreWithin p (with_segment q seg chunks)
within-with_segment p q seg [] h e k = (omega (arith, h), tt)
within-with_segment p zero seg (chunk ∷ chunks) h e k = (omega (arith, h), from_the_start (chunk ∷ chunks) k)
within-with_segment p (suc q) seg (chunk ∷ chunks) h (inl e) k = (cc)
within-with_segment p (suc q) seg (chunk ∷ chunks) h (inr e) k = (omega (arith, e, k.0), k.1)

lengths_from : (p : ℕ) (segs : List SegRec) → are_cut_from p segs ≡ true → AreWithin p (chunks_from p segs)
lengths_from p [] h = tt
lengths_from p (seg ∷ segs) h =
    let q = place_behind p seg in
    let parts = all_three (nat_le (p + body_length seg.body) chunk_length) (ends_before q seg segs) (are_cut_from q segs) h in
    let fits = leb-true (p + body_length seg.body) chunk_length parts.0 in
    within-with_segment p q seg (chunks_from q segs) fits (place_within p (body_length seg.body) _ refl fits q refl) (lengths_from q segs parts.2)

given_length-same : (chunk : List SegRec) → given_length (map given_segment chunk) ≡ text_length chunk
given_length-same [] = refl
given_length-same (seg ∷ segs) = ap (λ n. body_length seg.body + n) (given_length-same segs)

lengths_back : (chunks : List (List SegRec)) → AllByRecursion IsWithin chunks → read_each within_chunk (map given_length (map (map given_segment) chunks)) ≡ Ok (map text_length chunks)
lengths_back [] h = refl
lengths_back (chunk ∷ chunks) h = rw (given_length-same chunk, le-ltb chunk_length (text_length chunk) h.0, lengths_back chunks h.1)

pub chunk_lengths_back : (segs : List SegRec) → are_cut_from 0 segs ≡ true
    → read_each within_chunk (map given_length (map (map given_segment) (chunks_from 0 segs))) ≡ Ok (map text_length (chunks_from 0 segs))
chunk_lengths_back segs h = lengths_back (chunks_from 0 segs) (from_the_start (chunks_from 0 segs) (lengths_from 0 segs h))
