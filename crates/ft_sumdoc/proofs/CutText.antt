-- A text is cut into chunks from the front: its first chunk, and then those of the rest.
use Rattle.std.proofs.Common.{◌≡◌, ℕ, zero, suc, ◌+◌, ◌≤◌, ◌<◌, Bool, true, false, cond, nat_eq, List, [], ◌∷◌, ◌++◌, length, map, refl, sym, ap, ◌∙◌, append_assoc, arith}
use Rattle.std.specs.List.{AllByRecursion}
use Rattle.serde_json.specs.View.{view}
use Rattle.serde_json.specs.declared.value.Value.{Value}
use Rattle.ft_sumdoc.specs.declared.summary.SegRec.{SegRec}
use Rattle.ft_sumdoc.specs.Chunks.{chunk_length, chunks_from, place_behind, with_segment}
use Rattle.ft_sumdoc.specs.Segments.{body_length, text_length}
use Rattle.ft_sumdoc.specs.Written.{written_chunk}
use Rattle.ft_sumdoc.proofs.ReadChunks.{map-both}

-- the chunks with these segments before the first
abbrev pub before_first : List SegRec → List (List SegRec) → List (List SegRec)
before_first [] chunks = chunks
before_first (seg ∷ segs) [] = (seg ∷ segs) ∷ []
before_first (seg ∷ segs) (chunk ∷ chunks) = (seg ∷ segs ++ chunk) ∷ chunks

-- these are the chunks so far, and place p is the one behind them
pub record IsCutSoFar (p : ℕ) (done rest all : List SegRec) : Type 0 where
  pub chunks : before_first done (chunks_from p rest) ≡ chunks_from 0 all
  pub elements : p + text_length rest ≤ text_length all

grows : (done : List SegRec) (q : ℕ) (seg : SegRec) (chunks : List (List SegRec)) → before_first done (with_segment (suc q) seg chunks) ≡ before_first (done ++ seg ∷ []) chunks
grows [] q seg [] = refl
grows [] q seg (chunk ∷ chunks) = refl
grows (first ∷ done) q seg [] = refl
grows (first ∷ done) q seg (chunk ∷ chunks) = ap (λ (segs : List SegRec). (first ∷ segs) ∷ chunks) (sym (append_assoc done (seg ∷ []) chunk))

ends : (done : List SegRec) (seg : SegRec) (chunks : List (List SegRec)) → before_first done (with_segment 0 seg chunks) ≡ (done ++ seg ∷ []) ∷ chunks
ends [] seg [] = refl
ends [] seg (chunk ∷ chunks) = refl
ends (first ∷ done) seg [] = refl
ends (first ∷ done) seg (chunk ∷ chunks) = refl

grows_behind : (done : List SegRec) (p : ℕ) (seg : SegRec) (chunks : List (List SegRec)) → (p ≡ 0 → ⊥) → before_first done (with_segment p seg chunks) ≡ before_first (done ++ seg ∷ []) chunks
grows_behind done zero seg chunks h = absurd (h refl)
grows_behind done (suc q) seg chunks h = grows done q seg chunks

least : (p n : ℕ) (full : Bool) → cond full 0 (p + n) ≤ p + n
least p n true = omega arith
least p n false = omega arith

pub cut_goes_on : (p : ℕ) (done : List SegRec) (seg : SegRec) (rest all : List SegRec) → IsCutSoFar p done (seg ∷ rest) all → (place_behind p seg ≡ 0 → ⊥) → IsCutSoFar (place_behind p seg) (done ++ seg ∷ []) rest all
cut_goes_on p done seg rest all h k = record {
  chunks = sym (grows_behind done (place_behind p seg) seg (chunks_from (place_behind p seg) rest) k) ∙ h.chunks;
  elements = omega (arith, least p (body_length seg.body) (nat_eq (p + body_length seg.body) chunk_length), h.elements);
}

pub cut_ends : (p : ℕ) (done : List SegRec) (seg : SegRec) (rest all : List SegRec) → IsCutSoFar p done (seg ∷ rest) all → place_behind p seg ≡ 0 → chunks_from 0 all ≡ (done ++ seg ∷ []) ∷ chunks_from 0 rest
cut_ends p done seg rest all h k =
    sym h.chunks ∙ ap (λ (q : ℕ). before_first done (with_segment q seg (chunks_from q rest))) k ∙ ends done seg (chunks_from 0 rest)

pub cut_at_end : (p : ℕ) (all : List SegRec) → 0 < length all → IsCutSoFar p all [] all → chunks_from 0 all ≡ all ∷ []
cut_at_end p [] some h = absurd (omega arith)
cut_at_end p (seg ∷ segs) some h = sym h.chunks

-- ---- lists in two parts

pub all_split : {A : Type 0} (P : A → Type 0) (xs ys : List A) → AllByRecursion P (xs ++ ys) → AllByRecursion P xs × AllByRecursion P ys
all_split P [] ys h = (tt, h)
all_split P (x ∷ xs) ys h = let rest = all_split P xs ys h.1 in ((h.0, rest.0), rest.1)

pub all_join : {A : Type 0} (P : A → Type 0) (xs ys : List A) → AllByRecursion P xs → AllByRecursion P ys → AllByRecursion P (xs ++ ys)
all_join P [] ys h k = k
all_join P (x ∷ xs) ys h k = (h.0, all_join P xs ys h.1 k)

pub length_split : (xs ys : List SegRec) → text_length (xs ++ ys) ≡ text_length xs + text_length ys
length_split [] ys = omega arith
length_split (x ∷ xs) ys = omega (arith, length_split xs ys)

-- one more chunk is written
pub chunk_written : (vs : List Value) (v : Value) (chunk : List SegRec) (rest all : List (List SegRec)) → view v ≡ written_chunk chunk → map view vs ++ map written_chunk (chunk ∷ rest) ≡ map written_chunk all
    → map view (vs ++ v ∷ []) ++ map written_chunk rest ≡ map written_chunk all
chunk_written vs v chunk rest all e h =
    ap (λ ds. ds ++ map written_chunk rest) (sym (map-both view vs (v ∷ [])))
    ∙ append_assoc (map view vs) (view v ∷ []) (map written_chunk rest)
    ∙ ap (λ d. map view vs ++ d ∷ map written_chunk rest) e ∙ h
