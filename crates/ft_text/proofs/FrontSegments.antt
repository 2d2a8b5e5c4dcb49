-- Segments that are made from the leaves of a text in order: one element more, a marker, characters, many elements.
use Rattle.std.proofs.Common.{◌≡◌, ℕ, ◌+◌, ◌%◌, ◌==◌, Bool, true, false, not, cond, ◌&&◌, List, [], ◌∷◌, ◌++◌, Option, Some, None, refl, sym, ◌∙◌, ap, append_assoc, append-nil, map}
use Rattle.ft_sumdoc.specs.declared.summary.Seg.{Seg}
use Rattle.ft_sumdoc.specs.declared.summary.Seg.TheVariants.{Chars, Marker}
use Rattle.ft_sumdoc.specs.declared.summary.SegRec.{SegRec}
use Rattle.ft_sumdoc.specs.Chunks.{chunk_length}
use Rattle.ft_sumdoc.specs.Stamps.{same_mark}
use Rattle.ft_sumdoc.specs.WellFormed.{are_alike, are_characters, same_props, same_stamps}
use Rattle.ft_msg.specs.OpenSegments.{ended_segments, open_segment}
use Rattle.ft_msg.specs.SummaryOf.{joined}
use Rattle.ft_msg.proofs.FrontSegments.{extended-next}
use Rattle.ft_text.specs.Saved.{Adds, headed, joined_behind, joined_from, whole}
use Rattle.ft_text.specs.declared.segments.Head.{Head}
use Rattle.ft_text.specs.declared.segments.Segments.{Segments}

joined-next : (i : ℕ) (last : Option SegRec) (seg : SegRec) (segs : List SegRec)
    → joined_behind i last (seg ∷ segs) ≡ ended_segments (i % chunk_length == 0) last seg
    ++ joined_behind (i + 1) (Some (open_segment (i % chunk_length == 0) last seg)) segs
joined-next i None seg segs = refl
joined-next i (Some last) seg segs = extended-next (i % chunk_length == 0) ((i + 1) % chunk_length == 0) last seg (joined_from (i + 1) segs)

-- the segments so far with one element more, whose segment joins the last one or ends it
pub adds-next : (seg : SegRec) (old : Segments) (given : Option SegRec) (list : List SegRec) (count : ℕ) (now : SegRec) → given ≡ old.last
    → count ≡ old.count + 1
    → list ≡ old.list ++ ended_segments (old.count % chunk_length == 0) given seg → now ≡ open_segment (old.count % chunk_length == 0) given seg
    → Adds (seg ∷ []) old (record { list = list; last = Some now; count = count })
adds-next seg old given list count now same counted listed opened = record {
  goes = λ more.
      let begins = old.count % chunk_length == 0 in
      let then_open = open_segment begins given seg in
      ap (λ n. list ++ joined_behind n (Some now) more) counted
      ∙ ap (λ s. list ++ joined_behind (old.count + 1) (Some s) more) opened
      ∙ ap (λ xs. xs ++ joined_behind (old.count + 1) (Some then_open) more) listed
      ∙ append_assoc old.list (ended_segments begins given seg) (joined_behind (old.count + 1) (Some then_open) more)
      ∙ ap (λ ys. old.list ++ ys) (sym (joined-next old.count given seg more))
      ∙ ap (λ o. old.list ++ joined_behind old.count o (seg ∷ more)) same;
}

-- ---- markers

abbrev a_marker : Head → ℕ → SegRec
a_marker h ref_type = headed h (Marker ref_type)

no-characters : (b : Seg) (ref_type : ℕ) → are_characters b (Marker ref_type) ≡ false
no-characters (Chars s) ref_type = refl
no-characters (Marker m) ref_type = refl

none-joins : (b : Bool) → (not b && false) ≡ false
none-joins true = refl
none-joins false = refl

unlike : (begins : Bool) (last : SegRec) (h : Head) (ref_type : ℕ) → (not begins && are_alike last (a_marker h ref_type)) ≡ false
unlike begins last h ref_type =
    ap (λ c. not begins && (c && same_props last.props h.props && same_mark last.by h.by && same_stamps last.ins last.dels h.ins h.dels)) (no-characters last.body ref_type)
    ∙ none-joins begins

-- a marker ends the last segment
pub marker-ended : (h : Head) (ref_type : ℕ) (begins : Bool) (given : Option SegRec) (old new : List SegRec) → (given ≡ None → new ≡ old)
    → ((seg : SegRec) → given ≡ Some seg → new ≡ old ++ seg ∷ []) → new ≡ old ++ ended_segments begins given (a_marker h ref_type)
marker-ended h ref_type begins None old new none some = none refl ∙ sym (append-nil old)
marker-ended h ref_type begins (Some last) old new none some = some last refl ∙ ap (λ b. old ++ cond b [] (last ∷ [])) (sym (unlike begins last h ref_type))

pub marker-opened : (h : Head) (ref_type : ℕ) (begins : Bool) (given : Option SegRec) → a_marker h ref_type ≡ open_segment begins given (a_marker h ref_type)
marker-opened h ref_type begins None = refl
marker-opened h ref_type begins (Some last) =
    ap (λ b. cond b (joined last (a_marker h ref_type)) (a_marker h ref_type)) (sym (unlike begins last h ref_type))

-- ---- characters

pub any-characters : (b : Seg) (s t : List ℕ) → are_characters b (Chars s) ≡ are_characters b (Chars t)
any-characters (Chars u) s t = refl
any-characters (Marker m) s t = refl

-- ---- many elements

-- all elements, of which the rest is ahead
pub record IsAhead (f : ℕ → SegRec) (all rest : List ℕ) (start now : Segments) : Type 0 where
  pub goes : (more : List SegRec) → whole now (map f rest ++ more) ≡ whole start (map f all ++ more)

pub ahead-begin : (f : ℕ → SegRec) (all : List ℕ) (start : Segments) → IsAhead f all all start start
ahead-begin f all start = record { goes = λ more. refl }

pub ahead-next : (f : ℕ → SegRec) (all rest behind : List ℕ) (c : ℕ) (start old new : Segments) → IsAhead f all rest start old
    → rest ≡ c ∷ behind → Adds (f c ∷ []) old new
    → IsAhead f all behind start new
ahead-next f all rest behind c start old new h e a = record {
  goes = λ more.
      a.goes (map f behind ++ more) ∙ ap (λ cs. whole old (map f cs ++ more)) (sym e) ∙ h.goes more;
}

pub ahead-done : (f : ℕ → SegRec) (all rest : List ℕ) (start now : Segments) → IsAhead f all rest start now → rest ≡ [] → Adds (map f all) start now
ahead-done f all rest start now h e = record { goes = λ more. ap (λ cs. whole now (map f cs ++ more)) (sym e) ∙ h.goes more }
