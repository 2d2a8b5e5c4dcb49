-- The summary of an idle client is cut as what is written: its text into chunks, and these, rows and columns into segments and
-- runs that are as long as they can be.
use Rattle.std.proofs.Common.{◌≡◌, ◌≢◌, ℕ, zero, suc, ◌+◌, ◌<◌, ◌≤◌, Bool, true, false, cond, not, ◌&&◌, nat_eq, nat_le, List, [], ◌∷◌, ◌++◌, ◌%◌, ◌==◌, length, map, refl, sym, ◌∙◌, ap, subst, arith}
use Rattle.std.specs.List.{list_all}
use Rattle.std.proofs.lemmas.List.{length-append}
use Rattle.std.proofs.lemmas.Bool.Decides.{nat_tests}
use Rattle.ft_base.proofs.Booleans.{both}
use Rattle.ft_sumdoc.specs.declared.summary.Mark.{Mark}
use Rattle.ft_sumdoc.specs.declared.summary.RunRec.{RunRec}
use Rattle.ft_sumdoc.specs.declared.summary.Seg.{Seg}
use Rattle.ft_sumdoc.specs.declared.summary.Seg.TheVariants.{Chars, Marker}
use Rattle.ft_sumdoc.specs.declared.summary.SegRec.{SegRec}
use Rattle.ft_sumdoc.specs.Chunks.{chunk_length, place_behind}
use Rattle.ft_sumdoc.specs.Forms.{rises}
use Rattle.ft_sumdoc.specs.Segments.{body_length}
use Rattle.ft_sumdoc.specs.WellFormed.{are_alike, are_characters, are_cut_from, differ, ends_before, same_props, same_stamps}
use Rattle.ft_sumdoc.specs.Stamps.{same_mark}
use Rattle.ft_props.specs.Element.{Character, ElementContent, GridUnit, ListElement, MarkerOf}
use Rattle.ft_marks.specs.Marks.{mark_of}
use Rattle.ft_msg.specs.SummaryOf.{element_body, extended_unit_runs, extended_segments, joined_bodies, segment_of, segments_from, unit_runs}
use Rattle.ft_laws_summaries.proofs.SummaryLists.{is_authored, is_of_text, is_plain, is_settled}

-- ---- places in chunks

-- the place in its chunk behind the one with this place
abbrev behind_place : ℕ → ℕ
behind_place p = cond (nat_eq (p + 1) chunk_length) 0 (p + 1)

place-behind : (i : ℕ) → behind_place (i % chunk_length) ≡ (i + 1) % chunk_length
place-behind i = by (nat_eq (i % 10000 + 1) 10000) refl
  where
    by : (b : Bool) → nat_eq (i % 10000 + 1) 10000 ≡ b → cond b 0 (i % 10000 + 1) ≡ (i + 1) % 10000
    by true h = let e : i % 10000 + 1 ≡ 10000 = grind (arith, nat_tests) in omega (arith, e)
    by false h = let e : i % 10000 + 1 ≢ 10000 = grind (arith, nat_tests) in omega (arith, e)

place-below : (i : ℕ) → i % chunk_length < chunk_length
place-below i = omega arith

-- ---- segments

one-behind : (p : ℕ) (s : SegRec) → body_length s.body ≡ 1 → place_behind p s ≡ behind_place p
one-behind p s o = ap (λ n. cond (nat_eq (p + n) chunk_length) 0 (p + n)) o

one-fits : (p : ℕ) (s : SegRec) → p < chunk_length → body_length s.body ≡ 1 → nat_le (p + body_length s.body) chunk_length ≡ true
one-fits p s l o = fits (p + body_length s.body) (omega (arith, l, o))
  where
    fits : (n : ℕ) → n ≤ chunk_length → nat_le n chunk_length ≡ true
    fits n k = grind (arith, nat_tests)

-- the next place, where no chunk ends
next-place : (p q : ℕ) → behind_place p ≡ q → (q == 0) ≡ false → q ≡ p + 1
next-place p q n e = by (nat_eq (p + 1) chunk_length) n
  where
    by : (b : Bool) → cond b 0 (p + 1) ≡ q → q ≡ p + 1
    by true g = absurd (grind (arith, nat_tests))
    by false g = sym g

pub one-element : (c : ElementContent) → is_of_text c ≡ true → body_length (element_body c) ≡ 1
one-element (Character c) h = refl
one-element (MarkerOf r) h = refl
one-element GridUnit h = (cc)

not-alike : (a b c d : Bool) → a ≡ false → a && b && c && d ≡ true → ⊥
not-alike true b c d e h = (cc)
not-alike false b c d e h = (cc)

-- the characters of a segment change
same-characters : (xs ys : List ℕ) (b : Seg) → are_characters (Chars xs) b ≡ are_characters (Chars ys) b
same-characters xs ys (Chars zs) = refl
same-characters xs ys (Marker r) = refl

same-ends : (p : ℕ) (s : SegRec) (xs ys : List ℕ) (segs : List SegRec) → ends_before p (record s { body = Chars xs }) segs ≡ ends_before p (record s { body = Chars ys }) segs
same-ends p s xs ys [] = refl
same-ends zero s xs ys (next ∷ segs) = refl
same-ends (suc p) s xs ys (next ∷ segs) =
    ap (λ b. not (b && same_props s.props next.props && same_mark s.by next.by && same_stamps s.ins s.dels next.ins next.dels)) (same-characters xs ys next.body)

-- the first segment gets a character more
longer-cut : (p q : ℕ) (s : SegRec) (front text : List ℕ) (segs : List SegRec) → length front ≡ 1 → q ≡ p + 1
    → are_cut_from q (record s { body = Chars text } ∷ segs) ≡ true → are_cut_from p (record s { body = Chars (front ++ text) } ∷ segs) ≡ true
longer-cut p q s front text segs o e h = rw (ap (λ n. nat_le n chunk_length) n, ap (λ n. cond (nat_eq n chunk_length) 0 n) n, same-ends at s (front ++ text) text segs) h
  where
    n : p + length (front ++ text) ≡ q + length text
    n = omega (arith, length-append front text, o, e)

    at : ℕ
    at = cond (nat_eq (q + length text) chunk_length) 0 (q + length text)

-- a segment of one element before others, where the place of these is q
extended-cut : (p q : ℕ) (ends : Bool) (s : SegRec) (segs : List SegRec) → p < chunk_length → behind_place p ≡ q → (q == 0) ≡ ends → body_length s.body ≡ 1
    → are_cut_from q segs ≡ true → are_cut_from p (extended_segments ends s segs) ≡ true
extended-cut p q ends s [] l n t o h = rw (one-fits p s l o) refl
extended-cut p q ends s (next ∷ segs) l n t o h = by ends t
  where
    apart : (b : Bool) → ends_before q s (next ∷ segs) ≡ b → b ≡ true → are_cut_from p (s ∷ next ∷ segs) ≡ true
    apart b e g =
        subst (λ r. nat_le (p + body_length s.body) chunk_length && ends_before r s (next ∷ segs) && are_cut_from r (next ∷ segs) ≡ true)
        (sym (one-behind p s o ∙ n)) (rw (one-fits p s l o, e, g, h) refl)

    ends-at : (r : ℕ) → (r == 0) ≡ true → ends_before r s (next ∷ segs) ≡ true
    ends-at zero e = refl
    ends-at (suc r) e = absurd (grind (arith, nat_tests))

    ends-between : (r : ℕ) → (r == 0) ≡ false → ends_before r s (next ∷ segs) ≡ not (are_alike s next)
    ends-between zero e = absurd (grind (arith, nat_tests))
    ends-between (suc r) e = refl

    unlike : are_characters s.body next.body ≡ false → are_alike s next ≡ true → ⊥
    unlike e g =
        not-alike (are_characters s.body next.body) (same_props s.props next.props) (same_mark s.by next.by) (same_stamps s.ins s.dels next.ins next.dels) e g

    joined : (a b : Seg) → s.body ≡ a → next.body ≡ b → (q == 0) ≡ false → are_alike s next ≡ true
        → are_cut_from p (record next { body = joined_bodies a b } ∷ segs) ≡ true
    joined (Chars front) (Chars text) ea eb e g =
        longer-cut p q next front text segs (ap body_length (sym ea) ∙ o) (next-place p q n e)
        (subst (λ (b : Seg). are_cut_from q (record next { body = b } ∷ segs) ≡ true) eb h)
    joined (Marker r) b ea eb e g = absurd (unlike (ap (λ (c : Seg). are_characters c next.body) ea) g)
    joined (Chars front) (Marker r) ea eb e g =
        absurd (unlike (ap (λ (c : Seg). are_characters c next.body) ea ∙ ap (are_characters (Chars front)) eb) g)

    alike : (a : Bool) → are_alike s next ≡ a → (q == 0) ≡ false
        → are_cut_from p (cond a (record next { body = joined_bodies s.body next.body } ∷ segs) (s ∷ next ∷ segs)) ≡ true
    alike true g e = joined s.body next.body refl refl e g
    alike false g e = apart (not (are_alike s next)) (ends-between q e) (ap not g)

    by : (b : Bool) → (q == 0) ≡ b → are_cut_from p (extended_segments b s (next ∷ segs)) ≡ true
    by true e = apart true (ends-at q e) refl
    by false e = alike (are_alike s next) refl e

-- the segments of elements of the text, the first of which has the place i
segments-cut : (i : ℕ) (xs : List ListElement) → list_all is_plain xs ≡ true → are_cut_from (i % chunk_length) (segments_from i xs) ≡ true
segments-cut i [] h = refl
segments-cut i (e ∷ xs) h =
    let p = both (is_plain e) (list_all is_plain xs) h in
    let text = both (is_settled e) (is_authored e.by && is_of_text e.content) p.0 in
    extended-cut (i % chunk_length) ((i + 1) % chunk_length) ((i + 1) % chunk_length == 0) (segment_of e) (segments_from (i + 1) xs) (place-below i)
    (place-behind i) refl (one-element e.content (both (is_authored e.by) (is_of_text e.content) text.1).1) (segments-cut (i + 1) xs p.1)

pub text-cut : (xs : List ListElement) → list_all is_plain xs ≡ true → are_cut_from 0 (segments_from 0 xs) ≡ true
text-cut xs h = segments-cut 0 xs h

-- ---- runs

extended-differ : (ins : Mark) (dels : List Mark) (runs : List RunRec) → rises differ runs ≡ true → rises differ (extended_unit_runs ins dels runs) ≡ true
extended-differ ins dels [] h = refl
extended-differ ins dels (run ∷ runs) h = by (same_stamps ins dels run.ins run.dels) refl
  where
    longer : (rest : List RunRec) → rises differ (run ∷ rest) ≡ true → rises differ (record run { count = run.count + 1 } ∷ rest) ≡ true
    longer [] g = refl
    longer (next ∷ rest) g = g

    by : (b : Bool) → same_stamps ins dels run.ins run.dels ≡ b
        → rises differ (cond b (record run { count = run.count + 1 } ∷ runs) (record { count = 1; ins = ins; dels = dels } ∷ run ∷ runs)) ≡ true
    by true e = longer runs h
    by false e = rw (e, h) refl

pub units-differ : (xs : List ListElement) → rises differ (unit_runs xs) ≡ true
units-differ [] = refl
units-differ (e ∷ xs) = extended-differ (mark_of e.ins) (map mark_of e.dels) (unit_runs xs) (units-differ xs)
