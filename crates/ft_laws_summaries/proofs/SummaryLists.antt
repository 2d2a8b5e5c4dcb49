-- The lists that the summary of an idle client gives are those of its trimmed document, but for names.
use Rattle.std.proofs.Common.{◌≡◌, ℕ, zero, suc, ◌+◌, Bool, true, false, cond, not, ◌&&◌, nat_le, List, [], ◌∷◌, ◌++◌, append_assoc, add-one, ◌%◌, ◌==◌, map, flat_map, length, replicate, Option, Some, None, refl, sym, ◌∙◌, ap}
use Rattle.std.specs.List.{list_all}
use Rattle.std.proofs.lemmas.List.{map-append}
use Rattle.ft_base.proofs.Booleans.{all_four, all_three, both}
use Rattle.ft_base.specs.declared.stamps.Stamp.{Stamp}
use Rattle.ft_base.specs.declared.stamps.Stamp.TheVariants.{Acked, Local}
use Rattle.ft_base.specs.Visibility.{is_acked}
use Rattle.ft_sumdoc.specs.declared.summary.Mark.{Mark}
use Rattle.ft_sumdoc.specs.declared.summary.Seg.{Seg}
use Rattle.ft_sumdoc.specs.declared.summary.Seg.TheVariants.{Chars, Marker}
use Rattle.ft_sumdoc.specs.declared.summary.SegRec.{SegRec}
use Rattle.ft_sumdoc.specs.declared.summary.RunRec.{RunRec}
use Rattle.ft_props.specs.Properties.{PropertyList}
use Rattle.ft_props.specs.declared.properties.Changes.{Changes}
use Rattle.ft_props.specs.Element.{Character, ElementContent, GridUnit, ListElement, MarkerOf, NamelessElement, nameless, new_elements}
use Rattle.ft_props.specs.Properties.{apply}
use Rattle.ft_props.specs.Element.{is_pending, seen_by, with_annotation, with_removal}
use Rattle.ft_props.specs.Compaction.{is_collectable, is_insertion_at_or_below, trim_element, with_universal_insertion}
use Rattle.ft_base.specs.Scan.{at, len, retain_map}
use Rattle.ft_op.specs.declared.operations.Seg.{Seg as OpSegment}
use Rattle.ft_op.specs.declared.operations.Seg.TheVariants as segments
use Rattle.ft_op.specs.declared.operations.BaseOp.TheVariants.{Insert, Remove, Annotate}
use Rattle.ft_op.specs.declared.operations.CellOp.TheVariants.{SpliceIn, SpliceOut, Set}
use Rattle.ft_op.specs.declared.operations.Target.TheVariants.{Rows, Cols}
use Rattle.ft_op.specs.Operation.{OnGrid, OnIntervals, OnText, SubOperation, segment_contents, sub_operations}
use Rattle.ft_op.specs.Document.{Document, cell_effect, effect, effects, empty, ends_of, given_ends_fit, with_skip}
use Rattle.ft_msg.specs.declared.messages.Body.{Body}
use Rattle.ft_msg.specs.declared.messages.Body.TheVariants.{Nothing, Op, Elsewhere}
use Rattle.ft_msg.specs.declared.messages.Entry.{Entry}
use Rattle.ft_msg.specs.Agreed.{agreed, body_effect, reference_number, take_entries, take_entry}
use Rattle.ft_msg.specs.Summary.{trim}
use Rattle.ft_laws_agreement.proofs.HeldNames.{all-append, all-put, all-range}
use Rattle.ft_marks.specs.Marks.{author_mark, mark_of, stamp_of}
use Rattle.ft_msg.specs.Summary.{run_items, segment_bodies, segment_items}
use Rattle.ft_sumdoc.specs.Chunks.{chunk_length}
use Rattle.ft_sumdoc.specs.Stamps.{same_mark}
use Rattle.ft_sumdoc.specs.WellFormed.{same_props, same_stamps}
use Rattle.ft_msg.specs.SummaryOf.{element_body, extended_unit_runs, extended_segments, segment_of, segments_from, unit_runs}
use Rattle.ft_marks.proofs.SameStamps.{same_mark-Decides, same_props-Decides, stamps_are_same}

-- ---- what segments hold

-- an element of a segment, without its name
abbrev pub bare : Stamp → List Stamp → Option Stamp → PropertyList → ElementContent → NamelessElement
bare ins dels by props b = record { content = b; stamps = record { ins = ins; dels = dels ++ [] }; by = by; props = props; pending = [] }

new-bare : (n : ℕ) (ins : Stamp) (dels : List Stamp) (by : Option Stamp) (props : PropertyList) (bs : List ElementContent)
    → map nameless (new_elements n ins dels by props bs) ≡ map (bare ins dels by props) bs
new-bare n ins dels by props [] = refl
new-bare n ins dels by props (b ∷ bs) = ap (λ es. bare ins dels by props b ∷ es) (new-bare (n + 1) ins dels by props bs)

-- the elements of a segment
abbrev pub held_by : SegRec → List NamelessElement
held_by s = map (bare (stamp_of s.ins) (map stamp_of s.dels) (Some (stamp_of s.by)) s.props) (segment_bodies s.body)

segments-hold : (n : ℕ) (segs : List SegRec) → map nameless (segment_items n segs) ≡ flat_map held_by segs
segments-hold n [] = refl
segments-hold n (s ∷ segs) =
    map-append nameless (new_elements n (stamp_of s.ins) (map stamp_of s.dels) (Some (stamp_of s.by)) s.props (segment_bodies s.body))
    (segment_items (n + length (segment_bodies s.body)) segs)
    ∙ (ap (λ es. es ++ map nameless (segment_items (n + length (segment_bodies s.body)) segs))
    (new-bare n (stamp_of s.ins) (map stamp_of s.dels) (Some (stamp_of s.by)) s.props (segment_bodies s.body))
    ∙ ap (λ es. held_by s ++ es) (segments-hold (n + length (segment_bodies s.body)) segs))

-- whether two segments differ in nothing but what they hold
abbrev alike_beside : SegRec → SegRec → Bool
alike_beside a b = same_props a.props b.props && same_mark a.by b.by && same_stamps a.ins a.dels b.ins b.dels

-- what segments hold that differ in nothing else is the same
alike-hold : (a b : SegRec) (c : Seg) → alike_beside a b ≡ true → held_by (record a { body = c }) ≡ held_by (record b { body = c })
alike-hold a b c h =
    let p = all_three (same_props a.props b.props) (same_mark a.by b.by) (same_stamps a.ins a.dels b.ins b.dels) h in
    let stamps = stamps_are_same a.ins b.ins a.dels b.dels p.2 in
    let props = (same_props-Decides a.props b.props).0 p.0 in
    let by = (same_mark-Decides a.by b.by).0 p.1 in
    ap (λ (z : PropertyList). held_by (record { body = c; props = z; by = a.by; ins = a.ins; dels = a.dels })) props
    ∙ (ap (λ (z : Mark). held_by (record { body = c; props = b.props; by = z; ins = a.ins; dels = a.dels })) by
    ∙ (ap (λ (z : Mark). held_by (record { body = c; props = b.props; by = b.by; ins = z; dels = a.dels })) stamps.0
    ∙ ap (λ (z : List Mark). held_by (record { body = c; props = b.props; by = b.by; ins = b.ins; dels = z })) stamps.1))

-- a segment put before others adds what it holds
extended-hold : (ends : Bool) (s : SegRec) (segs : List SegRec) → flat_map held_by (extended_segments ends s segs) ≡ held_by s ++ flat_map held_by segs
extended-hold ends s [] = refl
extended-hold ends s (next ∷ segs) = by ends s.body next.body
  where
    text-joined : (front text : List ℕ) → alike_beside s next ≡ true → held_by (record next { body = Chars (front ++ text) })
        ≡ held_by (record s { body = Chars front }) ++ held_by (record next { body = Chars text })
    text-joined front text h =
        let make = bare (stamp_of next.ins) (map stamp_of next.dels) (Some (stamp_of next.by)) next.props in
        ap (map (bare (stamp_of next.ins) (map stamp_of next.dels) (Some (stamp_of next.by)) next.props)) (map-append (λ c. Character c) front text)
        ∙ (map-append (bare (stamp_of next.ins) (map stamp_of next.dels) (Some (stamp_of next.by)) next.props) (map (λ c. Character c) front) (map (λ c. Character c) text)
        ∙ ap (λ es. es ++ held_by (record next { body = Chars text })) (sym (alike-hold s next (Chars front) h)))

    joined : (front text : List ℕ) (t : Bool) → alike_beside s next ≡ t
        → flat_map held_by (cond t (record next { body = Chars (front ++ text) } ∷ segs) (record s { body = Chars front } ∷ record next { body = Chars text } ∷ segs))
        ≡ held_by (record s { body = Chars front }) ++ (held_by (record next { body = Chars text }) ++ flat_map held_by segs)
    joined front text false e = refl
    joined front text true e =
        ap (λ es. es ++ flat_map held_by segs) (text-joined front text e)
        ∙ append_assoc (held_by (record s { body = Chars front })) (held_by (record next { body = Chars text })) (flat_map held_by segs)

    by : (e : Bool) (b c : Seg)
        → flat_map held_by (extended_segments e (record s { body = b }) (record next { body = c } ∷ segs))
        ≡ held_by (record s { body = b }) ++ (held_by (record next { body = c }) ++ flat_map held_by segs)
    by true b c = refl
    by false (Marker r) c = refl
    by false (Chars front) (Marker r) = refl
    by false (Chars front) (Chars text) = joined front text (alike_beside s next) refl

-- ---- elements as messages make them

abbrev pub is_none : {A : Type 0} → Option A → Bool
is_none None = true
is_none (Some x) = false

abbrev pub is_empty : {A : Type 0} → List A → Bool
is_empty [] = true
is_empty (x ∷ xs) = false

abbrev pub is_authored : Option Stamp → Bool
is_authored None = false
is_authored (Some t) = is_acked t

abbrev pub is_of_text : ElementContent → Bool
is_of_text (Character c) = true
is_of_text (MarkerOf r) = true
is_of_text GridUnit = false

-- whether nothing of the element is pending
abbrev pub is_settled : ListElement → Bool
is_settled e = is_acked e.ins && list_all is_acked e.dels && is_none e.removal_stage && is_empty e.pending

-- whether it is one of the text, with its author
abbrev pub is_plain : ListElement → Bool
is_plain e = is_settled e && (is_authored e.by && is_of_text e.content)

-- whether it is a unit of rows or columns
abbrev pub is_plain_unit : ListElement → Bool
is_plain_unit e = is_settled e && (is_none e.by && is_empty e.props && not (is_of_text e.content))

stamp-back : (t : Stamp) → is_acked t ≡ true → stamp_of (mark_of t) ≡ t
stamp-back (Acked s c) h = refl
stamp-back (Local k) h = (cc)

stamps-back : (ts : List Stamp) → list_all is_acked ts ≡ true → map stamp_of (map mark_of ts) ≡ ts
stamps-back [] h = refl
stamps-back (t ∷ ts) h =
    let p = both (is_acked t) (list_all is_acked ts) h in
    ap (λ u. u ∷ map stamp_of (map mark_of ts)) (stamp-back t p.0) ∙ ap (λ us. t ∷ us) (stamps-back ts p.1)

author-back : (o : Option Stamp) → is_authored o ≡ true → Some (stamp_of (author_mark o)) ≡ o
author-back None h = (cc)
author-back (Some t) h = ap Some (stamp-back t h)

-- the segment of an element holds it
plain-held : (e : ListElement) → is_plain e ≡ true → held_by (segment_of e) ≡ nameless e ∷ []
plain-held e h =
    let p = both (is_settled e) (is_authored e.by && is_of_text e.content) h in
    let q = all_four (is_acked e.ins) (list_all is_acked e.dels) (is_none e.removal_stage) (is_empty e.pending) p.0 in
    let r = both (is_authored e.by) (is_of_text e.content) p.1 in
    ap (λ (t : Stamp). map (bare t (map stamp_of (map mark_of e.dels)) (Some (stamp_of (author_mark e.by))) e.props) (segment_bodies (element_body e.content))) (stamp-back e.ins
    q.0)
    ∙ (ap (λ (ts : List Stamp). map (bare e.ins ts (Some (stamp_of (author_mark e.by))) e.props) (segment_bodies (element_body e.content))) (stamps-back e.dels q.1)
    ∙ (ap (λ (o : Option Stamp). map (bare e.ins e.dels o e.props) (segment_bodies (element_body e.content))) (author-back e.by r.0)
    ∙ content e.content r.1 e.removal_stage q.2 e.pending q.3))
  where
    content : (c : ElementContent) → is_of_text c ≡ true → (m : Option ℕ) → is_none m ≡ true → (ps : List (ℕ × Changes)) → is_empty ps ≡ true
        → map (bare e.ins e.dels e.by e.props) (segment_bodies (element_body c)) ≡ nameless (record e { content = c; removal_stage = m; pending = ps }) ∷ []
    content (Character c) g None m [] p = refl
    content (MarkerOf c) g None m [] p = refl
    content GridUnit g m n ps p = (cc)
    content c g (Some k) n ps p = (cc)
    content c g m n (x ∷ ps) p = (cc)

segments-back : (i : ℕ) (xs : List ListElement) → list_all is_plain xs ≡ true → flat_map held_by (segments_from i xs) ≡ map nameless xs
segments-back i [] h = refl
segments-back i (e ∷ xs) h =
    let p = both (is_plain e) (list_all is_plain xs) h in
    extended-hold ((i + 1) % chunk_length == 0) (segment_of e) (segments_from (i + 1) xs)
    ∙ (ap (λ es. es ++ flat_map held_by (segments_from (i + 1) xs)) (plain-held e p.0) ∙ ap (λ es. nameless e ∷ es) (segments-back (i + 1) xs p.1))

-- the text of a summary's document
pub text-back : (xs : List ListElement) → list_all is_plain xs ≡ true → map nameless (segment_items 0 (segments_from 0 xs)) ≡ map nameless xs
text-back xs h = segments-hold 0 (segments_from 0 xs) ∙ segments-back 0 xs h

-- ---- units

abbrev pub units_of : RunRec → List NamelessElement
units_of r = map (bare (stamp_of r.ins) (map stamp_of r.dels) None []) (replicate r.count GridUnit)

runs-hold : (n : ℕ) (runs : List RunRec) → map nameless (run_items n runs) ≡ flat_map units_of runs
runs-hold n [] = refl
runs-hold n (r ∷ runs) =
    map-append nameless (new_elements n (stamp_of r.ins) (map stamp_of r.dels) None [] (replicate r.count GridUnit)) (run_items (n + r.count) runs)
    ∙ (ap (λ es. es ++ map nameless (run_items (n + r.count) runs)) (new-bare n (stamp_of r.ins) (map stamp_of r.dels) None [] (replicate r.count GridUnit))
    ∙ ap (λ es. units_of r ++ es) (runs-hold (n + r.count) runs))

-- one unit
abbrev pub unit : Mark → List Mark → NamelessElement
unit ins dels = bare (stamp_of ins) (map stamp_of dels) None [] GridUnit

more-units : (r : RunRec) → units_of (record r { count = r.count + 1 }) ≡ unit r.ins r.dels ∷ units_of r
more-units r = ap (λ n. units_of (record r { count = n })) (add-one r.count)

extended-units : (ins : Mark) (dels : List Mark) (runs : List RunRec) → flat_map units_of (extended_unit_runs ins dels runs) ≡ unit ins dels ∷ flat_map units_of runs
extended-units ins dels [] = refl
extended-units ins dels (r ∷ runs) = by (same_stamps ins dels r.ins r.dels) refl
  where
    by : (t : Bool) → same_stamps ins dels r.ins r.dels ≡ t
        → flat_map units_of (cond t (record r { count = r.count + 1 } ∷ runs) (record { count = 1; ins = ins; dels = dels } ∷ r ∷ runs))
        ≡ unit ins dels ∷ (units_of r ++ flat_map units_of runs)
    by false e = refl
    by true e =
        let p = stamps_are_same ins r.ins dels r.dels e in
        ap (λ es. es ++ flat_map units_of runs) (more-units r)
        ∙ (ap (λ (m : Mark). unit m r.dels ∷ (units_of r ++ flat_map units_of runs)) (sym p.0)
        ∙ ap (λ (ms : List Mark). unit ins ms ∷ (units_of r ++ flat_map units_of runs)) (sym p.1))

plain-unit : (e : ListElement) → is_plain_unit e ≡ true → unit (mark_of e.ins) (map mark_of e.dels) ≡ nameless e
plain-unit e h =
    let p = both (is_settled e) (is_none e.by && is_empty e.props && not (is_of_text e.content)) h in
    let q = all_four (is_acked e.ins) (list_all is_acked e.dels) (is_none e.removal_stage) (is_empty e.pending) p.0 in
    let r = all_three (is_none e.by) (is_empty e.props) (not (is_of_text e.content)) p.1 in
    ap (λ (t : Stamp). bare t (map stamp_of (map mark_of e.dels)) None [] GridUnit) (stamp-back e.ins q.0)
    ∙ (ap (λ (ts : List Stamp). bare e.ins ts None [] GridUnit) (stamps-back e.dels q.1)
    ∙ parts e.by r.0 e.props r.1 e.content r.2 e.removal_stage q.2 e.pending q.3)
  where
    parts : (o : Option Stamp) → is_none o ≡ true → (ps : PropertyList) → is_empty ps ≡ true → (c : ElementContent) → not (is_of_text c) ≡ true
        → (m : Option ℕ) → is_none m ≡ true → (qs : List (ℕ × Changes)) → is_empty qs ≡ true
        → bare e.ins e.dels None [] GridUnit ≡ nameless (record e { by = o; props = ps; content = c; removal_stage = m; pending = qs })
    parts None o [] p GridUnit c None m [] q = refl
    parts (Some t) o ps p c g m n qs q = (cc)
    parts None o (x ∷ ps) p c g m n qs q = (cc)
    parts None o [] p (Character i) g m n qs q = (cc)
    parts None o [] p (MarkerOf i) g m n qs q = (cc)
    parts None o [] p GridUnit g (Some k) n qs q = (cc)
    parts None o [] p GridUnit g None n (x ∷ qs) q = (cc)

units-back : (xs : List ListElement) → list_all is_plain_unit xs ≡ true → flat_map units_of (unit_runs xs) ≡ map nameless xs
units-back [] h = refl
units-back (e ∷ xs) h =
    let p = both (is_plain_unit e) (list_all is_plain_unit xs) h in
    extended-units (mark_of e.ins) (map mark_of e.dels) (unit_runs xs)
    ∙ (ap (λ u. u ∷ flat_map units_of (unit_runs xs)) (plain-unit e p.0) ∙ ap (λ es. nameless e ∷ es) (units-back xs p.1))

-- the rows or columns of a summary's document
pub runs-back : (xs : List ListElement) → list_all is_plain_unit xs ≡ true → map nameless (run_items 0 (unit_runs xs)) ≡ map nameless xs
runs-back xs h = runs-hold 0 (unit_runs xs) ∙ units-back xs h

-- ---- documents as messages make them

-- each element is plain
pub record IsPlain (doc : Document) : Type 0 where
  pub text : list_all is_plain doc.text.items ≡ true
  pub rows : list_all is_plain_unit doc.rows.items ≡ true
  pub cols : list_all is_plain_unit doc.cols.items ≡ true

new-plain : (n s c : ℕ) (props : PropertyList) (bs : List ElementContent) → list_all is_of_text bs ≡ true
    → list_all is_plain (new_elements n (Acked s c) [] (Some (Acked s c)) props bs) ≡ true
new-plain n s c props [] h = refl
new-plain n s c props (b ∷ bs) h =
    let p = both (is_of_text b) (list_all is_of_text bs) h in
    rw (p.0, new-plain (n + 1) s c props bs p.1) refl

contents-of-text : (seg : OpSegment) → list_all is_of_text (segment_contents seg) ≡ true
contents-of-text (segments.Chars text) = all text
  where
    all : (cs : List ℕ) → list_all is_of_text (map (λ c. Character c) cs) ≡ true
    all [] = refl
    all (c ∷ cs) = all cs
contents-of-text (segments.Marker r) = refl

new-units : (n s c : ℕ) (bs : List ElementContent) → list_all (λ b. not (is_of_text b)) bs ≡ true → list_all is_plain_unit (new_elements n (Acked s c) [] None [] bs) ≡ true
new-units n s c [] h = refl
new-units n s c (b ∷ bs) h =
    let p = both (not (is_of_text b)) (list_all (λ b. not (is_of_text b)) bs) h in
    rw (p.0, new-units (n + 1) s c bs p.1) refl

all-units : (n : ℕ) → list_all (λ b. not (is_of_text b)) (replicate n GridUnit) ≡ true
all-units zero = refl
all-units (suc n) = all-units n

removal-settled : (s c : ℕ) (e : ListElement) → is_settled e ≡ true → is_settled (with_removal s c e) ≡ true
removal-settled s c e h =
    let q = all_four (is_acked e.ins) (list_all is_acked e.dels) (is_none e.removal_stage) (is_empty e.pending) h in
    rw (q.0, all-append is_acked e.dels (Acked s c ∷ []) q.1 refl, q.2, q.3) refl

pub removal-plain : (s c : ℕ) (e : ListElement) → is_plain e ≡ true → is_plain (with_removal s c e) ≡ true
removal-plain s c e h =
    let p = both (is_settled e) (is_authored e.by && is_of_text e.content) h in
    rw (removal-settled s c e p.0, p.1) refl

removal-unit : (s c : ℕ) (e : ListElement) → is_plain_unit e ≡ true → is_plain_unit (with_removal s c e) ≡ true
removal-unit s c e h =
    let p = both (is_settled e) (is_none e.by && is_empty e.props && not (is_of_text e.content)) h in
    rw (removal-settled s c e p.0, p.1) refl

plain-choice : (b : Bool) (p q : Document) → IsPlain p → IsPlain q → IsPlain (cond b p q)
plain-choice true p q f g = f
plain-choice false p q f g = g

skip-plain : (doc : Document) → IsPlain doc → IsPlain (with_skip doc)
skip-plain doc h = record { text = h.text; rows = h.rows; cols = h.cols }

module _ (s c r : ℕ) where
  pub effect-plain : (doc : Document) (o : SubOperation) → IsPlain doc → IsPlain (effect doc s c r o)
  effect-plain doc (OnText (Insert p seg props)) h =
      plain-choice (nat_le p (len (seen_by r c) doc.text.items)) _ _
      (record {
        text = all-put is_plain (seen_by r c) is_pending p _ doc.text.items
            (new-plain doc.text.made s c (apply [] props) (segment_contents seg) (contents-of-text seg)) h.text;
        rows = h.rows;
        cols = h.cols;
      }) (skip-plain doc h)
  effect-plain doc (OnText (Remove p q)) h =
      plain-choice (nat_le q (len (seen_by r c) doc.text.items)) _ _
      (record { text = all-range is_plain (seen_by r c) (with_removal s c) (removal-plain s c) 0 p q doc.text.items h.text; rows = h.rows; cols = h.cols }) (skip-plain doc h)
  effect-plain doc (OnText (Annotate p q changes)) h =
      plain-choice (nat_le q (len (seen_by r c) doc.text.items)) _ _
      (record { text = all-range is_plain (seen_by r c) (with_annotation changes) (λ e g. g) 0 p q doc.text.items h.text; rows = h.rows; cols = h.cols }) (skip-plain doc h)
  effect-plain doc (OnIntervals op) h =
      plain-choice (given_ends_fit (len (seen_by r c) doc.text.items) (ends_of op)) _ _ (record { text = h.text; rows = h.rows; cols = h.cols }) (skip-plain doc h)
  effect-plain doc (OnGrid (SpliceIn Rows p count)) h =
      plain-choice (nat_le p (len (seen_by r c) doc.rows.items)) _ _
      (record {
        text = h.text;
        rows = all-put is_plain_unit (seen_by r c) is_pending p _ doc.rows.items
            (new-units doc.rows.made s c (replicate count GridUnit) (all-units count)) h.rows;
        cols = h.cols;
      }) (skip-plain doc h)
  effect-plain doc (OnGrid (SpliceIn Cols p count)) h =
      plain-choice (nat_le p (len (seen_by r c) doc.cols.items)) _ _
      (record {
        text = h.text;
        rows = h.rows;
        cols = all-put is_plain_unit (seen_by r c) is_pending p _ doc.cols.items
            (new-units doc.cols.made s c (replicate count GridUnit) (all-units count)) h.cols;
      }) (skip-plain doc h)
  effect-plain doc (OnGrid (SpliceOut Rows p q)) h =
      plain-choice (nat_le q (len (seen_by r c) doc.rows.items)) _ _
      (record { text = h.text; rows = all-range is_plain_unit (seen_by r c) (with_removal s c) (removal-unit s c) 0 p q doc.rows.items h.rows; cols = h.cols }) (skip-plain doc h)
  effect-plain doc (OnGrid (SpliceOut Cols p q)) h =
      plain-choice (nat_le q (len (seen_by r c) doc.cols.items)) _ _
      (record { text = h.text; rows = h.rows; cols = all-range is_plain_unit (seen_by r c) (with_removal s c) (removal-unit s c) 0 p q doc.cols.items h.cols }) (skip-plain doc h)
  effect-plain doc (OnGrid (Set i j value)) h = by (at (seen_by r c) i doc.rows.items) (at (seen_by r c) j doc.cols.items)
    where
      by : (o p : Option ListElement) → IsPlain (cell_effect doc o p value)
      by (Some x) (Some y) = record { text = h.text; rows = h.rows; cols = h.cols }
      by (Some x) None = skip-plain doc h
      by None p = skip-plain doc h

  effects-plain : (os : List SubOperation) (doc : Document) → IsPlain doc → IsPlain (effects doc s c r os)
  effects-plain [] doc h = h
  effects-plain (o ∷ os) doc h = effects-plain os (effect doc s c r o) (effect-plain doc o h)

  pub body-plain : (b : Body) (doc : Document) → IsPlain doc → IsPlain (body_effect doc s c r b)
  body-plain Nothing doc h = h
  body-plain (Op op) doc h = effects-plain (sub_operations op) doc h
  body-plain (Elsewhere address) doc h = record { text = h.text; rows = h.rows; cols = h.cols }

entries-plain : (es : List Entry) (doc : Document) → IsPlain doc → IsPlain (take_entries doc es)
entries-plain [] doc h = h
entries-plain (e ∷ es) doc h =
    let b = body-plain e.msg.seq e.origin (reference_number e.msg.ref_seq) e.msg.body doc h in
    entries-plain es (take_entry doc e) (record { text = b.text; rows = b.rows; cols = b.cols })

pub agreed-plain : (es : List Entry) → IsPlain (agreed es)
agreed-plain es = entries-plain es empty (record { text = refl; rows = refl; cols = refl })

-- ---- trimmed

trim-all : (is : ListElement → Bool) (min : ℕ) → ((e : ListElement) → is e ≡ true → is (with_universal_insertion e) ≡ true) → (xs : List ListElement) → list_all is xs ≡ true
    → list_all is (retain_map (λ e. not (is_collectable min e)) (trim_element min) xs) ≡ true
trim-all is min k [] h = refl
trim-all is min k (e ∷ xs) h =
    let p = both (is e) (list_all is xs) h in
    by (not (is_collectable min e)) (is_insertion_at_or_below min e.ins) p.0 (trim-all is min k xs p.1)
  where
    rest : List ListElement
    rest = retain_map (λ e. not (is_collectable min e)) (trim_element min) xs

    element : (t : Bool) → is e ≡ true → is (cond t (with_universal_insertion e) e) ≡ true
    element true g = k e g
    element false g = g

    by : (s t : Bool) → is e ≡ true → list_all is (retain_map (λ e. not (is_collectable min e)) (trim_element min) xs) ≡ true
        → list_all is (cond s (cond t (with_universal_insertion e) e ∷ retain_map (λ e. not (is_collectable min e)) (trim_element min) xs)
        (retain_map (λ e. not (is_collectable min e)) (trim_element min) xs)) ≡ true
    by true t g ih = rw (element t g, ih) refl
    by false t g ih = ih

universal-settled : (e : ListElement) → is_settled e ≡ true → is_settled (with_universal_insertion e) ≡ true
universal-settled e h =
    let q = all_four (is_acked e.ins) (list_all is_acked e.dels) (is_none e.removal_stage) (is_empty e.pending) h in
    rw (q.1, q.2, q.3) refl

universal-plain : (e : ListElement) → is_plain e ≡ true → is_plain (with_universal_insertion e) ≡ true
universal-plain e h =
    let p = both (is_settled e) (is_authored e.by && is_of_text e.content) h in
    rw (universal-settled e p.0, p.1) refl

universal-unit : (e : ListElement) → is_plain_unit e ≡ true → is_plain_unit (with_universal_insertion e) ≡ true
universal-unit e h =
    let p = both (is_settled e) (is_none e.by && is_empty e.props && not (is_of_text e.content)) h in
    rw (universal-settled e p.0, p.1) refl

pub trim-plain : (doc : Document) → IsPlain doc → IsPlain (trim doc)
trim-plain doc h = record {
  text = trim-all is_plain doc.minimum universal-plain doc.text.items h.text;
  rows = trim-all is_plain_unit doc.minimum universal-unit doc.rows.items h.rows;
  cols = trim-all is_plain_unit doc.minimum universal-unit doc.cols.items h.cols;
}
