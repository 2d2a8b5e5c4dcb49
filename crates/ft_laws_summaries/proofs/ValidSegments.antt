-- The segments and runs of the summary of an idle client are valid, and have as many elements as its trimmed document.
use Rattle.std.proofs.Common.{◌≡◌, ℕ, suc, ◌+◌, ◌≤◌, ◌<◌, Bool, true, false, cond, not, ◌&&◌, ◌||◌, nat_eq, nat_le, List, [], ◌∷◌, ◌++◌, ◌%◌, ◌==◌, length, map, Option, Some, None, refl, sym, ◌∙◌, ap, subst, arith}
use Rattle.std.specs.List.{AllByRecursion, list_all, list_any}
use Rattle.std.proofs.lemmas.List.{length-append}
use Rattle.std.proofs.lemmas.Bool.Decides.{nat_tests}
use Rattle.ft_base.proofs.Booleans.{all_four, all_three, both}
use Rattle.ft_base.specs.declared.stamps.Stamp.{Stamp}
use Rattle.ft_base.specs.declared.stamps.Stamp.TheVariants.{Acked, Local}
use Rattle.ft_base.specs.Scan.{len, one_more_if, retain_map}
use Rattle.ft_base.specs.Visibility.{is_acked}
use Rattle.ft_props.specs.Compaction.{has_collectable_removal, is_collectable, is_insertion_at_or_below, trim_element, with_universal_insertion}
use Rattle.ft_props.specs.Element.{ListElement, is_unremoved, removal_stamp}
use Rattle.ft_sumdoc.specs.declared.summary.Mark.{Mark}
use Rattle.ft_sumdoc.specs.declared.summary.RunRec.{RunRec}
use Rattle.ft_sumdoc.specs.declared.summary.Seg.{Seg}
use Rattle.ft_sumdoc.specs.declared.summary.Seg.TheVariants.{Chars, Marker}
use Rattle.ft_sumdoc.specs.declared.summary.SegRec.{SegRec}
use Rattle.ft_sumdoc.specs.Chunks.{chunk_length}
use Rattle.ft_sumdoc.specs.Runs.{unit_count, unremoved_units}
use Rattle.ft_sumdoc.specs.Segments.{body_length, text_length, unless_removed, unremoved_text}
use Rattle.ft_sumdoc.specs.Stamps.{Bounds, is_old, is_recent, is_universal, removals_rise, same_mark}
use Rattle.ft_sumdoc.specs.Valid.{HasValues, IsSegment, are_stamps, is_author, is_segment_body, is_run}
use Rattle.ft_sumdoc.specs.WellFormed.{are_alike, are_characters, same_props, same_stamps}
use Rattle.ft_marks.specs.Marks.{author_mark, mark_of}
use Rattle.ft_msg.specs.SummaryOf.{element_body, extended_unit_runs, extended_segments, joined_bodies, segment_of, segments_from, unit_runs}
use Rattle.ft_marks.proofs.SameStamps.{same_mark-Decides, stamps_are_same}
use Rattle.ft_laws_agreement.specs.Sequencing.{Each}
use Rattle.ft_laws_summaries.proofs.SummaryCuts.{one-element}
use Rattle.ft_laws_summaries.proofs.SummaryLists.{is_authored, is_empty, is_none, is_of_text, is_plain, is_plain_unit, is_settled}
use Rattle.ft_laws_summaries.proofs.ValidDocuments.{HasAuthor, IsValidText, is_old_author, old, own}
use Rattle.ft_laws_summaries.proofs.ValidElements.{IsDated, is_dated, is_dated_insertion}

-- ---- trimmed elements

pub each-retained : {A B : Type 0} (P : A → Type 0) (Q : B → Type 0) (keep : A → Bool) (f : A → B) → ((x : A) → P x → keep x ≡ true → Q (f x)) → (xs : List A) → Each P xs
    → Each Q (retain_map keep f xs)
each-retained P Q keep f g [] h = tt
each-retained P Q keep f g (x ∷ xs) h = by (keep x) refl (each-retained P Q keep f g xs h.1)
  where
    by : (b : Bool) → keep x ≡ b → Each Q (retain_map keep f xs) → Each Q (cond b (f x ∷ retain_map keep f xs) (retain_map keep f xs))
    by true e ih = (g x h.0 e, ih)
    by false e ih = ih

module _ (min seq conns : ℕ) where
  -- what the stamps are tested with
  abbrev pub tested : Bounds
  tested = record { min = min; seq = seq; conns = conns }

  -- a stamp above the minimum
  dated-recent : (t d : ℕ) → min < t → is_dated (seq + 1) 0 conns (Acked t d) ≡ true → is_recent tested (record { seq = t; conn = d }) ≡ true
  dated-recent t d l h = grind (arith, nat_tests)

  -- and one at or below it
  dated-old : (t d : ℕ) → nat_le t min ≡ true → is_dated (seq + 1) 0 conns (Acked t d) ≡ true → is_old tested (record { seq = t; conn = d }) ≡ true
  dated-old t d l h = grind (arith, nat_tests)

  removals-recent : (low : ℕ) (ts : List Stamp) → min < low → list_all (is_dated (seq + 1) 0 conns) ts ≡ true → removals_rise low (map mark_of ts) ≡ true
      → list_all (is_recent tested) (map mark_of ts) ≡ true
  removals-recent low [] l h g = refl
  removals-recent low (Local k ∷ ts) l h g = (cc)
  removals-recent low (Acked t d ∷ ts) l h g =
      let p = both (is_dated (seq + 1) 0 conns (Acked t d)) (list_all (is_dated (seq + 1) 0 conns) ts) h in
      let f = all_three (nat_le low t) (not (list_any (λ m. nat_eq d m.conn) (map mark_of ts))) (removals_rise (suc t) (map mark_of ts)) g in
      let above : min < t = later low t l f.0 in
      rw (dated-recent t d above p.0, removals-recent (suc t) ts (omega (arith, above)) p.1 f.2) refl
    where
      later : (i j : ℕ) → min < i → nat_le i j ≡ true → min < j
      later i j k e = grind (arith, nat_tests)

  -- removals of an element that isn't collectable
  kept-removals : (low : ℕ) (ts : List Stamp) → has_collectable_removal min ts ≡ false → list_all (is_dated (seq + 1) 0 conns) ts ≡ true
      → removals_rise low (map mark_of ts) ≡ true → list_all (is_recent tested) (map mark_of ts) ≡ true
  kept-removals low [] c h g = refl
  kept-removals low (Local k ∷ ts) c h g = (cc)
  kept-removals low (Acked t d ∷ ts) c h g =
      let f = all_three (nat_le low t) (not (list_any (λ m. nat_eq d m.conn) (map mark_of ts))) (removals_rise (suc t) (map mark_of ts)) g in
      removals-recent (suc min) (Acked t d ∷ ts) (omega arith) h (rw (above t c, f.1, f.2) refl)
    where
      above : (j : ℕ) → nat_le j min ≡ false → nat_le (suc min) j ≡ true
      above j e = grind (arith, nat_tests)

  lower-rises : (low : ℕ) (ms : List Mark) → removals_rise low ms ≡ true → removals_rise 0 ms ≡ true
  lower-rises low [] h = refl
  lower-rises low (m ∷ ms) h =
      let f = all_three (nat_le low m.seq) (not (list_any (λ n. nat_eq m.conn n.conn) ms)) (removals_rise (suc m.seq) ms) h in
      rw (least m.seq, f.1, f.2) refl
    where
      least : (j : ℕ) → nat_le 0 j ≡ true
      least j = grind (arith, nat_tests)

  not-collectable : (e : ListElement) → is_acked e.ins ≡ true → not (is_collectable min e) ≡ true → has_collectable_removal min e.dels ≡ false
  not-collectable e a h = by (is_acked e.ins) (has_collectable_removal min e.dels) a h
    where
      by : (s t : Bool) → s ≡ true → not (s && t) ≡ true → t ≡ false
      by true true e f = (cc)
      by true false e f = refl
      by false t e f = (cc)

  -- an insertion above the minimum isn't the universal one
  dated-insertion : (t d : ℕ) → min < t → is_dated_insertion (seq + 1) 0 conns (Acked t d) ≡ true → is_dated (seq + 1) 0 conns (Acked t d) ≡ true
  dated-insertion t d l h = grind (arith, nat_tests)

  dated-acked : (t : Stamp) → is_dated_insertion (seq + 1) 0 conns t ≡ true → is_acked t ≡ true
  dated-acked (Acked s c) h = refl
  dated-acked (Local k) h = (cc)

  -- the stamps of a trimmed element
  pub stamps-valid : (e : ListElement) → IsDated (seq + 1) 0 conns e → not (is_collectable min e) ≡ true
      → are_stamps tested (mark_of (trim_element min e).ins) (map mark_of (trim_element min e).dels) ≡ true
  stamps-valid e h k = by e.ins (is_insertion_at_or_below min e.ins) refl refl
    where
      recent : (ts : List Stamp) → ts ≡ e.dels → list_all (is_recent tested) (map mark_of ts) ≡ true
      recent ts q =
          subst (λ us. list_all (is_recent tested) (map mark_of us) ≡ true) (sym q)
          (kept-removals (mark_of e.ins).seq e.dels (not-collectable e (dated-acked e.ins h.ins) k) h.dels h.rising)

      above : (t d : ℕ) → nat_le t min ≡ false → min < t
      above t d l = grind (arith, nat_tests)

      either : (a b : Bool) → b ≡ true → a || b ≡ true
      either true b g = refl
      either false b g = g

      by : (t : Stamp) (b : Bool) → e.ins ≡ t → is_insertion_at_or_below min e.ins ≡ b
          → are_stamps tested (mark_of (cond b (with_universal_insertion e) e).ins) (map mark_of (cond b (with_universal_insertion e) e).dels) ≡ true
      by (Local j) b i l = absurd (pending (subst (λ u. is_dated_insertion (seq + 1) 0 conns u ≡ true) i h.ins))
        where
          pending : false ≡ true → ⊥
          pending g = (cc)
      by (Acked t d) true i l = rw (recent e.dels refl, lower-rises (mark_of e.ins).seq (map mark_of e.dels) h.rising) refl
      by (Acked t d) false i l =
          let low = above t d (subst (λ u. is_insertion_at_or_below min u ≡ false) i l) in
          let ins : is_recent tested (mark_of e.ins) ≡ true = ap (λ u. is_recent tested (mark_of u)) i
          ∙ dated-recent t d low (dated-insertion t d low (subst (λ u. is_dated_insertion (seq + 1) 0 conns u ≡ true) i h.ins)) in
          rw (either (is_universal (mark_of e.ins)) (is_recent tested (mark_of e.ins)) ins, recent e.dels refl, h.rising) refl

  -- an author that is old or not known
  old-author : (u : Stamp) → is_old_author min conns u ≡ true → is_universal (mark_of u) || is_old tested (mark_of u) ≡ true
  old-author (Acked t d) h = grind (arith, nat_tests)
  old-author (Local k) h = (cc)

  -- its author
  author-valid : (e : ListElement) → HasAuthor (seq + 1) 0 conns min e.ins e.by
      → is_author tested (mark_of (trim_element min e).ins) (author_mark (trim_element min e).by) ≡ true
  author-valid e (old author i q o) = by (is_insertion_at_or_below min e.ins)
    where
      either : is_universal (author_mark e.by) || is_old tested (author_mark e.by) ≡ true
      either = ap (λ b. is_universal (author_mark b) || is_old tested (author_mark b)) q ∙ old-author author o

      by : (b : Bool) → is_author tested (mark_of (cond b (with_universal_insertion e) e).ins) (author_mark (cond b (with_universal_insertion e) e).by) ≡ true
      by true = either
      by false = ap (λ u. is_author tested (mark_of u) (author_mark e.by)) i ∙ either
  author-valid e (own a h) = by e.ins (is_insertion_at_or_below min e.ins) refl refl
    where
      known : (o : Option Stamp) → o ≡ Some e.ins → author_mark o ≡ mark_of e.ins
      known o q = ap author_mark q

      itself : (m : Mark) (u : Bool) → is_universal m ≡ u → cond u (is_universal m || is_old tested m) (same_mark m m) ≡ true
      itself m true q = ap (λ b. b || is_old tested m) q
      itself m false q = (same_mark-Decides m m).1 refl

      either : (b c : Bool) → c ≡ true → b || c ≡ true
      either true c g = refl
      either false c g = g

      below : (t d : ℕ) → e.ins ≡ Acked t d → is_insertion_at_or_below min e.ins ≡ true → is_old tested (mark_of e.ins) ≡ true
      below t d i l =
          ap (λ u. is_old tested (mark_of u)) i
          ∙ dated-old t d (subst (λ u. is_insertion_at_or_below min u ≡ true) i l) (subst (λ u. is_dated (seq + 1) 0 conns u ≡ true) i h)

      by : (t : Stamp) (b : Bool) → e.ins ≡ t → is_insertion_at_or_below min e.ins ≡ b
          → is_author tested (mark_of (cond b (with_universal_insertion e) e).ins) (author_mark (cond b (with_universal_insertion e) e).by) ≡ true
      by (Local j) true i l = absurd (pending (subst (λ u. is_insertion_at_or_below min u ≡ true) i l))
        where
          pending : false ≡ true → ⊥
          pending g = (cc)
      by (Acked t d) true i l =
          ap (λ m. is_universal m || is_old tested m) (known e.by a) ∙ either (is_universal (mark_of e.ins)) (is_old tested (mark_of e.ins)) (below t d i l)
      by t false i l = ap (is_author tested (mark_of e.ins)) (known e.by a) ∙ itself (mark_of e.ins) (is_universal (mark_of e.ins)) refl

  -- its segment
  pub segment-valid : (e : ListElement) → IsValidText (seq + 1) 0 conns min e → not (is_collectable min e) ≡ true → IsSegment tested (segment_of (trim_element min e))
  segment-valid e h k = record {
    body = same-content (is_insertion_at_or_below min e.ins);
    props = same-props (is_insertion_at_or_below min e.ins);
    stamps = stamps-valid e h.dated k;
    author = author-valid e h.by;
  }
    where
      same-content : (b : Bool) → is_segment_body (element_body (cond b (with_universal_insertion e) e).content) ≡ true
      same-content true = h.body
      same-content false = h.body

      same-props : (b : Bool) → HasValues (cond b (with_universal_insertion e) e).props
      same-props true = h.props
      same-props false = h.props

-- ---- segments

joined-body : (a b : Seg) → is_segment_body a ≡ true → is_segment_body b ≡ true → is_segment_body (joined_bodies a b) ≡ true
joined-body (Chars []) b h g = (cc)
joined-body (Chars (c ∷ cs)) (Chars ds) h g = refl
joined-body (Chars (c ∷ cs)) (Marker r) h g = g
joined-body (Marker r) b h g = g

extended-valid : (b : Bounds) (ends : Bool) (s : SegRec) (segs : List SegRec) → IsSegment b s → AllByRecursion (IsSegment b) segs
    → AllByRecursion (IsSegment b) (extended_segments ends s segs)
extended-valid b ends s [] h g = (h, tt)
extended-valid b ends s (next ∷ segs) h g = by (not ends && are_alike s next)
  where
    by : (t : Bool) → AllByRecursion (IsSegment b) (cond t (record next { body = joined_bodies s.body next.body } ∷ segs) (s ∷ next ∷ segs))
    by true = (record { body = joined-body s.body next.body h.body g.0.body; props = g.0.props; stamps = g.0.stamps; author = g.0.author }, g.1)
    by false = (h, g)

pub segments-valid : (b : Bounds) (i : ℕ) (xs : List ListElement) → Each (λ e. IsSegment b (segment_of e)) xs → AllByRecursion (IsSegment b) (segments_from i xs)
segments-valid b i [] h = tt
segments-valid b i (e ∷ xs) h =
    extended-valid b ((i + 1) % chunk_length == 0) (segment_of e) (segments_from (i + 1) xs) h.0 (segments-valid b (i + 1) xs h.1)

-- ---- how many elements there are

-- both segments hold characters
alike-length : (s next : SegRec) → are_alike s next ≡ true → body_length (joined_bodies s.body next.body) ≡ body_length s.body + body_length next.body
alike-length s next h =
    by s.body next.body
    (all_four (are_characters s.body next.body) (same_props s.props next.props) (same_mark s.by next.by) (same_stamps s.ins s.dels next.ins next.dels) h).0
  where
    by : (a b : Seg) → are_characters a b ≡ true → body_length (joined_bodies a b) ≡ body_length a + body_length b
    by (Chars front) (Chars text) g = length-append front text
    by (Chars front) (Marker r) g = (cc)
    by (Marker r) b g = (cc)

unless-adds : (ms : List Mark) (m n : ℕ) → unless_removed ms (m + n) ≡ unless_removed ms m + unless_removed ms n
unless-adds [] m n = refl
unless-adds (k ∷ ms) m n = refl

-- and have the same removals
alike-unremoved : (s next : SegRec) → are_alike s next ≡ true
    → unless_removed next.dels (body_length (joined_bodies s.body next.body)) ≡ unless_removed s.dels (body_length s.body) + unless_removed next.dels (body_length next.body)
alike-unremoved s next h =
    let p = all_four (are_characters s.body next.body) (same_props s.props next.props) (same_mark s.by next.by) (same_stamps s.ins s.dels next.ins next.dels) h in
    let same = (stamps_are_same s.ins next.ins s.dels next.dels p.3).1 in
    ap (unless_removed next.dels) (alike-length s next h)
    ∙ (unless-adds next.dels (body_length s.body) (body_length next.body)
    ∙ ap (λ ms. unless_removed ms (body_length s.body) + unless_removed next.dels (body_length next.body)) (sym same))

-- a sum over segments, to which joined ones give what both give
module _ (f : SegRec → ℕ) (sum : List SegRec → ℕ) (adds : (s : SegRec) (segs : List SegRec) → sum (s ∷ segs) ≡ f s + sum segs)
    (joins : (s next : SegRec) → are_alike s next ≡ true → f (record next { body = joined_bodies s.body next.body }) ≡ f s + f next) where
  extended-adds : (ends : Bool) (s : SegRec) (segs : List SegRec) → sum (extended_segments ends s segs) ≡ f s + sum segs
  extended-adds ends s [] = adds s []
  extended-adds ends s (next ∷ segs) = by (not ends) (are_alike s next) refl
    where
      by : (t a : Bool) → are_alike s next ≡ a → sum (cond (t && a) (record next { body = joined_bodies s.body next.body } ∷ segs) (s ∷ next ∷ segs)) ≡ f s + sum (next ∷ segs)
      by true true e =
          let joined = adds (record next { body = joined_bodies s.body next.body }) segs in
          let both_give = joins s next e in
          let later = adds next segs in
          omega (arith, joined, both_give, later)
      by true false e = adds s (next ∷ segs)
      by false a e = adds s (next ∷ segs)

plain-text : (e : ListElement) → is_plain e ≡ true → is_of_text e.content ≡ true
plain-text e h =
    let p = both (is_settled e) (is_authored e.by && is_of_text e.content) h in
    (both (is_authored e.by) (is_of_text e.content) p.1).1

plain-settled : (e : ListElement) → is_plain e ≡ true → is_settled e ≡ true
plain-settled e h = (both (is_settled e) (is_authored e.by && is_of_text e.content) h).0

-- the segments of elements of the text have as many elements
pub segments-length : (i : ℕ) (xs : List ListElement) → list_all is_plain xs ≡ true → text_length (segments_from i xs) ≡ length xs
segments-length i [] h = refl
segments-length i (e ∷ xs) h =
    let p = both (is_plain e) (list_all is_plain xs) h in
    let more = extended-adds (λ s. body_length s.body) text_length (λ s segs. refl) alike-length ((i + 1) % chunk_length == 0) (segment_of e) (segments_from (i + 1) xs) in
    let one = one-element e.content (plain-text e p.0) in
    let ih = segments-length (i + 1) xs p.1 in
    omega (arith, more, one, ih)

-- whether an element is unremoved
settled-unremoved : (e : ListElement) (n : ℕ) → is_settled e ≡ true → unless_removed (map mark_of e.dels) 1 + n ≡ one_more_if (is_unremoved e) n
settled-unremoved e n h =
    let q = all_four (is_acked e.ins) (list_all is_acked e.dels) (is_none e.removal_stage) (is_empty e.pending) h in
    by e.removal_stage e.dels q.2 q.1 ∙ sym (ap (λ b. one_more_if (b && not (list_any is_acked (e.dels ++ removal_stamp e.removal_stage))) n) q.0)
  where
    by : (m : Option ℕ) (ts : List Stamp) → is_none m ≡ true → list_all is_acked ts ≡ true
        → unless_removed (map mark_of ts) 1 + n ≡ one_more_if (not (list_any is_acked (ts ++ removal_stamp m))) n
    by None [] g a = omega arith
    by None (Acked s c ∷ ts) g a = omega arith
    by None (Local k ∷ ts) g a = (cc)
    by (Some k) ts g a = (cc)

-- and as many unremoved ones
pub segments-unremoved : (i : ℕ) (xs : List ListElement) → list_all is_plain xs ≡ true → unremoved_text (segments_from i xs) ≡ len is_unremoved xs
segments-unremoved i [] h = refl
segments-unremoved i (e ∷ xs) h =
    let p = both (is_plain e) (list_all is_plain xs) h in
    extended-adds (λ s. unless_removed s.dels (body_length s.body)) unremoved_text (λ s segs. refl) alike-unremoved ((i + 1) % chunk_length == 0) (segment_of e)
    (segments_from (i + 1) xs)
    ∙ (ap (λ n. unless_removed (map mark_of e.dels) n + unremoved_text (segments_from (i + 1) xs)) (one-element e.content (plain-text e p.0))
    ∙ (settled-unremoved e (unremoved_text (segments_from (i + 1) xs)) (plain-settled e p.0)
    ∙ ap (one_more_if (is_unremoved e)) (segments-unremoved (i + 1) xs p.1)))

-- ---- runs

extended-runs_valid : (b : Bounds) (ins : Mark) (dels : List Mark) (runs : List RunRec) → are_stamps b ins dels ≡ true → list_all (is_run b) runs ≡ true
    → list_all (is_run b) (extended_unit_runs ins dels runs) ≡ true
extended-runs_valid b ins dels [] h g = rw h refl
extended-runs_valid b ins dels (run ∷ runs) h g =
    let p = both (is_run b run) (list_all (is_run b) runs) g in
    let q = both (nat_le 1 run.count) (are_stamps b run.ins run.dels) p.0 in
    by q.1 p.1 (same_stamps ins dels run.ins run.dels)
  where
    more : (n : ℕ) → nat_le 1 (n + 1) ≡ true
    more n = grind (arith, nat_tests)

    by : are_stamps b run.ins run.dels ≡ true → list_all (is_run b) runs ≡ true → (t : Bool)
        → list_all (is_run b) (cond t (record run { count = run.count + 1 } ∷ runs) (record { count = 1; ins = ins; dels = dels } ∷ run ∷ runs)) ≡ true
    by s r true = rw (more run.count, s, r) refl
    by s r false = rw (h, g) refl

pub runs-valid : (b : Bounds) (xs : List ListElement) → Each (λ e. are_stamps b (mark_of e.ins) (map mark_of e.dels) ≡ true) xs → list_all (is_run b) (unit_runs xs) ≡ true
runs-valid b [] h = refl
runs-valid b (e ∷ xs) h = extended-runs_valid b (mark_of e.ins) (map mark_of e.dels) (unit_runs xs) h.0 (runs-valid b xs h.1)

extended-count : (ins : Mark) (dels : List Mark) (runs : List RunRec) → unit_count (extended_unit_runs ins dels runs) ≡ suc (unit_count runs)
extended-count ins dels [] = refl
extended-count ins dels (run ∷ runs) = by (same_stamps ins dels run.ins run.dels)
  where
    by : (t : Bool) → unit_count (cond t (record run { count = run.count + 1 } ∷ runs) (record { count = 1; ins = ins; dels = dels } ∷ run ∷ runs))
        ≡ suc (run.count + unit_count runs)
    by true = omega arith
    by false = omega arith

pub runs-count : (xs : List ListElement) → unit_count (unit_runs xs) ≡ length xs
runs-count [] = refl
runs-count (e ∷ xs) = extended-count (mark_of e.ins) (map mark_of e.dels) (unit_runs xs) ∙ ap suc (runs-count xs)

extended-units : (ins : Mark) (dels : List Mark) (runs : List RunRec) → unremoved_units (extended_unit_runs ins dels runs) ≡ unless_removed dels 1 + unremoved_units runs
extended-units ins dels [] = refl
extended-units ins dels (run ∷ runs) = by (same_stamps ins dels run.ins run.dels) refl
  where
    by : (t : Bool) → same_stamps ins dels run.ins run.dels ≡ t
        → unremoved_units (cond t (record run { count = run.count + 1 } ∷ runs) (record { count = 1; ins = ins; dels = dels } ∷ run ∷ runs))
        ≡ unless_removed dels 1 + (unless_removed run.dels run.count + unremoved_units runs)
    by true e =
        let same = (stamps_are_same ins run.ins dels run.dels e).1 in
        let more = unless-adds run.dels run.count 1 in
        let one = ap (λ ms. unless_removed ms 1) same in
        omega (arith, more, one)
    by false e = refl

pub runs-unremoved : (xs : List ListElement) → list_all is_plain_unit xs ≡ true → unremoved_units (unit_runs xs) ≡ len is_unremoved xs
runs-unremoved [] h = refl
runs-unremoved (e ∷ xs) h =
    let p = both (is_plain_unit e) (list_all is_plain_unit xs) h in
    extended-units (mark_of e.ins) (map mark_of e.dels) (unit_runs xs)
    ∙ (settled-unremoved e (unremoved_units (unit_runs xs)) (both (is_settled e) (is_none e.by && is_empty e.props && not (is_of_text e.content)) p.0).0
    ∙ ap (one_more_if (is_unremoved e)) (runs-unremoved xs p.1))

-- ---- what is trimmed

-- a collectable element is removed
collectable-removed : (e : ListElement) (min : ℕ) → is_collectable min e ≡ true → is_unremoved e ≡ false
collectable-removed e min h = by (is_acked e.ins) e.dels (both (is_acked e.ins) (has_collectable_removal min e.dels) h).1
  where
    none : (b : Bool) → b && false ≡ false
    none true = refl
    none false = refl

    by : (b : Bool) (ts : List Stamp) → has_collectable_removal min ts ≡ true → b && not (list_any is_acked (ts ++ removal_stamp e.removal_stage)) ≡ false
    by b [] g = (cc)
    by b (Acked s c ∷ ts) g = none b
    by b (Local k ∷ ts) g = (cc)

universal-unremoved : (min : ℕ) (e : ListElement) → is_unremoved (trim_element min e) ≡ is_unremoved e
universal-unremoved min e = by e.ins (is_insertion_at_or_below min e.ins) refl refl
  where
    by : (t : Stamp) (b : Bool) → e.ins ≡ t → is_insertion_at_or_below min e.ins ≡ b → is_unremoved (cond b (with_universal_insertion e) e) ≡ is_unremoved e
    by (Acked s c) true i l = sym (ap (λ u. is_acked u && not (list_any is_acked (e.dels ++ removal_stamp e.removal_stage))) i)
    by (Local k) true i l = absurd (pending (subst (λ u. is_insertion_at_or_below min u ≡ true) i l))
      where
        pending : false ≡ true → ⊥
        pending g = (cc)
    by t false i l = refl

-- a trimmed list has as many unremoved elements
pub trimmed-unremoved : (min : ℕ) (xs : List ListElement) → len is_unremoved (retain_map (λ e. not (is_collectable min e)) (trim_element min) xs) ≡ len is_unremoved xs
trimmed-unremoved min [] = refl
trimmed-unremoved min (e ∷ xs) = by (is_collectable min e) refl (trimmed-unremoved min xs)
  where
    by : (b : Bool) → is_collectable min e ≡ b → len is_unremoved (retain_map (λ e. not (is_collectable min e)) (trim_element min) xs) ≡ len is_unremoved xs
        → len is_unremoved (cond (not b) (trim_element min e ∷ retain_map (λ e. not (is_collectable min e)) (trim_element min) xs)
        (retain_map (λ e. not (is_collectable min e)) (trim_element min) xs)) ≡ one_more_if (is_unremoved e) (len is_unremoved xs)
    by true g ih = ih ∙ sym (ap (λ t. one_more_if t (len is_unremoved xs)) (collectable-removed e min g))
    by false g ih = ap (λ t. one_more_if t (len is_unremoved (retain_map (λ e. not (is_collectable min e)) (trim_element min) xs))) (universal-unremoved min e)
        ∙ ap (one_more_if (is_unremoved e)) ih

-- and no more elements
pub trimmed-length : (min : ℕ) (xs : List ListElement) → length (retain_map (λ e. not (is_collectable min e)) (trim_element min) xs) ≤ length xs
trimmed-length min [] = omega arith
trimmed-length min (e ∷ xs) = by (is_collectable min e) (trimmed-length min xs)
  where
    by : (b : Bool) → length (retain_map (λ e. not (is_collectable min e)) (trim_element min) xs) ≤ length xs
        → length (cond (not b) (trim_element min e ∷ retain_map (λ e. not (is_collectable min e)) (trim_element min) xs)
        (retain_map (λ e. not (is_collectable min e)) (trim_element min) xs)) ≤ suc (length xs)
    by true ih = omega (arith, ih)
    by false ih = omega (arith, ih)
