-- The document that a valid summary gives is one of which a summary can be written.
use Rattle.std.proofs.Common.{◌≡◌, ℕ, zero, suc, ◌+◌, ◌≤◌, Bool, true, false, cond, ◌&&◌, ◌||◌, nat_le, nat_lt, ℤ, pos, negsuc, List, [], ◌∷◌, ◌++◌, length, map, replicate, Option, Some, None, refl, ◌∙◌, ap, arith}
use Rattle.std.specs.List.{AllByRecursion, list_all}
use Rattle.std.proofs.lemmas.Bool.Decides.{nat_tests}
use Rattle.ft_base.proofs.Booleans.{both}
use Rattle.ft_base.specs.declared.stamps.Stamp.{Stamp}
use Rattle.ft_base.specs.Scan.{len, one_more_if}
use Rattle.ft_base.specs.Visibility.{is_acked}
use Rattle.ft_props.specs.Properties.{PropertyList}
use Rattle.ft_props.specs.Element.{ElementContent, GridUnit, ListElement, is_unremoved, new_elements}
use Rattle.ft_op.specs.Cells.{Cell}
use Rattle.ft_op.specs.Document.{Document}
use Rattle.ft_op.specs.Intervals.{element_at_end}
use Rattle.ft_sumdoc.specs.declared.summary.CellRec.{CellRec}
use Rattle.ft_sumdoc.specs.declared.summary.IntervalRec.{IntervalRec}
use Rattle.ft_sumdoc.specs.declared.summary.Mark.{Mark}
use Rattle.ft_sumdoc.specs.declared.summary.RunRec.{RunRec}
use Rattle.ft_sumdoc.specs.declared.summary.Seg.{Seg}
use Rattle.ft_sumdoc.specs.declared.summary.Seg.TheVariants.{Chars, Marker}
use Rattle.ft_sumdoc.specs.declared.summary.SegRec.{SegRec}
use Rattle.ft_sumdoc.specs.declared.summary.SumDoc.{SumDoc}
use Rattle.ft_sumdoc.specs.Intervals.{are_shown_ends}
use Rattle.ft_sumdoc.specs.Segments.{body_length, unless_removed, unremoved_text}
use Rattle.ft_sumdoc.specs.Stamps.{Bounds, are_removals, is_old, is_recent, is_universal, removals_rise, same_mark, universal}
use Rattle.ft_sumdoc.specs.Valid.{IsCell, IsInterval, IsSegment, IsValidSummary, IsValue, are_stamps, bounds, is_author, is_interval_before, is_run, is_segment_body}
use Rattle.ft_marks.specs.Marks.{mark_of, stamp_of}
use Rattle.ft_msg.specs.Summary.{cell_at, cells_of, doc_of, interval_of, run_items, segment_bodies, segment_items}
use Rattle.ft_msg.specs.SummaryOf.{element_body}
use Rattle.ft_marks.proofs.SameStamps.{same_mark-Decides}
use Rattle.ft_laws_agreement.specs.Sequencing.{Each, are_ends_in}
use Rattle.ft_laws_agreement.specs.Trimming.{are_distinct_elements}
use Rattle.ft_laws_agreement.proofs.SummaryStarts.{summary-sound}
use Rattle.ft_laws_summaries.specs.Runs.{IsStartWithin, from_nothing, from_summary}
use Rattle.ft_laws_summaries.proofs.Lists.{each-joined}
use Rattle.ft_laws_summaries.proofs.FormedClients.{places-ordered}
use Rattle.ft_laws_summaries.proofs.OrderedEnds.{AreInOrder}
use Rattle.ft_laws_summaries.proofs.SummaryLists.{is_of_text, is_plain, is_plain_unit}
use Rattle.ft_laws_summaries.proofs.ValidDocuments.{HasAuthor, IsMadeBy, IsValidText, empty-made, is_old_author, old, own}
use Rattle.ft_laws_summaries.proofs.ValidElements.{IsDated, is_dated, is_dated_insertion}
use Rattle.ft_laws_summaries.proofs.ValidIntervals.{IsValidInterval, is_before, rises-map}

-- ---- stamps

acked-marks : (ms : List Mark) → list_all is_acked (map stamp_of ms) ≡ true
acked-marks [] = refl
acked-marks (m ∷ ms) = acked-marks ms

marks-back : (ms : List Mark) → map mark_of (map stamp_of ms) ≡ ms
marks-back [] = refl
marks-back (m ∷ ms) = ap (λ rest. m ∷ rest) (marks-back ms)

module _ (n : ℕ) (b : Bounds) (known : b.conns ≤ n) where
  recent-dated : (m : Mark) → is_recent b m ≡ true → is_dated (b.seq + 1) 0 n (stamp_of m) ≡ true
  recent-dated m h = let k = known in grind (arith, nat_tests, k, h)

  removals-dated : (ms : List Mark) → list_all (is_recent b) ms ≡ true → list_all (is_dated (b.seq + 1) 0 n) (map stamp_of ms) ≡ true
  removals-dated [] h = refl
  removals-dated (m ∷ ms) h = let p = both (is_recent b m) (list_all (is_recent b) ms) h in rw (recent-dated m p.0, removals-dated ms p.1) refl

  insertion-dated : (m : Mark) → is_universal m || is_recent b m ≡ true → is_dated_insertion (b.seq + 1) 0 n (stamp_of m) ≡ true
  insertion-dated m h = by (is_universal m) h
    where
      by : (u : Bool) → u || is_recent b m ≡ true → (u && true) || is_dated (b.seq + 1) 0 n (stamp_of m) ≡ true
      by true g = refl
      by false g = recent-dated m g

  -- what the stamps of a segment or a run are of an element
  stamped : (e : ListElement) (ins : Mark) (dels : List Mark) → e.ins ≡ stamp_of ins → e.dels ≡ map stamp_of dels → are_stamps b ins dels ≡ true → IsDated (b.seq + 1) 0 n e
  stamped e ins dels i d h =
      let p = both (is_universal ins || is_recent b ins) (are_removals b ins.seq dels) h in
      let q = both (list_all (is_recent b) dels) (removals_rise ins.seq dels) p.1 in
      record {
        ins = ap (is_dated_insertion (b.seq + 1) 0 n) i ∙ insertion-dated ins p.0;
        dels = ap (list_all (is_dated (b.seq + 1) 0 n)) d ∙ removals-dated dels q.0;
        rising = ap (λ s. removals_rise (mark_of s).seq (map mark_of e.dels)) i ∙ (ap (λ ss. removals_rise ins.seq (map mark_of ss)) d
            ∙ (ap (removals_rise ins.seq) (marks-back dels) ∙ q.1));
      }

  -- ---- authors

  old-author : (m : Mark) → is_universal m || is_old b m ≡ true → is_old_author b.min n (stamp_of m) ≡ true
  old-author m h = let k = known in grind (arith, nat_tests, k, h)

  same-stamps : (a m : Mark) → same_mark a m ≡ true → stamp_of a ≡ stamp_of m
  same-stamps a m h = ap stamp_of ((same_mark-Decides a m).0 h)

  authored : (ins by : Mark) → is_universal ins || is_recent b ins ≡ true → is_author b ins by ≡ true → HasAuthor (b.seq + 1) 0 n b.min (stamp_of ins) (Some (stamp_of by))
  authored ins by h a = choose (is_universal ins) refl a h
    where
      choose : (u : Bool) → is_universal ins ≡ u → cond u (is_universal by || is_old b by) (same_mark by ins) ≡ true → u || is_recent b ins ≡ true
          → HasAuthor (b.seq + 1) 0 n b.min (stamp_of ins) (Some (stamp_of by))
      choose true e f g = old (stamp_of by) (same-stamps ins universal e) refl (old-author by f)
      choose false e f g = own (ap Some (same-stamps by ins f)) (recent-dated ins g)

  -- ---- elements of segments and runs

  contents-fit : (body : Seg) → is_segment_body body ≡ true → Each (λ c. (is_segment_body (element_body c) ≡ true) × (is_of_text c ≡ true)) (segment_bodies body)
  contents-fit (Chars text) h = all text
    where
      all : (cs : List ℕ) → Each (λ c. (is_segment_body (element_body c) ≡ true) × (is_of_text c ≡ true)) (segment_bodies (Chars cs))
      all [] = tt
      all (c ∷ cs) = ((refl, refl), all cs)
  contents-fit (Marker r) h = ((h, refl), tt)

  elements-valid : (s : SegRec) → IsSegment b s → (k : ℕ) (cs : List ElementContent) → Each (λ c. (is_segment_body (element_body c) ≡ true) × (is_of_text c ≡ true)) cs
      → Each (λ e. IsValidText (b.seq + 1) 0 n b.min e × (is_plain e ≡ true)) (new_elements k (stamp_of s.ins) (map stamp_of s.dels) (Some (stamp_of s.by)) s.props cs)
  elements-valid s h k [] f = tt
  elements-valid s h k (c ∷ cs) f =
      let e : ListElement = record {
        nth = k;
        content = c;
        ins = stamp_of s.ins;
        dels = map stamp_of s.dels;
        removal_stage = None;
        by = Some (stamp_of s.by);
        props = s.props;
        pending = [];
      } in
      let p = both (is_universal s.ins || is_recent b s.ins) (are_removals b s.ins.seq s.dels) h.stamps in (
        (record { dated = stamped e s.ins s.dels refl refl h.stamps; by = authored s.ins s.by p.0 h.author; body = f.0.0; props = h.props }, rw (acked-marks s.dels, f.0.1) refl),
        elements-valid s h (k + 1) cs f.1,
      )

  segments-fit : (k : ℕ) (segs : List SegRec) → AllByRecursion (IsSegment b) segs → Each (λ e. IsValidText (b.seq + 1) 0 n b.min e × (is_plain e ≡ true)) (segment_items k segs)
  segments-fit k [] h = tt
  segments-fit k (s ∷ segs) h =
      each-joined (λ e. IsValidText (b.seq + 1) 0 n b.min e × (is_plain e ≡ true))
      (new_elements k (stamp_of s.ins) (map stamp_of s.dels) (Some (stamp_of s.by)) s.props (segment_bodies s.body)) (segment_items (k + length (segment_bodies s.body)) segs)
      (elements-valid s h.0 k (segment_bodies s.body) (contents-fit s.body h.0.body)) (segments-fit (k + length (segment_bodies s.body)) segs h.1)

  units-valid : (r : RunRec) → are_stamps b r.ins r.dels ≡ true → (k m : ℕ)
      → Each (λ e. IsDated (b.seq + 1) 0 n e × (is_plain_unit e ≡ true)) (new_elements k (stamp_of r.ins) (map stamp_of r.dels) None [] (replicate m GridUnit))
  units-valid r h k zero = tt
  units-valid r h k (suc m) =
      let e : ListElement = record { nth = k; content = GridUnit; ins = stamp_of r.ins; dels = map stamp_of r.dels; removal_stage = None; by = None; props = []; pending = [] } in
      ((stamped e r.ins r.dels refl refl h, rw (acked-marks r.dels) refl), units-valid r h (k + 1) m)

  runs-fit : (k : ℕ) (runs : List RunRec) → list_all (is_run b) runs ≡ true → Each (λ e. IsDated (b.seq + 1) 0 n e × (is_plain_unit e ≡ true)) (run_items k runs)
  runs-fit k [] h = tt
  runs-fit k (r ∷ runs) h =
      let p = both (is_run b r) (list_all (is_run b) runs) h in
      each-joined (λ e. IsDated (b.seq + 1) 0 n e × (is_plain_unit e ≡ true))
      (new_elements k (stamp_of r.ins) (map stamp_of r.dels) None [] (replicate r.count GridUnit)) (run_items (k + r.count) runs)
      (units-valid r (both (nat_le 1 r.count) (are_stamps b r.ins r.dels) p.0).1 k r.count) (runs-fit (k + r.count) runs p.1)

-- ---- parts of a fact of each element

firsts : {A : Type 0} (P Q : A → Type 0) (xs : List A) → Each (λ x. P x × Q x) xs → Each P xs
firsts P Q [] h = tt
firsts P Q (x ∷ xs) h = (h.0.0, firsts P Q xs h.1)

seconds : {A : Type 0} (P : A → Type 0) (test : A → Bool) (xs : List A) → Each (λ x. P x × (test x ≡ true)) xs → list_all test xs ≡ true
seconds P test [] h = refl
seconds P test (x ∷ xs) h = rw (h.0.1, seconds P test xs h.1) refl

-- ---- how many elements are unremoved

len-joined : (test : ListElement → Bool) (xs ys : List ListElement) → len test (xs ++ ys) ≡ len test xs + len test ys
len-joined test [] ys = omega arith
len-joined test (x ∷ xs) ys = by (test x) (len-joined test xs ys)
  where
    by : (b : Bool) → len test (xs ++ ys) ≡ len test xs + len test ys → one_more_if b (len test (xs ++ ys)) ≡ one_more_if b (len test xs) + len test ys
    by true h = omega (arith, h)
    by false h = h

new-unremoved : (k : ℕ) (ins : Mark) (dels : List Mark) (by : Option Stamp) (props : PropertyList) (cs : List ElementContent)
    → len is_unremoved (new_elements k (stamp_of ins) (map stamp_of dels) by props cs) ≡ unless_removed dels (length cs)
new-unremoved k ins [] by props [] = refl
new-unremoved k ins (m ∷ ms) by props [] = refl
new-unremoved k ins [] by props (c ∷ cs) = ap suc (new-unremoved (k + 1) ins [] by props cs)
new-unremoved k ins (m ∷ ms) by props (c ∷ cs) = new-unremoved (k + 1) ins (m ∷ ms) by props cs

bodies-long : (body : Seg) → length (segment_bodies body) ≡ body_length body
bodies-long (Chars text) = long text
  where
    long : (cs : List ℕ) → length (segment_bodies (Chars cs)) ≡ length cs
    long [] = refl
    long (c ∷ cs) = ap suc (long cs)
bodies-long (Marker r) = refl

text-unremoved : (k : ℕ) (segs : List SegRec) → len is_unremoved (segment_items k segs) ≡ unremoved_text segs
text-unremoved k [] = refl
text-unremoved k (s ∷ segs) =
    let front = new_elements k (stamp_of s.ins) (map stamp_of s.dels) (Some (stamp_of s.by)) s.props (segment_bodies s.body) in
    len-joined is_unremoved front (segment_items (k + length (segment_bodies s.body)) segs)
    ∙ (ap (λ i. i + len is_unremoved (segment_items (k + length (segment_bodies s.body)) segs))
    (new-unremoved k s.ins s.dels (Some (stamp_of s.by)) s.props (segment_bodies s.body) ∙ ap (unless_removed s.dels) (bodies-long s.body))
    ∙ ap (λ i. unless_removed s.dels (body_length s.body) + i) (text-unremoved (k + length (segment_bodies s.body)) segs))

-- ---- intervals and cells

interval-fits : (xs : List ListElement) (n : ℕ) (i : IntervalRec) → len is_unremoved xs ≡ n → are_distinct_elements xs ≡ true → IsInterval n i
    → IsValidInterval xs (interval_of xs i)
interval-fits xs n i long distinct h =
    let ends = ends-fit i.ends.start i.ends.end h.0 in record { there = ends.0; order = ends.1; props = h.1 }
  where
    ends-fit : (a b : ℤ) → are_shown_ends n (record { start = a; end = b }) ≡ true
        → (are_ends_in xs (element_at_end is_unremoved xs a) (element_at_end is_unremoved xs b) ≡ true) × AreInOrder xs (element_at_end is_unremoved xs a) (element_at_end
        is_unremoved xs b)
    ends-fit (pos p) (pos q) e = places-ordered is_unremoved xs p q (low e) (high e) distinct
      where
        low : are_shown_ends n (record { start = pos p; end = pos q }) ≡ true → p ≤ q
        low g = grind (arith, nat_tests, g)

        high : are_shown_ends n (record { start = pos p; end = pos q }) ≡ true → nat_lt q (len is_unremoved xs) ≡ true
        high g = grind (arith, nat_tests, g, long)
    ends-fit (pos p) (negsuc q) e = absurd (none e)
      where
        none : are_shown_ends n (record { start = pos p; end = negsuc q }) ≡ true → ⊥
        none g = grind (arith, nat_tests, g)
    ends-fit (negsuc p) (pos q) e = absurd (none e)
      where
        none : are_shown_ends n (record { start = negsuc p; end = pos q }) ≡ true → ⊥
        none g = grind (arith, nat_tests, g)
    ends-fit (negsuc p) (negsuc q) e = (refl, tt)

intervals-fit : (xs : List ListElement) (n : ℕ) (is : List IntervalRec) → len is_unremoved xs ≡ n → are_distinct_elements xs ≡ true → AllByRecursion (IsInterval n) is
    → Each (IsValidInterval xs) (map (interval_of xs) is)
intervals-fit xs n [] long distinct h = tt
intervals-fit xs n (i ∷ is) long distinct h = (interval-fits xs n i long distinct h.0, intervals-fit xs n is long distinct h.1)

cell-fits : (row col : Option ListElement) (c : CellRec) → IsValue c.value → Each (λ (cell : Cell). IsValue cell.value) (cell_at row col c)
cell-fits (Some row) (Some col) c h = (h, tt)
cell-fits (Some row) None c h = tt
cell-fits None col c h = tt

cells-fit : (rows cols : List ListElement) (m n : ℕ) (cs : List CellRec) → AllByRecursion (IsCell m n) cs → Each (λ (cell : Cell). IsValue cell.value) (cells_of rows cols cs)
cells-fit rows cols m n [] h = tt
cells-fit rows cols m n (c ∷ cs) h =
    each-joined (λ (cell : Cell). IsValue cell.value) (cell_at _ _ c) (cells_of rows cols cs) (cell-fits _ _ c h.0.1) (cells-fit rows cols m n cs h.1)

-- ---- documents

start-made : (n : ℕ) (sum : SumDoc) → IsValidSummary sum → length sum.conns ≤ n → IsMadeBy n (doc_of sum)
start-made n sum v known =
    let sound = summary-sound sum v in
    let b = bounds sum in
    let text = segments-fit n b known 0 sum.text v.text in
    let rows = runs-fit n b known 0 sum.rows v.rows.each in
    let cols = runs-fit n b known 0 sum.cols v.cols.each in
    let xs = segment_items 0 sum.text in
    record {
      plain = record {
        text = seconds (IsValidText (sum.seq + 1) 0 n sum.min) is_plain xs text;
        rows = seconds (IsDated (sum.seq + 1) 0 n) is_plain_unit (run_items 0 sum.rows) rows;
        cols = seconds (IsDated (sum.seq + 1) 0 n) is_plain_unit (run_items 0 sum.cols) cols;
      };
      consistent = sound.consistent;
      valid = record {
        text = firsts (IsValidText (sum.seq + 1) 0 n sum.min) (λ e. is_plain e ≡ true) xs text;
        rows = firsts (IsDated (sum.seq + 1) 0 n) (λ e. is_plain_unit e ≡ true) (run_items 0 sum.rows) rows;
        cols = firsts (IsDated (sum.seq + 1) 0 n) (λ e. is_plain_unit e ≡ true) (run_items 0 sum.cols) cols;
        intervals = intervals-fit xs (unremoved_text sum.text) sum.intervals (text-unremoved 0 sum.text) sound.consistent.text.distinct v.intervals;
        order = rises-map (interval_of xs) is_interval_before is_before (λ i j. refl) sum.intervals ∙ v.names;
        cells = cells-fit (run_items 0 sum.rows) (run_items 0 sum.cols) _ _ sum.cells v.cells;
      };
      numbers = sound.numbers;
    }

-- each document that a client which knows n connections starts from
pub starts-made : (n : ℕ) (doc : Document) → IsStartWithin n doc → IsMadeBy n doc
starts-made n doc from_nothing = empty-made n
starts-made n doc (from_summary {sum} v known) = start-made n sum v known
