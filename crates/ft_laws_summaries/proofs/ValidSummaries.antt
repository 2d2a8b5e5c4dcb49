-- The summary of a document that well-formed messages make is valid, where its numbers, counts and lengths are small enough.
use Rattle.std.proofs.Common.{◌≡◌, ℕ, ◌+◌, ◌≤◌, ◌^◌, true, not, ◌&&◌, nat_le, List, [], ◌∷◌, length, map, refl, sym, ◌∙◌, ap, subst, arith, lt-ltb}
use Rattle.std.specs.List.{AllByRecursion, list_all}
use Rattle.std.proofs.lemmas.Bool.Decides.{nat_tests}
use Rattle.ft_base.proofs.Booleans.{both}
use Rattle.ft_base.proofs.PlainList.{length-filter_seen}
use Rattle.ft_base.specs.Scan.{len, one_more_if, retain_map}
use Rattle.ft_props.specs.Compaction.{is_collectable, trim_element}
use Rattle.ft_props.specs.Properties.{Characters}
use Rattle.ft_props.specs.Element.{ListElement, is_unremoved, seen}
use Rattle.ft_op.specs.Document.{Document}
use Rattle.ft_sumdoc.specs.Counts.{are_distinct_names}
use Rattle.ft_sumdoc.specs.Forms.{rises}
use Rattle.ft_sumdoc.specs.Runs.{unit_count, unremoved_units}
use Rattle.ft_sumdoc.specs.Segments.{text_length, unremoved_text}
use Rattle.ft_sumdoc.specs.Valid.{AreRuns, IsCell, IsInterval, IsSegment, IsValidSummary, are_stamps, is_cell_before, is_interval_before}
use Rattle.ft_msg.specs.Content.{ViewContent, shown, stage_view}
use Rattle.ft_msg.specs.Summary.{trim}
use Rattle.ft_marks.specs.Marks.{mark_of}
use Rattle.ft_msg.specs.SummaryOf.{segment_of, segments_from, summary_of, unit_runs}
use Rattle.ft_laws_agreement.specs.Sequencing.{Each}
use Rattle.ft_laws_agreement.proofs.TrimmedFromNow.{trim-shows}
use Rattle.ft_laws_summaries.specs.Summaries.{IsSmall}
use Rattle.ft_laws_summaries.proofs.SummaryIntervals.{settled-seen}
use Rattle.ft_laws_summaries.proofs.SummaryLists.{is_empty, is_none, is_of_text, is_plain_unit, is_settled, trim-plain}
use Rattle.ft_laws_summaries.proofs.ValidDocuments.{IsMadeBy, IsValidText}
use Rattle.ft_laws_summaries.proofs.ValidElements.{IsDated}
use Rattle.ft_laws_summaries.proofs.ValidSegments.{each-retained, runs-count, runs-unremoved, runs-valid, segment-valid, segments-length, segments-unremoved, segments-valid, stamps-valid, tested, trimmed-unremoved}
use Rattle.ft_laws_summaries.proofs.ValidViews.{cells-rise, cells-valid, intervals-rise, intervals-shown}

-- ---- rows and columns

-- units are seen where they are unremoved
unit-seen : (e : ListElement) → is_plain_unit e ≡ true → seen 0 e ≡ is_unremoved e
unit-seen e h = settled-seen e (both (is_settled e) (is_none e.by && is_empty e.props && not (is_of_text e.content)) h).0

units-seen : (xs : List ListElement) → list_all is_plain_unit xs ≡ true → length (stage_view 0 xs) ≡ len is_unremoved xs
units-seen xs h = length-filter_seen (seen 0) xs ∙ same xs h
  where
    same : (ys : List ListElement) → list_all is_plain_unit ys ≡ true → len (seen 0) ys ≡ len is_unremoved ys
    same [] g = refl
    same (e ∷ ys) g =
        let p = both (is_plain_unit e) (list_all is_plain_unit ys) g in
        ap (λ b. one_more_if b (len (seen 0) ys)) (unit-seen e p.0) ∙ ap (one_more_if (is_unremoved e)) (same ys p.1)

-- ---- summaries

low-enough : (m n : ℕ) → m ≤ n → nat_le m n ≡ true
low-enough m n l = grind (arith, nat_tests)

-- the elements that are kept, and the runs of kept units
abbrev kept_items : ℕ → List ListElement → List ListElement
kept_items min xs = retain_map (λ e. not (is_collectable min e)) (trim_element min) xs

kept-runs : (min seq conns : ℕ) (xs : List ListElement) → Each (IsDated (seq + 1) 0 conns) xs → length (kept_items min xs) ≤ 2 ^ 52 → AreRuns (tested min seq conns) (unit_runs (kept_items min xs))
kept-runs min seq conns xs h l =
    let count = runs-count (kept_items min xs) in
    record {
      each = runs-valid (tested min seq conns) (kept_items min xs)
          (each-retained (IsDated (seq + 1) 0 conns) (λ e. are_stamps (tested min seq conns) (mark_of e.ins) (map mark_of e.dels) ≡ true)
          (λ e. not (is_collectable min e)) (trim_element min) (λ e d k. stamps-valid min seq conns e d k) xs h);
      units = low-enough (unit_count (unit_runs (kept_items min xs))) (2 ^ 52) (omega (arith, count, l));
    }

-- how many kept units are unremoved
kept-units : (min : ℕ) (xs : List ListElement) → list_all is_plain_unit xs ≡ true → list_all is_plain_unit (kept_items min xs) ≡ true
    → unremoved_units (unit_runs (kept_items min xs)) ≡ length (stage_view 0 xs)
kept-units min xs h g = runs-unremoved (kept_items min xs) g ∙ (trimmed-unremoved min xs ∙ sym (units-seen xs h))

module _ (conns : List Characters) (doc : Document) (made : IsMadeBy (length conns) doc) where
  views : shown (trim doc) ≡ shown doc
  views = trim-shows doc [] made.consistent tt

  valid-intervals : AllByRecursion (IsInterval (unremoved_text (segments_from 0 (trim doc).text.items))) (shown (trim doc)).intervals
  valid-intervals =
      let t = trim-plain doc made.plain in
      let count = segments-unremoved 0 (trim doc).text.items t.text ∙ trimmed-unremoved doc.minimum doc.text.items in
      subst (λ (v : ViewContent). AllByRecursion (IsInterval (unremoved_text (segments_from 0 (trim doc).text.items))) v.intervals) (sym views)
      (subst (λ n. AllByRecursion (IsInterval n) (shown doc).intervals) (sym count)
      (intervals-shown doc.text.items made.plain.text made.consistent.text.distinct doc.intervals made.valid.intervals made.consistent.ends))

  valid-cells : AllByRecursion (IsCell (unremoved_units (unit_runs (trim doc).rows.items)) (unremoved_units (unit_runs (trim doc).cols.items))) (shown (trim doc)).cells
  valid-cells =
      let t = trim-plain doc made.plain in
      let rows = kept-units doc.minimum doc.rows.items made.plain.rows t.rows in
      let cols = kept-units doc.minimum doc.cols.items made.plain.cols t.cols in
      subst (λ (v : ViewContent). AllByRecursion (IsCell (unremoved_units (unit_runs (trim doc).rows.items)) (unremoved_units (unit_runs (trim doc).cols.items))) v.cells)
      (sym views)
      (cells-valid doc.cells (unremoved_units (unit_runs (trim doc).rows.items)) (unremoved_units (unit_runs (trim doc).cols.items)) 0
      (stage_view 0 doc.rows.items) (stage_view 0 doc.cols.items) (omega (arith, rows)) (omega (arith, cols)) made.valid.cells)

  pub summary-valid : are_distinct_names conns ≡ true → IsSmall doc → IsValidSummary (summary_of conns doc)
  summary-valid distinct little =
      let t = trim-plain doc made.plain in
      let b = tested doc.minimum doc.number (length conns) in
      let long = segments-length 0 (trim doc).text.items t.text in
      let text = little.text in
      record {
        seq = lt-ltb doc.number (2 ^ 53) little.number;
        min = low-enough doc.minimum doc.number made.numbers;
        skipped = lt-ltb doc.skipped (2 ^ 53) little.skipped;
        other = lt-ltb doc.other (2 ^ 53) little.other;
        conns = distinct;
        text = segments-valid b 0 (trim doc).text.items
            (each-retained (IsValidText (doc.number + 1) 0 (length conns) doc.minimum) (λ e. IsSegment (tested doc.minimum doc.number (length conns)) (segment_of e))
            (λ e. not (is_collectable doc.minimum e)) (trim_element doc.minimum)
            (λ e v k. segment-valid doc.minimum doc.number (length conns) e v k) doc.text.items made.valid.text);
        elements = lt-ltb (text_length (segments_from 0 (trim doc).text.items)) (2 ^ 53) (omega (arith, long, text));
        rows = kept-runs doc.minimum doc.number (length conns) doc.rows.items made.valid.rows little.rows;
        cols = kept-runs doc.minimum doc.number (length conns) doc.cols.items made.valid.cols little.cols;
        intervals = valid-intervals;
        names = subst (λ (v : ViewContent). rises is_interval_before v.intervals ≡ true) (sym views)
            (intervals-rise doc.text.items made.plain.text made.consistent.text.distinct doc.intervals made.valid.order);
        cells = valid-cells;
        places = subst (λ (v : ViewContent). rises is_cell_before v.cells ≡ true) (sym views)
            (cells-rise doc.cells 0 (stage_view 0 doc.rows.items) (stage_view 0 doc.cols.items));
      }
