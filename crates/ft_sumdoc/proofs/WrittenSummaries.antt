-- The value that a summary is written as is canonical, and has few enough levels to be read again.
use Rattle.std.proofs.Common.{◌≡◌, ℕ, ◌-◌, ◌^◌, ◌≤◌, ℤ, pos, negsuc, true, not, List, [], ◌∷◌, length, Option, Some, None, codes, refl, arith, nat_lt, leb-true, lt-ltb, ltb-true}
use Rattle.std.specs.Prelude.{IsTrue, int_lt}
use Rattle.std.specs.List.{AllByRecursion}
use Rattle.std.proofs.lemmas.Bool.Decides.{nat_tests}
use Rattle.serde_json.specs.Data.{Data, array, depth}
use Rattle.ft_base.proofs.Booleans.{both}
use Rattle.ft_json.specs.Canonical.{IsCanonical, value_of}
use Rattle.ft_json.specs.Reading.{is_within}
use Rattle.ft_props.specs.Properties.{Characters, PropertyList}
use Rattle.ft_op.specs.Representable.{IsKeyed, IsText}
use Rattle.ft_op.specs.WellFormed.{is_count, is_safe}
use Rattle.ft_op.specs.Written.{written_count, written_items, written_text}
use Rattle.ft_op.proofs.CanonicalOperations.{canonical_count, canonical_items, canonical_number, canonical_pairs, canonical_text, canonical_value_of, each}
use Rattle.ft_op.proofs.LevelsOfOperations.{items_levels, pairs_levels, value_levels}
use Rattle.ft_op.proofs.WrittenFields.{HasAtMost, IsCanonicalIfGiven, canonical_fields, fields_within}
use Rattle.ft_sumdoc.specs.declared.summary.CellRec.{CellRec}
use Rattle.ft_sumdoc.specs.declared.summary.IntervalRec.{IntervalRec}
use Rattle.ft_sumdoc.specs.declared.summary.Mark.{Mark}
use Rattle.ft_sumdoc.specs.declared.summary.RunRec.{RunRec}
use Rattle.ft_sumdoc.specs.declared.summary.Seg.{Seg}
use Rattle.ft_sumdoc.specs.declared.summary.Seg.TheVariants.{Chars, Marker}
use Rattle.ft_sumdoc.specs.declared.summary.SegRec.{SegRec}
use Rattle.ft_sumdoc.specs.declared.summary.SumDoc.{SumDoc}
use Rattle.ft_sumdoc.specs.Chunks.{chunks_from}
use Rattle.ft_sumdoc.specs.Representable.{IsRepresentableSummary, IsRepresentableContent, IsRepresentableInterval, IsRepresentableSegmentRecord}
use Rattle.ft_sumdoc.specs.Runs.{unit_count, unremoved_units}
use Rattle.ft_sumdoc.specs.Segments.{body_length, text_length, unremoved_text}
use Rattle.ft_sumdoc.specs.Stamps.{Bounds, unless_universal}
use Rattle.ft_sumdoc.specs.Valid.{AreRuns, HasValues, IsCell, IsInterval, IsSegment, IsValidSummary, are_stamps, bounds, is_segment_body}
use Rattle.ft_sumdoc.specs.Written.{author_beside, given_characters, given_mark, given_marks, given_props, given_ref_type, written_cell_record, written_chunk, written_interval_record, written_mark, written_props, written_unit_run, written_segment_record, written_summary}
use Rattle.ft_sumdoc.proofs.ReadChunks.{IsChunk, are_chunks}
use Rattle.ft_sumdoc.proofs.ReadRuns.{IsSoundRun, run_fields, sound_runs, unless_removed-most, unremoved-most}
use Rattle.ft_sumdoc.proofs.ReadSegments.{IsSound, segment_fields}
use Rattle.ft_sumdoc.proofs.ReadShown.{IsSoundInterval, are_numbers, below_is_count}
use Rattle.ft_sumdoc.proofs.ReadStamps.{AreCounts, HasCounts, HasCountsIfGiven, author_counts, stamps_counts}

-- the fields of a summary
abbrev pub summary_fields : SumDoc → List (List ℕ × Option Data)
summary_fields sum =
    (codes "cells", Some (array (written_items written_cell_record sum.cells)))
    ∷ (codes "cols", Some (array (written_items written_unit_run sum.cols)))
    ∷ (codes "conns", Some (array (written_items written_text sum.conns)))
    ∷ (codes "count", Some (written_count (text_length sum.text)))
    ∷ (codes "intervals", Some (array (written_items written_interval_record sum.intervals)))
    ∷ (codes "min", Some (written_count sum.min))
    ∷ (codes "other", Some (written_count sum.other))
    ∷ (codes "rows", Some (array (written_items written_unit_run sum.rows)))
    ∷ (codes "seq", Some (written_count sum.seq))
    ∷ (codes "skipped", Some (written_count sum.skipped))
    ∷ (codes "text", Some (array (written_items written_chunk (chunks_from 0 sum.text))))
    ∷ (codes "version", Some (written_count 2))
    ∷ []

-- ---- canonical

canonical_mark : (m : Mark) → HasCounts m → IsCanonical (written_mark m)
canonical_mark m h = (canonical_count m.seq h.seq, (canonical_count m.conn h.conn, tt))

canonical_given_mark : (o : Option Mark) → HasCountsIfGiven o → IsCanonicalIfGiven (given_mark o)
canonical_given_mark None h = tt
canonical_given_mark (Some m) h = canonical_mark m h

canonical_given_marks : (ms : List Mark) → AllByRecursion HasCounts ms → IsCanonicalIfGiven (given_marks ms)
canonical_given_marks [] h = tt
canonical_given_marks (m ∷ ms) h = canonical_items written_mark (m ∷ ms) (each HasCounts _ canonical_mark (m ∷ ms) h)

canonical_props : (props : PropertyList) → IsKeyed props → HasValues props → IsCanonical (written_props props)
canonical_props props keyed h = canonical_pairs value_of props keyed.0 keyed.1 (each _ _ (λ p g. canonical_value_of p.1 g.0) props h)

canonical_given_props : (props : PropertyList) → IsKeyed props → HasValues props → IsCanonicalIfGiven (given_props props)
canonical_given_props [] keyed h = tt
canonical_given_props (p ∷ props) keyed h = canonical_props (p ∷ props) keyed h

canonical_characters : (body : Seg) → IsRepresentableContent body → IsCanonicalIfGiven (given_characters body)
canonical_characters (Chars text) h = canonical_text text h
canonical_characters (Marker ref_type) h = tt

canonical_ref_type : (body : Seg) → IsTrue (is_segment_body body) → IsCanonicalIfGiven (given_ref_type body)
canonical_ref_type (Chars text) h = tt
canonical_ref_type (Marker ref_type) h = canonical_count ref_type h

canonical_segment : (b : Bounds) → AreCounts b → (seg : SegRec) → IsSound b seg → IsCanonical (written_segment_record seg)
canonical_segment b c seg h =
    let counts = stamps_counts b seg.ins seg.dels c h.valid.stamps in
    canonical_fields (segment_fields seg) refl (
      canonical_given_mark (author_beside seg.ins seg.by) (author_counts b seg.ins seg.by c h.valid.author),
      (
        canonical_given_mark (unless_universal seg.ins) counts.0,
        (
          canonical_ref_type seg.body h.valid.body,
          (
            canonical_given_props seg.props h.texts.1 h.valid.props,
            (
              canonical_given_marks seg.dels counts.1,
              (canonical_characters seg.body h.texts.0, tt),
            ),
          ),
        ),
      ),
    )

canonical_chunk : (b : Bounds) → AreCounts b → (chunk : List SegRec) → IsChunk b chunk → IsCanonical (written_chunk chunk)
canonical_chunk b c chunk h = canonical_items written_segment_record chunk (each (IsSound b) _ (canonical_segment b c) chunk h.1)

canonical_run : (b : Bounds) → AreCounts b → (run : RunRec) → IsSoundRun b run → IsCanonical (written_unit_run run)
canonical_run b c run h =
    let counts = stamps_counts b run.ins run.dels c (both _ (are_stamps b run.ins run.dels) h.valid).1 in
    canonical_fields (run_fields run) refl (
      canonical_given_mark (unless_universal run.ins) counts.0,
      (canonical_count run.count (lt-ltb run.count (2 ^ 53) (omega (arith, h.units))), (canonical_given_marks run.dels counts.1, tt)),
    )

below_one : (n : ℕ) → not (nat_lt 0 n) ≡ true → n ≡ 0
below_one n h = grind (arith, nat_tests)

safe_number : (z : ℤ) → is_within (negsuc 0) (pos (2 ^ 53 - 1)) z ≡ true → IsTrue (is_safe z)
safe_number (pos n) h = h
safe_number (negsuc n) h =
    let parts = both (not (int_lt (negsuc n) (negsuc 0))) (not (int_lt (pos (2 ^ 53 - 1)) (negsuc n))) h in
    rw (below_one n parts.0)

canonical_interval : (n : ℕ) → n ≤ 2 ^ 53 → (i : IntervalRec) → IsSoundInterval n i → IsCanonical (written_interval_record i)
canonical_interval n small i h =
    let numbers = are_numbers n i.ends small h.valid.0 in (
      canonical_text i.label h.texts.0,
      (
        canonical_text i.id h.texts.1,
        (
          canonical_number i.ends.start (safe_number i.ends.start numbers.0),
          (canonical_number i.ends.end (safe_number i.ends.end numbers.1), (canonical_props i.props h.texts.2 h.valid.1, tt)),
        ),
      ),
    )

-- ---- levels

mark_levels : (o : Option Mark) → HasAtMost 101 (given_mark o)
mark_levels None = tt
mark_levels (Some m) = omega arith

one_level : (m : Mark) → HasCounts m → depth (written_mark m) ≤ 1
one_level m h = omega arith

marks_levels : (ms : List Mark) → AllByRecursion HasCounts ms → HasAtMost 101 (given_marks ms)
marks_levels [] h = tt
marks_levels (m ∷ ms) h = omega (arith, items_levels HasCounts written_mark 1 one_level (m ∷ ms) h)

props_levels : (props : PropertyList) → HasValues props → depth (written_props props) ≤ 101
props_levels props h = omega (arith, pairs_levels value_of 100 props (each _ _ (λ p g. value_levels p.1 g.0) props h))

given_props_levels : (props : PropertyList) → HasValues props → HasAtMost 101 (given_props props)
given_props_levels [] h = tt
given_props_levels (p ∷ props) h = props_levels (p ∷ props) h

body_levels : (body : Seg) → HasAtMost 101 (given_ref_type body) × HasAtMost 101 (given_characters body)
body_levels (Chars text) = (tt, omega arith)
body_levels (Marker ref_type) = (omega arith, tt)

segment_levels : (b : Bounds) → AreCounts b → (seg : SegRec) → IsSound b seg → depth (written_segment_record seg) ≤ 102
segment_levels b c seg h =
    let counts = stamps_counts b seg.ins seg.dels c h.valid.stamps in
    let body = body_levels seg.body in
    let within = fields_within 101 (segment_fields seg) (
      mark_levels (author_beside seg.ins seg.by),
      (mark_levels (unless_universal seg.ins), (body.0, (given_props_levels seg.props h.valid.props, (marks_levels seg.dels counts.1, (body.1, tt))))),
    ) in
    omega (arith, within)

chunk_levels : (b : Bounds) → AreCounts b → (chunk : List SegRec) → IsChunk b chunk → depth (written_chunk chunk) ≤ 103
chunk_levels b c chunk h = omega (arith, items_levels (IsSound b) written_segment_record 102 (segment_levels b c) chunk h.1)

run_levels : (b : Bounds) → AreCounts b → (run : RunRec) → IsSoundRun b run → depth (written_unit_run run) ≤ 102
run_levels b c run h =
    let counts = stamps_counts b run.ins run.dels c (both _ (are_stamps b run.ins run.dels) h.valid).1 in
    let within = fields_within 101 (run_fields run) (mark_levels (unless_universal run.ins), (omega arith, (marks_levels run.dels counts.1, tt))) in
    omega (arith, within)

interval_levels : (n : ℕ) (i : IntervalRec) → IsSoundInterval n i → depth (written_interval_record i) ≤ 102
interval_levels n i h = omega (arith, props_levels i.props h.valid.1)

-- ---- cells

canonical_cell : (rows cols : ℕ) → rows ≤ 2 ^ 52 → cols ≤ 2 ^ 52 → (c : CellRec) → IsCell rows cols c → IsCanonical (written_cell_record c)
canonical_cell rows cols few_rows few_cols c h =
    let parts = both (nat_lt c.row rows) (nat_lt c.col cols) h.0 in
    (canonical_count c.row (below_is_count c.row rows parts.0 few_rows), (canonical_count c.col (below_is_count c.col cols parts.1 few_cols), (canonical_value_of c.value h.1.0, tt)))

cell_levels : (rows cols : ℕ) (c : CellRec) → IsCell rows cols c → depth (written_cell_record c) ≤ 102
cell_levels rows cols c h = omega (arith, value_levels c.value h.1.0)

text_level : (text : Characters) → IsText text → depth (written_text text) ≤ 102
text_level text h = omega arith

-- ---- summaries

-- a summary that is valid, of texts, and of so many connections that their numbers are counts
pub record IsSoundSummary (sum : SumDoc) : Type 0 where
  pub texts : IsRepresentableSummary sum
  pub valid : IsValidSummary sum
  pub conns : IsTrue (is_count (length sum.conns))

pub counts_of : (sum : SumDoc) → IsSoundSummary sum → AreCounts (bounds sum)
counts_of sum h = record { seq = h.valid.seq; conns = h.conns; min = leb-true sum.min sum.seq h.valid.min }

sound_segments : (b : Bounds) (segs : List SegRec) → AllByRecursion IsRepresentableSegmentRecord segs → AllByRecursion (IsSegment b) segs → AllByRecursion (IsSound b) segs
sound_segments b [] h k = tt
sound_segments b (seg ∷ segs) h k = (record { texts = h.0; valid = k.0 }, sound_segments b segs h.1 k.1)

pub sound_text : (sum : SumDoc) → IsSoundSummary sum → AllByRecursion (IsSound (bounds sum)) sum.text
sound_text sum h = sound_segments (bounds sum) sum.text h.texts.text h.valid.text

sound_each : (n : ℕ) (is : List IntervalRec) → AllByRecursion IsRepresentableInterval is → AllByRecursion (IsInterval n) is → AllByRecursion (IsSoundInterval n) is
sound_each n [] h k = tt
sound_each n (i ∷ is) h k = (record { texts = h.0; valid = k.0 }, sound_each n is h.1 k.1)

pub sound_intervals : (sum : SumDoc) → IsSoundSummary sum → AllByRecursion (IsSoundInterval (unremoved_text sum.text)) sum.intervals
sound_intervals sum h = sound_each (unremoved_text sum.text) sum.intervals h.texts.intervals h.valid.intervals

length_most : (segs : List SegRec) → unremoved_text segs ≤ text_length segs
length_most [] = omega arith
length_most (seg ∷ segs) = omega (arith, unless_removed-most seg.dels (body_length seg.body), length_most segs)

pub few_elements : (sum : SumDoc) → IsSoundSummary sum → unremoved_text sum.text ≤ 2 ^ 53
few_elements sum h = omega (arith, length_most sum.text, ltb-true (text_length sum.text) (2 ^ 53) h.valid.elements)

pub few_units : (b : Bounds) (runs : List RunRec) → AreRuns b runs → unremoved_units runs ≤ 2 ^ 52
few_units b runs h = omega (arith, unremoved-most runs, leb-true (unit_count runs) (2 ^ 52) h.units)

canonical_runs : (b : Bounds) → AreCounts b → (runs : List RunRec) → AreRuns b runs → IsCanonical (array (written_items written_unit_run runs))
canonical_runs b c runs h = canonical_items written_unit_run runs (each (IsSoundRun b) _ (canonical_run b c) runs (sound_runs b runs h))

pub canonical_summary : (sum : SumDoc) → IsSoundSummary sum → IsCanonical (written_summary sum)
canonical_summary sum h =
    let b = bounds sum in
    let c = counts_of sum h in
    let rows = unremoved_units sum.rows in
    let cols = unremoved_units sum.cols in
    let cell = canonical_cell rows cols (few_units b sum.rows h.valid.rows) (few_units b sum.cols h.valid.cols) in
    let interval = canonical_interval (unremoved_text sum.text) (few_elements sum h) in
    let min_count : IsTrue (is_count sum.min) = lt-ltb sum.min (2 ^ 53) (omega (arith, c.min, ltb-true sum.seq (2 ^ 53) h.valid.seq)) in
    canonical_fields (summary_fields sum) refl (
      canonical_items written_cell_record sum.cells (each (IsCell rows cols) _ cell sum.cells h.valid.cells),
      (
        canonical_runs b c sum.cols h.valid.cols,
        (
          canonical_items written_text sum.conns (each IsText _ canonical_text sum.conns h.texts.conns),
          (
            canonical_count (text_length sum.text) h.valid.elements,
            (
              canonical_items written_interval_record sum.intervals (each (IsSoundInterval (unremoved_text sum.text)) _ interval sum.intervals (sound_intervals sum h)),
              (
                canonical_count sum.min min_count,
                (
                  canonical_count sum.other h.valid.other,
                  (
                    canonical_runs b c sum.rows h.valid.rows,
                    (
                      canonical_count sum.seq h.valid.seq,
                      (
                        canonical_count sum.skipped h.valid.skipped,
                        (
                          canonical_items written_chunk (chunks_from 0 sum.text) (each (IsChunk b) _ (canonical_chunk b c) (chunks_from 0 sum.text) (are_chunks b 0 sum.text (sound_text sum h))),
                          (canonical_count 2 refl, tt),
                        ),
                      ),
                    ),
                  ),
                ),
              ),
            ),
          ),
        ),
      ),
    )

pub summary_levels : (sum : SumDoc) → IsSoundSummary sum → depth (written_summary sum) ≤ 105
summary_levels sum h =
    let b = bounds sum in
    let c = counts_of sum h in
    let rows = unremoved_units sum.rows in
    let cols = unremoved_units sum.cols in
    let cells = items_levels (IsCell rows cols) written_cell_record 102 (cell_levels rows cols) sum.cells h.valid.cells in
    let row_runs = items_levels (IsSoundRun b) written_unit_run 102 (run_levels b c) sum.rows (sound_runs b sum.rows h.valid.rows) in
    let col_runs = items_levels (IsSoundRun b) written_unit_run 102 (run_levels b c) sum.cols (sound_runs b sum.cols h.valid.cols) in
    let names = items_levels IsText written_text 102 text_level sum.conns h.texts.conns in
    let intervals = items_levels (IsSoundInterval (unremoved_text sum.text)) written_interval_record 102 (interval_levels (unremoved_text sum.text)) sum.intervals (sound_intervals sum h) in
    let chunks = items_levels (IsChunk b) written_chunk 103 (chunk_levels b c) (chunks_from 0 sum.text) (are_chunks b 0 sum.text (sound_text sum h)) in
    let within = fields_within 104 (summary_fields sum) (
      omega (arith, cells),
      (
        omega (arith, col_runs),
        (
          omega (arith, names),
          (
            omega arith,
            (
              omega (arith, intervals),
              (
                omega arith,
                (
                  omega arith,
                  (
                    omega (arith, row_runs),
                    (
                      omega arith,
                      (
                        omega arith,
                        (
                          omega (arith, chunks),
                          (omega arith, tt),
                        ),
                      ),
                    ),
                  ),
                ),
              ),
            ),
          ),
        ),
      ),
    ) in
    omega (arith, within)
