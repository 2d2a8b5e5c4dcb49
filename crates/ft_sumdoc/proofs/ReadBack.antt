-- A written summary is read back.
use Rattle.std.proofs.Common.{◌≡◌, ◌∙◌, ◌≤◌, ◌^◌, true, List, [], ◌∷◌, ◌++◌, map, Some, Ok, refl, sym, ap, subst, arith, ltb-true, le-ltb, lt-ltb}
use Rattle.std.specs.Prelude.{IsTrue}
use Rattle.std.specs.List.{AllByRecursion}
use Rattle.std.proofs.lemmas.Str.{chars-encodes}
use Rattle.std.proofs.lemmas.Bool.{eq-eqb}
use Rattle.serde_json.specs.Data.{array, depth}
use Rattle.ft_json.specs.Fields.{field_name}
use Rattle.ft_json.specs.declared.fields.Field.TheVariants.{Cells, Cols, Conns, Count, Intervals, Min, Other, Rows, Seq, Skipped, Text, Version}
use Rattle.ft_json.proofs.Back.{read_line-compact_text}
use Rattle.ft_props.specs.Properties.{Characters}
use Rattle.ft_op.specs.Representable.{IsText}
use Rattle.ft_op.specs.WellFormed.{is_count}
use Rattle.ft_op.specs.Written.{written_items, written_text}
use Rattle.ft_op.proofs.ReadFields.{count_is, items_written, needed_is}
use Rattle.ft_sumdoc.specs.declared.summary.SegRec.{SegRec}
use Rattle.ft_sumdoc.specs.declared.summary.SumDoc.{SumDoc}
use Rattle.ft_sumdoc.specs.Cells.{cells_form}
use Rattle.ft_sumdoc.specs.Chunks.{chunks_from}
use Rattle.ft_sumdoc.specs.Counts.{Head, are_distinct_names, head, names_form}
use Rattle.ft_sumdoc.specs.Forms.{characters}
use Rattle.ft_sumdoc.specs.Intervals.{intervals_form}
use Rattle.ft_sumdoc.specs.Runs.{runs_form, unremoved_units}
use Rattle.ft_sumdoc.specs.Segments.{GivenSegment, text_form, text_length, unremoved_text}
use Rattle.ft_sumdoc.specs.Stamps.{Bounds, are_good_stamps}
use Rattle.ft_sumdoc.specs.Summary.{Lists, element_count, given_length, lists, lists_with, run_stamps, segment_stamps, summary, summary_of_object}
use Rattle.ft_sumdoc.specs.Valid.{IsCell, bounds}
use Rattle.ft_sumdoc.specs.Values.{kept_cell, kept_each, kept_interval, kept_segment}
use Rattle.ft_sumdoc.specs.WellFormed.{are_cut_from}
use Rattle.ft_sumdoc.specs.Written.{summary_text, written_cell_record, written_chunk, written_interval_record, written_unit_run, written_summary}
use Rattle.ft_sumdoc.proofs.ReadChunks.{all_stamps, chunk_lengths_back, flat, flat-chunks, flat-map, segment_gives, text_back}
use Rattle.ft_sumdoc.proofs.ReadForms.{each_of_back, read_each_back}
use Rattle.ft_sumdoc.proofs.ReadRuns.{given_run, good_runs, kept_runs_back, runs_back}
use Rattle.ft_sumdoc.proofs.ReadSegments.{IsSound, given_segment, kept_segment_back}
use Rattle.ft_sumdoc.proofs.ReadShown.{IsSoundInterval, cells_back, given_cell, given_interval, intervals_back, kept_cell_back, kept_interval_back}
use Rattle.ft_sumdoc.proofs.ReadStamps.{AreGood, good_all, good_both, good_segment_stamps, places_back}
use Rattle.ft_sumdoc.proofs.WrittenSummaries.{IsSoundSummary, canonical_summary, counts_of, few_elements, few_units, sound_intervals, sound_text, summary_fields, summary_levels}

-- ---- what stands before the lists

-- what a written summary gives before its lists
abbrev head_of : SumDoc → Head
head_of sum = record { version = 2; seq = sum.seq; min = sum.min; skipped = sum.skipped; other = sum.other; conns = sum.conns }

name_back : (name : Characters) → IsText name → characters (written_text name) ≡ Some name
name_back name h = ap Some (chars-encodes name h)

names_same : (names : List Characters) → map (λ name. name) names ≡ names
names_same [] = refl
names_same (name ∷ names) = ap (λ rest. name ∷ rest) (names_same names)

names_back : (names : List Characters) → AllByRecursion IsText names → are_distinct_names names ≡ true → names_form (array (written_items written_text names)) ≡ Some names
names_back names h distinct =
    rw (items_written written_text names, each_of_back characters written_text (λ name. name) IsText name_back names h, names_same names, distinct)

head_back : (sum : SumDoc) → IsSoundSummary sum → head (written_summary sum) ≡ Ok (head_of sum)
unfolding head field_name
head_back sum h =
    let fs = summary_fields sum in
    let order = (counts_of sum h).min in
    let min_count : IsTrue (is_count sum.min) = lt-ltb sum.min (2 ^ 53) (omega (arith, order, ltb-true sum.seq (2 ^ 53) h.valid.seq)) in
    rw (
      count_is fs Version 2 refl refl,
      count_is fs Seq sum.seq refl h.valid.seq,
      count_is fs Min sum.min refl min_count,
      count_is fs Skipped sum.skipped refl h.valid.skipped,
      count_is fs Other sum.other refl h.valid.other,
      le-ltb sum.seq sum.min order,
      needed_is names_form fs Conns (array (written_items written_text sum.conns)) sum.conns refl (names_back sum.conns h.texts.conns h.valid.conns),
    )

-- ---- the lists of elements

-- the chunks that a written summary gives
abbrev given_chunks : SumDoc → List (List GivenSegment)
given_chunks sum = map (map given_segment) (chunks_from 0 sum.text)

-- the lists that it gives
abbrev lists_of : SumDoc → Lists
lists_of sum = record { text = sum.text; rows = sum.rows; cols = sum.cols; chunk_lengths = map given_length (given_chunks sum) }

good_segment : (b : Bounds) (seg : SegRec) → IsSound b seg → are_good_stamps b (segment_gives seg) ≡ true
good_segment b seg h = good_segment_stamps b seg.ins seg.by seg.dels h.valid.stamps h.valid.author

good_text : (sum : SumDoc) → IsSoundSummary sum → AreGood (bounds sum) (segment_stamps (given_chunks sum))
good_text sum h =
    subst (AreGood (bounds sum)) (sym (all_stamps (chunks_from 0 sum.text) ∙ ap (map segment_gives) (flat-chunks 0 sum.text)))
    (good_all (bounds sum) (IsSound (bounds sum)) segment_gives (good_segment (bounds sum)) sum.text (sound_text sum h))

good_lists : (sum : SumDoc) → IsSoundSummary sum → AreGood (bounds sum) (segment_stamps (given_chunks sum) ++ run_stamps (map given_run sum.rows) ++ run_stamps (map given_run sum.cols))
good_lists sum h =
    let b = bounds sum in
    good_both b _ _ (good_both b _ _ (good_text sum h) (good_runs b sum.rows h.valid.rows)) (good_runs b sum.cols h.valid.cols)

lists_with_back : (sum : SumDoc) → IsSoundSummary sum → lists_with (bounds sum) (given_chunks sum) sum.text (map given_run sum.rows) (map given_run sum.cols) ≡ Ok (lists_of sum)
lists_with_back sum h = rw (places_back (bounds sum) 0 _ (good_lists sum h), kept_runs_back sum.rows, kept_runs_back sum.cols)

segments_back : (sum : SumDoc) → flat (given_chunks sum) ≡ map given_segment sum.text
segments_back sum = flat-map given_segment (chunks_from 0 sum.text) ∙ ap (map given_segment) (flat-chunks 0 sum.text)

kept_text_back : (sum : SumDoc) → IsSoundSummary sum → kept_each kept_segment (flat (given_chunks sum)) ≡ Ok sum.text
kept_text_back sum h =
    ap (kept_each kept_segment) (segments_back sum)
    ∙ rw (read_each_back kept_segment given_segment (IsSound (bounds sum)) (kept_segment_back (bounds sum)) sum.text (sound_text sum h))

lists_back : (sum : SumDoc) → IsSoundSummary sum → lists (head_of sum) (written_summary sum) ≡ Ok (lists_of sum)
unfolding lists field_name
lists_back sum h =
    let fs = summary_fields sum in
    let b = bounds sum in
    let c = counts_of sum h in
    rw (
      needed_is (text_form 2) fs Text (array (written_items written_chunk (chunks_from 0 sum.text))) (given_chunks sum) refl (text_back b c sum.text (sound_text sum h)),
      kept_text_back sum h,
      needed_is runs_form fs Rows (array (written_items written_unit_run sum.rows)) (map given_run sum.rows) refl (runs_back b c sum.rows h.valid.rows),
      needed_is runs_form fs Cols (array (written_items written_unit_run sum.cols)) (map given_run sum.cols) refl (runs_back b c sum.cols h.valid.cols),
      lists_with_back sum h,
    )

element_count_back : (sum : SumDoc) → IsSoundSummary sum → IsTrue (are_cut_from 0 sum.text) → element_count (lists_of sum) (written_summary sum) ≡ Ok (text_length sum.text)
unfolding element_count field_name
element_count_back sum h cut =
    let n = text_length sum.text in
    rw (count_is (summary_fields sum) Count n refl h.valid.elements, eq-eqb n n refl, chunk_lengths_back sum.text cut)

-- ---- summaries

kept_intervals_back : (sum : SumDoc) → IsSoundSummary sum → kept_each kept_interval (map given_interval sum.intervals) ≡ Ok sum.intervals
kept_intervals_back sum h =
    let n = unremoved_text sum.text in
    rw (read_each_back kept_interval given_interval (IsSoundInterval n) (kept_interval_back n) sum.intervals (sound_intervals sum h))

kept_cells_back : (sum : SumDoc) → IsSoundSummary sum → kept_each kept_cell (map given_cell sum.cells) ≡ Ok sum.cells
kept_cells_back sum h =
    let rows = unremoved_units sum.rows in
    let cols = unremoved_units sum.cols in
    rw (read_each_back kept_cell given_cell (IsCell rows cols) (kept_cell_back rows cols) sum.cells h.valid.cells)

summary_of_back : (sum : SumDoc) → IsSoundSummary sum → IsTrue (are_cut_from 0 sum.text) → summary_of_object (written_summary sum) ≡ Ok sum
unfolding summary_of_object field_name
summary_of_back sum h cut =
    let fs = summary_fields sum in
    let b = bounds sum in
    let n = unremoved_text sum.text in
    let rows = unremoved_units sum.rows in
    let cols = unremoved_units sum.cols in
    rw (
      head_back sum h,
      lists_back sum h,
      element_count_back sum h cut,
      needed_is (intervals_form n) fs Intervals (array (written_items written_interval_record sum.intervals)) (map given_interval sum.intervals) refl (intervals_back n (few_elements sum h) sum.intervals (sound_intervals sum h) h.valid.names),
      kept_intervals_back sum h,
      needed_is (cells_form rows cols) fs Cells (array (written_items written_cell_record sum.cells)) (map given_cell sum.cells) refl
          (cells_back rows cols (few_units b sum.rows h.valid.rows) (few_units b sum.cols h.valid.cols) sum.cells h.valid.cells h.valid.places),
      kept_cells_back sum h,
    )

pub summary_back : (sum : SumDoc) → IsSoundSummary sum → IsTrue (are_cut_from 0 sum.text) → summary (summary_text sum) ≡ Ok sum
unfolding summary
summary_back sum h cut =
    let shallow : depth (written_summary sum) ≤ 127 = omega (arith, summary_levels sum h) in
    rw (read_line-compact_text (written_summary sum) (canonical_summary sum h) shallow, summary_of_back sum h cut)
