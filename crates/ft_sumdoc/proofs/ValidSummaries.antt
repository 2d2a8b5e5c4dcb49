-- A summary that was read is valid, if its values are: its numbers, intervals and cells.
use Rattle.std.proofs.Common.{◌≡◌, ◌∙◌, ℕ, Bool, true, false, not, ◌&&◌, List, [], ◌∷◌, ◌++◌, map, Some, Result, Ok, refl, sym, ap, ap₂, subst, nat_le, nat_lt, nat_eq, arith}
use Rattle.std.specs.Prelude.{IsTrue, is_some}
use Rattle.std.specs.List.{AllByRecursion}
use Rattle.std.proofs.lemmas.Bool.{eqb-true}
use Rattle.std.proofs.lemmas.Bool.Decides.{nat_tests}
use Rattle.serde_json.specs.Data.{Data}
use Rattle.serde_json.specs.Find.{as_null}
use Rattle.ft_base.proofs.Booleans.{all_three}
use Rattle.ft_json.specs.declared.fields.Field.TheVariants.{Cells, Cols, Conns, Count, Intervals, Min, Other, Rows, Seq, Skipped, Text, Version}
use Rattle.ft_json.specs.declared.faults.JsonFault.{JsonFault}
use Rattle.ft_json.specs.Canonical.{canonical}
use Rattle.ft_json.specs.Reading.{count, count_field, field, items, needed_field, read_line}
use Rattle.ft_props.specs.Properties.{Characters}
use Rattle.ft_op.specs.Reading.{is_object, read_each}
use Rattle.ft_op.specs.WellFormed.{is_count}
use Rattle.ft_op.proofs.ReadNumbers.{count_field-is_count}
use Rattle.ft_op.proofs.ReadSteps.{fault_step, field_value, read_step, same_value, test_failed, test_held}
use Rattle.ft_sumdoc.specs.declared.summary.CellRec.{CellRec}
use Rattle.ft_sumdoc.specs.declared.summary.IntervalRec.{IntervalRec}
use Rattle.ft_sumdoc.specs.declared.summary.SegRec.{SegRec}
use Rattle.ft_sumdoc.specs.declared.summary.SumDoc.{SumDoc}
use Rattle.ft_sumdoc.specs.Cells.{GivenCell, cell_form, cell_of_three, cells_form, is_place_before}
use Rattle.ft_sumdoc.specs.Cells as given_cells
use Rattle.ft_sumdoc.specs.Counts.{Head, are_distinct_names, bounds_of, distinct_names, head, known_version, names_form}
use Rattle.ft_sumdoc.specs.Faults.{fault_of_field, fault_of_json}
use Rattle.ft_sumdoc.specs.Forms.{characters, each_of, place_number, props_form, rises}
use Rattle.ft_sumdoc.specs.Intervals.{GivenInterval, are_shown_ends, interval_form, interval_of_five, intervals_form, is_name_before}
use Rattle.ft_sumdoc.specs.Intervals as given_intervals
use Rattle.ft_sumdoc.specs.Runs.{kept_run, runs_form, unremoved_units}
use Rattle.ft_sumdoc.specs.Segments.{text_form, text_length, unremoved_text}
use Rattle.ft_sumdoc.specs.Stamps.{Bounds, places_behind}
use Rattle.ft_sumdoc.specs.Summary.{Lists, agreed_count, element_count, given_length, lists, run_stamps, segment_stamps, summary, summary_of_object}
use Rattle.ft_sumdoc.specs.Valid.{AreRuns, HasOnlyValues, HasValues, IsCell, IsInterval, IsSegment, IsValidSummary, IsValue, is_cell_before, is_interval_before}
use Rattle.ft_sumdoc.specs.Values.{kept_cell, kept_each, kept_interval, kept_props, kept_segment}
use Rattle.ft_sumdoc.proofs.ReadChunks.{flat}
use Rattle.ft_sumdoc.proofs.ReadForms.{ok_before}
use Rattle.ft_sumdoc.proofs.ReadShown.{rises-map}
use Rattle.ft_sumdoc.proofs.ReadStamps.{AreGood}
use Rattle.ft_sumdoc.proofs.ReadValid.{all_gives, all_kept-valid, all_of, good_places, good_split, kept_runs-valid, some_step, text_form-bodies, where_held}

-- ---- what stands before the lists

-- what holds of what stands before the lists
pub record IsValidHead (h : Head) : Type 0 where
  pub seq : IsTrue (is_count h.seq)
  pub min : IsTrue (nat_le h.min h.seq)
  pub skipped : IsTrue (is_count h.skipped)
  pub other : IsTrue (is_count h.other)
  pub conns : IsTrue (are_distinct_names h.conns)

distinct : (d : Data) (names : List Characters) → names_form d ≡ Some names → are_distinct_names names ≡ true
distinct d names e =
    let ds = some_step distinct_names (items d) names e in
    let all = some_step _ (each_of characters ds.0) names ds.2 in
    let kept = where_held (are_distinct_names all.0) all.0 names all.2 in
    subst (λ ns. are_distinct_names ns ≡ true) kept.1 kept.0

at_most : (m n : ℕ) → nat_lt n m ≡ false → nat_le m n ≡ true
at_most m n h = grind (arith, nat_tests)

head-valid : (d : Data) (h : Head) → head d ≡ Ok h → IsValidHead h
unfolding head
head-valid d h e =
    let n = fault_step fault_of_field (count_field d Version) _ h e in
    let version = read_step (known_version n.0) _ h n.2 in
    let seq = fault_step fault_of_field (count_field d Seq) _ h version.2 in
    let min = fault_step fault_of_field (count_field d Min) _ h seq.2 in
    let skipped = fault_step fault_of_field (count_field d Skipped) _ h min.2 in
    let other = fault_step fault_of_field (count_field d Other) _ h skipped.2 in
    let order = test_failed (nat_lt seq.0 min.0) _ _ h other.2 in
    let names = fault_step fault_of_field (needed_field names_form d Conns) _ h order.1 in
    let there = field_value names_form Conns (field d Conns) names.0 names.1 in
    let made : Head = record { version = version.0; seq = seq.0; min = min.0; skipped = skipped.0; other = other.0; conns = names.0 } in
    subst IsValidHead (same_value made h _ refl names.2) (record {
      seq = count_field-is_count d Seq seq.0 seq.1;
      min = at_most min.0 seq.0 order.0;
      skipped = count_field-is_count d Skipped skipped.0 skipped.1;
      other = count_field-is_count d Other other.0 other.1;
      conns = distinct there.0 names.0 there.1;
    })

-- ---- intervals

abbrev AreEndsOf : ℕ → GivenInterval → Type 0
AreEndsOf n g = are_shown_ends n g.ends ≡ true

interval_of_five-ends : (n : ℕ) (ds : List Data) (g : GivenInterval) → interval_of_five n ds ≡ Some g → AreEndsOf n g
interval_of_five-ends n (l ∷ i ∷ s ∷ e ∷ p ∷ []) g h =
    let label = some_step _ (characters l) g h in
    let id = some_step _ (characters i) g label.2 in
    let start = some_step _ (place_number s) g id.2 in
    let end = some_step _ (place_number e) g start.2 in
    let props = some_step _ (props_form p) g end.2 in
    let kept = where_held (are_shown_ends n (record { start = start.0; end = end.0 })) _ g props.2 in
    subst (AreEndsOf n) kept.1 kept.0
interval_of_five-ends n [] g h = (cc)
interval_of_five-ends n (l ∷ []) g h = (cc)
interval_of_five-ends n (l ∷ i ∷ []) g h = (cc)
interval_of_five-ends n (l ∷ i ∷ s ∷ []) g h = (cc)
interval_of_five-ends n (l ∷ i ∷ s ∷ e ∷ []) g h = (cc)
interval_of_five-ends n (l ∷ i ∷ s ∷ e ∷ p ∷ q ∷ ds) g h = (cc)

interval_form-ends : (n : ℕ) (d : Data) (g : GivenInterval) → interval_form n d ≡ Some g → AreEndsOf n g
interval_form-ends n d g e = let ds = some_step _ (items d) g e in interval_of_five-ends n ds.0 g ds.2

intervals_form-valid : (n : ℕ) (d : Data) (gs : List GivenInterval) → intervals_form n d ≡ Some gs → AllByRecursion (AreEndsOf n) gs × (rises given_intervals.is_given_interval_before gs ≡ true)
intervals_form-valid n d gs e =
    let ds = some_step _ (items d) gs e in
    let all = some_step _ (each_of (interval_form n) ds.0) gs ds.2 in
    let kept = where_held (rises given_intervals.is_given_interval_before all.0) all.0 gs all.2 in (
      subst (AllByRecursion (AreEndsOf n)) kept.1 (all_of (AreEndsOf n) (interval_form n) (interval_form-ends n) ds.0 all.0 all.1),
      subst (λ xs. rises given_intervals.is_given_interval_before xs ≡ true) kept.1 kept.0,
    )

abbrev Name : Type 0
Name = Characters × Characters

abbrev comes_before : Name → Name → Bool
comes_before a b = is_name_before a.0 a.1 b.0 b.1

abbrev given_name : GivenInterval → Name
given_name g = (g.label, g.id)

abbrev kept_name : IntervalRec → Name
kept_name i = (i.label, i.id)

abbrev HasIntervalValues : IntervalRec → Type 0
HasIntervalValues i = HasValues i.props

kept_interval-valid : (n : ℕ) (g : GivenInterval) (i : IntervalRec) → kept_interval g ≡ Ok i → AreEndsOf n g → HasIntervalValues i → IsInterval n i × (given_name g ≡ kept_name i)
kept_interval-valid n g i e ends values =
    let props = read_step (kept_props g.props) _ i e in
    let made : IntervalRec = record { label = g.label; id = g.id; ends = g.ends; props = props.0 } in
    let same : made ≡ i = same_value made i _ refl props.2 in
    ((subst (λ x. IsTrue (are_shown_ends n x.ends)) same ends, values), ap kept_name same)

kept_intervals-valid : (n : ℕ) (gs : List GivenInterval) (is : List IntervalRec) → read_each kept_interval gs ≡ Ok is → AllByRecursion (AreEndsOf n) gs → AllByRecursion HasIntervalValues is
    → AllByRecursion (IsInterval n) is × (map given_name gs ≡ map kept_name is)
kept_intervals-valid n [] is e ends values = let same = same_value [] is _ refl e in (subst (AllByRecursion (IsInterval n)) same tt, ap (map kept_name) same)
kept_intervals-valid n (g ∷ gs) is e ends values =
    let first = read_step (kept_interval g) _ is e in
    let rest = read_step (read_each kept_interval gs) _ is first.2 in
    let same = same_value (first.0 ∷ rest.0) is _ refl rest.2 in
    let has = subst (AllByRecursion HasIntervalValues) (sym same) values in
    let one = kept_interval-valid n g first.0 first.1 ends.0 has.0 in
    let more = kept_intervals-valid n gs rest.0 rest.1 ends.1 has.1 in
    (subst (AllByRecursion (IsInterval n)) same (one.0, more.0), ap₂ (λ (x : Name) (xs : List Name). x ∷ xs) one.1 more.1 ∙ ap (map kept_name) same)

in_order : (gs : List GivenInterval) (is : List IntervalRec) → map given_name gs ≡ map kept_name is → rises given_intervals.is_given_interval_before gs ≡ true → rises is_interval_before is ≡ true
in_order gs is same h = sym (rises-map comes_before kept_name is) ∙ ap (rises comes_before) (sym same) ∙ rises-map comes_before given_name gs ∙ h

-- ---- cells

abbrev IsPlaced : ℕ → ℕ → GivenCell → Type 0
IsPlaced rows cols g = (nat_lt g.row rows && nat_lt g.col cols) ≡ true

and_true : (a b : Bool) → a ≡ true → b ≡ true → (a && b) ≡ true
and_true a b p q = ap₂ (λ (x y : Bool). x && y) p q

cell_of_three-placed : (rows cols : ℕ) (ds : List Data) (g : GivenCell) → cell_of_three rows cols ds ≡ Some g → IsPlaced rows cols g
cell_of_three-placed rows cols (r ∷ c ∷ value ∷ []) g h =
    let row = some_step _ (count r) g h in
    let col = some_step _ (count c) g row.2 in
    let kept = where_held (nat_lt row.0 rows && nat_lt col.0 cols && not (is_some (as_null value))) _ g col.2 in
    let parts = all_three (nat_lt row.0 rows) (nat_lt col.0 cols) (not (is_some (as_null value))) kept.0 in
    subst (IsPlaced rows cols) kept.1 (and_true (nat_lt row.0 rows) (nat_lt col.0 cols) parts.0 parts.1)
cell_of_three-placed rows cols [] g h = (cc)
cell_of_three-placed rows cols (r ∷ []) g h = (cc)
cell_of_three-placed rows cols (r ∷ c ∷ []) g h = (cc)
cell_of_three-placed rows cols (r ∷ c ∷ value ∷ d ∷ ds) g h = (cc)

cell_form-placed : (rows cols : ℕ) (d : Data) (g : GivenCell) → cell_form rows cols d ≡ Some g → IsPlaced rows cols g
cell_form-placed rows cols d g e = let ds = some_step _ (items d) g e in cell_of_three-placed rows cols ds.0 g ds.2

cells_form-valid : (rows cols : ℕ) (d : Data) (gs : List GivenCell) → cells_form rows cols d ≡ Some gs → AllByRecursion (IsPlaced rows cols) gs × (rises given_cells.is_given_cell_before gs ≡ true)
cells_form-valid rows cols d gs e =
    let ds = some_step _ (items d) gs e in
    let all = some_step _ (each_of (cell_form rows cols) ds.0) gs ds.2 in
    let kept = where_held (rises given_cells.is_given_cell_before all.0) all.0 gs all.2 in (
      subst (AllByRecursion (IsPlaced rows cols)) kept.1 (all_of (IsPlaced rows cols) (cell_form rows cols) (cell_form-placed rows cols) ds.0 all.0 all.1),
      subst (λ xs. rises given_cells.is_given_cell_before xs ≡ true) kept.1 kept.0,
    )

abbrev Place : Type 0
Place = ℕ × ℕ

abbrev stands_before : Place → Place → Bool
stands_before a b = is_place_before a.0 a.1 b.0 b.1

abbrev given_place : GivenCell → Place
given_place g = (g.row, g.col)

abbrev kept_place : CellRec → Place
kept_place c = (c.row, c.col)

abbrev HasValue : CellRec → Type 0
HasValue c = IsValue c.value

kept_cell-valid : (rows cols : ℕ) (g : GivenCell) (c : CellRec) → kept_cell g ≡ Ok c → IsPlaced rows cols g → HasValue c → IsCell rows cols c × (given_place g ≡ kept_place c)
kept_cell-valid rows cols g c e placed value =
    let text = read_step (canonical g.value) _ c e in
    let made : CellRec = record { row = g.row; col = g.col; value = text.0 } in
    let same : made ≡ c = same_value made c _ refl text.2 in
    ((subst (λ x. IsTrue (nat_lt x.row rows && nat_lt x.col cols)) same placed, value), ap kept_place same)

kept_cells-valid : (rows cols : ℕ) (gs : List GivenCell) (cs : List CellRec) → read_each kept_cell gs ≡ Ok cs → AllByRecursion (IsPlaced rows cols) gs → AllByRecursion HasValue cs
    → AllByRecursion (IsCell rows cols) cs × (map given_place gs ≡ map kept_place cs)
kept_cells-valid rows cols [] cs e placed values = let same = same_value [] cs _ refl e in (subst (AllByRecursion (IsCell rows cols)) same tt, ap (map kept_place) same)
kept_cells-valid rows cols (g ∷ gs) cs e placed values =
    let first = read_step (kept_cell g) _ cs e in
    let rest = read_step (read_each kept_cell gs) _ cs first.2 in
    let same = same_value (first.0 ∷ rest.0) cs _ refl rest.2 in
    let has = subst (AllByRecursion HasValue) (sym same) values in
    let one = kept_cell-valid rows cols g first.0 first.1 placed.0 has.0 in
    let more = kept_cells-valid rows cols gs rest.0 rest.1 placed.1 has.1 in
    (subst (AllByRecursion (IsCell rows cols)) same (one.0, more.0), ap₂ (λ (x : Place) (xs : List Place). x ∷ xs) one.1 more.1 ∙ ap (map kept_place) same)

cells_in_order : (gs : List GivenCell) (cs : List CellRec) → map given_place gs ≡ map kept_place cs → rises given_cells.is_given_cell_before gs ≡ true → rises is_cell_before cs ≡ true
cells_in_order gs cs same h = sym (rises-map stands_before kept_place cs) ∙ ap (rises stands_before) (sym same) ∙ rises-map stands_before given_place gs ∙ h

-- ---- the lists of elements

-- what holds of the lists of elements
pub record AreValidLists (b : Bounds) (ls : Lists) : Type 0 where
  pub text : AllByRecursion (IsSegment b) ls.text
  pub rows : AreRuns b ls.rows
  pub cols : AreRuns b ls.cols

abbrev HasSegmentValues : SegRec → Type 0
HasSegmentValues seg = HasValues seg.props

-- what an `Ok` of what is kept says of what was read
kept_before : {A B : Type 0} (keeps : A → Result B JsonFault) (xs : List A) (ys : List B) → kept_each keeps xs ≡ Ok ys → read_each keeps xs ≡ Ok ys
kept_before keeps xs ys e = ok_before fault_of_json (read_each keeps xs) ys e

lists-valid : (h : Head) (d : Data) (ls : Lists) → lists h d ≡ Ok ls → AllByRecursion HasSegmentValues ls.text → AreValidLists (bounds_of h) ls
unfolding lists
lists-valid h d ls e values =
    let b = bounds_of h in
    let chunks = fault_step fault_of_field (needed_field (text_form h.version) d Text) _ ls e in
    let text = read_step (kept_each kept_segment (flat chunks.0)) _ ls chunks.2 in
    let rows = fault_step fault_of_field (needed_field runs_form d Rows) _ ls text.2 in
    let cols = fault_step fault_of_field (needed_field runs_form d Cols) _ ls rows.2 in
    let places = read_step (places_behind b 0 (segment_stamps chunks.0 ++ run_stamps rows.0 ++ run_stamps cols.0)) _ ls cols.2 in
    let given_text = field_value (text_form h.version) Text (field d Text) chunks.0 chunks.1 in
    let given_rows = field_value runs_form Rows (field d Rows) rows.0 rows.1 in
    let given_cols = field_value runs_form Cols (field d Cols) cols.0 cols.1 in
    let good = good_places b 0 places.0 _ places.1 in
    let good_cols = good_split b (segment_stamps chunks.0 ++ run_stamps rows.0) (run_stamps cols.0) good in
    let good_rows = good_split b (segment_stamps chunks.0) (run_stamps rows.0) good_cols.0 in
    let made : Lists = record { text = text.0; rows = map kept_run rows.0; cols = map kept_run cols.0; chunk_lengths = map given_length chunks.0 } in
    let same : made ≡ ls = same_value made ls _ refl places.2 in
    let has = subst (λ (x : Lists). AllByRecursion HasSegmentValues x.text) (sym same) values in
    subst (AreValidLists b) same (record {
      text =
          all_kept-valid b (flat chunks.0) text.0 (kept_before kept_segment (flat chunks.0) text.0 text.1) (text_form-bodies h.version given_text.0 chunks.0 given_text.1)
          (subst (AreGood b) (all_gives chunks.0) good_rows.0) has;
      rows = kept_runs-valid b given_rows.0 rows.0 given_rows.1 good_rows.1;
      cols = kept_runs-valid b given_cols.0 cols.0 given_cols.1 good_cols.1;
    })

element_count-valid : (ls : Lists) (d : Data) (n : ℕ) → element_count ls d ≡ Ok n → IsTrue (is_count (text_length ls.text))
unfolding element_count
element_count-valid ls d n e =
    let said = fault_step fault_of_field (count_field d Count) _ n e in
    let found = read_step (agreed_count said.0 (text_length ls.text)) _ n said.2 in
    let same = test_held (nat_eq said.0 (text_length ls.text)) (Ok said.0) _ found.0 found.1 in
    subst (λ k. IsTrue (is_count k)) (eqb-true said.0 (text_length ls.text) same.0) (count_field-is_count d Count said.0 said.1)

-- ---- summaries

summary_of-valid : (d : Data) (sum : SumDoc) → summary_of_object d ≡ Ok sum → HasOnlyValues sum → IsValidSummary sum
unfolding summary_of_object
summary_of-valid d sum e values =
    let h = read_step (head d) _ sum e in
    let ls = read_step (lists h.0 d) _ sum h.2 in
    let elements = read_step (element_count ls.0 d) _ sum ls.2 in
    let n = unremoved_text ls.0.text in
    let few_rows = unremoved_units ls.0.rows in
    let few_cols = unremoved_units ls.0.cols in
    let is_given = fault_step fault_of_field (needed_field (intervals_form n) d Intervals) _ sum elements.2 in
    let is_kept = read_step (kept_each kept_interval is_given.0) _ sum is_given.2 in
    let cs_given = fault_step fault_of_field (needed_field (cells_form few_rows few_cols) d Cells) _ sum is_kept.2 in
    let cs_kept = read_step (kept_each kept_cell cs_given.0) _ sum cs_given.2 in
    let made : SumDoc = record {
      seq = h.0.seq;
      min = h.0.min;
      skipped = h.0.skipped;
      other = h.0.other;
      conns = h.0.conns;
      text = ls.0.text;
      rows = ls.0.rows;
      cols = ls.0.cols;
      intervals = is_kept.0;
      cells = cs_kept.0;
    } in
    let same : made ≡ sum = same_value made sum _ refl cs_kept.2 in
    let has = subst HasOnlyValues (sym same) values in
    let first = head-valid d h.0 h.1 in
    let lists = lists-valid h.0 d ls.0 ls.1 has.text in
    let is_there = field_value (intervals_form n) Intervals (field d Intervals) is_given.0 is_given.1 in
    let cs_there = field_value (cells_form few_rows few_cols) Cells (field d Cells) cs_given.0 cs_given.1 in
    let is_form = intervals_form-valid n is_there.0 is_given.0 is_there.1 in
    let cs_form = cells_form-valid few_rows few_cols cs_there.0 cs_given.0 cs_there.1 in
    let is_valid = kept_intervals-valid n is_given.0 is_kept.0 (kept_before kept_interval is_given.0 is_kept.0 is_kept.1) is_form.0 has.intervals in
    let cs_valid = kept_cells-valid few_rows few_cols cs_given.0 cs_kept.0 (kept_before kept_cell cs_given.0 cs_kept.0 cs_kept.1) cs_form.0 has.cells in
    subst IsValidSummary same (record {
      seq = first.seq;
      min = first.min;
      skipped = first.skipped;
      other = first.other;
      conns = first.conns;
      text = lists.text;
      elements = element_count-valid ls.0 d elements.0 elements.1;
      rows = lists.rows;
      cols = lists.cols;
      intervals = is_valid.0;
      names = in_order is_given.0 is_kept.0 is_valid.1 is_form.1;
      cells = cs_valid.0;
      places = cells_in_order cs_given.0 cs_kept.0 cs_valid.1 cs_form.1;
    })

pub read_summary-valid : (bytes : List ℕ) (sum : SumDoc) → summary bytes ≡ Ok sum → HasOnlyValues sum → IsValidSummary sum
unfolding summary
read_summary-valid bytes sum e values =
    let d = fault_step fault_of_json (read_line bytes) _ sum e in
    let tested = test_held (is_object d.0) (summary_of_object d.0) _ sum d.2 in
    summary_of-valid d.0 sum tested.1 values
