-- The summary of a document looks at no name of its elements, and is that of each document that it keeps.
use Rattle.std.proofs.Common.{◌≡◌, ◌≤◌, ℕ, ◌+◌, ◌%◌, Bool, true, false, cond, not, ◌&&◌, ◌==◌, List, [], ◌∷◌, Option, Some, None, refl, sym, ◌∙◌, ap, subst, filter, map}
use Rattle.std.specs.List.{list_all}
use Rattle.ft_sumdoc.specs.declared.summary.CellRec.{CellRec}
use Rattle.ft_sumdoc.specs.declared.summary.IntervalRec.{IntervalRec}
use Rattle.ft_sumdoc.specs.declared.summary.RunRec.{RunRec}
use Rattle.ft_sumdoc.specs.declared.summary.SegRec.{SegRec}
use Rattle.ft_sumdoc.specs.declared.summary.SumDoc.{SumDoc}
use Rattle.ft_sumdoc.specs.Chunks.{chunk_length}
use Rattle.ft_base.proofs.Booleans.{both}
use Rattle.ft_props.specs.Properties.{Characters}
use Rattle.ft_props.specs.Compaction.{KeepsList, is_collectable, is_insertion_at_or_below, trim_element, with_universal_insertion}
use Rattle.ft_props.specs.Element.{ElementId, ListElement, has_id, has_sequenced_removal, id, same_id}
use Rattle.ft_props.specs.Steps.{Sequence}
use Rattle.ft_props.proofs.CompactedList.{keeps-higher}
use Rattle.ft_op.specs.Intervals.{Interval}
use Rattle.ft_op.specs.Cells.{Cell, cell_value}
use Rattle.ft_op.specs.Document.{Document}
use Rattle.ft_msg.specs.Client.{NaiveClient, floor}
use Rattle.ft_msg.specs.Compacted.{IsCompacted, KeepsDocument}
use Rattle.ft_msg.specs.Content.{interval_record, stage_view}
use Rattle.ft_msg.specs.Indexed.{IndexedDocument, indexed, indexed_interval}
use Rattle.ft_msg.specs.Summary.{trim}
use Rattle.ft_marks.specs.Marks.{mark_of}
use Rattle.ft_msg.specs.SummaryOf.{extended_unit_runs, extended_segments, segment_of, segments_from, summary_of, unit_runs}
use Rattle.ft_laws_agreement.proofs.CompactedScans.{id-universal}
use Rattle.ft_laws_agreement.proofs.OwnNames.{other-named}
use Rattle.ft_laws_agreement.proofs.TrimmedDocument.{is_removed}
use Rattle.ft_laws_agreement.specs.Trimming.{has_value}
use Rattle.ft_laws_compaction.proofs.ClientFacts.{ClientFacts}
use Rattle.ft_laws_compaction.proofs.Compacting.{with_lists}
use Rattle.ft_laws_compaction.proofs.FreeTombstones.{least-first}
use Rattle.ft_laws_compaction.proofs.SameSummary.{is_removed_alike, is_shown, is_summed, list-same, removed-alike, shown-value, summary-same, summed-value, trimmed_items, unless_removed, unremoved-whole}
use Rattle.ft_laws_names.proofs.Beside.{beside-any, beside-both, beside-choice, beside-more, ends, next, same-map}
use Rattle.ft_laws_names.proofs.ClientsAlike.{ClientsAlike}
use Rattle.ft_laws_names.proofs.DocumentsAlike.{DocsAlike, RowsAlike, places}
use Rattle.ft_laws_names.proofs.Indexing.{cells-indexed, cells-of-index, list-indexed, place-alike}
use Rattle.ft_laws_names.proofs.IntervalsAlike.{IntervalAlike, IntervalsBeside, intervals-more, settled-beside, SettledAlike}
use Rattle.ft_laws_names.proofs.MirroredCompaction.{gone-twin, old-twin, same-index, universal-twin}
use Rattle.ft_laws_names.proofs.Twins.{AreTwins, BesideList, EndsBeside, IsTwin, IsTwinNamed, Named, at_names, end_number-alike, loose, same-of, twins-of, twins-self}
use Rattle.ft_laws_names.proofs.ViewsAlike.{cells-shown, filtered-named}

-- ---- trimmed lists

trimmed-named : (min : ℕ) (P : ElementId → ElementId → Type 0) (x y : ListElement) → Named P x y → Named P (trim_element min x) (trim_element min y)
trimmed-named min P x y q = step (is_insertion_at_or_below min x.ins) (is_insertion_at_or_below min y.ins) refl (old-twin min x y q.0)
  where
    step : (b c : Bool) → is_insertion_at_or_below min x.ins ≡ b → b ≡ c → Named P (cond b (with_universal_insertion x) x) (cond c (with_universal_insertion y) y)
    step true true f e = (
      universal-twin x y q.0,
      subst (λ a. P a (id (with_universal_insertion y))) (sym (id-universal min x f))
          (subst (λ b. P (id x) b) (sym (id-universal min y (sym (old-twin min x y q.0) ∙ f))) q.1),
    )
    step false false f e = q
    step true false f e = (cc)
    step false true f e = (cc)

trimmed-beside : (min : ℕ) (P : ElementId → ElementId → Type 0) {xs ys : List ListElement} → BesideList (Named P) xs ys
    → BesideList (Named P) (trimmed_items min xs) (trimmed_items min ys)
trimmed-beside min P ends = ends
trimmed-beside min P (next {x = x} {y = y} q qs) =
    beside-choice (not (is_collectable min x)) (not (is_collectable min y)) (ap not (gone-twin min x y q.0))
    (next (trimmed-named min P x y q) (trimmed-beside min P qs)) (trimmed-beside min P qs)

-- with minimums that are equal
trimmed-lists : (low min : ℕ) → low ≡ min → (P : ElementId → ElementId → Type 0) {xs ys : List ListElement} → BesideList (Named P) xs ys
    → BesideList (Named P) (trimmed_items low xs) (trimmed_items min ys)
trimmed-lists low min e P {xs} {ys} h = subst (λ m. BesideList (Named P) (trimmed_items low xs) (trimmed_items m ys)) e (trimmed-beside low P h)

trimmed-twins : (low min : ℕ) → low ≡ min → {xs ys : List ListElement} → BesideList IsTwin xs ys → BesideList IsTwin (trimmed_items low xs) (trimmed_items min ys)
trimmed-twins low min e h = twins-of (λ i j. Unit {0}) (trimmed-lists low min e (λ i j. Unit {0}) (beside-more (λ x y t. (t, tt)) h))

trimmed-ends : (low min : ℕ) → low ≡ min → {xs ys : List ListElement} {o p : Option ElementId} → EndsBeside xs ys o p
    → EndsBeside (trimmed_items low xs) (trimmed_items min ys) o p
trimmed-ends low min e loose = loose
trimmed-ends low min e (at_names {a = a} {b = b} h) = at_names (trimmed-lists low min e (λ i j. same_id a i ≡ same_id b j) h)

-- ---- what a summary has of lists

segments-alike : (i : ℕ) {xs ys : List ListElement} → BesideList IsTwin xs ys → segments_from i xs ≡ segments_from i ys
segments-alike i ends = refl
segments-alike i (next {x = x} {y = y} {xs = xs} t ts) =
    ap (λ seg. extended_segments ((i + 1) % chunk_length == 0) seg (segments_from (i + 1) xs)) (same-of segment_of (λ e n. refl) x y t)
    ∙ ap (extended_segments ((i + 1) % chunk_length == 0) (segment_of y)) (segments-alike (i + 1) ts)

units-alike : {xs ys : List ListElement} → BesideList IsTwin xs ys → unit_runs xs ≡ unit_runs ys
units-alike ends = refl
units-alike (next {x = x} {y = y} {xs = xs} t ts) =
    ap (λ ins. extended_unit_runs ins (map mark_of x.dels) (unit_runs xs)) (same-of (λ (e : ListElement). mark_of e.ins) (λ e n. refl) x y t)
    ∙ ap (λ dels. extended_unit_runs (mark_of y.ins) dels (unit_runs xs)) (same-of (λ (e : ListElement). map mark_of e.dels) (λ e n. refl) x y t)
    ∙ ap (extended_unit_runs (mark_of y.ins) (map mark_of y.dels)) (units-alike ts)

-- ---- documents of which the summaries are equal

-- trimmed, they differ in the names of their elements alone
pub record TrimmedAlike (p q : Document) : Type 0 where
  pub text : BesideList IsTwin (trim p).text.items (trim q).text.items
  pub rows : BesideList IsTwin (trim p).rows.items (trim q).rows.items
  pub cols : BesideList IsTwin (trim p).cols.items (trim q).cols.items
  pub intervals : IntervalsBeside (EndsBeside (trim p).text.items (trim q).text.items) p.intervals q.intervals
  pub cells : BesideList (Named (RowsAlike (trim p).cols.items (trim q).cols.items (trim p).cells (trim q).cells)) (trim p).rows.items (trim q).rows.items
  pub skipped : p.skipped ≡ q.skipped
  pub other : p.other ≡ q.other
  pub number : p.number ≡ q.number
  pub minimum : p.minimum ≡ q.minimum

interval-placed : {xs ys : List ListElement} (i j : Interval) → IntervalAlike (EndsBeside xs ys) i j → indexed_interval xs i ≡ indexed_interval ys j
interval-placed i j r = rw (r.label, r.id, r.props, place-alike r.start, place-alike r.end) refl

interval-numbered : {xs ys : List ListElement} (i j : Interval) → IntervalAlike (EndsBeside xs ys) i j → interval_record 0 xs i ≡ interval_record 0 ys j
interval-numbered i j r = rw (r.label, r.id, r.props, end_number-alike 0 r.start, end_number-alike 0 r.end) refl

pub trimmed-indexed : (p q : Document) → TrimmedAlike p q → indexed (trim p) ≡ indexed (trim q)
trimmed-indexed p q h =
    same-index (list-indexed h.text) (list-indexed h.rows) (list-indexed h.cols)
    (same-map (indexed_interval (trim p).text.items) (indexed_interval (trim q).text.items) (λ i j r. interval-placed i j r) h.intervals)
    (cells-indexed (trim p).cells (trim q).cells (trim p).cols.items (trim q).cols.items 0 h.cells) h.skipped h.other h.number h.minimum

abbrev summary_with : List Characters → ℕ → ℕ → ℕ → ℕ → List SegRec → List RunRec → List RunRec → List IntervalRec → List CellRec → SumDoc
summary_with conns n m s o text rows cols is cs =
    record { seq = n; min = m; skipped = s; other = o; conns = conns; text = text; rows = rows; cols = cols; intervals = is; cells = cs }

same-summary : (conns : List Characters) {a b d e f g h i : ℕ} {t u : List SegRec} {r v c w : List RunRec} {is js : List IntervalRec} {cs ds : List CellRec}
    → a ≡ b → d ≡ e → f ≡ g → h ≡ i → t ≡ u → r ≡ v → c ≡ w → is ≡ js → cs ≡ ds
    → summary_with conns a d f h t r c is cs ≡ summary_with conns b e g i u v w js ds
same-summary conns e1 e2 e3 e4 e5 e6 e7 e8 e9 = rw (e1, e2, e3, e4, e5, e6, e7, e8, e9) refl

pub trimmed-summary : (conns : List Characters) (p q : Document) → TrimmedAlike p q → summary_of conns p ≡ summary_of conns q
trimmed-summary conns p q h =
    same-summary conns h.number h.minimum h.skipped h.other (segments-alike 0 h.text) (units-alike h.rows) (units-alike h.cols)
    (same-map (interval_record 0 (trim p).text.items) (interval_record 0 (trim q).text.items) (λ i j r. interval-numbered i j r) h.intervals)
    (cells-shown (trim p).cells (trim q).cells [] [] (stage_view 0 (trim p).cols.items) (stage_view 0 (trim q).cols.items) 0
    (filtered-named 0 (RowsAlike (stage_view 0 (trim p).cols.items) (stage_view 0 (trim q).cols.items) (trim p).cells (trim q).cells)
    (beside-more (λ x y r. (r.0, filtered-named 0 (λ c d. cell_value (id x) c (trim p).cells ≡ cell_value (id y) d (trim q).cells) r.1)) h.cells)))

-- ---- documents that differ in names

removed-beside : {xs ys : List ListElement} → BesideList (AreTwins xs ys) xs ys → BesideList (Named (λ i j. has_sequenced_removal xs i ≡ has_sequenced_removal ys j)) xs ys
removed-beside h =
    beside-more (λ x y t. (t.twin, beside-any (λ e. has_id (id x) e && is_removed e) (λ e. has_id (id y) e && is_removed e) (λ u v s. here (id x) (id y) u v s) t.stand.twins)) h
  where
    here : (a b : ElementId) (u v : ListElement) → IsTwinNamed a b u v → has_id a u && is_removed u ≡ has_id b v && is_removed v
    here a b u v s = ap (λ c. c && is_removed u) s.1 ∙ ap (λ c. has_id b v && c) (same-of is_removed (λ e n. refl) u v s.0)

-- with a test that all of the other list pass
beside-all : {Q : ListElement → ListElement → Type 0} (test : ListElement → Bool) {xs ys : List ListElement} → list_all test ys ≡ true → BesideList Q xs ys
    → BesideList (λ x y. Q x y × (test y ≡ true)) xs ys
beside-all test h ends = ends
beside-all test h (next {y = y} {ys = ys} q qs) = let p = both (test y) (list_all test ys) h in next (q, p.0) (beside-all test p.1 qs)

-- the cells of the second document show no null in rows and columns that aren't removed in these lists, and what is removed there
-- is removed in the document, if a summary has it
pub record ShowsNoNull (xrows xcols : List ListElement) (q : Document) : Type 0 where
  pub values : (row col : ElementId) → has_sequenced_removal xrows row ≡ false → has_sequenced_removal xcols col ≡ false → is_shown (cell_value row col q.cells) ≡ true
  pub rows : list_all (λ e. is_removed_alike q.rows.items xrows (id e)) (trim q).rows.items ≡ true
  pub cols : list_all (λ e. is_removed_alike q.cols.items xcols (id e)) (trim q).cols.items ≡ true

module _ (last : ℕ) (p q : Document) (h : DocsAlike last p q) (xrows xcols : List ListElement) (s : ShowsNoNull xrows xcols q) where
  value-alike : (i j c d : ElementId) → cell_value i c p.cells ≡ cell_value j d q.cells
      → has_sequenced_removal p.rows.items i ≡ has_sequenced_removal q.rows.items j → has_sequenced_removal p.cols.items c ≡ has_sequenced_removal q.cols.items d
      → is_removed_alike q.rows.items xrows j ≡ true → is_removed_alike q.cols.items xcols d ≡ true
      → cell_value i c (filter (is_summed p.rows.items p.cols.items) p.cells) ≡ cell_value j d (filter (is_summed q.rows.items q.cols.items) q.cells)
  value-alike i j c d same e f a b =
      let shows : has_sequenced_removal q.rows.items j ≡ false → has_sequenced_removal q.cols.items d ≡ false → is_shown (cell_value j d q.cells) ≡ true =
      λ g k. s.values j d (unremoved-whole q.rows.items xrows j a g) (unremoved-whole q.cols.items xcols d b k) in
      summed-value p.rows.items p.cols.items i c p.cells (λ g k. ap is_shown same ∙ shows (sym e ∙ g) (sym f ∙ k))
      ∙ ap (λ b. unless_removed b (has_sequenced_removal p.cols.items c) (cell_value i c p.cells)) e
      ∙ ap (λ b. unless_removed (has_sequenced_removal q.rows.items j) b (cell_value i c p.cells)) f
      ∙ ap (unless_removed (has_sequenced_removal q.rows.items j) (has_sequenced_removal q.cols.items d)) same
      ∙ sym (summed-value q.rows.items q.cols.items j d q.cells shows)

  row-alike : (i j : ElementId) → RowsAlike p.cols.items q.cols.items p.cells q.cells i j
      → has_sequenced_removal p.rows.items i ≡ has_sequenced_removal q.rows.items j → is_removed_alike q.rows.items xrows j ≡ true
      → RowsAlike (trim p).cols.items (trim q).cols.items (trim p).cells (trim q).cells i j
  row-alike i j cells e a =
      beside-more (λ x y r. (r.0.0, value-alike i j (id x) (id y) r.0.1 e r.1.0.1 a r.1.1))
      (beside-both (trimmed-lists p.minimum q.minimum h.parts.minimum (λ c d. cell_value i c p.cells ≡ cell_value j d q.cells) cells)
      (beside-all (λ e. is_removed_alike q.cols.items xcols (id e)) s.cols
      (trimmed-lists p.minimum q.minimum h.parts.minimum (λ i j. has_sequenced_removal p.cols.items i ≡ has_sequenced_removal q.cols.items j)
      (removed-beside (places last p.cols q.cols h.parts.cols)))))

  pub names-trimmed : TrimmedAlike p q
  names-trimmed = record {
    text = trimmed-twins p.minimum q.minimum h.parts.minimum h.parts.text.twins;
    rows = trimmed-twins p.minimum q.minimum h.parts.minimum h.parts.rows.twins;
    cols = trimmed-twins p.minimum q.minimum h.parts.minimum h.parts.cols.twins;
    intervals = intervals-more (SettledAlike p.text.items q.text.items) (EndsBeside (trim p).text.items (trim q).text.items)
        (λ i j e. trimmed-ends p.minimum q.minimum h.parts.minimum (settled-beside e)) h.intervals;
    cells = beside-more (λ x y r. (r.0.0, row-alike (id x) (id y) r.0.1 r.1.0.1 r.1.1))
        (beside-both (trimmed-lists p.minimum q.minimum h.parts.minimum (RowsAlike p.cols.items q.cols.items p.cells q.cells) h.parts.cells)
        (beside-all (λ e. is_removed_alike q.rows.items xrows (id e)) s.rows
        (trimmed-lists p.minimum q.minimum h.parts.minimum (λ i j. has_sequenced_removal p.rows.items i ≡ has_sequenced_removal q.rows.items j)
        (removed-beside (places last p.rows q.rows h.parts.rows)))));
    skipped = h.parts.skipped;
    other = h.parts.other;
    number = h.parts.number;
    minimum = h.parts.minimum;
  }

-- ---- documents that are kept

ends-self : (xs : List ListElement) (o : Option ElementId) → EndsBeside xs xs o o
ends-self xs None = loose
ends-self xs (Some a) = at_names (beside-more (λ x y t. (t.0, t.1)) (named-self xs))
  where
    named-self : (us : List ListElement) → BesideList (IsTwinNamed a a) us us
    named-self [] = ends
    named-self (u ∷ us) = next (refl, refl) (named-self us)

intervals-self : (xs : List ListElement) (is : List Interval) → IntervalsBeside (EndsBeside xs xs) is is
intervals-self xs [] = ends
intervals-self xs (i ∷ is) = next (record { label = refl; id = refl; start = ends-self xs i.start; end = ends-self xs i.end; props = refl }) (intervals-self xs is)

module _ (x : NaiveClient) (f : ClientFacts x) (has : list_all has_value x.doc.cells ≡ true)
    (text rows cols : Sequence) (cells : List Cell) (k : KeepsDocument x (with_lists x.doc text rows cols cells)) where
  abbrev kept : Document
  kept = with_lists x.doc text rows cols cells

  low : floor x ≤ x.doc.minimum
  low = least-first x.pending x.doc.minimum

  same-list : {held : ElementId → Bool} {l m : Sequence} → KeepsList (floor x) held l m → trimmed_items x.doc.minimum l.items ≡ trimmed_items x.doc.minimum m.items
  same-list {l = l} {m = m} g = ap (λ (s : Sequence). s.items) (list-same l m (record { items = keeps-higher low g.items; made = g.made }))

  pub shows-no-null : ShowsNoNull x.doc.rows.items x.doc.cols.items kept
  shows-no-null = record {
    values = λ row col a b. ap is_shown (k.cells.values row col a b) ∙ shown-value row col x.doc.cells has;
    rows = subst (λ us. list_all (λ e. is_removed_alike rows.items x.doc.rows.items (id e)) us ≡ true) (sym (same-list k.rows))
        (removed-alike rows.items x.doc.rows.items (keeps-higher low k.rows.items) (other-named is_removed x.doc.rows.items f.ready.rows.place.distinct));
    cols = subst (λ us. list_all (λ e. is_removed_alike cols.items x.doc.cols.items (id e)) us ≡ true) (sym (same-list k.cols))
        (removed-alike cols.items x.doc.cols.items (keeps-higher low k.cols.items) (other-named is_removed x.doc.cols.items f.ready.cols.place.distinct));
  }

  twins-of-list : {held : ElementId → Bool} {l m : Sequence} → KeepsList (floor x) held l m
      → BesideList IsTwin (trimmed_items x.doc.minimum l.items) (trimmed_items x.doc.minimum m.items)
  twins-of-list {l = l} g = subst (λ us. BesideList IsTwin (trimmed_items x.doc.minimum l.items) us) (same-list g) (twins-self (trimmed_items x.doc.minimum l.items))

  pub kept-trimmed : TrimmedAlike kept x.doc
  kept-trimmed = record {
    text = twins-of-list k.text;
    rows = twins-of-list k.rows;
    cols = twins-of-list k.cols;
    intervals = subst (λ us. IntervalsBeside (EndsBeside (trimmed_items x.doc.minimum text.items) us) x.doc.intervals x.doc.intervals) (same-list k.text)
        (intervals-self (trimmed_items x.doc.minimum text.items) x.doc.intervals);
    cells = cells-of-index 0 (trim kept).cells (trim x.doc).cells (trim kept).cols.items (trim x.doc).cols.items (twins-of-list k.cols) (twins-of-list k.rows)
        (ap (λ (d : IndexedDocument). d.cells) (summary-same x kept f has k));
    skipped = refl;
    other = refl;
    number = refl;
    minimum = refl;
  }

-- ---- both

-- the documents of a client that differs in names from one that keeps x, and of x
pub record SummedAlike (p q : Document) : Type 0 where
  pub indexed : indexed (trim p) ≡ indexed (trim q)
  pub summary : (conns : List Characters) → summary_of conns p ≡ summary_of conns q

pub summed-alike : (p kept x : NaiveClient) → ClientsAlike p kept → IsCompacted kept x → ClientFacts x → list_all has_value x.doc.cells ≡ true → SummedAlike p.doc x.doc
summed-alike p kept x c k f has =
    shaped kept.doc.text kept.doc.rows kept.doc.cols kept.doc.cells (subst (λ d. KeepsDocument x d) k.doc.rest k.doc)
    (subst (λ d. DocsAlike p.last_stage p.doc d) k.doc.rest c.doc)
  where
    shaped : (text rows cols : Sequence) (cells : List Cell) → KeepsDocument x (with_lists x.doc text rows cols cells)
        → DocsAlike p.last_stage p.doc (with_lists x.doc text rows cols cells) → SummedAlike p.doc x.doc
    shaped text rows cols cells k h =
        let d = with_lists x.doc text rows cols cells in
        let names = names-trimmed p.last_stage p.doc d h x.doc.rows.items x.doc.cols.items (shows-no-null x f has text rows cols cells k) in
        let keeps = kept-trimmed x f has text rows cols cells k in
        record {
          indexed = trimmed-indexed p.doc d names ∙ trimmed-indexed d x.doc keeps;
          summary = λ conns. trimmed-summary conns p.doc d names ∙ trimmed-summary conns d x.doc keeps;
        }
