-- What a sub-operation of a message makes of shown intervals of other names: it moves the ends as it moves the lists, if it does so of each end.
use Rattle.std.proofs.Common.{◌≡◌, ℕ, Bool, true, false, cond, not, ◌&&◌, nat_eq, nat_le, List, [], ◌∷◌, Option, Some, None, refl, sym, ◌∙◌, ap, filter, length, map, ℤ}
use Rattle.std.specs.List.{list_all}
use Rattle.ft_base.specs.declared.stamps.Stamp.TheVariants.{Acked}
use Rattle.ft_base.proofs.Booleans.{both}
use Rattle.ft_base.specs.Scan.{at, change_range, len}
use Rattle.ft_props.specs.declared.properties.Changes.{Changes}
use Rattle.ft_props.specs.Element.{ElementContent, ElementId, ListElement, is_pending, seen, seen_by, with_annotation}
use Rattle.ft_props.specs.Properties.{PropertyList, PropertySet, apply}
use Rattle.ft_props.specs.Slide.{end_number, slide}
use Rattle.ft_props.specs.Steps.{Sequence, after_insertion, after_removal}
use Rattle.ft_op.specs.declared.operations.BaseOp.{BaseOp}
use Rattle.ft_op.specs.declared.operations.BaseOp.TheVariants.{Annotate, Insert, Remove}
use Rattle.ft_op.specs.declared.operations.CellOp.{CellOp}
use Rattle.ft_op.specs.declared.operations.CellOp.TheVariants.{Set, SpliceIn, SpliceOut}
use Rattle.ft_op.specs.declared.operations.Seg.{Seg}
use Rattle.ft_op.specs.declared.operations.Target.{Target}
use Rattle.ft_op.specs.declared.operations.Target.TheVariants.{Cols, Rows}
use Rattle.ft_op.specs.declared.operations.TextOp.{TextOp}
use Rattle.ft_op.specs.Document.{Document, cell_effect, effect, elements_at_given_ends, ends_of, given_ends_fit, grid_effect, interval_effect, rows_or_cols, text_effect, with_rows_or_cols, with_skip, with_slid_ends}
use Rattle.ft_op.specs.Intervals.{Interval, after_interval_operation}
use Rattle.ft_op.specs.Operation.{OnGrid, OnIntervals, OnText, SubOperation, segment_contents}
use Rattle.ft_op.specs.Stages.{Stage}
use Rattle.ft_sumdoc.specs.declared.summary.IntervalRec.{IntervalRec}
use Rattle.ft_sumdoc.specs.WellFormed.{same_props}
use Rattle.ft_msg.specs.Content.{interval_record}
use Rattle.ft_changes.specs.declared.changes.ViewChange.{ViewChange}
use Rattle.ft_changes.specs.declared.changes.ViewChange.TheVariants.{Put, PutUnits}
use Rattle.ft_changes.specs.Shown.{ShownContent, after_changes, end_after_put, shown_elements, shown_properties, with_moved_ends}
use Rattle.ft_changes.specs.ShownRuns.{ChangedRun, GoneRun, changed_runs, gone_runs, place_of_insertion}
use Rattle.ft_changes.specs.Told.{styled_run, taken_run, taken_units, told_of_grid, told_of_text, told_sub_operation, unless_no_elements}
use Rattle.ft_changes.proofs.ForeignSteps.{ShowsLists}
use Rattle.ft_changes.proofs.IntervalsLead.{map-none, none-put, styled-intervals, taken-intervals, units-intervals}
use Rattle.ft_changes.proofs.MovedEnds.{after_runs}
use Rattle.ft_changes.proofs.ThroughStages.{Covers, filter-map, is_other, operation-others, others-moved, through, unmoved, with_ends_by}

module _ (test : IntervalRec → Bool) (names : (a b : IntervalRec) → a.label ≡ b.label → a.id ≡ b.id → test a ≡ test b) (k n c r : ℕ)
    (ts : List Stage) (good : List ListElement → (Option ElementId → Option ElementId) → List ListElement → Option ElementId → Bool) where
  -- from where an end stands in xs after the stages, g leads to where it stands in ys, once f took it to its element there
  abbrev pub LeadsEnds : (ℤ → ℤ) → (Option ElementId → Option ElementId) → List ListElement → List ListElement → Type 0
  LeadsEnds g f xs ys =
      (o : Option ElementId) → good xs f ys o ≡ true → g (end_number k xs (through xs ts o)) ≡ end_number k ys (through ys ts (f o))

  -- so it is of each end, whatever a sub-operation does
  pub record LeadsEach (doc : Document) (o : SubOperation) : Type 0 where
    pub idle : LeadsEnds (λ e. e) (λ e. e) doc.text.items doc.text.items
    pub slid : (op : TextOp) → o ≡ OnIntervals op → LeadsEnds (λ e. e) (slide doc.text.items) doc.text.items doc.text.items
    pub put : (p : ℕ) (seg : Seg) (changes : PropertySet) → o ≡ OnText (Insert p seg changes) → nat_le p (len (seen_by r c) doc.text.items) ≡ true
        → LeadsEnds (end_after_put (place_of_insertion (seen_by r c) is_pending (seen k) p doc.text.items) (length (segment_contents seg))) (λ e. e)
        doc.text.items (after_insertion n c r p (Some (Acked n c)) (apply [] changes) (segment_contents seg) doc.text).items
    pub taken : (p q : ℕ) → o ≡ OnText (Remove p q)
        → LeadsEnds (after_runs (gone_runs (seen_by r c) (seen k) p q doc.text.items) (shown_elements k doc.text.items))
        (slide (after_removal n c r p q doc.text).items) doc.text.items (after_removal n c r p q doc.text).items
    pub styled : (p q : ℕ) (changes : Changes) → o ≡ OnText (Annotate p q changes)
        → LeadsEnds (λ e. e) (λ e. e) doc.text.items (change_range (seen_by r c) p q (with_annotation changes) doc.text.items)

  -- how these changes move all ends, and to which elements intervals of other names go
  pub record IsLed (doc next : Document) (changes : List ViewChange) : Type 0 where
    pub g : ℤ → ℤ
    pub f : Option ElementId → Option ElementId
    pub lead : LeadsEnds g f doc.text.items next.text.items
    pub moved : (t : ShownContent) → ShowsLists k t doc → (after_changes t changes).intervals ≡ map (with_moved_ends g) t.intervals
    pub kept : filter (is_other test names) next.intervals ≡ map (with_ends_by f) (filter (is_other test names) doc.intervals)

  abbrev others : List Interval → List Interval
  others is = filter (is_other test names) is

  module _ (doc : Document) where
    -- where text and intervals stay as they are
    stays-led : (next : Document) (changes : List ViewChange) → LeadsEnds (λ e. e) (λ e. e) doc.text.items next.text.items
        → next.intervals ≡ doc.intervals → ((t : ShownContent) → (after_changes t changes).intervals ≡ t.intervals) → IsLed doc next changes
    stays-led next changes lead same told = record {
      g = λ e. e;
      f = λ e. e;
      lead = lead;
      moved = λ t lists. told t ∙ map-none t.intervals;
      kept = ap others same ∙ unmoved (others doc.intervals);
    }

    put-led : (p : ℕ) (seg : Seg) (changes : PropertySet) (next : Document) (bs : List ElementContent) → segment_contents seg ≡ bs
        → next.intervals ≡ doc.intervals
        → LeadsEnds (end_after_put p (length bs)) (λ e. e) doc.text.items next.text.items
        → IsLed doc next (unless_no_elements bs (Put p seg (apply [] changes)))
    put-led p seg changes next bs is same lead = record {
      g = end_after_put p (length bs);
      f = λ e. e;
      lead = lead;
      moved = λ t lists. told bs is t;
      kept = ap others same ∙ unmoved (others doc.intervals);
    }
      where
        told : (bs : List ElementContent) → segment_contents seg ≡ bs → (t : ShownContent)
            → (after_changes t (unless_no_elements bs (Put p seg (apply [] changes)))).intervals
            ≡ map (with_moved_ends (end_after_put p (length bs))) t.intervals
        told [] e t = none-put k n c r p t.intervals
        told (b ∷ bs) e t = ap (λ cs. map (with_moved_ends (end_after_put p (length cs))) t.intervals) e

    -- where each end slides
    slid-led : (g : ℤ → ℤ) (next : Document) (changes : List ViewChange) (is : List Interval)
        → LeadsEnds g (slide next.text.items) doc.text.items next.text.items
        → next.intervals ≡ map (with_ends_by (slide next.text.items)) is → others is ≡ others doc.intervals
        → ((t : ShownContent) → ShowsLists k t doc → (after_changes t changes).intervals ≡ map (with_moved_ends g) t.intervals)
        → IsLed doc next changes
    slid-led g next changes is lead same left told =
        let f = slide next.text.items in
        record {
          g = g;
          f = f;
          lead = lead;
          moved = told;
          kept = ap others same ∙ others-moved test names f is ∙ ap (map (with_ends_by f)) left;
        }

    text-led : (op : BaseOp) → LeadsEach doc (OnText op) → IsLed doc (text_effect doc n c r op) (told_of_text k doc c r op)
    text-led (Insert p seg changes) h = by (nat_le p (len (seen_by r c) doc.text.items)) refl
      where
        place : ℕ
        place = place_of_insertion (seen_by r c) is_pending (seen k) p doc.text.items

        put : Document
        put = record doc { text = after_insertion n c r p (Some (Acked n c)) (apply [] changes) (segment_contents seg) doc.text }

        by : (b : Bool) → nat_le p (len (seen_by r c) doc.text.items) ≡ b
            → IsLed doc (cond b put (with_skip doc)) (cond b (unless_no_elements (segment_contents seg) (Put place seg (apply [] changes))) [])
        by true e = put-led place seg changes put (segment_contents seg) refl refl (h.put p seg changes refl e)
        by false e = stays-led (with_skip doc) [] h.idle refl (λ t. refl)
    text-led (Remove p q) h = by (nat_le q (len (seen_by r c) doc.text.items))
      where
        runs : List GoneRun
        runs = gone_runs (seen_by r c) (seen k) p q doc.text.items

        taken : Document
        taken = with_slid_ends (record doc { text = after_removal n c r p q doc.text })

        by : (b : Bool) → IsLed doc (cond b taken (with_skip doc)) (cond b (map taken_run runs) [])
        by true = slid-led (after_runs runs (shown_elements k doc.text.items)) taken (map taken_run runs) doc.intervals (h.taken p q refl) refl refl
            (λ t lists. taken-intervals t runs ∙ ap (λ es. map (with_moved_ends (after_runs runs es)) t.intervals) lists.elements)
        by false = stays-led (with_skip doc) [] h.idle refl (λ t. refl)
    text-led (Annotate p q changes) h = by (nat_le q (len (seen_by r c) doc.text.items))
      where
        runs : List (ChangedRun PropertyList)
        runs = changed_runs same_props shown_properties (with_annotation changes) (seen_by r c) (seen k) p q doc.text.items

        styled : Document
        styled = record doc {
          text = record { items = change_range (seen_by r c) p q (with_annotation changes) doc.text.items; made = doc.text.made };
        }

        by : (b : Bool) → IsLed doc (cond b styled (with_skip doc)) (cond b (map styled_run runs) [])
        by true = stays-led styled (map styled_run runs) (h.styled p q changes refl) refl (λ t. styled-intervals t runs)
        by false = stays-led (with_skip doc) [] h.idle refl (λ t. refl)

    grid-led : (op : CellOp) → LeadsEach doc (OnGrid op) → IsLed doc (grid_effect doc n c r op) (told_of_grid k doc c r op)
    grid-led (SpliceIn target p count) h =
        by target (nat_le p (len (seen_by r c) (rows_or_cols target doc).items)) (nat_le p (len (seen_by r c) (rows_or_cols target doc).items) && not
        (nat_eq count 0)) _ _
      where
        by : (target : Target) (b d : Bool) (m : ℕ) (list : Sequence)
            → IsLed doc (cond b (with_rows_or_cols target doc list) (with_skip doc)) (cond d (PutUnits target m count ∷ []) [])
        by Rows true true m list = stays-led _ _ h.idle refl (λ t. refl)
        by Rows true false m list = stays-led _ _ h.idle refl (λ t. refl)
        by Rows false true m list = stays-led _ _ h.idle refl (λ t. refl)
        by Rows false false m list = stays-led _ _ h.idle refl (λ t. refl)
        by Cols true true m list = stays-led _ _ h.idle refl (λ t. refl)
        by Cols true false m list = stays-led _ _ h.idle refl (λ t. refl)
        by Cols false true m list = stays-led _ _ h.idle refl (λ t. refl)
        by Cols false false m list = stays-led _ _ h.idle refl (λ t. refl)
    grid-led (SpliceOut target p q) h = by target (nat_le q (len (seen_by r c) (rows_or_cols target doc).items)) _ _
      where
        by : (target : Target) (b : Bool) (gone : List GoneRun) (list : Sequence)
            → IsLed doc (cond b (with_rows_or_cols target doc list) (with_skip doc)) (cond b (map (taken_units target) gone) [])
        by Rows true gone list = stays-led _ _ h.idle refl (λ t. units-intervals Rows t gone)
        by Cols true gone list = stays-led _ _ h.idle refl (λ t. units-intervals Cols t gone)
        by target false gone list = stays-led (with_skip doc) [] h.idle refl (λ t. refl)
    grid-led (Set i j value) h = by (at (seen_by r c) i doc.rows.items) (at (seen_by r c) j doc.cols.items)
      where
        by : (row col : Option ListElement) → IsLed doc (cell_effect doc row col value) []
        by (Some row) (Some col) = stays-led _ [] h.idle refl (λ t. refl)
        by (Some row) None = stays-led (with_skip doc) [] h.idle refl (λ t. refl)
        by None col = stays-led (with_skip doc) [] h.idle refl (λ t. refl)

    interval-led : (op : TextOp) → Covers test (OnIntervals op ∷ []) → LeadsEach doc (OnIntervals op) → IsLed doc (interval_effect doc c r op) []
    interval-led op covers h = by (given_ends_fit (len (seen_by r c) doc.text.items) (ends_of op))
      where
        changed : List Interval
        changed = after_interval_operation op (elements_at_given_ends (seen_by r c) doc.text.items (ends_of op)) doc.intervals

        by : (b : Bool) → IsLed doc (cond b (with_slid_ends (record doc { intervals = changed })) (with_skip doc)) []
        by true = slid-led (λ e. e) (with_slid_ends (record doc { intervals = changed })) [] changed (h.slid op refl) refl
            (operation-others test names op covers (elements_at_given_ends (seen_by r c) doc.text.items (ends_of op)) doc.intervals)
            (λ t lists. map-none t.intervals)
        by false = stays-led (with_skip doc) [] h.idle refl (λ t. refl)

    pub is-led : (o : SubOperation) → Covers test (o ∷ []) → LeadsEach doc o → IsLed doc (effect doc n c r o) (told_sub_operation k doc c r o)
    is-led (OnText op) covers h = text-led op h
    is-led (OnIntervals op) covers h = interval-led op covers h
    is-led (OnGrid op) covers h = grid-led op h

  -- ---- the intervals of other names

  abbrev pub shown_others : Document → List IntervalRec
  shown_others doc =
      map (interval_record k doc.text.items) (map (with_ends_by (through doc.text.items ts)) (filter (is_other test names) doc.intervals))

  module _ (doc next : Document) (changes : List ViewChange) (l : IsLed doc next changes) where
    abbrev is_good : Interval → Bool
    is_good i = good doc.text.items l.f next.text.items i.start && good doc.text.items l.f next.text.items i.end

    lead-all : (is : List Interval) → list_all is_good is ≡ true
        → map (with_moved_ends l.g) (map (interval_record k doc.text.items) (map (with_ends_by (through doc.text.items ts)) is))
        ≡ map (interval_record k next.text.items) (map (with_ends_by (through next.text.items ts)) (map (with_ends_by l.f) is))
    lead-all [] h = refl
    lead-all (i ∷ is) h =
        let p = both (is_good i) (list_all is_good is) h in
        let q = both (good doc.text.items l.f next.text.items i.start) (good doc.text.items l.f next.text.items i.end) p.0 in
        rw (l.lead i.start q.0, l.lead i.end q.1, lead-all is p.1) refl

    pub led-shown : (t : ShownContent) → ShowsLists k t doc → list_all is_good (filter (is_other test names) doc.intervals) ≡ true
        → filter (λ i. not (test i)) t.intervals ≡ shown_others doc
        → filter (λ i. not (test i)) (after_changes t changes).intervals ≡ shown_others next
    led-shown t lists all h =
        ap (filter (λ i. not (test i))) (l.moved t lists)
        ∙ filter-map (with_moved_ends l.g) (λ i. not (test i)) (λ i. not (test i)) (λ i. ap not (names (with_moved_ends l.g i) i refl refl))
        t.intervals
        ∙ ap (map (with_moved_ends l.g)) h ∙ lead-all (others doc.intervals) all
        ∙ ap (λ is. map (interval_record k next.text.items) (map (with_ends_by (through next.text.items ts)) is)) (sym l.kept)
