-- Where a message sets no cell, the changes of the lists alone lead to the cells that are shown after it.
use Rattle.std.proofs.Common.{◌≡◌, ℕ, zero, suc, ◌+◌, ◌≤◌, Bool, true, false, cond, not, ◌&&◌, nat_eq, nat_le, List, [], ◌∷◌, Option, Some, None, refl, sym, ◌∙◌, ap, subst, arith, length, map, replicate}
use Rattle.std.proofs.lemmas.Bool.{eqb-true}
use Rattle.ft_base.specs.declared.stamps.Stamp.TheVariants.{Acked}
use Rattle.ft_base.specs.Scan.{at, len}
use Rattle.ft_props.specs.Element.{ElementContent, ElementId, GridUnit, ListElement, SequencedId, id, is_pending, new_elements, seen, seen_by, with_annotation, with_removal}
use Rattle.ft_props.specs.Properties.{PropertyList, ValueBytes, apply}
use Rattle.ft_props.specs.Steps.{Sequence, after_insertion, after_removal}
use Rattle.ft_op.specs.declared.operations.BaseOp.{BaseOp}
use Rattle.ft_op.specs.declared.operations.BaseOp.TheVariants.{Annotate, Insert, Remove}
use Rattle.ft_op.specs.declared.operations.CellOp.{CellOp}
use Rattle.ft_op.specs.declared.operations.CellOp.TheVariants.{Set, SpliceIn, SpliceOut}
use Rattle.ft_op.specs.declared.operations.Target.TheVariants.{Cols, Rows}
use Rattle.ft_op.specs.declared.operations.TextOp.{TextOp}
use Rattle.ft_op.specs.Document.{Document, cell_effect, effect, effects, elements_at_given_ends, ends_of, given_ends_fit, grid_effect, interval_effect, text_effect, with_skip, with_slid_ends}
use Rattle.ft_op.specs.Intervals.{after_interval_operation}
use Rattle.ft_op.specs.Operation.{OnGrid, OnIntervals, OnText, SubOperation, segment_contents}
use Rattle.ft_sumdoc.specs.WellFormed.{same_props}
use Rattle.ft_changes.specs.declared.changes.ViewChange.{ViewChange}
use Rattle.ft_changes.specs.declared.changes.ViewChange.TheVariants.{Put, PutUnits}
use Rattle.ft_laws_agreement.specs.Sequencing.{Each}
use Rattle.ft_changes.specs.Shown.{ShownContent, after_change, after_changes, moved_cells, number_after_put, number_after_take, shown_properties}
use Rattle.ft_changes.specs.ShownRuns.{ChangedRun, GoneRun, changed_runs, gone_runs, place_of_insertion, put_in, take_out, without_runs}
use Rattle.ft_changes.specs.Told.{styled_run, taken_run, taken_units, told_of_grid, told_of_text, told_sub_operation, told_sub_operations, unless_no_elements}
use Rattle.ft_changes.proofs.ElementLaws.{removed-hidden}
use Rattle.ft_changes.proofs.ForeignSteps.{after-append, put_in-none}
use Rattle.ft_changes.proofs.MovedCells.{HasNoCells, cols-put, cols-taken, rows-put, rows-taken, shown_names, table}
use Rattle.ft_changes.proofs.RunLaws.{gone-shown, put-shown}

-- ---- new units

module _ (k s c : ℕ) where
  abbrev new_units : ℕ → ℕ → List ListElement
  new_units n count = new_elements n (Acked s c) [] None [] (replicate count GridUnit)

  new-length : (n count : ℕ) → length (shown_names k (new_units n count)) ≡ count
  new-length n zero = refl
  new-length n (suc count) = ap suc (new-length (n + 1) count)

  new-names : (P : ElementId → Type 0) (n count : ℕ) → ((i : ℕ) → n ≤ i → P (SequencedId i)) → Each P (shown_names k (new_units n count))
  new-names P n zero h = tt
  new-names P n (suc count) h = (h n (omega arith), new-names P (n + 1) count (λ i l. h i (omega arith)))

-- ---- changes of the text

pub text-cells : (s : ShownContent) (bs : List ElementContent) (change : ViewChange) → (after_change s change).cells ≡ s.cells
    → (after_changes s (unless_no_elements bs change)).cells ≡ s.cells
text-cells s [] change e = refl
text-cells s (b ∷ bs) change e = e

pub taken-cells : (s : ShownContent) (runs : List GoneRun) → (after_changes s (map taken_run runs)).cells ≡ s.cells
taken-cells s [] = refl
taken-cells s (run ∷ runs) = taken-cells (after_change s (taken_run run)) runs

pub styled-cells : (s : ShownContent) (runs : List (ChangedRun PropertyList)) → (after_changes s (map styled_run runs)).cells ≡ s.cells
styled-cells s [] = refl
styled-cells s (run ∷ runs) = styled-cells (after_change s (styled_run run)) runs

-- ---- one sub-operation

module _ (k n c r : ℕ) (value : ElementId → ElementId → Option ValueBytes) where
  -- the cells are those of the rows and columns that are shown of a document, and no unit that comes later has one
  pub record ShowsTable (t : ShownContent) (doc : Document) : Type 0 where
    pub cells : t.cells ≡ table value (shown_names k doc.rows.items) (shown_names k doc.cols.items)
    pub row_ahead : (i : ℕ) → doc.rows.made ≤ i → HasNoCells value Rows (SequencedId i)
    pub col_ahead : (i : ℕ) → doc.cols.made ≤ i → HasNoCells value Cols (SequencedId i)

  same-table : (s t : ShownContent) (doc : Document) → t.cells ≡ s.cells → ShowsTable s doc → ShowsTable t doc
  same-table s t doc e h = record { cells = e ∙ h.cells; row_ahead = h.row_ahead; col_ahead = h.col_ahead }

  other-doc : (t : ShownContent) (doc other : Document) → doc.rows ≡ other.rows → doc.cols ≡ other.cols → ShowsTable t doc → ShowsTable t other
  other-doc t doc other e d h = record {
    cells = h.cells ∙ ap (λ (list : Sequence). table value (shown_names k list.items) (shown_names k doc.cols.items)) e
        ∙ ap (λ (list : Sequence). table value (shown_names k other.rows.items) (shown_names k list.items)) d;
    row_ahead = λ i l. h.row_ahead i (subst (λ (list : Sequence). list.made ≤ i) (sym e) l);
    col_ahead = λ i l. h.col_ahead i (subst (λ (list : Sequence). list.made ≤ i) (sym d) l);
  }

  text-table : (t : ShownContent) (doc : Document) (op : BaseOp) → ShowsTable t doc → ShowsTable (after_changes t (told_of_text k doc c r op))
      (text_effect doc n c r op)
  text-table t doc op h = other-doc _ doc (text_effect doc n c r op) (rows op) (cols op) (same-table t _ doc (cells op) h)
    where
      one : (A : Type 0) (f : Document → A) (b : Bool) (x y : Document) → f x ≡ f doc → f y ≡ f doc → f doc ≡ f (cond b x y)
      one A f true x y e d = sym e
      one A f false x y e d = sym d

      rows : (op : BaseOp) → doc.rows ≡ (text_effect doc n c r op).rows
      rows (Insert p seg props) = one Sequence (λ d. d.rows) (nat_le p (len (seen_by r c) doc.text.items)) _ (with_skip doc) refl refl
      rows (Remove p q) = one Sequence (λ d. d.rows) (nat_le q (len (seen_by r c) doc.text.items)) _ _ refl refl
      rows (Annotate p q changes) = one Sequence (λ d. d.rows) (nat_le q (len (seen_by r c) doc.text.items)) _ _ refl refl

      cols : (op : BaseOp) → doc.cols ≡ (text_effect doc n c r op).cols
      cols (Insert p seg props) = one Sequence (λ d. d.cols) (nat_le p (len (seen_by r c) doc.text.items)) _ _ refl refl
      cols (Remove p q) = one Sequence (λ d. d.cols) (nat_le q (len (seen_by r c) doc.text.items)) _ _ refl refl
      cols (Annotate p q changes) = one Sequence (λ d. d.cols) (nat_le q (len (seen_by r c) doc.text.items)) _ _ refl refl

      if_told : (b : Bool) (cs : List ViewChange) → (after_changes t cs).cells ≡ t.cells → (after_changes t (cond b cs [])).cells ≡ t.cells
      if_told true cs e = e
      if_told false cs e = refl

      cells : (op : BaseOp) → (after_changes t (told_of_text k doc c r op)).cells ≡ t.cells
      cells (Insert p seg props) =
          let change = Put (place_of_insertion (seen_by r c) is_pending (seen k) p doc.text.items) seg (apply [] props) in
          if_told (nat_le p (len (seen_by r c) doc.text.items)) (unless_no_elements (segment_contents seg) change) (text-cells t (segment_contents
          seg) change refl)
      cells (Remove p q) =
          let runs = gone_runs (seen_by r c) (seen k) p q doc.text.items in
          if_told (nat_le q (len (seen_by r c) doc.text.items)) (map taken_run runs) (taken-cells t runs)
      cells (Annotate p q changes) =
          let runs = changed_runs same_props shown_properties (with_annotation changes) (seen_by r c) (seen k) p q doc.text.items in
          if_told (nat_le q (len (seen_by r c) doc.text.items)) (map styled_run runs) (styled-cells t runs)

  -- ---- rows and columns that go in

  put-names : (p count : ℕ) (list : Sequence) → shown_names k (after_insertion n c r p None [] (replicate count GridUnit) list).items
      ≡ put_in (place_of_insertion (seen_by r c) is_pending (seen k) p list.items) (shown_names k (new_units k n c list.made count)) (shown_names k
      list.items)
  put-names p count list = put-shown (seen_by r c) is_pending (seen k) id p (new_units k n c list.made count) list.items

  rows-in : (t : ShownContent) (doc : Document) (p count : ℕ) → ShowsTable t doc
      → ShowsTable (after_change t (PutUnits Rows (place_of_insertion (seen_by r c) is_pending (seen k) p doc.rows.items) count))
      (record doc { rows = after_insertion n c r p None [] (replicate count GridUnit) doc.rows })
  rows-in t doc p count h =
      let place = place_of_insertion (seen_by r c) is_pending (seen k) p doc.rows.items in
      let new = shown_names k (new_units k n c doc.rows.made count) in
      let rows = shown_names k doc.rows.items in
      let cols = shown_names k doc.cols.items in
      record {
        cells = ap (moved_cells Rows (number_after_put place count)) h.cells
            ∙ ap (λ m. moved_cells Rows (number_after_put place m) (table value rows cols)) (sym (new-length k n c doc.rows.made count))
            ∙ rows-put value place new rows cols (new-names k n c (HasNoCells value Rows) doc.rows.made count h.row_ahead)
            ∙ ap (λ names. table value names cols) (sym (put-names p count doc.rows));
        row_ahead = λ i l. h.row_ahead i (omega arith);
        col_ahead = h.col_ahead;
      }

  cols-in : (t : ShownContent) (doc : Document) (p count : ℕ) → ShowsTable t doc
      → ShowsTable (after_change t (PutUnits Cols (place_of_insertion (seen_by r c) is_pending (seen k) p doc.cols.items) count))
      (record doc { cols = after_insertion n c r p None [] (replicate count GridUnit) doc.cols })
  cols-in t doc p count h =
      let place = place_of_insertion (seen_by r c) is_pending (seen k) p doc.cols.items in
      let new = shown_names k (new_units k n c doc.cols.made count) in
      let rows = shown_names k doc.rows.items in
      let cols = shown_names k doc.cols.items in
      record {
        cells = ap (moved_cells Cols (number_after_put place count)) h.cells
            ∙ ap (λ m. moved_cells Cols (number_after_put place m) (table value rows cols)) (sym (new-length k n c doc.cols.made count))
            ∙ cols-put value place new rows cols (new-names k n c (HasNoCells value Cols) doc.cols.made count h.col_ahead)
            ∙ ap (λ names. table value rows names) (sym (put-names p count doc.cols));
        row_ahead = h.row_ahead;
        col_ahead = λ i l. h.col_ahead i (omega arith);
      }

  -- none go in
  put-none : (p count : ℕ) (list : Sequence) → nat_eq count 0 ≡ true
      → shown_names k (after_insertion n c r p None [] (replicate count GridUnit) list).items ≡ shown_names k list.items
  put-none p count list e =
      let place = place_of_insertion (seen_by r c) is_pending (seen k) p list.items in
      put-names p count list
      ∙ ap (λ m. put_in place (shown_names k (new_units k n c list.made m)) (shown_names k list.items)) (eqb-true count 0 e)
      ∙ put_in-none place (shown_names k list.items)

  -- ---- rows and columns that go away

  rows-out : (t : ShownContent) (runs : List GoneRun) (rows cols : List ElementId) → t.cells ≡ table value rows cols
      → (after_changes t (map (taken_units Rows) runs)).cells ≡ table value (without_runs runs rows) cols
  rows-out t [] rows cols e = e
  rows-out t (run ∷ runs) rows cols e =
      rows-out (after_change t (taken_units Rows run)) runs (take_out run.place run.count rows) cols (ap (moved_cells Rows (number_after_take
      run.place run.count)) e ∙ rows-taken value run.place run.count rows cols)

  cols-out : (t : ShownContent) (runs : List GoneRun) (rows cols : List ElementId) → t.cells ≡ table value rows cols
      → (after_changes t (map (taken_units Cols) runs)).cells ≡ table value rows (without_runs runs cols)
  cols-out t [] rows cols e = e
  cols-out t (run ∷ runs) rows cols e =
      cols-out (after_change t (taken_units Cols run)) runs rows (take_out run.place run.count cols) (ap (moved_cells Cols (number_after_take
      run.place run.count)) e ∙ cols-taken value run.place run.count rows cols)

  taken-names : (p q : ℕ) (list : Sequence) → without_runs (gone_runs (seen_by r c) (seen k) p q list.items) (shown_names k list.items)
      ≡ shown_names k (after_removal n c r p q list).items
  taken-names p q list = gone-shown (seen_by r c) (seen k) id p q (with_removal n c) (removed-hidden k n c) list.items

  skip-table : (t : ShownContent) (doc : Document) → ShowsTable t doc → ShowsTable t (with_skip doc)
  skip-table t doc h = record { cells = h.cells; row_ahead = h.row_ahead; col_ahead = h.col_ahead }

  grid-table : (t : ShownContent) (doc : Document) (op : CellOp) → ShowsTable t doc → ShowsTable (after_changes t (told_of_grid k doc c r op))
      (grid_effect doc n c r op)
  grid-table t doc (SpliceIn Rows p count) h = by (nat_le p (len (seen_by r c) doc.rows.items)) (nat_eq count 0) refl
    where
      place : ℕ
      place = place_of_insertion (seen_by r c) is_pending (seen k) p doc.rows.items

      by : (b e : Bool) → nat_eq count 0 ≡ e → ShowsTable (after_changes t (cond (b && not e) (PutUnits Rows place count ∷ []) []))
          (cond b (record doc { rows = after_insertion n c r p None [] (replicate count GridUnit) doc.rows }) (with_skip doc))
      by true false e = rows-in t doc p count h
      by true true e = record {
        cells = h.cells ∙ ap (λ names. table value names (shown_names k doc.cols.items)) (sym (put-none p count doc.rows e));
        row_ahead = λ i l. h.row_ahead i (omega arith);
        col_ahead = h.col_ahead;
      }
      by false d e = skip-table t doc h
  grid-table t doc (SpliceIn Cols p count) h = by (nat_le p (len (seen_by r c) doc.cols.items)) (nat_eq count 0) refl
    where
      place : ℕ
      place = place_of_insertion (seen_by r c) is_pending (seen k) p doc.cols.items

      by : (b e : Bool) → nat_eq count 0 ≡ e → ShowsTable (after_changes t (cond (b && not e) (PutUnits Cols place count ∷ []) []))
          (cond b (record doc { cols = after_insertion n c r p None [] (replicate count GridUnit) doc.cols }) (with_skip doc))
      by true false e = cols-in t doc p count h
      by true true e = record {
        cells = h.cells ∙ ap (λ names. table value (shown_names k doc.rows.items) names) (sym (put-none p count doc.cols e));
        row_ahead = h.row_ahead;
        col_ahead = λ i l. h.col_ahead i (omega arith);
      }
      by false d e = skip-table t doc h
  grid-table t doc (SpliceOut Rows p q) h = by (nat_le q (len (seen_by r c) doc.rows.items))
    where
      runs : List GoneRun
      runs = gone_runs (seen_by r c) (seen k) p q doc.rows.items

      by : (b : Bool) → ShowsTable (after_changes t (cond b (map (taken_units Rows) runs) [])) (cond b (record doc {
        rows = after_removal n c r p q
            doc.rows;
      }) (with_skip doc))
      by true = record {
        cells = rows-out t runs (shown_names k doc.rows.items) (shown_names k doc.cols.items) h.cells
            ∙ ap (λ names. table value names (shown_names k doc.cols.items)) (taken-names p q doc.rows);
        row_ahead = h.row_ahead;
        col_ahead = h.col_ahead;
      }
      by false = skip-table t doc h
  grid-table t doc (SpliceOut Cols p q) h = by (nat_le q (len (seen_by r c) doc.cols.items))
    where
      runs : List GoneRun
      runs = gone_runs (seen_by r c) (seen k) p q doc.cols.items

      by : (b : Bool) → ShowsTable (after_changes t (cond b (map (taken_units Cols) runs) [])) (cond b (record doc {
        cols = after_removal n c r p q
            doc.cols;
      }) (with_skip doc))
      by true = record {
        cells = cols-out t runs (shown_names k doc.rows.items) (shown_names k doc.cols.items) h.cells
            ∙ ap (λ names. table value (shown_names k doc.rows.items) names) (taken-names p q doc.cols);
        row_ahead = h.row_ahead;
        col_ahead = h.col_ahead;
      }
      by false = skip-table t doc h
  grid-table t doc (Set i j bytes) h = by (at (seen_by r c) i doc.rows.items) (at (seen_by r c) j doc.cols.items)
    where
      by : (row col : Option ListElement) → ShowsTable t (cell_effect doc row col bytes)
      by (Some row) (Some col) = record { cells = h.cells; row_ahead = h.row_ahead; col_ahead = h.col_ahead }
      by (Some row) None = skip-table t doc h
      by None col = skip-table t doc h

  interval-table : (t : ShownContent) (doc : Document) (op : TextOp) → ShowsTable t doc → ShowsTable t (interval_effect doc c r op)
  interval-table t doc op h = by (given_ends_fit (len (seen_by r c) doc.text.items) (ends_of op))
    where
      by : (b : Bool)
          → ShowsTable t (cond b (with_slid_ends (record doc {
            intervals = after_interval_operation op (elements_at_given_ends (seen_by r c)
                doc.text.items (ends_of op)) doc.intervals;
          })) (with_skip doc))
      by true = record { cells = h.cells; row_ahead = h.row_ahead; col_ahead = h.col_ahead }
      by false = skip-table t doc h

  effect-table : (t : ShownContent) (doc : Document) (o : SubOperation) → ShowsTable t doc
      → ShowsTable (after_changes t (told_sub_operation k doc c r o)) (effect doc n c r o)
  effect-table t doc (OnText op) h = text-table t doc op h
  effect-table t doc (OnIntervals op) h = interval-table t doc op h
  effect-table t doc (OnGrid op) h = grid-table t doc op h

  pub effects-table : (os : List SubOperation) (t : ShownContent) (doc : Document) → ShowsTable t doc
      → ShowsTable (after_changes t (told_sub_operations k doc n c r os)) (effects doc n c r os)
  effects-table [] t doc h = h
  effects-table (o ∷ os) t doc h =
      subst (λ u. ShowsTable u (effects (effect doc n c r o) n c r os))
      (sym (after-append t (told_sub_operation k doc c r o) (told_sub_operations k (effect doc n c r o) n c r os)))
      (effects-table os (after_changes t (told_sub_operation k doc c r o)) (effect doc n c r o) (effect-table t doc o h))
