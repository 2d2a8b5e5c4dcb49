-- What is told of another client's message leads from the lists that were shown to those that are.
use Rattle.std.proofs.Common.{◌≡◌, ℕ, zero, suc, ◌+◌, ◌-◌, Bool, true, false, cond, not, ◌&&◌, nat_eq, nat_le, List, [], ◌∷◌, ◌++◌, Option, Some, None, refl, sym, ◌∙◌, ap, subst, arith, map, replicate}
use Rattle.std.proofs.lemmas.Bool.{eqb-true}
use Rattle.ft_base.specs.Scan.{at, len, one_more_if, within, change_range_from, change_range, put, put_past}
use Rattle.ft_base.specs.declared.stamps.Stamp.{Stamp}
use Rattle.ft_base.specs.declared.stamps.Stamp.TheVariants.{Acked}
use Rattle.ft_props.specs.Properties.{PropertyList, apply}
use Rattle.ft_props.specs.Element.{ElementContent, GridUnit, ListElement, is_pending, new_elements, seen, seen_by, with_annotation, with_removal}
use Rattle.ft_props.specs.Steps.{Sequence, after_insertion, after_removal}
use Rattle.ft_op.specs.declared.operations.BaseOp.{BaseOp}
use Rattle.ft_op.specs.declared.operations.BaseOp.TheVariants.{Insert, Remove, Annotate}
use Rattle.ft_op.specs.declared.operations.CellOp.{CellOp}
use Rattle.ft_op.specs.declared.operations.CellOp.TheVariants.{SpliceIn, SpliceOut, Set}
use Rattle.ft_op.specs.declared.operations.Seg.{Seg}
use Rattle.ft_op.specs.declared.operations.Target.{Target}
use Rattle.ft_op.specs.declared.operations.Target.TheVariants.{Rows, Cols}
use Rattle.ft_op.specs.declared.operations.TextOp.{TextOp}
use Rattle.ft_op.specs.Document.{Document, cell_effect, effect, effects, ends_of, elements_at_given_ends, given_ends_fit, grid_effect, interval_effect, text_effect, with_skip, with_slid_ends}
use Rattle.ft_op.specs.Intervals.{after_interval_operation}
use Rattle.ft_op.specs.Operation.{OnGrid, OnIntervals, OnText, SubOperation, segment_contents}
use Rattle.ft_sumdoc.specs.WellFormed.{same_props}
use Rattle.ft_marks.proofs.SameStamps.{same_props-Decides}
use Rattle.ft_changes.specs.declared.changes.ViewChange.{ViewChange}
use Rattle.ft_changes.specs.declared.changes.ViewChange.TheVariants.{Put, PutUnits}
use Rattle.ft_changes.specs.ShownRuns.{ChangedRun, GoneRun, changed_runs, gone_runs, gone_runs_from, place_of_insertion, put_in, with_gone, with_runs, without_runs}
use Rattle.ft_changes.specs.Shown.{ShownContent, after_change, after_changes, restyled, shown_elements, shown_properties, styled_elements}
use Rattle.ft_changes.specs.Told.{styled_run, taken_run, taken_units, told_of_grid, told_of_text, told_sub_operation, told_sub_operations, unless_no_elements}
use Rattle.ft_changes.proofs.ElementLaws.{annotation-shown, insertion-shown, removal-shown, removed-hidden}

pub after-append : (s : ShownContent) (cs ds : List ViewChange) → after_changes s (cs ++ ds) ≡ after_changes (after_changes s cs) ds
after-append s [] ds = refl
after-append s (c ∷ cs) ds = after-append (after_change s c) cs ds

-- ---- counts

-- a count less the runs
abbrev pub less_runs : List GoneRun → ℕ → ℕ
less_runs [] n = n
less_runs (run ∷ runs) n = less_runs runs (n - run.count)

less-gone : (i n : ℕ) (runs : List GoneRun) → less_runs (with_gone true i runs) (suc n) ≡ less_runs runs n
less-gone i n [] = omega arith
less-gone i n (run ∷ runs) = by (nat_eq run.place i)
  where
    by : (b : Bool) → less_runs (cond b (record { place = i; count = suc run.count } ∷ runs) (record { place = i; count = 1 } ∷ run ∷ runs)) (suc n) ≡ less_runs runs (n - run.count)
    by true = ap (less_runs runs) (omega arith)
    by false = ap (λ m. less_runs runs (m - run.count)) (omega arith)

module _ {A : Type 0} (seen shown : A → Bool) (p q : ℕ) (g : A → A) (hides : (x : A) → shown (g x) ≡ false) where
  gone-count : (n i : ℕ) (xs : List A) → less_runs (gone_runs_from n i seen shown p q xs) (i + len shown xs) ≡ i + len shown (change_range_from n seen p q g xs)
  gone-count n i [] = refl
  gone-count n i (x ∷ xs) = by (shown x) (seen x && within p q n) refl (gone-count m i xs) (gone-count m (suc i) xs)
    where
      m : ℕ
      m = one_more_if (seen x) n

      after : ℕ
      after = len shown (change_range_from m seen p q g xs)

      is_shown : (z : A) (b : Bool) → shown z ≡ b → i + one_more_if b after ≡ i + one_more_if (shown z) after
      is_shown z b e = ap (λ c. i + one_more_if c after) (sym e)

      by : (b goes : Bool) → shown x ≡ b → less_runs (gone_runs_from m i seen shown p q xs) (i + len shown xs) ≡ i + after
          → less_runs (gone_runs_from m (suc i) seen shown p q xs) (suc i + len shown xs) ≡ suc i + after
          → less_runs (with_gone (b && goes) i (gone_runs_from m (one_more_if (b && not goes) i) seen shown p q xs)) (i + one_more_if b (len shown xs))
          ≡ i + one_more_if (shown (cond goes (g x) x)) after
      by true true e here next =
          ap (less_runs (with_gone true i (gone_runs_from m i seen shown p q xs))) (omega arith)
          ∙ less-gone i (i + len shown xs) (gone_runs_from m i seen shown p q xs) ∙ here ∙ is_shown (g x) false (hides x)
      by true false e here next =
          let one : i + suc (len shown xs) ≡ suc i + len shown xs = omega arith in
          let other : suc i + after ≡ i + suc after = omega arith in
          ap (less_runs (gone_runs_from m (suc i) seen shown p q xs)) one ∙ next ∙ other ∙ is_shown x true e
      by false true e here next = here ∙ is_shown (g x) false (hides x)
      by false false e here next = here ∙ is_shown x false e

  pub gone-counted : (xs : List A) → less_runs (gone_runs_from 0 0 seen shown p q xs) (len shown xs) ≡ len shown (change_range_from 0 seen p q g xs)
  gone-counted xs =
      let a : len shown xs ≡ 0 + len shown xs = omega arith in
      let b : 0 + len shown (change_range_from 0 seen p q g xs) ≡ len shown (change_range_from 0 seen p q g xs) = omega arith in
      ap (less_runs (gone_runs_from 0 0 seen shown p q xs)) a ∙ gone-count 0 0 xs ∙ b

-- ---- insertions of units

len-append : {A : Type 0} (test : A → Bool) (xs ys : List A) → len test (xs ++ ys) ≡ len test xs + len test ys
len-append test [] ys = omega arith
len-append test (x ∷ xs) ys = grind (arith, len-append test xs ys)

len-put_past : {A : Type 0} (past test : A → Bool) (new xs : List A) → len test (put_past past new xs) ≡ len test xs + len test new
len-put_past past test new [] = omega arith
len-put_past past test new (x ∷ xs) = grind (arith, len-put_past past test new xs, len-append test new (x ∷ xs))

pub len-put : {A : Type 0} (seen past test : A → Bool) (p : ℕ) (new xs : List A) → len test (put seen past p new xs) ≡ len test xs + len test new
len-put seen past test zero new xs = len-put_past past test new xs
len-put seen past test (suc p) new [] = omega arith
len-put seen past test (suc p) new (x ∷ xs) = grind (arith, len-put seen past test p new xs, len-put seen past test (suc p) new xs)

len-new : (k n s c : ℕ) (by : Option Stamp) (props : PropertyList) (count : ℕ) → len (seen k) (new_elements n (Acked s c) [] by props (replicate count GridUnit)) ≡ count
len-new k n s c by props zero = refl
len-new k n s c by props (suc count) = ap suc (len-new k (n + 1) s c by props count)

-- ---- runs as changes

-- what is kept is what is shown of the lists of a document at stage k
pub record ShowsLists (k : ℕ) (s : ShownContent) (doc : Document) : Type 0 where
  pub elements : s.elements ≡ shown_elements k doc.text.items
  pub rows : s.rows ≡ len (seen k) doc.rows.items
  pub cols : s.cols ≡ len (seen k) doc.cols.items

pub taken-elements : (s : ShownContent) (runs : List GoneRun) → (after_changes s (map taken_run runs)).elements ≡ without_runs runs s.elements
taken-elements s [] = refl
taken-elements s (run ∷ runs) = taken-elements (after_change s (taken_run run)) runs

pub taken-rows : (s : ShownContent) (runs : List GoneRun) → (after_changes s (map taken_run runs)).rows ≡ s.rows
taken-rows s [] = refl
taken-rows s (run ∷ runs) = taken-rows (after_change s (taken_run run)) runs

pub taken-cols : (s : ShownContent) (runs : List GoneRun) → (after_changes s (map taken_run runs)).cols ≡ s.cols
taken-cols s [] = refl
taken-cols s (run ∷ runs) = taken-cols (after_change s (taken_run run)) runs

pub styled-elements : (s : ShownContent) (runs : List (ChangedRun PropertyList)) → (after_changes s (map styled_run runs)).elements ≡ with_runs restyled runs s.elements
styled-elements s [] = refl
styled-elements s (run ∷ runs) = styled-elements (after_change s (styled_run run)) runs

pub styled-rows : (s : ShownContent) (runs : List (ChangedRun PropertyList)) → (after_changes s (map styled_run runs)).rows ≡ s.rows
styled-rows s [] = refl
styled-rows s (run ∷ runs) = styled-rows (after_change s (styled_run run)) runs

pub styled-cols : (s : ShownContent) (runs : List (ChangedRun PropertyList)) → (after_changes s (map styled_run runs)).cols ≡ s.cols
styled-cols s [] = refl
styled-cols s (run ∷ runs) = styled-cols (after_change s (styled_run run)) runs

-- ---- runs of rows or columns

pub units-elements : (target : Target) (s : ShownContent) (runs : List GoneRun) → (after_changes s (map (taken_units target) runs)).elements ≡ s.elements
units-elements target s [] = refl
units-elements Rows s (run ∷ runs) = units-elements Rows (after_change s (taken_units Rows run)) runs
units-elements Cols s (run ∷ runs) = units-elements Cols (after_change s (taken_units Cols run)) runs

pub units-rows : (s : ShownContent) (runs : List GoneRun) → (after_changes s (map (taken_units Rows) runs)).rows ≡ less_runs runs s.rows
units-rows s [] = refl
units-rows s (run ∷ runs) = units-rows (after_change s (taken_units Rows run)) runs

pub units-rows-cols : (s : ShownContent) (runs : List GoneRun) → (after_changes s (map (taken_units Rows) runs)).cols ≡ s.cols
units-rows-cols s [] = refl
units-rows-cols s (run ∷ runs) = units-rows-cols (after_change s (taken_units Rows run)) runs

pub units-cols : (s : ShownContent) (runs : List GoneRun) → (after_changes s (map (taken_units Cols) runs)).cols ≡ less_runs runs s.cols
units-cols s [] = refl
units-cols s (run ∷ runs) = units-cols (after_change s (taken_units Cols run)) runs

pub units-cols-rows : (s : ShownContent) (runs : List GoneRun) → (after_changes s (map (taken_units Cols) runs)).rows ≡ s.rows
units-cols-rows s [] = refl
units-cols-rows s (run ∷ runs) = units-cols-rows (after_change s (taken_units Cols run)) runs

-- ---- one sub-operation

pub put_in-none : {A : Type 0} (p : ℕ) (xs : List A) → put_in p [] xs ≡ xs
put_in-none zero xs = refl
put_in-none (suc p) [] = refl
put_in-none (suc p) (x ∷ xs) = ap (λ ys. x ∷ ys) (put_in-none p xs)

module _ (k n c r : ℕ) where
  put-step : (t : ShownContent) (doc : Document) (p : ℕ) (seg : Seg) (props : PropertyList) → ShowsLists k t doc
      → (bs : List ElementContent) → segment_contents seg ≡ bs
      → ShowsLists k (after_changes t (unless_no_elements bs (Put (place_of_insertion (seen_by r c) is_pending (seen k) p doc.text.items) seg props)))
      (record doc { text = after_insertion n c r p (Some (Acked n c)) props bs doc.text })
  put-step t doc p seg props h [] e = record {
    elements = h.elements ∙ sym (insertion-shown k n c r p (Some (Acked n c)) props [] doc.text ∙ put_in-none (place_of_insertion (seen_by r c) is_pending (seen k) p doc.text.items) (shown_elements k doc.text.items));
    rows = h.rows;
    cols = h.cols;
  }
  put-step t doc p seg props h (b ∷ bs) e =
      let place = place_of_insertion (seen_by r c) is_pending (seen k) p doc.text.items in
      record {
        elements = ap (λ cs. put_in place (styled_elements props cs) t.elements) e ∙ ap (put_in place (styled_elements props (b ∷ bs))) h.elements
            ∙ sym (insertion-shown k n c r p (Some (Acked n c)) props (b ∷ bs) doc.text);
        rows = h.rows;
        cols = h.cols;
      }

  skip-step : (t : ShownContent) (doc : Document) → ShowsLists k t doc → ShowsLists k t (with_skip doc)
  skip-step t doc h = record { elements = h.elements; rows = h.rows; cols = h.cols }

  text-step : (t : ShownContent) (doc : Document) (op : BaseOp) → ShowsLists k t doc → ShowsLists k (after_changes t (told_of_text k doc c r op)) (text_effect doc n c r op)
  text-step t doc (Insert p seg props) h = by (nat_le p (len (seen_by r c) doc.text.items))
    where
      by : (b : Bool)
          → ShowsLists k (after_changes t (cond b (unless_no_elements (segment_contents seg) (Put (place_of_insertion (seen_by r c) is_pending (seen k) p doc.text.items) seg (apply [] props))) []))
          (cond b (record doc { text = after_insertion n c r p (Some (Acked n c)) (apply [] props) (segment_contents seg) doc.text }) (with_skip doc))
      by true = put-step t doc p seg (apply [] props) h (segment_contents seg) refl
      by false = skip-step t doc h
  text-step t doc (Remove p q) h = by (nat_le q (len (seen_by r c) doc.text.items))
    where
      runs : List GoneRun
      runs = gone_runs (seen_by r c) (seen k) p q doc.text.items

      by : (b : Bool) → ShowsLists k (after_changes t (cond b (map taken_run runs) [])) (cond b (with_slid_ends (record doc { text = after_removal n c r p q doc.text })) (with_skip doc))
      by true = record {
        elements = taken-elements t runs ∙ ap (without_runs runs) h.elements ∙ sym (removal-shown k n c r p q doc.text);
        rows = taken-rows t runs ∙ h.rows;
        cols = taken-cols t runs ∙ h.cols;
      }
      by false = skip-step t doc h
  text-step t doc (Annotate p q changes) h = by (nat_le q (len (seen_by r c) doc.text.items))
    where
      runs : List (ChangedRun PropertyList)
      runs = changed_runs same_props shown_properties (with_annotation changes) (seen_by r c) (seen k) p q doc.text.items

      by : (b : Bool) → ShowsLists k (after_changes t (cond b (map styled_run runs) []))
          (cond b (record doc { text = record { items = change_range (seen_by r c) p q (with_annotation changes) doc.text.items; made = doc.text.made } }) (with_skip doc))
      by true = record {
        elements = styled-elements t runs ∙ ap (with_runs restyled runs) h.elements ∙ sym (annotation-shown k n c r same_props (λ a b. (same_props-Decides a b).0) p q changes doc.text.items);
        rows = styled-rows t runs ∙ h.rows;
        cols = styled-cols t runs ∙ h.cols;
      }
      by false = skip-step t doc h

  -- units that went in
  units-in : (p count : ℕ) (list : Sequence) → len (seen k) (after_insertion n c r p None [] (replicate count GridUnit) list).items ≡ len (seen k) list.items + count
  units-in p count list =
      len-put (seen_by r c) is_pending (seen k) p (new_elements list.made (Acked n c) [] None [] (replicate count GridUnit)) list.items
      ∙ ap (λ m. len (seen k) list.items + m) (len-new k list.made n c None [] count)

  units-out : (p q : ℕ) (list : Sequence) → less_runs (gone_runs (seen_by r c) (seen k) p q list.items) (len (seen k) list.items) ≡ len (seen k) (after_removal n c r p q list).items
  units-out p q list = gone-counted (seen_by r c) (seen k) p q (with_removal n c) (removed-hidden k n c) list.items

  grid-step : (t : ShownContent) (doc : Document) (op : CellOp) → ShowsLists k t doc → ShowsLists k (after_changes t (told_of_grid k doc c r op)) (grid_effect doc n c r op)
  grid-step t doc (SpliceIn Rows p count) h = by (nat_le p (len (seen_by r c) doc.rows.items)) (nat_eq count 0) refl
    where
      place : ℕ
      place = place_of_insertion (seen_by r c) is_pending (seen k) p doc.rows.items

      by : (b e : Bool) → nat_eq count 0 ≡ e → ShowsLists k (after_changes t (cond (b && not e) (PutUnits Rows place count ∷ []) []))
          (cond b (record doc { rows = after_insertion n c r p None [] (replicate count GridUnit) doc.rows }) (with_skip doc))
      by true false _ = record { elements = h.elements; rows = ap (λ m. m + count) h.rows ∙ sym (units-in p count doc.rows); cols = h.cols }
      by true true e =
          let none : len (seen k) doc.rows.items ≡ len (seen k) doc.rows.items + count = let z = eqb-true count 0 e in omega arith in
          record { elements = h.elements; rows = h.rows ∙ none ∙ sym (units-in p count doc.rows); cols = h.cols }
      by false e _ = skip-step t doc h
  grid-step t doc (SpliceIn Cols p count) h = by (nat_le p (len (seen_by r c) doc.cols.items)) (nat_eq count 0) refl
    where
      place : ℕ
      place = place_of_insertion (seen_by r c) is_pending (seen k) p doc.cols.items

      by : (b e : Bool) → nat_eq count 0 ≡ e → ShowsLists k (after_changes t (cond (b && not e) (PutUnits Cols place count ∷ []) []))
          (cond b (record doc { cols = after_insertion n c r p None [] (replicate count GridUnit) doc.cols }) (with_skip doc))
      by true false _ = record { elements = h.elements; cols = ap (λ m. m + count) h.cols ∙ sym (units-in p count doc.cols); rows = h.rows }
      by true true e =
          let none : len (seen k) doc.cols.items ≡ len (seen k) doc.cols.items + count = let z = eqb-true count 0 e in omega arith in
          record { elements = h.elements; cols = h.cols ∙ none ∙ sym (units-in p count doc.cols); rows = h.rows }
      by false e _ = skip-step t doc h
  grid-step t doc (SpliceOut Rows p q) h = by (nat_le q (len (seen_by r c) doc.rows.items))
    where
      runs : List GoneRun
      runs = gone_runs (seen_by r c) (seen k) p q doc.rows.items

      by : (b : Bool) → ShowsLists k (after_changes t (cond b (map (taken_units Rows) runs) [])) (cond b (record doc { rows = after_removal n c r p q doc.rows }) (with_skip doc))
      by true = record {
        elements = units-elements Rows t runs ∙ h.elements;
        rows = units-rows t runs ∙ ap (less_runs runs) h.rows ∙ units-out p q doc.rows;
        cols = units-rows-cols t runs ∙ h.cols;
      }
      by false = skip-step t doc h
  grid-step t doc (SpliceOut Cols p q) h = by (nat_le q (len (seen_by r c) doc.cols.items))
    where
      runs : List GoneRun
      runs = gone_runs (seen_by r c) (seen k) p q doc.cols.items

      by : (b : Bool) → ShowsLists k (after_changes t (cond b (map (taken_units Cols) runs) [])) (cond b (record doc { cols = after_removal n c r p q doc.cols }) (with_skip doc))
      by true = record {
        elements = units-elements Cols t runs ∙ h.elements;
        cols = units-cols t runs ∙ ap (less_runs runs) h.cols ∙ units-out p q doc.cols;
        rows = units-cols-rows t runs ∙ h.rows;
      }
      by false = skip-step t doc h
  grid-step t doc (Set i j value) h = by (at (seen_by r c) i doc.rows.items) (at (seen_by r c) j doc.cols.items)
    where
      by : (row col : Option ListElement) → ShowsLists k t (cell_effect doc row col value)
      by (Some row) (Some col) = record { elements = h.elements; rows = h.rows; cols = h.cols }
      by (Some row) None = skip-step t doc h
      by None col = skip-step t doc h

  interval-step : (t : ShownContent) (doc : Document) (op : TextOp) → ShowsLists k t doc → ShowsLists k t (interval_effect doc c r op)
  interval-step t doc op h = by (given_ends_fit (len (seen_by r c) doc.text.items) (ends_of op))
    where
      by : (b : Bool) → ShowsLists k t (cond b (with_slid_ends (record doc { intervals = after_interval_operation op (elements_at_given_ends (seen_by r c) doc.text.items (ends_of op)) doc.intervals })) (with_skip doc))
      by true = record { elements = h.elements; rows = h.rows; cols = h.cols }
      by false = skip-step t doc h

  pub sub_operation-step : (t : ShownContent) (doc : Document) (o : SubOperation) → ShowsLists k t doc → ShowsLists k (after_changes t (told_sub_operation k doc c r o)) (effect doc n c r o)
  sub_operation-step t doc (OnText op) h = text-step t doc op h
  sub_operation-step t doc (OnIntervals op) h = interval-step t doc op h
  sub_operation-step t doc (OnGrid op) h = grid-step t doc op h

  pub sub_operations-step : (t : ShownContent) (doc : Document) (os : List SubOperation) → ShowsLists k t doc
      → ShowsLists k (after_changes t (told_sub_operations k doc n c r os)) (effects doc n c r os)
  sub_operations-step t doc [] h = h
  sub_operations-step t doc (o ∷ os) h =
      subst (λ u. ShowsLists k u (effects (effect doc n c r o) n c r os))
      (sym (after-append t (told_sub_operation k doc c r o) (told_sub_operations k (effect doc n c r o) n c r os)))
      (sub_operations-step (after_changes t (told_sub_operation k doc c r o)) (effect doc n c r o) os (sub_operation-step t doc o h))
