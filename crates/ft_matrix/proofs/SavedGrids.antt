-- What a summary has of a grid on which nothing is pending is what it has of a document whose part the grid holds.
use Rattle.std.proofs.Common.{◌≡◌, ℕ, ◌≤◌, All, Bool, true, false, cond, not, ◌&&◌, ◌||◌, bytes_eq, codes, List, [], ◌∷◌, ◌++◌, Option, Some, None, nat_lt, refl, sym, ◌∙◌, ap, map, filter, find, option_and_then, option_map, arith, append-nil}
use Rattle.std.specs.List.{AllByRecursion, list_all, list_any}
use Rattle.std.proofs.lemmas.Bool.Decides.{nat_tests}
use Rattle.std.proofs.lemmas.List.Elements.{recursion_from_All}
use Rattle.ft_base.specs.declared.stamps.Stamp.{Stamp}
use Rattle.ft_base.specs.declared.stamps.Stamp.TheVariants.{Acked, Local}
use Rattle.ft_base.specs.declared.elements.Element.{Element as ElementStamps}
use Rattle.ft_base.specs.Scan.{len, one_more_if, retain_map}
use Rattle.ft_base.specs.Visibility.{has_occurred_at_stage, is_acked}
use Rattle.ft_base.proofs.Booleans.{both}
use Rattle.ft_block.specs.Leaves.{last_stage}
use Rattle.ft_tree_leaves.specs.Elements.{TreeElement, seen_in}
use Rattle.ft_cells.specs.CellTables.{cell_at, last_value, unless_null}
use Rattle.ft_props.specs.Compaction.{has_collectable_removal, is_collectable, is_insertion_at_or_below, trim_element, with_universal_insertion}
use Rattle.ft_props.specs.Properties.{ValueBytes}
use Rattle.ft_props.specs.Element.{ElementId, ListElement, has_id, has_sequenced_removal, id, removal_stamp, same_id, seen}
use Rattle.ft_op.specs.Cells.{Cell, cell_value, is_cell, is_null}
use Rattle.ft_op.specs.Document.{Document}
use Rattle.ft_msg.specs.Content.{all_cells, shown, stage_view}
use Rattle.ft_msg.specs.Summary.{trim}
use Rattle.ft_msg.specs.JoinedRuns.{with_run}
use Rattle.ft_marks.specs.Marks.{insertion_mark, mark_of}
use Rattle.ft_msg.specs.SummaryOf.{unit_runs}
use Rattle.ft_msg.proofs.JoinedRuns.{extended-with}
use Rattle.ft_sumdoc.specs.declared.summary.RunRec.{RunRec}
use Rattle.ft_sumdoc.specs.declared.summary.CellRec.{CellRec}
use Rattle.ft_sumdoc.specs.declared.summary.SumDoc.{SumDoc}
use Rattle.ft_laws_agreement.proofs.SlidEnds.{Once, once-tail, same_id-eq, same_id-refl}
use Rattle.ft_laws_agreement.proofs.TrimmedContent.{removed-unseen, trimmed-cols, trimmed-rows}
use Rattle.ft_laws_agreement.proofs.TrimmedDocument.{is_removed}
use Rattle.ft_laws_agreement.proofs.TrimmedFromNow.{collectable-removed}
use Rattle.ft_perm.specs.Vectors.{VectorState, seen_handles}
use Rattle.ft_laws_names.specs.WellNamed.{AreWellNamed}
use Rattle.ft_laws_names.specs.GridFacts.{is_stamp_below, is_unit_below}
use Rattle.ft_laws_names.proofs.Beside.{Beside, beside-both, beside-each, beside-more, ends, next}
use Rattle.ft_matrix.specs.declared.grid.Grid.{Grid}
use Rattle.ft_matrix.specs.declared.stages.GridStage.{GridStage}
use Rattle.ft_matrix.specs.Conditions.{IsAboveAll}
use Rattle.ft_matrix.specs.GridStates.{grid_state, shown_stage}
use Rattle.ft_matrix.specs.HoldsGrid.{HoldsGrid}
use Rattle.ft_matrix.specs.SavedUnits.{saved_runs, unit_run}
use Rattle.ft_matrix.specs.Seen.{shown_at, shown_cells}
use Rattle.ft_matrix.specs.Shown.{with_units}
use Rattle.ft_matrix.specs.Sound.{IsSound, writes_to}
use Rattle.ft_matrix.specs.Units.{shown_unit, units_of}
use Rattle.ft_matrix.proofs.HeldGrids.{HoldsUnits, handle_value, held-units, only-here}
use Rattle.ft_matrix.proofs.OwnSound.{later-unit}
use Rattle.ft_matrix.proofs.OwnSteps.{all-first, beside-all, below-of, seen-same}
use Rattle.ft_matrix.proofs.Placed as placed
use Rattle.ft_matrix.proofs.Placed.{all-placed, placed-cells}
use Rattle.ft_matrix.proofs.ShownGrids.{beside-seen}
use Rattle.ft_matrix.proofs.UnitLists.{BesideUnits, IsUnit, unit-seen, unit-stamps}
use Rattle.ft_matrix.proofs.SoundVectors.{all-weaker}
use Rattle.ft_matrix.proofs.Writes.{only-there, some-more}

-- ---- units on which nothing is pending

abbrev Settled : ListElement → TreeElement ℕ → Type 0
Settled x e = IsUnit x e × (is_unit_below 0 (shown_unit e) ≡ true)

none-below : (k : ℕ) → nat_lt k 0 ≡ false
none-below k = grind (arith, nat_tests)

acked-ins : (t : Stamp) → is_stamp_below 0 t ≡ true → is_acked t ≡ true
acked-ins (Acked s c) h = refl
acked-ins (Local k) h = let f = none-below k in (cc)

no-mark : (o : Option ℕ) → list_all (is_stamp_below 0) (removal_stamp o) ≡ true → o ≡ None
no-mark None h = refl
no-mark (Some k) h = let f : nat_lt k 0 && true ≡ false = ap (λ b. b && true) (none-below k) in (cc)

module _ (x : ListElement) (e : TreeElement ℕ) (s : Settled x e) where
  below : (is_stamp_below 0 x.ins && list_all (is_stamp_below 0) (x.dels ++ removal_stamp x.removal_stage)) ≡ true
  below = ap (λ (t : ElementStamps). is_stamp_below 0 t.ins && list_all (is_stamp_below 0) t.dels) (unit-stamps x e s.0) ∙ s.1

  sequenced : is_acked x.ins ≡ true
  sequenced = acked-ins x.ins (both (is_stamp_below 0 x.ins) (list_all (is_stamp_below 0) (x.dels ++ removal_stamp x.removal_stage)) below).0

  unmarked : x.removal_stage ≡ None
  unmarked =
      no-mark x.removal_stage (all-first (is_stamp_below 0) x.dels (removal_stamp x.removal_stage)
      (both (is_stamp_below 0 x.ins) (list_all (is_stamp_below 0) (x.dels ++ removal_stamp x.removal_stage)) below).1)

  own-dels : x.dels ≡ e.stamps.dels
  own-dels =
      sym (append-nil x.dels) ∙ sym (ap (λ o. x.dels ++ removal_stamp o) unmarked) ∙ ap (λ (t : ElementStamps). t.dels) (unit-stamps x e s.0)

  own-ins : x.ins ≡ e.stamps.ins
  own-ins = ap (λ (t : ElementStamps). t.ins) (unit-stamps x e s.0)

  seen-all : seen 0 x ≡ seen_in last_stage e
  seen-all = unit-seen x e s.0 0 ∙ sym (seen-same 0 18446744073709551615 e (later-unit 0 (shown_unit e) s.1) (omega arith))

  collectable-same : (min : ℕ) → is_collectable min x ≡ has_collectable_removal min e.stamps.dels
  collectable-same min = ap (λ b. b && has_collectable_removal min x.dels) sequenced ∙ ap (has_collectable_removal min) own-dels

  trimmed-ins : (min : ℕ) → mark_of (trim_element min x).ins ≡ insertion_mark min e.stamps.ins
  trimmed-ins min = step (is_insertion_at_or_below min x.ins) ∙ ap (insertion_mark min) own-ins
    where
      step : (b : Bool) → mark_of (cond b (with_universal_insertion x) x).ins ≡ cond b (record { seq = 0; conn = 0 }) (mark_of x.ins)
      step true = refl
      step false = refl

  trimmed-dels : (min : ℕ) → map mark_of (trim_element min x).dels ≡ map mark_of e.stamps.dels
  trimmed-dels min = step (is_insertion_at_or_below min x.ins) ∙ ap (map mark_of) own-dels
    where
      step : (b : Bool) → map mark_of (cond b (with_universal_insertion x) x).dels ≡ map mark_of x.dels
      step true = refl
      step false = refl

-- ---- the runs

abbrev kept_items : ℕ → List ListElement → List ListElement
kept_items min xs = retain_map (λ e. not (is_collectable min e)) (trim_element min) xs

pub runs-saved : (min : ℕ) {xs : List ListElement} {es : List (TreeElement ℕ)} → BesideUnits Settled xs es → unit_runs (kept_items min xs) ≡ saved_runs min es
runs-saved min ends = refl
runs-saved min (next {x = x} {y = e} {xs = xs} {ys = es} q qs) =
    ap (λ b. unit_runs (cond (not b) (trim_element min x ∷ kept_items min xs) (kept_items min xs))) (collectable-same x e q min)
    ∙ step (has_collectable_removal min e.stamps.dels) (runs-saved min qs)
  where
    step : (b : Bool) → unit_runs (kept_items min xs) ≡ saved_runs min es
        → unit_runs (cond (not b) (trim_element min x ∷ kept_items min xs) (kept_items min xs))
        ≡ cond b (saved_runs min es) (with_run (unit_run min e.stamps 1) (saved_runs min es))
    step true h = h
    step false h =
        extended-with (mark_of (trim_element min x).ins) (map mark_of (trim_element min x).dels) (unit_runs (kept_items min xs))
        ∙ ap (λ i. with_run (record { count = 1; ins = i; dels = map mark_of (trim_element min x).dels }) (unit_runs (kept_items min xs))) (trimmed-ins x e q min)
        ∙ ap (λ d. with_run (record { count = 1; ins = insertion_mark min e.stamps.ins; dels = d }) (unit_runs (kept_items min xs))) (trimmed-dels x e q min)
        ∙ ap (with_run (unit_run min e.stamps 1)) h

-- ---- what is seen of a trimmed list

trim-seen : (min : ℕ) (x : ListElement) → seen 0 (trim_element min x) ≡ seen 0 x
trim-seen min x = step (is_insertion_at_or_below min x.ins) refl
  where
    occurred : (t : Stamp) → is_insertion_at_or_below min t ≡ true → has_occurred_at_stage 0 t ≡ true
    occurred (Acked s c) h = refl
    occurred (Local k) h = (cc)

    step : (b : Bool) → is_insertion_at_or_below min x.ins ≡ b → seen 0 (cond b (with_universal_insertion x) x) ≡ seen 0 x
    step true h = sym (ap (λ b. b && not (list_any (has_occurred_at_stage 0) (x.dels ++ removal_stamp x.removal_stage))) (occurred x.ins h))
    step false h = refl

view-trimmed : (min : ℕ) (xs : List ListElement) → filter (seen 0) (kept_items min xs) ≡ map (trim_element min) (filter (seen 0) xs)
view-trimmed min [] = refl
view-trimmed min (x ∷ xs) = step (is_collectable min x) refl (view-trimmed min xs)
  where
    choose : (b c : Bool) → b ≡ c → filter (seen 0) (kept_items min xs) ≡ map (trim_element min) (filter (seen 0) xs)
        → cond b (trim_element min x ∷ filter (seen 0) (kept_items min xs)) (filter (seen 0) (kept_items min xs))
        ≡ map (trim_element min) (cond c (x ∷ filter (seen 0) xs) (filter (seen 0) xs))
    choose true true e h = ap (λ ys. trim_element min x ∷ ys) h
    choose false false e h = h
    choose true false e h = (cc)
    choose false true e h = (cc)

    step : (b : Bool) → is_collectable min x ≡ b → filter (seen 0) (kept_items min xs) ≡ map (trim_element min) (filter (seen 0) xs)
        → filter (seen 0) (cond (not b) (trim_element min x ∷ kept_items min xs) (kept_items min xs))
        ≡ map (trim_element min) (cond (seen 0 x) (x ∷ filter (seen 0) xs) (filter (seen 0) xs))
    step true g h = h ∙ sym (ap (λ b. map (trim_element min) (cond b (x ∷ filter (seen 0) xs) (filter (seen 0) xs))) (removed-unseen 0 x (collectable-removed min x g)))
    step false g h = choose (seen 0 (trim_element min x)) (seen 0 x) (trim-seen min x) h

-- ---- the values that a trimmed document keeps

kept-value : (a b : ElementId) (keep : Cell → Bool) (cells : List Cell)
    → ((c : Cell) → cell_value a b cells ≡ Some c.value → a ≡ c.row → b ≡ c.col → keep c ≡ true) → cell_value a b (filter keep cells) ≡ cell_value a b cells
kept-value a b keep [] h = refl
kept-value a b keep (c ∷ cells) h = step (is_cell a b c) (keep c) refl refl (λ g. kept-value a b keep cells g)
  where
    step : (i j : Bool) → is_cell a b c ≡ i → keep c ≡ j
        → (((d : Cell) → cell_value a b cells ≡ Some d.value → a ≡ d.row → b ≡ d.col → keep d ≡ true) → cell_value a b (filter keep cells)
        ≡ cell_value a b cells)
        → cell_value a b (cond j (c ∷ filter keep cells) (filter keep cells)) ≡ option_map (λ (d : Cell). d.value) (cond i (Some c) (find (is_cell a b) cells))
    step true true e k r = ap (λ i. option_map (λ (d : Cell). d.value) (cond i (Some c) (find (is_cell a b) (filter keep cells)))) e
    step true false e k r =
        let p = both (same_id a c.row) (same_id b c.col) e in
        cc (h c (ap (λ i. option_map (λ (d : Cell). d.value) (cond i (Some c) (find (is_cell a b) cells))) e) (same_id-eq a c.row p.0) (same_id-eq b c.col p.1))
    step false j e k r =
        let rest : cell_value a b (filter keep cells) ≡ cell_value a b cells =
        r (λ d g p q. h d (ap (λ i. option_map (λ (d : Cell). d.value) (cond i (Some c) (find (is_cell a b) cells))) e ∙ g) p q) in
        skip j ∙ rest
      where
        skip : (j : Bool) → cell_value a b (cond j (c ∷ filter keep cells) (filter keep cells)) ≡ cell_value a b (filter keep cells)
        skip true = ap (λ i. option_map (λ (d : Cell). d.value) (cond i (Some c) (find (is_cell a b) (filter keep cells)))) e
        skip false = refl

not-null : (o : Option ValueBytes) (v : ValueBytes) → option_and_then unless_null o ≡ Some v → is_null v ≡ false
not-null None v h = (cc)
not-null (Some w) v h = step (bytes_eq w (codes "null")) refl h
  where
    step : (b : Bool) → bytes_eq w (codes "null") ≡ b → (let none : Option ValueBytes = None in cond b none (Some w)) ≡ Some v → is_null v ≡ false
    step true e g = (cc)
    step false e g = let same : w ≡ v = (cc) in ap (λ u. bytes_eq u (codes "null")) (sym same) ∙ e

-- ---- an element that is seen has no sequenced removal, nor has its name

abbrev removes : ElementId → ListElement → Bool
removes a x = has_id a x && list_any is_acked x.dels

none-removes : (a : ElementId) (xs : List ListElement) → len (has_id a) xs ≡ 0 → list_any (removes a) xs ≡ false
none-removes a [] h = refl
none-removes a (x ∷ xs) h = step (has_id a x) h (none-removes a xs)
  where
    step : (b : Bool) → one_more_if b (len (has_id a) xs) ≡ 0 → (len (has_id a) xs ≡ 0 → list_any (removes a) xs ≡ false)
        → (b && list_any is_acked x.dels) || list_any (removes a) xs ≡ false
    step true n r = absurd (omega arith)
    step false n r = r n

abbrev StandsUnremoved : List ListElement → ListElement → Type 0
StandsUnremoved xs x = (1 ≤ len (has_id (id x)) xs) × (is_removed x ≡ false → has_sequenced_removal xs (id x) ≡ false)

each-stands : (xs : List ListElement) → Once xs → AllByRecursion (StandsUnremoved xs) xs
each-stands [] o = tt
each-stands (x ∷ xs) o = ((first, alone), all-weaker (StandsUnremoved xs) (StandsUnremoved (x ∷ xs)) more xs (each-stands xs (once-tail x xs o)))
  where
    first : 1 ≤ one_more_if (has_id (id x) x) (len (has_id (id x)) xs)
    first = rw (same_id-refl (id x)) (omega arith)

    alone : is_removed x ≡ false → (has_id (id x) x && list_any is_acked x.dels) || list_any (removes (id x)) xs ≡ false
    alone h =
        ap (λ b. (has_id (id x) x && b) || list_any (removes (id x)) xs) h
        ∙ step (has_id (id x) x) ∙ none-removes (id x) xs (only-here (has_id (id x) x) (len (has_id (id x)) xs) (o (id x)) (same_id-refl (id x)))
      where
        step : (b : Bool) → (b && false) || list_any (removes (id x)) xs ≡ list_any (removes (id x)) xs
        step true = refl
        step false = refl

    more : (y : ListElement) → StandsUnremoved xs y → StandsUnremoved (x ∷ xs) y
    more y q =
        let other : has_id (id y) x ≡ false = only-there (has_id (id y) x) (len (has_id (id y)) xs) (o (id y)) q.0 in (
          some-more (has_id (id y) x) (len (has_id (id y)) xs) q.0,
          λ h. ap (λ b. (b && list_any is_acked x.dels) || list_any (removes (id y)) xs) other ∙ q.1 h,
        )

unremoved : (x : ListElement) → seen 0 x ≡ true → is_removed x ≡ false
unremoved x h = step (is_removed x) refl
  where
    step : (b : Bool) → is_removed x ≡ b → b ≡ false
    step false e = refl
    step true e = let f = removed-unseen 0 x e in (cc)

-- ---- the whole grid

module _ (last : ℕ) (g : Grid) (given : ℕ) (usable : Bool) (doc : Document) (s : IsSound g) (named : AreWellNamed last doc [])
    (held : HoldsGrid (grid_state g given usable) doc []) (above : IsAboveAll 0 (grid_state g given usable)) where
  units : HoldsUnits doc.rows.items doc.cols.items doc.cells (units_of g.rows) (units_of g.cols) g.cells
  units = held-units last doc g.rows g.cols g.cells named.rows named.cols held.rows held.cols held.cells

  settled : (xs : List ListElement) (v : VectorState) → BesideUnits IsUnit xs (units_of v) → All (λ x. is_unit_below 0 x ≡ true) (map shown_unit (units_of v))
      → BesideUnits Settled xs (units_of v)
  settled xs v b a = beside-all (λ (e : TreeElement ℕ). is_unit_below 0 (shown_unit e) ≡ true) b
      (below-of 0 (units_of v) (recursion_from_All (λ x. is_unit_below 0 x ≡ true) (map shown_unit (units_of v)) a))

  rows-settled : BesideUnits Settled doc.rows.items (units_of g.rows)
  rows-settled = settled doc.rows.items g.rows (beside-more (λ x e q. q.0) units.rows) above.rows

  cols-settled : BesideUnits Settled doc.cols.items (units_of g.cols)
  cols-settled = settled doc.cols.items g.cols units.cols above.cols

  abbrev is_kept : Cell → Bool
  is_kept c = not (is_null c.value) && not (has_sequenced_removal doc.rows.items c.row) && not (has_sequenced_removal doc.cols.items c.col)

  no-writes : (h k : ℕ) → (cell_at g.cells h k).pending ≡ []
  no-writes h k = s.writes h k ∙ empty g.stages.items held.stages
    where
      empty : (us : List GridStage) → [] ≡ map (shown_stage g.rows g.cols) us → writes_to h k us ≡ []
      empty [] e = refl
      empty (u ∷ us) e = (cc)

  same-value : (a b : ElementId) (h k : ℕ) → has_sequenced_removal doc.rows.items a ≡ false → has_sequenced_removal doc.cols.items b ≡ false
      → cell_value a b doc.cells ≡ handle_value g.cells h k → cell_value a b (trim doc).cells ≡ shown_at g.cells h k
  same-value a b h k p q v =
      kept-value a b is_kept doc.cells (λ c e i j. kept c (not-null (cell_at g.cells h k).acked c.value (sym v ∙ e)) (ap (has_sequenced_removal doc.rows.items) (sym i) ∙ p)
      (ap (has_sequenced_removal doc.cols.items) (sym j) ∙ q))
      ∙ v ∙ ap (λ ws. option_and_then unless_null (last_value (cell_at g.cells h k).acked ws)) (sym (no-writes h k))
    where
      kept : (c : Cell) → is_null c.value ≡ false → has_sequenced_removal doc.rows.items c.row ≡ false
          → has_sequenced_removal doc.cols.items c.col ≡ false → is_kept c ≡ true
      kept c u v w = rw (u, v, w) refl

  rows-seen : Beside ListElement ℕ (λ x h. Beside ListElement ℕ (λ y k. placed.shown_at (trim doc).cells [] x y ≡ shown_at g.cells h k) (filter (seen 0) doc.cols.items) (seen_handles last_stage g.cols.tree))
      (filter (seen 0) doc.rows.items) (seen_handles last_stage g.rows.tree)
  rows-seen =
      beside-seen (seen 0) (seen_in last_stage) (λ x e q. seen-all x e q.0.1)
      (λ x e q o. beside-seen (seen 0) (seen_in last_stage) (λ y d r. seen-all y d r.0.1)
      (λ y d r p. same-value (id x) (id y) e.unit d.unit (q.1.1 (unremoved x o)) (r.1.1 (unremoved y p)) r.0.0.1)
      (beside-each (StandsUnremoved doc.cols.items) (beside-both q.0.0.1 cols-settled) (each-stands doc.cols.items named.cols.once)))
      (beside-each (StandsUnremoved doc.rows.items) (beside-both units.rows rows-settled) (each-stands doc.rows.items named.rows.once))

  cells-saved : (shown (trim doc)).cells ≡ shown_cells g
  cells-saved =
      ap (λ ys. all_cells (trim doc).cells [] ys 0 (stage_view 0 (trim doc).rows.items)) (view-trimmed doc.minimum doc.cols.items)
      ∙ ap (λ xs. all_cells (trim doc).cells [] (map (trim_element doc.minimum) (filter (seen 0) doc.cols.items)) 0 xs) (view-trimmed doc.minimum doc.rows.items)
      ∙ trimmed-cols doc.minimum (trim doc).cells [] (filter (seen 0) doc.cols.items) 0 (map (trim_element doc.minimum) (filter (seen 0) doc.rows.items))
      ∙ trimmed-rows doc.minimum (trim doc).cells [] (filter (seen 0) doc.cols.items) 0 (filter (seen 0) doc.rows.items)
      ∙ all-placed (trim doc).cells [] (filter (seen 0) doc.cols.items) 0 (filter (seen 0) doc.rows.items)
      ∙ placed-cells (placed.shown_at (trim doc).cells []) (shown_at g.cells) (filter (seen 0) doc.cols.items) (seen_handles last_stage g.cols.tree) 0 rows-seen

  pub units-saved : (min : ℕ) → doc.minimum ≡ min → (sum : SumDoc) (rows cols : List RunRec) (cells : List CellRec) → rows ≡ saved_runs min (units_of g.rows)
      → cols ≡ saved_runs min (units_of g.cols) → cells ≡ shown_cells g → record sum { rows = rows; cols = cols; cells = cells } ≡ with_units doc sum
  units-saved min m sum rows cols cells r c o =
      ap (λ rs. record sum { rows = rs; cols = cols; cells = cells }) (r ∙ sym (runs-saved min rows-settled) ∙ ap (λ n. unit_runs (kept_items n doc.rows.items)) (sym m))
      ∙ ap (λ cs. record sum { rows = unit_runs (kept_items doc.minimum doc.rows.items); cols = cs; cells = cells })
      (c ∙ sym (runs-saved min cols-settled) ∙ ap (λ n. unit_runs (kept_items n doc.cols.items)) (sym m))
      ∙ ap (λ es. record sum { rows = unit_runs (kept_items doc.minimum doc.rows.items); cols = unit_runs (kept_items doc.minimum doc.cols.items); cells = es })
      (o ∙ sym cells-saved)
