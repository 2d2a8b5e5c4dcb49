-- The grid that a summary makes holds the part of the summary's document.
use Rattle.std.proofs.Common.{◌≡◌, ℕ, ◌+◌, true, false, not, ◌&&◌, ◌||◌, nat_le, List, [], ◌∷◌, ◌++◌, Some, None, refl, sym, ◌∙◌, ap, subst, map, replicate, slice_get, append-nil}
use Rattle.std.specs.List.{AllByRecursion, list_all, list_any}
use Rattle.std.proofs.lemmas.List.Elements.{recursion_from_All}
use Rattle.ft_base.specs.declared.stamps.Stamp.{Stamp}
use Rattle.ft_base.specs.declared.stamps.Stamp.TheVariants.{Acked, Local}
use Rattle.ft_base.specs.Visibility.{has_occurred_at_stage, is_acked}
use Rattle.ft_base.proofs.Booleans.{both}
use Rattle.ft_block.specs.declared.leaves.LenView.TheVariants.{Stage}
use Rattle.ft_tree_leaves.specs.Elements.{TreeElement, seen_in}
use Rattle.ft_cells.specs.CellTables.{CellList, CellState, cell_at, empty_cell}
use Rattle.ft_props.specs.Element.{ElementContent, GridUnit, ListElement, is_unremoved, new_elements, removal_stamp}
use Rattle.ft_op.specs.Document.{Document}
use Rattle.ft_op.specs.Cells.{is_null}
use Rattle.ft_laws_agreement.proofs.SummaryStarts.{summary-sound}
use Rattle.ft_marks.specs.Marks.{stamp_of}
use Rattle.ft_msg.specs.Summary.{doc_of, run_items}
use Rattle.ft_laws_names.specs.WellNamed.{AreWellNamed}
use Rattle.ft_laws_names.proofs.Beside.{beside-both, beside-each, beside-more}
use Rattle.ft_laws_names.proofs.NamedStarts.{start-named}
use Rattle.ft_perm.specs.Vectors.{VectorState, in_use, seen_handles}
use Rattle.ft_sumdoc.specs.declared.summary.CellRec.{CellRec}
use Rattle.ft_sumdoc.specs.declared.summary.RunRec.{RunRec}
use Rattle.ft_sumdoc.specs.declared.summary.SumDoc.{SumDoc}
use Rattle.ft_sumdoc.specs.Stamps.{Bounds}
use Rattle.ft_sumdoc.specs.Valid.{IsCell, IsValidSummary, are_stamps, is_run}
use Rattle.ft_matrix.specs.declared.grid.Grid.{Grid}
use Rattle.ft_matrix.specs.GridStates.{grid_state, shown_stage}
use Rattle.ft_matrix.specs.HoldsGrid.{HoldsGrid}
use Rattle.ft_matrix.specs.Loaded.{LoadsUnits, loaded_cells}
use Rattle.ft_matrix.specs.Sound.{IsSound, IsSoundVector, StagesRise, writes_to}
use Rattle.ft_matrix.specs.Units.{acked_value, units_of}
use Rattle.ft_matrix.proofs.PendingStages.{acked-units, bare-units}
use Rattle.ft_matrix.proofs.HeldGrids.{HoldsUnits, other-handle, units-held}
use Rattle.ft_matrix.proofs.LoadedCells.{ValuesMeet, cells-meet, loaded-col, loaded-pending, loaded-row}
use Rattle.ft_matrix.proofs.UnitLists.{BesideUnits, IsUnit, all-acked, unit-seen, units-beside}
use Rattle.ft_matrix.proofs.Writes.{found-holds, seen-get}
use Rattle.ft_matrix.proofs.SoundVectors.{all-append}

-- ---- what is asked of runs and cells

pub some-runs : (b : Bounds) (runs : List RunRec) → list_all (is_run b) runs ≡ true → list_all (λ run. nat_le 1 run.count) runs ≡ true
some-runs b [] h = refl
some-runs b (r ∷ runs) h =
    let p = both (is_run b r) (list_all (is_run b) runs) h in
    let q = both (nat_le 1 r.count) (are_stamps b r.ins r.dels) p.0 in rw (q.0, some-runs b runs p.1) refl

no-nulls : (rows cols : ℕ) (cells : List CellRec) → AllByRecursion (IsCell rows cols) cells → AllByRecursion (λ c. is_null c.value ≡ false) cells
no-nulls rows cols [] h = tt
no-nulls rows cols (c ∷ cells) h = (h.0.1.1, no-nulls rows cols cells h.1)

-- ---- units of a summary are sequenced, and no removal of them is pending

abbrev IsPlain : ListElement → Type 0
IsPlain x = (is_acked x.ins ≡ true) × (x.removal_stage ≡ None)

new-plain : (n s c : ℕ) (dels : List Stamp) (bs : List ElementContent) → AllByRecursion IsPlain (new_elements n (Acked s c) dels None [] bs)
new-plain n s c dels [] = tt
new-plain n s c dels (b ∷ bs) = ((refl, refl), new-plain (n + 1) s c dels bs)

items-plain : (n : ℕ) (runs : List RunRec) → AllByRecursion IsPlain (run_items n runs)
items-plain n [] = tt
items-plain n (r ∷ runs) =
    all-append IsPlain (new_elements n (stamp_of r.ins) (map stamp_of r.dels) None [] (replicate r.count GridUnit)) (run_items (n + r.count) runs)
    (new-plain n r.ins.seq r.ins.conn (map stamp_of r.dels) (replicate r.count GridUnit)) (items-plain (n + r.count) runs)

acked-occurs : (t : Stamp) → is_acked t ≡ true → has_occurred_at_stage 0 t ≡ true
acked-occurs (Acked s c) h = refl
acked-occurs (Local k) h = (cc)

acked-alike : (ds : List Stamp) → list_all is_acked ds ≡ true → list_any is_acked ds ≡ list_any (has_occurred_at_stage 0) ds
acked-alike [] h = refl
acked-alike (d ∷ ds) h = let p = both (is_acked d) (list_all is_acked ds) h in ap (λ b. b || list_any is_acked ds)
    (p.0 ∙ sym (acked-occurs d p.0)) ∙ ap (λ b. has_occurred_at_stage 0 d || b) (acked-alike ds p.1)

unremoved-seen : (x : ListElement) (e : TreeElement ℕ) → IsUnit x e → IsPlain x → is_unremoved x ≡ seen_in (Stage 0) e
unremoved-seen x e u p =
    ap (λ b. b && not (list_any is_acked (x.dels ++ removal_stamp x.removal_stage))) (p.0 ∙ sym (acked-occurs x.ins p.0))
    ∙ ap (λ b. has_occurred_at_stage 0 x.ins && not b) same ∙ unit-seen x e u 0
  where
    none : x.dels ++ removal_stamp x.removal_stage ≡ x.dels
    none = ap (λ o. x.dels ++ removal_stamp o) p.1 ∙ append-nil x.dels

    same : list_any is_acked (x.dels ++ removal_stamp x.removal_stage) ≡ list_any (has_occurred_at_stage 0) (x.dels ++ removal_stamp x.removal_stage)
    same = ap (list_any is_acked) none ∙ acked-alike x.dels (all-acked x u.even) ∙ sym (ap (list_any (has_occurred_at_stage 0)) none)

-- ---- the grid

module _ (sum : SumDoc) (valid : IsValidSummary sum) (rows0 cols0 : VectorState) (g : Grid) (table : CellList) (rs : IsSoundVector g.rows) (cs : IsSoundVector g.cols)
    (r : LoadsUnits sum.rows g.rows_made rows0 g.rows) (c : LoadsUnits sum.cols g.cols_made cols0 g.cols) (floors : cols0.tree.floor ≡ rows0.tree.floor)
    (empty : (i j : ℕ) → cell_at g.cells i j ≡ empty_cell) (stages : g.stages.items ≡ [])
    (l : (i j : ℕ) → cell_at table i j ≡ loaded_cells (seen_handles (Stage 0) g.rows.tree) (seen_handles (Stage 0) g.cols.tree) sum.cells (cell_at g.cells) i j) where
  abbrev made : Grid
  made = record g { cells = table }

  abbrev doc : Document
  doc = doc_of sum

  named : AreWellNamed 0 doc []
  named = start-named doc (summary-sound sum valid)

  rows-beside : BesideUnits IsUnit doc.rows.items (units_of g.rows)
  rows-beside = units-beside doc.rows.items (units_of g.rows) named.rows.removals (sym r.units)

  cols-beside : BesideUnits IsUnit doc.cols.items (units_of g.cols)
  cols-beside = units-beside doc.cols.items (units_of g.cols) named.cols.removals (sym c.units)

  rows-agree : BesideUnits (λ x e. IsUnit x e × (is_unremoved x ≡ seen_in (Stage 0) e)) doc.rows.items (units_of g.rows)
  rows-agree = beside-more (λ x e q. (q.0, unremoved-seen x e q.0 q.1)) (beside-each IsPlain rows-beside (items-plain 0 sum.rows))

  cols-agree : BesideUnits (λ x e. IsUnit x e × (is_unremoved x ≡ seen_in (Stage 0) e)) doc.cols.items (units_of g.cols)
  cols-agree = beside-more (λ x e q. (q.0, unremoved-seen x e q.0 q.1)) (beside-each IsPlain cols-beside (items-plain 0 sum.cols))

  no-values : ValuesMeet doc.rows.items doc.cols.items (units_of g.rows) (units_of g.cols) [] (cell_at g.cells)
  no-values = beside-more (λ x e q. beside-more (λ y f s. sym (ap acked_value (empty e.unit f.unit))) cols-beside) rows-beside

  values : ValuesMeet doc.rows.items doc.cols.items (units_of g.rows) (units_of g.cols) doc.cells
      (loaded_cells (seen_handles (Stage 0) g.rows.tree) (seen_handles (Stage 0) g.cols.tree) sum.cells (cell_at g.cells))
  values = cells-meet doc.rows.items doc.cols.items (units_of g.rows) (units_of g.cols) named.rows.once named.cols.once rs.proper.once
      cs.proper.once rows-agree cols-agree [] (cell_at g.cells) sum.cells
      (no-nulls _ _ sum.cells valid.cells) (λ i j. ap (λ (cell : CellState). cell.pending) (empty i j)) no-values

  units : HoldsUnits doc.rows.items doc.cols.items doc.cells (units_of g.rows) (units_of g.cols) table
  units = record {
    rows = beside-more (λ x e q. (q.0, beside-more (λ y f s. (s.0, s.1 ∙ sym (ap acked_value (l e.unit f.unit)))) (beside-both cols-beside q.1))) (beside-both rows-beside values);
    cols = cols-beside;
  }

  pub loaded-holds : HoldsGrid (grid_state made 0 true) doc []
  loaded-holds = record {
    rows = sym r.units;
    cols = sym c.units;
    rows_made = sym r.made;
    cols_made = sym c.made;
    cells = units-held doc g.rows g.cols table units;
    stages = sym (ap (map (shown_stage g.rows g.cols)) stages);
  }

  used : (v : VectorState) → IsSoundVector v → (i h : ℕ) → slice_get (seen_handles (Stage 0) v.tree) i ≡ Some h → in_use v h ≡ true
  used v s i h e =
      found-holds (λ k. in_use v k ≡ true) (seen_in (Stage 0)) i (units_of v) h (recursion_from_All (λ (d : TreeElement ℕ). in_use v d.unit ≡ true) (units_of v) s.proper.used)
      (sym (seen-get (seen_in (Stage 0)) (λ (d : TreeElement ℕ). d.unit) (units_of v) i) ∙ e)

  pub loaded-sound : IsSound made
  loaded-sound = record {
    rows = rs;
    cols = cs;
    floors = c.floor ∙ floors ∙ sym r.floor;
    held = record {
      rows = λ i j n. l i j ∙ loaded-row (seen_handles (Stage 0) g.rows.tree) (seen_handles (Stage 0) g.cols.tree) sum.cells (cell_at g.cells) i j
          (λ k h e. other-handle (in_use g.rows) h i (used g.rows rs k h e) n) (empty i j);
      cols = λ i j n. l i j ∙ loaded-col (seen_handles (Stage 0) g.rows.tree) (seen_handles (Stage 0) g.cols.tree) sum.cells (cell_at g.cells) i j
          (λ k h e. other-handle (in_use g.cols) h j (used g.cols cs k h e) n) (empty i j);
    };
    writes = λ i j. ap (λ (cell : CellState). cell.pending) (l i j)
        ∙ loaded-pending (seen_handles (Stage 0) g.rows.tree) (seen_handles (Stage 0) g.cols.tree) sum.cells (cell_at g.cells)
        (λ a b. ap (λ (cell : CellState). cell.pending) (empty a b)) i j
        ∙ sym (ap (writes_to i j) stages);
    rise = subst (StagesRise 0) (sym stages) tt;
    pending_rows = acked-units g.stages.items (units_of g.rows) (bare-units doc.rows.items (units_of g.rows) (sym r.units) (λ k. named.own.rows k refl));
    pending_cols = acked-units g.stages.items (units_of g.cols) (bare-units doc.cols.items (units_of g.cols) (sym c.units) (λ k. named.own.cols k refl));
  }
