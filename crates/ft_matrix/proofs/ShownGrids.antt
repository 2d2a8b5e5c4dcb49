-- What is shown of a grid is what is shown of a document whose part it holds.
use Rattle.std.proofs.Common.{◌≡◌, ℕ, suc, ◌+◌, ◌^◌, ◌<◌, All, Bool, true, false, cond, ◌&&◌, List, [], ◌∷◌, ◌++◌, Option, Some, None, refl, sym, ◌∙◌, ap, subst, length, map, filter, option_and_then, arith}
use Rattle.std.proofs.lemmas.List.Elements.{recursion_from_All}
use Rattle.ft_base.specs.Scan.{len, one_more_if, rank, retain_map}
use Rattle.ft_block.specs.declared.leaves.LenView.TheVariants.{Stage as AtStage}
use Rattle.ft_block.specs.Leaves.{last_stage}
use Rattle.ft_props.specs.Properties.{ValueBytes}
use Rattle.ft_props.specs.Element.{ElementId, ListElement, id, is_named_by, seen}
use Rattle.ft_op.specs.declared.operations.CellOp.{CellOp}
use Rattle.ft_op.specs.declared.operations.CellOp.TheVariants.{SpliceIn, SpliceOut, Set}
use Rattle.ft_op.specs.Operation.{OnGrid, OnIntervals, OnText, SubOperation}
use Rattle.ft_op.specs.Intervals.{NamedElements}
use Rattle.ft_op.specs.Cells.{cell_value}
use Rattle.ft_op.specs.Document.{Document}
use Rattle.ft_op.specs.Stages.{Stage}
use Rattle.ft_msg.specs.declared.views.View.{View}
use Rattle.ft_msg.specs.Content.{all_cells, cell_after_stage, shown_cell_value, stage_view}
use Rattle.ft_msg.specs.Indexed.{IndexedStage, indexed_stage, place_in_list, places_of}
use Rattle.ft_sumdoc.specs.declared.summary.CellRec.{CellRec}
use Rattle.ft_tree_leaves.specs.Elements.{TreeElement, seen_in}
use Rattle.ft_perm.specs.Vectors.{VectorState, seen_handles}
use Rattle.ft_cells.specs.CellTables.{cell_at, last_value, unless_null}
use Rattle.ft_laws_agreement.specs.Sequencing.{is_grid_stage}
use Rattle.ft_laws_agreement.proofs.SlidEnds.{Once}
use Rattle.ft_laws_names.specs.WellNamed.{AreWellNamed}
use Rattle.ft_laws_names.specs.GridFacts.{is_unit_below}
use Rattle.ft_laws_names.proofs.Beside.{Beside, beside-both, beside-length, beside-more, ends, next}
use Rattle.ft_laws_names.proofs.DocumentsAlike.{same_id-turn}
use Rattle.ft_matrix.specs.declared.grid.Grid.{Grid}
use Rattle.ft_matrix.specs.declared.stages.GridStage.{GridStage}
use Rattle.ft_matrix.specs.Conditions.{IsAboveAll}
use Rattle.ft_matrix.specs.GridStates.{grid_state, shown_stage}
use Rattle.ft_matrix.specs.HoldsGrid.{HoldsGrid}
use Rattle.ft_matrix.specs.Seen.{shown_at, shown_cells}
use Rattle.ft_matrix.specs.Shown.{with_grid}
use Rattle.ft_matrix.specs.Sound.{IsSound, is_handle, write_of, writes_to}
use Rattle.ft_matrix.specs.Units.{has_handle, place_of_handle, shown_unit, units_of}
use Rattle.ft_matrix.proofs.HeldGrids.{HandlesOnce, HoldsUnits, RowHolds, held-units, meet-at, some-rank}
use Rattle.ft_matrix.proofs.OwnSteps.{AreBelow, beside-all, below-of, views-agree}
use Rattle.ft_matrix.proofs.Placed as placed
use Rattle.ft_matrix.proofs.Placed.{all-placed, placed-cells}
use Rattle.ft_matrix.proofs.UnitLists.{BesideUnits, HandleNamed, IsUnit, unit-seen}

abbrev Value : Type 0
Value = Option ValueBytes

-- ---- what is kept of two lists side by side

module _ {A B C : Type 0} (keep : A → Bool) (f : A → C) (g : B → C) where
  pub beside-retained : (xs : List A) (ys : List B) → retain_map keep f xs ≡ map g ys → Beside A B (λ x y. f x ≡ g y) (filter keep xs) ys
  beside-retained [] [] e = ends
  beside-retained [] (y ∷ ys) e = (cc)
  beside-retained (x ∷ xs) ys e = step (keep x) ys e (λ zs h. beside-retained xs zs h)
    where
      step : (b : Bool) (zs : List B) → cond b (f x ∷ retain_map keep f xs) (retain_map keep f xs) ≡ map g zs
          → ((ws : List B) → retain_map keep f xs ≡ map g ws → Beside A B (λ x y. f x ≡ g y) (filter keep xs) ws)
          → Beside A B (λ x y. f x ≡ g y) (cond b (x ∷ filter keep xs) (filter keep xs)) zs
      step true [] h r = (cc)
      step true (z ∷ zs) h r = let first : f x ≡ g z = (cc) in let rest : retain_map keep f xs ≡ map g zs = (cc) in next first (r zs rest)
      step false zs h r = r zs h

-- those that are seen, beside their handles
pub beside-seen : {Q : ListElement → TreeElement ℕ → Type 0} {R : ListElement → ℕ → Type 0} (see : ListElement → Bool) (see' : TreeElement ℕ → Bool)
    → ((x : ListElement) (e : TreeElement ℕ) → Q x e → see x ≡ see' e)
    → ((x : ListElement) (e : TreeElement ℕ) → Q x e → see x ≡ true → R x e.unit)
    → {xs : List ListElement} {es : List (TreeElement ℕ)} → BesideUnits Q xs es → Beside ListElement ℕ R (filter see xs) (retain_map see' (λ e. e.unit) es)
beside-seen see see' agree f ends = ends
beside-seen {R = R} see see' agree f (next {x = x} {y = e} {xs = xs} {ys = es} q qs) = step (see x) (see' e) refl (agree x e q) (beside-seen see see' agree f qs)
  where
    step : (b c : Bool) → see x ≡ b → b ≡ c → Beside ListElement ℕ R (filter see xs) (retain_map see' (λ (d : TreeElement ℕ). d.unit) es)
        → Beside ListElement ℕ R (cond b (x ∷ filter see xs) (filter see xs))
        (cond c (e.unit ∷ retain_map see' (λ (d : TreeElement ℕ). d.unit) es) (retain_map see' (λ (d : TreeElement ℕ). d.unit) es))
    step true true g h r = next (f x e q g) r
    step false false g h r = r
    step true false g h r = (cc)
    step false true g h r = (cc)

pub length-retained : {A B : Type 0} (see : A → Bool) (f : A → B) (xs : List A) → length (retain_map see f xs) ≡ len see xs
length-retained see f [] = refl
length-retained see f (x ∷ xs) = step (see x) (length-retained see f xs)
  where
    step : (b : Bool) → length (retain_map see f xs) ≡ len see xs
        → length (cond b (f x ∷ retain_map see f xs) (retain_map see f xs)) ≡ one_more_if b (len see xs)
    step true h = ap suc h
    step false h = h

-- ---- what a stage names, and of what handles it is

named-beside : {xs : List ListElement} {es : List (TreeElement ℕ)} (v : VectorState) → es ≡ units_of v
    → (o : Option ElementId) (p : Option ℕ) → Once xs → HandlesOnce es
    → BesideUnits IsUnit xs es → place_in_list xs o ≡ place_of_handle v p → BesideUnits (HandleNamed (λ a h. is_named_by a o ≡ is_handle h p)) xs es
named-beside v s None None n k us e = beside-more (λ x d u. (u, refl)) us
named-beside v s None (Some h) n k us e = (cc)
named-beside v s (Some a) None n k us e = (cc)
named-beside {xs} {es} v s (Some a) (Some h) n k us e =
    let same : rank (has_handle h) (λ _. true) (units_of v) ≡ rank (has_handle h) (λ _. true) es = ap (rank (has_handle h) (λ _. true)) (sym s) in
    beside-more (λ x d q. (q.0, same_id-turn (id x) a ∙ q.1)) (meet-at a h n k us (some-rank e ∙ same))

abbrev OpsMeet : List Stage → List GridStage → Type 0
OpsMeet ts us = Beside Stage GridStage (λ t u. t.sub_operation ≡ OnGrid u.op) ts us

abbrev RowsMeet : List Stage → List GridStage → ElementId → ℕ → Type 0
RowsMeet ts us a h = Beside Stage GridStage (λ t u. is_named_by a t.names.first ≡ is_handle h u.row) ts us

abbrev ColsMeet : List Stage → List GridStage → ElementId → ℕ → Type 0
ColsMeet ts us a h = Beside Stage GridStage (λ t u. is_named_by a t.names.second ≡ is_handle h u.col) ts us

module _ (doc : Document) (rows cols : VectorState) where
  abbrev StagesMeet : List Stage → List GridStage → Type 0
  StagesMeet ts us = Beside Stage GridStage (λ t u. indexed_stage doc t ≡ shown_stage rows cols u) ts us

  ops-meet : {ts : List Stage} {us : List GridStage} → StagesMeet ts us → OpsMeet ts us
  ops-meet h = beside-more (λ t u e. ap (λ (s : IndexedStage). s.sub_operation) e) h

  rows-meet : Once doc.rows.items → HandlesOnce (units_of rows) → BesideUnits IsUnit doc.rows.items (units_of rows)
      → {ts : List Stage} {us : List GridStage} → StagesMeet ts us
      → BesideUnits (HandleNamed (λ a h. RowsMeet ts us a h)) doc.rows.items (units_of rows)
  rows-meet n k b ends = beside-more (λ x e u. (u, ends)) b
  rows-meet n k b (next {x = t} {y = u} q qs) =
      beside-more (λ x e r. (r.0.0, next r.0.1 r.1.1))
      (beside-both (named-beside rows refl t.names.first u.row n k b (ap (λ o. (places_of doc o t.names).first) (sym (ap (λ (s : IndexedStage). s.sub_operation) q))
      ∙ ap (λ (s : IndexedStage). s.places.first) q)) (rows-meet n k b qs))

  cols-meet : Once doc.cols.items → HandlesOnce (units_of cols) → BesideUnits IsUnit doc.cols.items (units_of cols)
      → {ts : List Stage} {us : List GridStage} → StagesMeet ts us
      → BesideUnits (HandleNamed (λ a h. ColsMeet ts us a h)) doc.cols.items (units_of cols)
  cols-meet n k b ends = beside-more (λ x e u. (u, ends)) b
  cols-meet n k b (next {x = t} {y = u} q qs) =
      beside-more (λ x e r. (r.0.0, next r.0.1 r.1.1))
      (beside-both (named-beside cols refl t.names.second u.col n k b (ap (λ o. (places_of doc o t.names).second) (sym (ap (λ (s : IndexedStage). s.sub_operation) q))
      ∙ ap (λ (s : IndexedStage). s.places.second) q)) (cols-meet n k b qs))

-- ---- the shown value of a cell

grid-stages-alone : (a b : ElementId) (v : Value) (stages : List Stage) → shown_cell_value a b v stages ≡ shown_cell_value a b v (filter is_grid_stage stages)
grid-stages-alone a b v [] = refl
grid-stages-alone a b v (t ∷ stages) = step t.stage t.sub_operation t.names (λ w. grid-stages-alone a b w stages)
  where
    step : (k : ℕ) (o : SubOperation) (n : NamedElements) → ((w : Value) → shown_cell_value a b w stages ≡ shown_cell_value a b w (filter is_grid_stage stages))
        → shown_cell_value a b v (record { stage = k; sub_operation = o; names = n } ∷ stages)
        ≡ shown_cell_value a b v (filter is_grid_stage (record { stage = k; sub_operation = o; names = n } ∷ stages))
    step k (OnText op) n r = r v
    step k (OnIntervals op) n r = r v
    step k (OnGrid op) n r = r (cell_after_stage a b (record { stage = k; sub_operation = OnGrid op; names = n }) v)

module _ (a b : ElementId) (h g : ℕ) where
  pub shown-same : {ts : List Stage} {us : List GridStage} → OpsMeet ts us → RowsMeet ts us a h → ColsMeet ts us b g → (v : Value) (acked : Option ValueBytes)
      → v ≡ option_and_then unless_null acked → shown_cell_value a b v ts ≡ option_and_then unless_null (last_value acked (writes_to h g us))
  shown-same ends ends ends v acked e = e
  shown-same (next {x = t} {y = u} {xs = ts} {ys = us} o os) (next r rs) (next c cs) v acked e =
      ap (λ s. shown_cell_value a b (cell_after_stage a b (record { stage = t.stage; sub_operation = s; names = t.names }) v) ts) o
      ∙ step u.op (λ w p f. shown-same os rs cs w p f)
    where
      choose : (k : ℕ) (value : ValueBytes) (i j : Bool) → i ≡ j
          → ((w : Value) (p : Option ValueBytes) → w ≡ option_and_then unless_null p → shown_cell_value a b w ts
          ≡ option_and_then unless_null (last_value p (writes_to h g us)))
          → shown_cell_value a b (cond i (unless_null value) v) ts
          ≡ option_and_then unless_null (last_value acked (cond j ((k, value) ∷ []) [] ++ writes_to h g us))
      choose k value true true f rest = rest (unless_null value) (Some value) refl
      choose k value false false f rest = rest v acked e
      choose k value true false f rest = (cc)
      choose k value false true f rest = (cc)

      step : (op : CellOp)
          → ((w : Value) (p : Option ValueBytes) → w ≡ option_and_then unless_null p → shown_cell_value a b w ts
          ≡ option_and_then unless_null (last_value p (writes_to h g us)))
          → shown_cell_value a b (cell_after_stage a b (record { stage = t.stage; sub_operation = OnGrid op; names = t.names }) v) ts
          ≡ option_and_then unless_null (last_value acked (write_of h g (record { stage = u.stage; op = op; row = u.row; col = u.col }) ++ writes_to h g us))
      step (SpliceIn target i n) rest = rest v acked e
      step (SpliceOut target i n) rest = rest v acked e
      step (Set i j value) rest =
          choose u.stage value (is_named_by a t.names.first && is_named_by b t.names.second) (is_handle h u.row && is_handle g u.col)
          (ap (λ d. d && is_named_by b t.names.second) r ∙ ap (λ d. is_handle h u.row && d) c) rest

-- ---- the whole grid

module _ (last : ℕ) (g : Grid) (given : ℕ) (usable : Bool) (doc : Document) (stages : List Stage) (s : IsSound g) (named : AreWellNamed last doc stages)
    (held : HoldsGrid (grid_state g given usable) doc stages) where
  pub units : HoldsUnits doc.rows.items doc.cols.items doc.cells (units_of g.rows) (units_of g.cols) g.cells
  units = held-units last doc g.rows g.cols g.cells named.rows named.cols held.rows held.cols held.cells

  meet : StagesMeet doc g.rows g.cols (filter is_grid_stage stages) g.stages.items
  meet = beside-retained is_grid_stage (indexed_stage doc) (shown_stage g.rows g.cols) stages g.stages.items held.stages

  -- a named cell and one of handles have the same shown value
  abbrev CellMeets : ListElement → ℕ → ListElement → ℕ → Type 0
  CellMeets x h y k = placed.shown_at doc.cells stages x y ≡ shown_at g.cells h k

  rows-of : BesideUnits (HandleNamed (λ a h. RowHolds doc.cols.items (units_of g.cols) doc.cells g.cells a h × RowsMeet (filter is_grid_stage stages) g.stages.items a h))
      doc.rows.items (units_of g.rows)
  rows-of = beside-more (λ x e q. (q.0.0, (q.0.1, q.1.1)))
      (beside-both units.rows (rows-meet doc g.rows g.cols named.rows.once s.rows.proper.once (beside-more (λ x e q. q.0) units.rows) meet))

  cols-of : BesideUnits (HandleNamed (λ a h. ColsMeet (filter is_grid_stage stages) g.stages.items a h)) doc.cols.items (units_of g.cols)
  cols-of = cols-meet doc g.rows g.cols named.cols.once s.cols.proper.once units.cols meet

  value-meets : (a b : ElementId) (h k : ℕ) → cell_value a b doc.cells ≡ option_and_then unless_null (cell_at g.cells h k).acked
      → RowsMeet (filter is_grid_stage stages) g.stages.items a h → ColsMeet (filter is_grid_stage stages) g.stages.items b k
      → shown_cell_value a b (cell_value a b doc.cells) stages ≡ shown_at g.cells h k
  value-meets a b h k v r c =
      grid-stages-alone a b (cell_value a b doc.cells) stages
      ∙ shown-same a b h k (ops-meet doc g.rows g.cols meet) r c (cell_value a b doc.cells) (cell_at g.cells h k).acked v
      ∙ ap (λ ws. option_and_then unless_null (last_value (cell_at g.cells h k).acked ws)) (sym (s.writes h k))

  -- where tests of both agree
  module _ (see : ListElement → Bool) (agree-rows : BesideUnits (λ x e. see x ≡ seen_in last_stage e) doc.rows.items (units_of g.rows))
      (agree-cols : BesideUnits (λ x e. see x ≡ seen_in last_stage e) doc.cols.items (units_of g.cols)) where
    rows-seen : Beside ListElement ℕ (λ x h. Beside ListElement ℕ (CellMeets x h) (filter see doc.cols.items) (seen_handles last_stage g.cols.tree))
        (filter see doc.rows.items) (seen_handles last_stage g.rows.tree)
    rows-seen =
        beside-seen see (seen_in last_stage) (λ x e q. q.1)
        (λ x e q g. beside-seen see (seen_in last_stage) (λ y d r. r.1)
        (λ y d r o. value-meets (id x) (id y) e.unit d.unit r.0.0.1 q.0.1.1 r.0.1.1) (beside-both (beside-both q.0.1.0 cols-of) agree-cols))
        (beside-both rows-of agree-rows)

    pub shown-meets : all_cells doc.cells stages (filter see doc.cols.items) 0 (filter see doc.rows.items) ≡ shown_cells g
    shown-meets =
        all-placed doc.cells stages (filter see doc.cols.items) 0 (filter see doc.rows.items)
        ∙ placed-cells (placed.shown_at doc.cells stages) (shown_at g.cells) (filter see doc.cols.items) (seen_handles last_stage g.cols.tree) 0 rows-seen

    pub rows-length : len (seen_in last_stage) (units_of g.rows) ≡ length (filter see doc.rows.items)
    rows-length =
        sym (length-retained (seen_in last_stage) (λ (e : TreeElement ℕ). e.unit) (units_of g.rows))
        ∙ sym (beside-length (beside-seen {R = λ x h. Unit {0}} see (seen_in last_stage) (λ x e q. q) (λ x e q g. tt) agree-rows))

    pub cols-length : len (seen_in last_stage) (units_of g.cols) ≡ length (filter see doc.cols.items)
    cols-length =
        sym (length-retained (seen_in last_stage) (λ (e : TreeElement ℕ). e.unit) (units_of g.cols))
        ∙ sym (beside-length (beside-seen {R = λ x h. Unit {0}} see (seen_in last_stage) (λ x e q. q) (λ x e q g. tt) agree-cols))

  -- the local view is that of the last stage
  sees-last : last < 2 ^ 64 → (xs : List ListElement) (v : VectorState) → BesideUnits IsUnit xs (units_of v) → AreBelow (suc last) (units_of v)
      → BesideUnits (λ x e. seen last x ≡ seen_in last_stage e) xs (units_of v)
  sees-last fits xs v b l =
      beside-more (λ x e q. unit-seen x e q.0 last ∙ sym q.1)
      (beside-all (λ (e : TreeElement ℕ). seen_in last_stage e ≡ seen_in (AtStage last) e) b (views-agree last (omega arith) (units_of v) l))

  below-suc : (v : VectorState) → All (λ x. is_unit_below (last + 1) x ≡ true) (map shown_unit (units_of v)) → AreBelow (suc last) (units_of v)
  below-suc v a =
      let e : last + 1 ≡ suc last = omega arith in
      subst (λ k. AreBelow k (units_of v)) e (below-of (last + 1) (units_of v) (recursion_from_All (λ x. is_unit_below (last + 1) x ≡ true) (map shown_unit (units_of v)) a))

  rows-last : last < 2 ^ 64 → IsAboveAll (last + 1) (grid_state g given usable) → BesideUnits
      (λ x e. seen last x ≡ seen_in last_stage e) doc.rows.items (units_of g.rows)
  rows-last fits above = sees-last fits doc.rows.items g.rows (beside-more (λ x e q. q.0) units.rows) (below-suc g.rows above.rows)

  cols-last : last < 2 ^ 64 → IsAboveAll (last + 1) (grid_state g given usable) → BesideUnits
      (λ x e. seen last x ≡ seen_in last_stage e) doc.cols.items (units_of g.cols)
  cols-last fits above = sees-last fits doc.cols.items g.cols units.cols (below-suc g.cols above.cols)

  pub cells-shown : last < 2 ^ 64 → IsAboveAll (last + 1) (grid_state g given usable)
      → shown_cells g ≡ all_cells doc.cells stages (stage_view last doc.cols.items) 0 (stage_view last doc.rows.items)
  cells-shown fits above = sym (shown-meets (seen last) (rows-last fits above) (cols-last fits above))

  pub view-shown : last < 2 ^ 64 → IsAboveAll (last + 1) (grid_state g given usable) → (view : View) (r c : ℕ) (cells : List CellRec)
      → r ≡ len (seen_in last_stage) (units_of g.rows)
      → c ≡ len (seen_in last_stage) (units_of g.cols) → cells ≡ shown_cells g
      → record view { rows = r; cols = c; cells = cells } ≡ with_grid last doc stages view
  view-shown fits above view r c cells p q o =
      let rs = rows-last fits above in
      let cs = cols-last fits above in
      ap (λ n. record view { rows = n; cols = c; cells = cells }) (p ∙ rows-length (seen last) rs cs)
      ∙ ap (λ n. record view { rows = length (stage_view last doc.rows.items); cols = n; cells = cells }) (q ∙ cols-length (seen last) rs cs)
      ∙ ap (λ es. record view { rows = length (stage_view last doc.rows.items); cols = length (stage_view last doc.cols.items); cells = es })
      (o ∙ cells-shown fits above)
