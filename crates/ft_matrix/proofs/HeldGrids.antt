-- A grid beside a document whose part it holds: units at equal places, cells of units at equal places, stages that name such.
use Rattle.std.proofs.Common.{◌≡◌, ℕ, suc, ◌≤◌, Bool, true, false, cond, nat_eq, List, [], ◌∷◌, Option, Some, None, refl, sym, ◌∙◌, ap, subst, map, arith, append-nil}
use Rattle.std.specs.List.{AllByRecursion}
use Rattle.std.proofs.lemmas.Bool.Decides.{nat_tests}
use Rattle.std.proofs.lemmas.List.Elements.{recursion_from_All}
use Rattle.ft_base.specs.Scan.{len, one_more_if, rank}
use Rattle.ft_props.specs.Properties.{ValueBytes}
use Rattle.ft_props.specs.Element.{ElementId, ListElement, has_id, nameless, same_id}
use Rattle.ft_props.specs.Steps.{Sequence}
use Rattle.ft_op.specs.declared.operations.CellOp.{CellOp}
use Rattle.ft_op.specs.declared.operations.CellOp.TheVariants.{SpliceIn, SpliceOut, Set}
use Rattle.ft_op.specs.Operation.{OnGrid, OnIntervals, OnText, SubOperation}
use Rattle.ft_op.specs.Intervals.{NamedElements}
use Rattle.ft_op.specs.Cells.{Cell, cell_value}
use Rattle.ft_op.specs.Document.{Document}
use Rattle.ft_op.specs.Stages.{Stage}
use Rattle.ft_msg.specs.Client.{NaiveClient, client_over}
use Rattle.ft_msg.specs.Content.{all_cells}
use Rattle.ft_msg.specs.Indexed.{IndexedStage, indexed_stage, place_in_list}
use Rattle.ft_tree_leaves.specs.Elements.{TreeElement}
use Rattle.ft_perm.specs.Vectors.{IsProper, VectorState, in_use}
use Rattle.ft_cells.specs.CellTables.{CellList, cell_at}
use Rattle.ft_laws_agreement.proofs.SlidEnds.{Once, once-tail, true-false}
use Rattle.ft_laws_names.specs.WellNamed.{AreStagesNamed, AreThere, HasItsStages, IsUnused, IsWellNamed, IsWellNumbered, RiseTo, StandsIn, AreWellNamed}
use Rattle.ft_laws_names.proofs.Beside.{beside-len, beside-more, beside-rank, ends, next}
use Rattle.ft_laws_names.proofs.ClientsAlike.{ClientsAlike}
use Rattle.ft_laws_names.proofs.Indexing.{alike-itself, well-named}
use Rattle.ft_laws_names.proofs.ListSteps.{unused-other}
use Rattle.ft_laws_names.specs.GridFacts.{grid_stages}
use Rattle.ft_laws_names.proofs.Twins.{none-more}
use Rattle.ft_matrix.specs.declared.grid.Grid.{Grid}
use Rattle.ft_matrix.specs.declared.stages.GridStage.{GridStage}
use Rattle.ft_matrix.specs.Units.{acked_value, has_handle, place_of_handle, placed_cells, shown_unit, unit_value, units_of}
use Rattle.ft_matrix.specs.GridStates.{grid_state, shown_stage}
use Rattle.ft_matrix.specs.HoldsGrid.{HoldsGrid}
use Rattle.ft_matrix.proofs.Placed.{all-placed, placed-cells, shown_at, values-of}
use Rattle.ft_matrix.proofs.UnitLists.{BesideUnits, HandleNamed, IsUnit, units-beside}

-- ---- names that fit

-- a client with this document and these stages
abbrev pub client_of : ℕ → Document → List Stage → NaiveClient
client_of last doc stages = record (client_over doc) { last_stage = last; pending = record { stages = stages; ref_seq = 0; sent = None } ∷ [] }

pub client-named : (last : ℕ) (doc : Document) (stages : List Stage) → AreWellNamed last doc stages → IsWellNamed (client_of last doc stages)
client-named last doc stages h = record {
  text = h.text;
  rows = h.rows;
  cols = h.cols;
  intervals = h.intervals;
  cells = h.cells;
  stages = subst (λ ts. AreStagesNamed doc ts) (sym (append-nil stages)) h.stages;
  own = subst (λ ts. HasItsStages ts doc) (sym (append-nil stages)) h.own;
  rise = subst (λ ts. RiseTo 0 last ts) (sym (append-nil stages)) h.rise;
}

pub named-client : (last : ℕ) (doc : Document) (stages : List Stage) → IsWellNamed (client_of last doc stages) → AreWellNamed last doc stages
named-client last doc stages h = record {
  text = h.text;
  rows = h.rows;
  cols = h.cols;
  intervals = h.intervals;
  cells = h.cells;
  stages = subst (λ ts. AreStagesNamed doc ts) (append-nil stages) h.stages;
  own = subst (λ ts. HasItsStages ts doc) (append-nil stages) h.own;
  rise = subst (λ ts. RiseTo 0 last ts) (append-nil stages) h.rise;
}

-- such a client differs in names alone from itself
pub alike-self : (last : ℕ) (doc : Document) (stages : List Stage) → AreWellNamed last doc stages
    → ClientsAlike (client_of last doc stages) (client_of last doc stages)
alike-self last doc stages h = alike-itself (client_of last doc stages) (client-named last doc stages h)

pub self-alike : (last : ℕ) (doc : Document) (stages : List Stage) → ClientsAlike (client_of last doc stages) (client_of last doc stages)
    → AreWellNamed last doc stages
self-alike last doc stages h = named-client last doc stages (well-named (client_of last doc stages) (client_of last doc stages) h)

-- ---- the relation

-- the acknowledged value of the cell of two handles
abbrev pub handle_value : CellList → ℕ → ℕ → Option ValueBytes
handle_value cells row col = acked_value (cell_at cells row col)

-- a named row has the values of the row of a handle, in the columns at the same places
abbrev pub RowHolds : List ListElement → List (TreeElement ℕ) → List Cell → CellList → ElementId → ℕ → Type 0
RowHolds cols gs cells table a h = BesideUnits (HandleNamed (λ b g. cell_value a b cells ≡ handle_value table h g)) cols gs

-- the units of rows and columns, with their cells
pub record HoldsUnits (xs ys : List ListElement) (cells : List Cell) (es gs : List (TreeElement ℕ)) (table : CellList) : Type 0 where
  pub rows : BesideUnits (HandleNamed (RowHolds ys gs cells table)) xs es
  pub cols : BesideUnits IsUnit ys gs

-- from places
pub held-units : (last : ℕ) (doc : Document) (rows cols : VectorState) (table : CellList) → IsWellNumbered last doc.rows → IsWellNumbered last doc.cols
    → map nameless doc.rows.items ≡ map shown_unit (units_of rows) → map nameless doc.cols.items ≡ map shown_unit (units_of cols)
    → all_cells doc.cells [] doc.cols.items 0 doc.rows.items ≡ placed_cells (unit_value table) (units_of cols) 0 (units_of rows)
    → HoldsUnits doc.rows.items doc.cols.items doc.cells (units_of rows) (units_of cols) table
held-units last doc rows cols table r c e f g =
    let gs = units-beside doc.cols.items (units_of cols) c.removals f in
    record {
      rows = beside-more (λ x y q. (q.0, beside-more (λ u v s. (s.0, s.1)) q.1))
          (values-of (shown_at doc.cells []) (unit_value table) doc.cols.items (units_of cols) gs 0
          (units-beside doc.rows.items (units_of rows) r.removals e) (sym (all-placed doc.cells [] doc.cols.items 0 doc.rows.items) ∙ g));
      cols = gs;
    }

-- and back
pub units-held : (doc : Document) (rows cols : VectorState) (table : CellList)
    → HoldsUnits doc.rows.items doc.cols.items doc.cells (units_of rows) (units_of cols) table
    → all_cells doc.cells [] doc.cols.items 0 doc.rows.items ≡ placed_cells (unit_value table) (units_of cols) 0 (units_of rows)
units-held doc rows cols table h =
    all-placed doc.cells [] doc.cols.items 0 doc.rows.items
    ∙ placed-cells (shown_at doc.cells []) (unit_value table) doc.cols.items (units_of cols) 0
    (beside-more (λ x y q. beside-more (λ u v s. s.1) q.1) h.rows)

pub rows-beside : {rows cols : List ListElement} {cells : List Cell} {es gs : List (TreeElement ℕ)} {table : CellList}
    → HoldsUnits rows cols cells es gs table → BesideUnits IsUnit rows es
rows-beside h = beside-more (λ x y q. q.0) h.rows

-- ---- a named element and a handle at the same place

-- each handle stands once
abbrev pub HandlesOnce : List (TreeElement ℕ) → Type 0
HandlesOnce es = (h : ℕ) → len (λ e. nat_eq e.unit h) es ≤ 1

-- the element has the name just where the unit has the handle
abbrev pub MeetsAt : ElementId → ℕ → ElementId → ℕ → Type 0
MeetsAt a h b g = same_id a b ≡ nat_eq g h

pub handles-tail : (e : TreeElement ℕ) (es : List (TreeElement ℕ)) → HandlesOnce (e ∷ es) → HandlesOnce es
handles-tail e es o h = step (nat_eq e.unit h) (o h)
  where
    step : (b : Bool) → one_more_if b (len (λ (d : TreeElement ℕ). nat_eq d.unit h) es) ≤ 1 → len (λ (d : TreeElement ℕ). nat_eq d.unit h) es ≤ 1
    step true l = omega arith
    step false l = l

pub only-here : (b : Bool) (n : ℕ) → one_more_if b n ≤ 1 → b ≡ true → n ≡ 0
only-here true n l h = omega arith
only-here false n l h = (cc)

pub absent-both : (a : ElementId) (h : ℕ) {xs : List ListElement} {es : List (TreeElement ℕ)} → len (has_id a) xs ≡ 0 → len (λ e. nat_eq e.unit h) es ≡ 0
    → BesideUnits IsUnit xs es → BesideUnits (HandleNamed (MeetsAt a h)) xs es
absent-both a h p q ends = ends
absent-both a h p q (next {x = x} {y = e} {xs = xs} {ys = es} u us) =
    let i = none-more (has_id a x) (len (has_id a) xs) p in
    let j = none-more (nat_eq e.unit h) (len (λ (d : TreeElement ℕ). nat_eq d.unit h) es) q in
    next (u, i.0 ∙ sym j.0) (absent-both a h i.1 j.1 us)

-- equal places say so
pub meet-at : (a : ElementId) (h : ℕ) {xs : List ListElement} {es : List (TreeElement ℕ)} → Once xs → HandlesOnce es → BesideUnits IsUnit xs es
    → rank (has_id a) (λ _. true) xs ≡ rank (has_handle h) (λ _. true) es → BesideUnits (HandleNamed (MeetsAt a h)) xs es
meet-at a h o p ends r = ends
meet-at a h o p (next {x = x} {y = e} {xs = xs} {ys = es} u us) r =
    step (has_id a x) (nat_eq e.unit h) refl refl r (λ q. meet-at a h (once-tail x xs o) (handles-tail e es p) us q)
  where
    step : (i j : Bool) → has_id a x ≡ i → nat_eq e.unit h ≡ j
        → cond i 0 (suc (rank (has_id a) (λ _. true) xs)) ≡ cond j 0 (suc (rank (has_handle h) (λ _. true) es))
        → (rank (has_id a) (λ _. true) xs ≡ rank (has_handle h) (λ _. true) es → BesideUnits (HandleNamed (MeetsAt a h)) xs es)
        → BesideUnits (HandleNamed (MeetsAt a h)) (x ∷ xs) (e ∷ es)
    step true true c d q ih = next (u, c ∙ sym d) (absent-both a h (only-here (has_id a x) (len (has_id a) xs) (o a) c)
        (only-here (nat_eq e.unit h) (len (λ (d : TreeElement ℕ). nat_eq d.unit h) es) (p h) d) us)
    step false false c d q ih = next (u, c ∙ sym d) (ih (omega arith))
    step true false c d q ih = absurd (omega arith)
    step false true c d q ih = absurd (omega arith)

-- and are equal then
pub meets-rank : (a : ElementId) (h : ℕ) {xs : List ListElement} {es : List (TreeElement ℕ)} → BesideUnits (HandleNamed (MeetsAt a h)) xs es
    → rank (has_id a) (λ _. true) xs ≡ rank (has_handle h) (λ _. true) es
meets-rank a h m = beside-rank (has_id a) (has_handle h) (λ x e q. q.1) (λ _. true) (λ _. true) (λ x e q. refl) m

-- a handle that stands is in use
pub used-handle : (used : ℕ → Bool) (h : ℕ) (es : List (TreeElement ℕ)) → AllByRecursion (λ e. used e.unit ≡ true) es
    → 1 ≤ len (λ e. nat_eq e.unit h) es → used h ≡ true
used-handle used h [] u l = absurd (omega arith)
used-handle used h (e ∷ es) u l = step (nat_eq e.unit h) refl l (λ g. used-handle used h es u.1 g)
  where
    step : (b : Bool) → nat_eq e.unit h ≡ b → 1 ≤ one_more_if b (len (λ (d : TreeElement ℕ). nat_eq d.unit h) es)
        → (1 ≤ len (λ (d : TreeElement ℕ). nat_eq d.unit h) es → used h ≡ true) → used h ≡ true
    step true c g ih = let same : e.unit ≡ h = grind (arith, nat_tests) in ap used (sym same) ∙ u.0
    step false c g ih = ih g

pub handle-used : (v : VectorState) → IsProper v → (a : ElementId) (h : ℕ) {xs : List ListElement} → BesideUnits (HandleNamed (MeetsAt a h)) xs (units_of v)
    → 1 ≤ len (has_id a) xs → in_use v h ≡ true
handle-used v p a h m there =
    used-handle (in_use v) h (units_of v) (recursion_from_All (λ (e : TreeElement ℕ). in_use v e.unit ≡ true) (units_of v) p.used)
    (subst (λ n. 1 ≤ n) (beside-len (has_id a) (has_handle h) (λ x e q. q.1) m) there)

-- ---- a step of one list

-- what held of name and handle at each place still holds, where it holds of new names and of handles that weren't in use
pub record UnitStep (last made : ℕ) (v : VectorState) (xs ys : List ListElement) (es gs : List (TreeElement ℕ)) : Type 1 where
  pub carries : (P : ElementId → ℕ → Type 0) → ((a : ElementId) (h : ℕ) → IsUnused made last a → in_use v h ≡ false → P a h)
      → BesideUnits (HandleNamed P) xs es → BesideUnits (HandleNamed P) ys gs

pub same-units : (last made : ℕ) (v : VectorState) (xs : List ListElement) (es : List (TreeElement ℕ)) → UnitStep last made v xs xs es es
same-units last made v xs es = record { carries = λ P f h. h }

pub step-units : (last made : ℕ) (v : VectorState) (xs ys : List ListElement) (es gs : List (TreeElement ℕ)) → UnitStep last made v xs ys es gs
    → BesideUnits IsUnit xs es → BesideUnits IsUnit ys gs
step-units last made v xs ys es gs s h = beside-more (λ x e q. q.0) (s.carries (λ a g. Unit {0}) (λ a g u n. tt) (beside-more (λ x e q. (q, tt)) h))

pub other-handle : (used : ℕ → Bool) (h g : ℕ) → used h ≡ true → used g ≡ false → nat_eq g h ≡ false
other-handle used h g u n = step (nat_eq g h) refl
  where
    step : (b : Bool) → nat_eq g h ≡ b → b ≡ false
    step false e = refl
    step true e = let same : g ≡ h = grind (arith, nat_tests) in absurd (true-false (sym u ∙ ap used (sym same) ∙ n))

-- a name and a handle that stand at the same place go on doing so
abbrev pub Moves : List ListElement → List (TreeElement ℕ) → List ListElement → List (TreeElement ℕ) → Type 0
Moves xs es ys gs = (a : ElementId) (h : ℕ) → 1 ≤ len (has_id a) xs → rank (has_id a) (λ _. true) xs ≡ rank (has_handle h) (λ _. true) es
    → rank (has_id a) (λ _. true) ys ≡ rank (has_handle h) (λ _. true) gs

pub step-moves : (last : ℕ) (list : Sequence) (v w : VectorState) (ys : List ListElement) → IsWellNumbered last list → IsProper v
    → BesideUnits IsUnit list.items (units_of v) → UnitStep last list.made v list.items ys (units_of v) (units_of w)
    → Moves list.items (units_of v) ys (units_of w)
step-moves last list v w ys n p b s a h there r =
    let m = meet-at a h n.once p.once b r in
    let used = handle-used v p a h m there in
    meets-rank a h (s.carries (MeetsAt a h) (λ c g u f. unused-other last list a c n there u ∙ sym (other-handle (in_use v) h g used f)) m)

-- ---- stages

pub none-placed : (v : VectorState) (o : Option ℕ) → None ≡ place_of_handle v o → o ≡ None
none-placed v None e = refl
none-placed v (Some h) e = (cc)

pub some-rank : {i j : ℕ} → Some i ≡ Some j → i ≡ j
some-rank e = (cc)

end-moves : (xs ys : List ListElement) (v w : VectorState) → Moves xs (units_of v) ys (units_of w) → (o : Option ElementId) (p : Option ℕ) → StandsIn xs o
    → place_in_list xs o ≡ place_of_handle v p → place_in_list ys o ≡ place_of_handle w p
end-moves xs ys v w m None None t e = refl
end-moves xs ys v w m None (Some h) t e = (cc)
end-moves xs ys v w m (Some a) None t e = (cc)
end-moves xs ys v w m (Some a) (Some h) t e = ap Some (m a h t (some-rank e))

pub there-names : (doc : Document) (op : CellOp) (n : NamedElements) → AreThere doc (OnGrid op) n
    → StandsIn doc.rows.items n.first × StandsIn doc.cols.items n.second
there-names doc (SpliceIn target i count) n h = subst (λ m. StandsIn doc.rows.items m.first × StandsIn doc.cols.items m.second) (sym h) (tt, tt)
there-names doc (SpliceOut target i j) n h = subst (λ m. StandsIn doc.rows.items m.first × StandsIn doc.cols.items m.second) (sym h) (tt, tt)
there-names doc (Set i j value) n h = h

module _ (doc later : Document) (rows cols rows' cols' : VectorState) (r : Moves doc.rows.items (units_of rows) later.rows.items (units_of rows'))
    (c : Moves doc.cols.items (units_of cols) later.cols.items (units_of cols')) where
  one-moves : (k : ℕ) (op : CellOp) (n : NamedElements) (u : GridStage) → AreThere doc (OnGrid op) n
      → indexed_stage doc (record { stage = k; sub_operation = OnGrid op; names = n }) ≡ shown_stage rows cols u
      → indexed_stage later (record { stage = k; sub_operation = OnGrid op; names = n }) ≡ shown_stage rows' cols' u
  one-moves k op n u t e =
      let th = there-names doc op n t in
      let first = end-moves doc.rows.items later.rows.items rows rows' r n.first u.row th.0 (ap (λ (s : IndexedStage). s.places.first) e) in
      let second = end-moves doc.cols.items later.cols.items cols cols' c n.second u.col th.1 (ap (λ (s : IndexedStage). s.places.second) e) in
      ap (λ i. record { stage = i; sub_operation = OnGrid op; places = record { first = place_in_list later.rows.items n.first; second = place_in_list later.cols.items n.second } })
      (ap (λ (s : IndexedStage). s.stage) e)
      ∙ ap (λ o. record { stage = u.stage; sub_operation = o; places = record { first = place_in_list later.rows.items n.first; second = place_in_list later.cols.items n.second } })
      (ap (λ (s : IndexedStage). s.sub_operation) e)
      ∙ ap (λ p. record { stage = u.stage; sub_operation = OnGrid u.op; places = record { first = p; second = place_in_list later.cols.items n.second } }) first
      ∙ ap (λ p. record { stage = u.stage; sub_operation = OnGrid u.op; places = record { first = place_of_handle rows' u.row; second = p } }) second

  -- the stages name units at the same places as before
  pub stages-move : (stages : List Stage) (us : List GridStage) → AreStagesNamed doc stages → grid_stages doc stages ≡ map (shown_stage rows cols) us
      → grid_stages later stages ≡ map (shown_stage rows' cols') us
  stages-move [] [] n e = refl
  stages-move [] (u ∷ us) n e = (cc)
  stages-move (t ∷ stages) us n e = step t.stage t.sub_operation t.names us n.0.0 e (λ vs g. stages-move stages vs n.1 g)
    where
      step : (k : ℕ) (o : SubOperation) (names : NamedElements) (vs : List GridStage) → AreThere doc o names
          → grid_stages doc (record { stage = k; sub_operation = o; names = names } ∷ stages) ≡ map (shown_stage rows cols) vs
          → ((ws : List GridStage) → grid_stages doc stages ≡ map (shown_stage rows cols) ws → grid_stages later stages ≡ map (shown_stage rows' cols') ws)
          → grid_stages later (record { stage = k; sub_operation = o; names = names } ∷ stages) ≡ map (shown_stage rows' cols') vs
      step k (OnText op) names vs th g ih = ih vs g
      step k (OnIntervals op) names vs th g ih = ih vs g
      step k (OnGrid op) names [] th g ih = (cc)
      step k (OnGrid op) names (v ∷ vs) th g ih =
          let here : indexed_stage doc (record { stage = k; sub_operation = OnGrid op; names = names }) ≡ shown_stage rows cols v = (cc) in
          let rest : grid_stages doc stages ≡ map (shown_stage rows cols) vs = (cc) in
          ap (λ s. s ∷ grid_stages later stages) (one-moves k op names v th here) ∙ ap (λ ss. shown_stage rows' cols' v ∷ ss) (ih vs rest)

-- ---- the given stage and use are no part of it

pub restate : (g : Grid) (n m : ℕ) (b c : Bool) (doc : Document) (stages : List Stage) → HoldsGrid (grid_state g n b) doc stages
    → HoldsGrid (grid_state g m c) doc stages
restate g n m b c doc stages h = record {
  rows = h.rows;
  cols = h.cols;
  rows_made = h.rows_made;
  cols_made = h.cols_made;
  cells = h.cells;
  stages = h.stages;
}
