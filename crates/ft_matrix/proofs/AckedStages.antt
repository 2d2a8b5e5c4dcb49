-- A grid and a document whose part it holds take the acknowledgement of the lowest pending stage alike.
use Rattle.std.proofs.Common.{◌≡◌, ℕ, ◌+◌, ◌≤◌, ◌<◌, Bool, true, false, cond, ◌&&◌, nat_eq, List, [], ◌∷◌, ◌++◌, Option, Some, None, refl, sym, ◌∙◌, ap, subst, map, arith}
use Rattle.std.specs.List.{AllByRecursion}
use Rattle.std.specs.Map.{lookup}
use Rattle.std.specs.Option.{option_and_then, option_or}
use Rattle.std.proofs.lemmas.Bool.Decides.{nat_tests}
use Rattle.ft_base.specs.Scan.{len, rank}
use Rattle.ft_op.specs.declared.operations.CellOp.{CellOp}
use Rattle.ft_op.specs.declared.operations.CellOp.TheVariants.{SpliceIn, SpliceOut, Set}
use Rattle.ft_op.specs.declared.operations.Target.TheVariants.{Rows, Cols}
use Rattle.ft_props.specs.Properties.{ValueBytes}
use Rattle.ft_props.specs.Element.{ElementId, ListElement, PendingId, SequencedId, has_id, same_id}
use Rattle.ft_props.specs.Steps.{Sequence, acked_id, acked_list, is_inserted_by}
use Rattle.ft_op.specs.Operation.{OnGrid, OnIntervals, OnText, SubOperation}
use Rattle.ft_op.specs.Intervals.{NamedElements}
use Rattle.ft_op.specs.Cells.{Cell, cell_value, write_cell}
use Rattle.ft_op.specs.Document.{Document, with_slid_ends}
use Rattle.ft_op.specs.Stages.{Stage, intervals_after_stage}
use Rattle.ft_msg.specs.Acknowledgement.{cells_after_stage, made_before, renamed, renamed_names, renamed_stage, write_named_cell}
use Rattle.ft_msg.specs.Content.{value_unless_null}
use Rattle.ft_msg.specs.Indexed.{IndexedStage, indexed_stage, place_in_list}
use Rattle.ft_tree_leaves.specs.Elements as tree
use Rattle.ft_tree_leaves.specs.Elements.{TreeElement}
use Rattle.ft_perm.specs.Vectors.{VectorState}
use Rattle.ft_cells.specs.CellTables.{CellList, CellState, acked_write, cell_at, unless_null}
use Rattle.ft_laws_agreement.proofs.CellValues.{value-write}
use Rattle.ft_laws_names.specs.WellNamed.{AreNamedBefore, AreStagesNamed, AreThere, ArePutIn, HasNoCellsAhead, IsNamedBefore, IsWellNumbered, RiseTo, StandsIn, inserts_cols, inserts_rows}
use Rattle.ft_laws_names.proofs.AckedLists.{IsBelow, same-acked, stands-below, unstaged}
use Rattle.ft_laws_names.proofs.Beside.{beside-both, beside-more}
use Rattle.ft_laws_names.proofs.DocumentsAlike.{same_id-turn}
use Rattle.ft_laws_names.proofs.OwnAlike.{not-own, stages-apart}
use Rattle.ft_laws_names.specs.GridFacts.{IsCounted, grid_stages}
use Rattle.ft_matrix.specs.declared.grid.Grid.{Grid}
use Rattle.ft_matrix.specs.declared.stages.GridStage.{GridStage}
use Rattle.ft_matrix.specs.Acked.{AcksStage, acked_stage, after_stage, cols_put, cols_put_by, rows_put, rows_put_by}
use Rattle.ft_matrix.specs.Applied.{Holds}
use Rattle.ft_matrix.specs.GridStates.{grid_state, shown_stage}
use Rattle.ft_matrix.specs.HoldsGrid.{HoldsGrid}
use Rattle.ft_matrix.specs.Sound.{IsSound, StagesRise, is_handle, write_of, writes_to}
use Rattle.ft_matrix.specs.Units.{acked_value, has_handle, place_of_handle, units_of}
use Rattle.ft_matrix.proofs.AckedUnits.{below, meets-acked, units-acked}
use Rattle.ft_matrix.proofs.Effects.{units}
use Rattle.ft_matrix.proofs.HeldGrids.{HoldsUnits, MeetsAt, RowHolds, handle_value, meet-at, none-placed, rows-beside, some-rank, there-names, units-held}
use Rattle.ft_matrix.proofs.UnitLists.{BesideUnits, HandleNamed, beside-units}
use Rattle.ft_matrix.proofs.Writes.{same-number}

-- ---- how many units a stage puts in, and what it names

-- how many rows and columns a sub-operation puts in
abbrev rows_put_of : SubOperation → ℕ
rows_put_of (OnGrid op) = rows_put op
rows_put_of _ = 0

abbrev cols_put_of : SubOperation → ℕ
cols_put_of (OnGrid op) = cols_put op
cols_put_of _ = 0

rows-counted : (doc : Document) (k : ℕ) (o : SubOperation) → IsCounted doc k o → (inserts_rows o ≡ false → len (is_inserted_by k) doc.rows.items ≡ 0)
    → len (is_inserted_by k) doc.rows.items ≡ rows_put_of o
rows-counted doc k (OnText op) g z = z refl
rows-counted doc k (OnIntervals op) g z = z refl
rows-counted doc k (OnGrid (SpliceIn Rows i count)) g z = g
rows-counted doc k (OnGrid (SpliceIn Cols i count)) g z = z refl
rows-counted doc k (OnGrid (SpliceOut target i j)) g z = z refl
rows-counted doc k (OnGrid (Set i j value)) g z = z refl

cols-counted : (doc : Document) (k : ℕ) (o : SubOperation) → IsCounted doc k o → (inserts_cols o ≡ false → len (is_inserted_by k) doc.cols.items ≡ 0)
    → len (is_inserted_by k) doc.cols.items ≡ cols_put_of o
cols-counted doc k (OnText op) g z = z refl
cols-counted doc k (OnIntervals op) g z = z refl
cols-counted doc k (OnGrid (SpliceIn Rows i count)) g z = z refl
cols-counted doc k (OnGrid (SpliceIn Cols i count)) g z = g
cols-counted doc k (OnGrid (SpliceOut target i j)) g z = z refl
cols-counted doc k (OnGrid (Set i j value)) g z = z refl

-- the name as its list renames it
list-name : (last k m : ℕ) (list : Sequence) (a : ElementId) → IsWellNumbered last list → 1 ≤ len (has_id a) list.items → len (is_inserted_by k) list.items ≡ 0
    → acked_id k list.made a ≡ acked_id k m a
list-name last k m list a w l z = unstaged last k list.made list a w z l ∙ sym (unstaged last k m list a w z l)

rows-name : (last k : ℕ) (doc : Document) (o : SubOperation) → IsWellNumbered last doc.rows
    → (inserts_rows o ≡ false → len (is_inserted_by k) doc.rows.items ≡ 0)
    → (a : ElementId) → 1 ≤ len (has_id a) doc.rows.items → acked_id k doc.rows.made a ≡ acked_id k (made_before doc o) a
rows-name last k doc (OnText op) w z a l = list-name last k _ doc.rows a w l (z refl)
rows-name last k doc (OnIntervals op) w z a l = list-name last k _ doc.rows a w l (z refl)
rows-name last k doc (OnGrid (SpliceIn Rows i count)) w z a l = refl
rows-name last k doc (OnGrid (SpliceIn Cols i count)) w z a l = list-name last k _ doc.rows a w l (z refl)
rows-name last k doc (OnGrid (SpliceOut target i j)) w z a l = list-name last k _ doc.rows a w l (z refl)
rows-name last k doc (OnGrid (Set i j value)) w z a l = list-name last k _ doc.rows a w l (z refl)

cols-name : (last k : ℕ) (doc : Document) (o : SubOperation) → IsWellNumbered last doc.cols
    → (inserts_cols o ≡ false → len (is_inserted_by k) doc.cols.items ≡ 0)
    → (a : ElementId) → 1 ≤ len (has_id a) doc.cols.items → acked_id k doc.cols.made a ≡ acked_id k (made_before doc o) a
cols-name last k doc (OnText op) w z a l = list-name last k _ doc.cols a w l (z refl)
cols-name last k doc (OnIntervals op) w z a l = list-name last k _ doc.cols a w l (z refl)
cols-name last k doc (OnGrid (SpliceIn Rows i count)) w z a l = list-name last k _ doc.cols a w l (z refl)
cols-name last k doc (OnGrid (SpliceIn Cols i count)) w z a l = refl
cols-name last k doc (OnGrid (SpliceOut target i j)) w z a l = list-name last k _ doc.cols a w l (z refl)
cols-name last k doc (OnGrid (Set i j value)) w z a l = list-name last k _ doc.cols a w l (z refl)

-- ---- the stage at the front

higher-stage : (n m k low : ℕ) → n ≡ m → k ≤ low → low < m → nat_eq n k ≡ false
higher-stage n m k low e l g = let h : k < n = omega arith in grind (arith, nat_tests)

-- the stages of the grid are all above k
pub later-front : (last k low : ℕ) (doc : Document) (rows cols : VectorState) (us : List Stage) → k ≤ low → RiseTo low last us → (items : List GridStage)
    → grid_stages doc us ≡ map (shown_stage rows cols) items → (acked_stage k items ≡ None) × (after_stage k items ≡ items)
later-front last k low doc rows cols [] l r [] e = (refl, refl)
later-front last k low doc rows cols [] l r (v ∷ vs) e = (cc)
later-front last k low doc rows cols (t ∷ us) l r items e =
    step t.stage t.sub_operation t.names items r.0 e (λ vs g. later-front last k t.stage doc rows cols us (omega arith) r.1 vs g)
  where
    step : (j : ℕ) (o : SubOperation) (names : NamedElements) (vs : List GridStage) → low < j
        → grid_stages doc (record { stage = j; sub_operation = o; names = names } ∷ us) ≡ map (shown_stage rows cols) vs
        → ((ws : List GridStage) → grid_stages doc us ≡ map (shown_stage rows cols) ws → (acked_stage k ws ≡ None) × (after_stage k ws ≡ ws))
        → (acked_stage k vs ≡ None) × (after_stage k vs ≡ vs)
    step j (OnText op) names vs a g ih = ih vs g
    step j (OnIntervals op) names vs a g ih = ih vs g
    step j (OnGrid op) names [] a g ih = (cc)
    step j (OnGrid op) names (v ∷ vs) a g ih =
        let here : indexed_stage doc (record { stage = j; sub_operation = OnGrid op; names = names }) ≡ shown_stage rows cols v = (cc) in
        let other = higher-stage v.stage j k low (sym (ap (λ (s : IndexedStage). s.stage) here)) l a in
        (ap (λ b. cond b (Some v) None) other, ap (λ b. cond b vs (v ∷ vs)) other)

-- the first stage of the grid, where it is the stage k
record Front (k : ℕ) (o : SubOperation) (n : NamedElements) (doc : Document) (us : List Stage) (rows cols : VectorState) (items : List GridStage) : Type 0 where
  rest : grid_stages doc us ≡ map (shown_stage rows cols) (after_stage k items)
  rows_put : rows_put_by (acked_stage k items) ≡ rows_put_of o
  cols_put : cols_put_by (acked_stage k items) ≡ cols_put_of o

same-operation : {o p : CellOp} → OnGrid o ≡ OnGrid p → o ≡ p
same-operation e = cc e

front : (last k : ℕ) (o : SubOperation) (n : NamedElements) (doc : Document) (us : List Stage) (rows cols : VectorState)
    (items : List GridStage) → RiseTo k last us
    → grid_stages doc (record { stage = k; sub_operation = o; names = n } ∷ us) ≡ map (shown_stage rows cols) items → Front k o n doc us rows cols items
front last k (OnText op) n doc us rows cols items r e =
    let f = later-front last k k doc rows cols us (omega arith) r items e in
    record { rest = e ∙ ap (map (shown_stage rows cols)) (sym f.1); rows_put = ap rows_put_by f.0; cols_put = ap cols_put_by f.0 }
front last k (OnIntervals op) n doc us rows cols items r e =
    let f = later-front last k k doc rows cols us (omega arith) r items e in
    record { rest = e ∙ ap (map (shown_stage rows cols)) (sym f.1); rows_put = ap rows_put_by f.0; cols_put = ap cols_put_by f.0 }
front last k (OnGrid op) n doc us rows cols [] r e = (cc)
front last k (OnGrid op) n doc us rows cols (v ∷ vs) r e =
    let here : indexed_stage doc (record { stage = k; sub_operation = OnGrid op; names = n }) ≡ shown_stage rows cols v = (cc) in
    let after : grid_stages doc us ≡ map (shown_stage rows cols) vs = (cc) in
    let number : nat_eq v.stage k ≡ true = ap (λ i. nat_eq i k) (sym (ap (λ (s : IndexedStage). s.stage) here)) ∙ same-number k in
    let operation : op ≡ v.op = same-operation (ap (λ (s : IndexedStage). s.sub_operation) here) in
    record {
      rest = after ∙ ap (λ b. map (shown_stage rows cols) (cond b vs (v ∷ vs))) (sym number);
      rows_put = ap (λ b. rows_put_by (cond b (Some v) None)) number ∙ ap rows_put (sym operation);
      cols_put = ap (λ b. cols_put_by (cond b (Some v) None)) number ∙ ap cols_put (sym operation);
    }

-- ---- renamed stages at the same places

-- a name and a handle at the same place, the name renamed
abbrev Renames : (ElementId → ElementId) → List ListElement → List (TreeElement ℕ) → List ListElement → List (TreeElement ℕ) → Type 0
Renames f xs es ys gs = (a : ElementId) (h : ℕ) → 1 ≤ len (has_id a) xs → rank (has_id a) (λ _. true) xs ≡ rank (has_handle h) (λ _. true) es
    → rank (has_id (f a)) (λ _. true) ys ≡ rank (has_handle h) (λ _. true) gs

end-renamed : (f : ElementId → ElementId) (xs ys : List ListElement) (v w : VectorState) → Renames f xs (units_of v) ys (units_of w)
    → (o : Option ElementId) (p : Option ℕ)
    → StandsIn xs o → place_in_list xs o ≡ place_of_handle v p → place_in_list ys (renamed f o) ≡ place_of_handle w p
end-renamed f xs ys v w m None None t e = refl
end-renamed f xs ys v w m None (Some h) t e = (cc)
end-renamed f xs ys v w m (Some a) None t e = (cc)
end-renamed f xs ys v w m (Some a) (Some h) t e = ap Some (m a h t (some-rank e))

module _ (f : ElementId → ElementId) (doc later : Document) (rows cols rows' cols' : VectorState) (r : Renames f doc.rows.items (units_of rows) later.rows.items (units_of rows'))
    (c : Renames f doc.cols.items (units_of cols) later.cols.items (units_of cols')) where
  one-renamed : (k : ℕ) (op : CellOp) (n : NamedElements) (u : GridStage) → AreThere doc (OnGrid op) n
      → indexed_stage doc (record { stage = k; sub_operation = OnGrid op; names = n }) ≡ shown_stage rows cols u
      → indexed_stage later (record { stage = k; sub_operation = OnGrid op; names = renamed_names f n }) ≡ shown_stage rows' cols' u
  one-renamed k op n u t e =
      let th = there-names doc op n t in
      let first = end-renamed f doc.rows.items later.rows.items rows rows' r n.first u.row th.0 (ap (λ (s : IndexedStage). s.places.first) e) in
      let second = end-renamed f doc.cols.items later.cols.items cols cols' c n.second u.col th.1 (ap (λ (s : IndexedStage). s.places.second) e) in
      ap (λ i. record {
        stage = i;
        sub_operation = OnGrid op;
        places = record { first = place_in_list later.rows.items (renamed f n.first); second = place_in_list later.cols.items (renamed f n.second) };
      }) (ap (λ (s : IndexedStage). s.stage) e)
      ∙ ap (λ o. record {
        stage = u.stage;
        sub_operation = o;
        places = record { first = place_in_list later.rows.items (renamed f n.first); second = place_in_list later.cols.items (renamed f n.second) };
      }) (ap (λ (s : IndexedStage). s.sub_operation) e)
      ∙ ap (λ p. record { stage = u.stage; sub_operation = OnGrid u.op; places = record { first = p; second = place_in_list later.cols.items (renamed f n.second) } }) first
      ∙ ap (λ p. record { stage = u.stage; sub_operation = OnGrid u.op; places = record { first = place_of_handle rows' u.row; second = p } }) second

  pub stages-renamed : (stages : List Stage) (us : List GridStage) → AreStagesNamed doc stages → grid_stages doc stages ≡ map (shown_stage rows cols) us
      → grid_stages later (map (renamed_stage f) stages) ≡ map (shown_stage rows' cols') us
  stages-renamed [] [] n e = refl
  stages-renamed [] (u ∷ us) n e = (cc)
  stages-renamed (t ∷ stages) us n e = step t.stage t.sub_operation t.names us n.0.0 e (λ vs g. stages-renamed stages vs n.1 g)
    where
      step : (k : ℕ) (o : SubOperation) (names : NamedElements) (vs : List GridStage) → AreThere doc o names
          → grid_stages doc (record { stage = k; sub_operation = o; names = names } ∷ stages) ≡ map (shown_stage rows cols) vs
          → ((ws : List GridStage) → grid_stages doc stages ≡ map (shown_stage rows cols) ws
          → grid_stages later (map (renamed_stage f) stages) ≡ map (shown_stage rows' cols') ws)
          → grid_stages later (record { stage = k; sub_operation = o; names = renamed_names f names } ∷ map (renamed_stage f) stages)
          ≡ map (shown_stage rows' cols') vs
      step k (OnText op) names vs th g ih = ih vs g
      step k (OnIntervals op) names vs th g ih = ih vs g
      step k (OnGrid op) names [] th g ih = (cc)
      step k (OnGrid op) names (v ∷ vs) th g ih =
          let here : indexed_stage doc (record { stage = k; sub_operation = OnGrid op; names = names }) ≡ shown_stage rows cols v = (cc) in
          let rest : grid_stages doc stages ≡ map (shown_stage rows cols) vs = (cc) in
          ap (λ s. s ∷ grid_stages later (map (renamed_stage f) stages)) (one-renamed k op names v th here) ∙ ap (λ ss. shown_stage rows' cols' v ∷ ss) (ih vs rest)

-- ---- cells

written-first : (k n : ℕ) (value : ValueBytes) (b : Bool) (ws : List (ℕ × ValueBytes)) → nat_eq n k ≡ true
    → lookup (λ j. nat_eq j k) (cond b ((n, value) ∷ []) [] ++ ws) ≡ cond b (Some value) (lookup (λ j. nat_eq j k) ws)
written-first k n value true ws e = ap (λ c. cond c (Some value) (lookup (λ j. nat_eq j k) ws)) e
written-first k n value false ws e = refl

written-other : (k n : ℕ) (value : ValueBytes) (b : Bool) (ws : List (ℕ × ValueBytes)) → nat_eq n k ≡ false
    → lookup (λ j. nat_eq j k) (cond b ((n, value) ∷ []) [] ++ ws) ≡ lookup (λ j. nat_eq j k) ws
written-other k n value true ws e = ap (λ c. cond c (Some value) (lookup (λ j. nat_eq j k) ws)) e
written-other k n value false ws e = refl

-- what an operation that names these handles writes to a cell
abbrev written_op : ℕ → ℕ → Option ℕ → Option ℕ → CellOp → Option ValueBytes
written_op h g row col (Set i j value) = cond (is_handle h row && is_handle g col) (Some value) None
written_op h g row col _ = None

-- what a stage writes to a cell, if there is one
abbrev pub written_by : ℕ → ℕ → Option GridStage → Option ValueBytes
written_by h g None = None
written_by h g (Some t) = written_op h g t.row t.col t.op

module _ (h g k : ℕ) where
  other-lookup : (t : GridStage) (ws : List (ℕ × ValueBytes)) → nat_eq t.stage k ≡ false
      → lookup (λ j. nat_eq j k) (write_of h g t ++ ws) ≡ lookup (λ j. nat_eq j k) ws
  other-lookup t ws e = by t.op
    where
      by : (op : CellOp) → lookup (λ j. nat_eq j k) (write_of h g (record t { op = op }) ++ ws) ≡ lookup (λ j. nat_eq j k) ws
      by (SpliceIn list p count) = refl
      by (SpliceOut list p q) = refl
      by (Set i j value) = written-other k t.stage value (is_handle h t.row && is_handle g t.col) ws e

  first-lookup : (t : GridStage) (ws : List (ℕ × ValueBytes)) → nat_eq t.stage k ≡ true → lookup (λ j. nat_eq j k) ws ≡ None
      → lookup (λ j. nat_eq j k) (write_of h g t ++ ws) ≡ written_op h g t.row t.col t.op
  first-lookup t ws e n = by t.op
    where
      by : (op : CellOp) → lookup (λ j. nat_eq j k) (write_of h g (record t { op = op }) ++ ws) ≡ written_op h g t.row t.col op
      by (SpliceIn list p count) = n
      by (SpliceOut list p q) = n
      by (Set i j value) = written-first k t.stage value (is_handle h t.row && is_handle g t.col) ws e ∙ ap (cond (is_handle h t.row && is_handle g t.col) (Some value)) n

  later-lookup : (low : ℕ) (stages : List GridStage) → k ≤ low → StagesRise low stages → lookup (λ j. nat_eq j k) (writes_to h g stages) ≡ None
  later-lookup low [] l r = refl
  later-lookup low (t ∷ stages) l r =
      other-lookup t (writes_to h g stages) (higher-stage t.stage t.stage k low refl l r.0) ∙ later-lookup t.stage stages (omega arith) r.1

  pub front-lookup : (stages : List GridStage) → AllByRecursion (λ (t : GridStage). k ≤ t.stage) stages → StagesRise 0 stages
      → lookup (λ j. nat_eq j k) (writes_to h g stages) ≡ written_by h g (acked_stage k stages)
  front-lookup [] a r = refl
  front-lookup (t ∷ stages) a r = step (nat_eq t.stage k) refl
    where
      step : (b : Bool) → nat_eq t.stage k ≡ b → lookup (λ j. nat_eq j k) (write_of h g t ++ writes_to h g stages) ≡ written_by h g (cond b (Some t) None)
      step true e = first-lookup t (writes_to h g stages) e (later-lookup t.stage stages a.0 r.1)
      step false e = other-lookup t (writes_to h g stages) e ∙ later-lookup t.stage stages a.0 r.1

-- the write of the first stage
abbrev FrontWrites : SubOperation → NamedElements → Document → VectorState → VectorState → Option GridStage → Type 0
FrontWrites (OnGrid (Set i j value)) n doc rows cols t = (v : GridStage) × ((t ≡ Some v) × ((v.op ≡ Set i j value)
    × ((place_in_list doc.rows.items n.first ≡ place_of_handle rows v.row) × (place_in_list doc.cols.items n.second ≡ place_of_handle cols v.col))))
FrontWrites _ n doc rows cols t = (h g : ℕ) → written_by h g t ≡ None

front-op : (k : ℕ) (op : CellOp) (n : NamedElements) (doc : Document) (rows cols : VectorState) (v : GridStage)
    → indexed_stage doc (record { stage = k; sub_operation = OnGrid op; names = n }) ≡ shown_stage rows cols v
    → FrontWrites (OnGrid op) n doc rows cols (Some v)
front-op k (SpliceIn list p count) n doc rows cols v e = λ h g. ap (written_op h g v.row v.col) (sym (same-operation (ap (λ (s : IndexedStage). s.sub_operation) e)))
front-op k (SpliceOut list p q) n doc rows cols v e = λ h g. ap (written_op h g v.row v.col) (sym (same-operation (ap (λ (s : IndexedStage). s.sub_operation) e)))
front-op k (Set i j value) n doc rows cols v e = (
  v,
  (
    refl,
    (
      sym (same-operation (ap (λ (s : IndexedStage). s.sub_operation) e)),
      (ap (λ (s : IndexedStage). s.places.first) e, ap (λ (s : IndexedStage). s.places.second) e),
    ),
  ),
)

front-writes : (last k : ℕ) (o : SubOperation) (n : NamedElements) (doc : Document) (us : List Stage) (rows cols : VectorState)
    (items : List GridStage) → RiseTo k last us
    → grid_stages doc (record { stage = k; sub_operation = o; names = n } ∷ us) ≡ map (shown_stage rows cols) items
    → FrontWrites o n doc rows cols (acked_stage k items)
front-writes last k (OnText op) n doc us rows cols items r e = λ h g. ap (written_by h g) (later-front last k k doc rows cols us (omega arith) r items e).0
front-writes last k (OnIntervals op) n doc us rows cols items r e = λ h g. ap (written_by h g) (later-front last k k doc rows cols us (omega arith) r items e).0
front-writes last k (OnGrid op) n doc us rows cols [] r e = (cc)
front-writes last k (OnGrid op) n doc us rows cols (v ∷ vs) r e =
    let here : indexed_stage doc (record { stage = k; sub_operation = OnGrid op; names = n }) ≡ shown_stage rows cols v = (cc) in
    let number : nat_eq v.stage k ≡ true = ap (λ i. nat_eq i k) (sym (ap (λ (s : IndexedStage). s.stage) here)) ∙ same-number k in
    subst (λ b. FrontWrites (OnGrid op) n doc rows cols (cond b (Some v) None)) (sym number) (front-op k op n doc rows cols v here)

row-value : (k : ℕ) (doc : Document) → HasNoCellsAhead doc → (i col : ElementId)
    → cell_value (acked_id k doc.rows.made i) col doc.cells ≡ cell_value i col doc.cells
row-value k doc n (SequencedId m) col = refl
row-value k doc n (PendingId j m) col = step (nat_eq j k)
  where
    step : (b : Bool) → cell_value (cond b (SequencedId (doc.rows.made + m)) (PendingId j m)) col doc.cells ≡ cell_value (PendingId j m) col doc.cells
    step true = n.rows (SequencedId (doc.rows.made + m)) col (omega arith) ∙ sym (n.rows (PendingId j m) col tt)
    step false = refl

col-value : (k : ℕ) (doc : Document) → HasNoCellsAhead doc → (row i : ElementId)
    → cell_value row (acked_id k doc.cols.made i) doc.cells ≡ cell_value row i doc.cells
col-value k doc n row (SequencedId m) = refl
col-value k doc n row (PendingId j m) = step (nat_eq j k)
  where
    step : (b : Bool) → cell_value row (cond b (SequencedId (doc.cols.made + m)) (PendingId j m)) doc.cells ≡ cell_value row (PendingId j m) doc.cells
    step true = n.cols row (SequencedId (doc.cols.made + m)) (omega arith) ∙ sym (n.cols row (PendingId j m) tt)
    step false = refl

-- a name that stands and is of a stage before k stays
old-same : (inserts : SubOperation → Bool) (last k s c : ℕ) (t : Stage) (us : List Stage) (list : Sequence) → t.stage ≡ k
    → IsWellNumbered last list → RiseTo 0 last (t ∷ us)
    → ArePutIn inserts (t ∷ us) list.items → (a : ElementId) → 1 ≤ len (has_id a) list.items → IsNamedBefore k (Some a) → (u : ElementId) → IsBelow list.made u
    → same_id a (acked_id k list.made u) ≡ same_id a u
old-same inserts last k s c t us list e w r h (SequencedId m) l b u g = same-acked k list.made (SequencedId m) u (stands-below last k s c list w (SequencedId m) l) g
old-same inserts last k s c t us list e w r h (PendingId j n) l b u g =
    let none = h j (stages-apart inserts j j last (t ∷ us) (omega arith) (subst (λ i. j < i) (sym e) b, r.1)) in
    let absent = w.counted j n (omega arith) in
    absurd (omega arith)

both-named : (P Q : ElementId → ℕ → Type 0) {xs : List ListElement} {es : List (TreeElement ℕ)} → BesideUnits (HandleNamed P) xs es
    → BesideUnits (HandleNamed Q) xs es
    → BesideUnits (HandleNamed (λ a h. P a h × Q a h)) xs es
both-named P Q p q = beside-more (λ x e u. (u.0.0, (u.0.1, u.1.1))) (beside-both p q)

module _ (last k s c : ℕ) (doc : Document) (w : IsWellNumbered last doc.rows) (v : IsWellNumbered last doc.cols) (es gs : List (TreeElement ℕ)) (old new : CellList) (cells : List Cell)
    (hu : HoldsUnits doc.rows.items doc.cols.items doc.cells es gs old) (Pr Pc : ElementId → ℕ → Type 0) (pr : BesideUnits (HandleNamed Pr) doc.rows.items es)
    (pc : BesideUnits (HandleNamed Pc) doc.cols.items gs)
    (value-of : (a b : ElementId) (h g : ℕ) → IsBelow doc.rows.made a → IsBelow doc.cols.made b → Pr a h → Pc b g → cell_value a b doc.cells ≡ handle_value old h g
    → cell_value (acked_id k doc.rows.made a) (acked_id k doc.cols.made b) cells ≡ handle_value new h g) where
  later-cells : HoldsUnits (acked_list k s c doc.rows).items (acked_list k s c doc.cols).items cells
      (map (tree.acked_element k s c None) es) (map (tree.acked_element k s c None) gs) new
  later-cells = record {
    rows = units-acked k s c doc.rows.made (λ a h. Pr a h × RowHolds doc.cols.items gs doc.cells old a h)
        (RowHolds (acked_list k s c doc.cols).items (map (tree.acked_element k s c None) gs) cells new)
        (λ a h l q. units-acked k s c doc.cols.made (λ b g. Pc b g × (cell_value a b doc.cells ≡ handle_value old h g))
        (λ b g. cell_value (acked_id k doc.rows.made a) b cells ≡ handle_value new h g)
        (λ b g m r. value-of a b h g l m q.0 r.0 r.1) (below k s c last doc.cols v)
        (both-named Pc (λ b g. cell_value a b doc.cells ≡ handle_value old h g) pc q.1)) (below k s c last doc.rows w)
        (both-named Pr (RowHolds doc.cols.items gs doc.cells old) pr hu.rows);
    cols = beside-more (λ x e q. q.0) (units-acked k s c doc.cols.made (λ b g. Unit {0}) (λ b g. Unit {0}) (λ b g m r. tt) (below k s c last doc.cols v)
        (beside-more (λ x e u. (u, tt)) hu.cols));
  }

-- the acknowledged value after the write of stage k
value-after : (k : ℕ) (cell : CellState) (o : Option ValueBytes) → lookup (λ j. nat_eq j k) cell.pending ≡ o
    → acked_value (acked_write k cell) ≡ option_and_then unless_null (option_or o cell.acked)
value-after k cell o e = ap (λ p. option_and_then unless_null (option_or p cell.acked)) e

value-written : (value : ValueBytes) (b : Bool) (acked : Option ValueBytes)
    → option_and_then unless_null (option_or (cond b (Some value) None) acked) ≡ cond b (value_unless_null value) (option_and_then unless_null acked)
value-written value true acked = refl
value-written value false acked = refl

module _ (last s c : ℕ) (old new : Grid) (doc : Document) (k : ℕ) (o : SubOperation) (n : NamedElements) (us : List Stage) (sound : IsSound old)
    (lowest : AllByRecursion (λ (t : GridStage). k ≤ t.stage) old.stages.items)
    (h : Holds last old doc (record { stage = k; sub_operation = o; names = n } ∷ us)) (counted : IsCounted doc k o) (acks : AcksStage k s c old new) where
  no-rows : inserts_rows o ≡ false → len (is_inserted_by k) doc.rows.items ≡ 0
  no-rows e = not-own inserts_rows 0 last (record { stage = k; sub_operation = o; names = n }) us doc.rows.items e h.named.rise h.named.own.rows

  no-cols : inserts_cols o ≡ false → len (is_inserted_by k) doc.cols.items ≡ 0
  no-cols e = not-own inserts_cols 0 last (record { stage = k; sub_operation = o; names = n }) us doc.cols.items e h.named.rise h.named.own.cols

  hu : HoldsUnits doc.rows.items doc.cols.items doc.cells (units_of old.rows) (units_of old.cols) old.cells
  hu = units last old doc (record { stage = k; sub_operation = o; names = n } ∷ us) sound h

  at-front : Front k o n doc us old.rows old.cols old.stages.items
  at-front = front last k o n doc us old.rows old.cols old.stages.items h.named.rise.1 h.holds.stages

  -- what is pending at a cell
  pends : (r g : ℕ) (p : Option ValueBytes) → written_by r g (acked_stage k old.stages.items) ≡ p
      → handle_value new.cells r g ≡ option_and_then unless_null (option_or p (cell_at old.cells r g).acked)
  pends r g p e = ap acked_value (acks.cells r g)
      ∙ value-after k (cell_at old.cells r g) p (ap (lookup (λ j. nat_eq j k)) (sound.writes r g) ∙ front-lookup r g k old.stages.items lowest sound.rise ∙ e)

  abbrev AckedUnits : List Cell → Type 0
  AckedUnits cells = HoldsUnits (acked_list k s c doc.rows).items (acked_list k s c doc.cols).items cells (map (tree.acked_element k s c None) (units_of old.rows))
      (map (tree.acked_element k s c None) (units_of old.cols)) new.cells

  renamed-value : (a b : ElementId) → cell_value (acked_id k doc.rows.made a) (acked_id k doc.cols.made b) doc.cells ≡ cell_value a b doc.cells
  renamed-value a b = row-value k doc h.named.cells a (acked_id k doc.cols.made b) ∙ col-value k doc h.named.cells a b

  none-written : ((r g : ℕ) → written_by r g (acked_stage k old.stages.items) ≡ None) → AckedUnits doc.cells
  none-written z = later-cells last k s c doc h.named.rows h.named.cols (units_of old.rows) (units_of old.cols) old.cells new.cells doc.cells hu
      (λ a r. Unit {0}) (λ a r. Unit {0}) (beside-more (λ x e q. (q.0, tt)) hu.rows) (beside-more (λ x e u. (u, tt)) hu.cols)
      (λ a b r g l m p q e. renamed-value a b ∙ e ∙ sym (pends r g None (z r g)))

  module _ (value : ValueBytes) (i j : ℕ) (v : GridStage) (is : acked_stage k old.stages.items ≡ Some v) (op : v.op ≡ Set i j value) where
    writes : (r g : ℕ) → written_by r g (acked_stage k old.stages.items) ≡ cond (is_handle r v.row && is_handle g v.col) (Some value) None
    writes r g = ap (written_by r g) is ∙ ap (written_op r g v.row v.col) op

    no-row : v.row ≡ None → AckedUnits doc.cells
    no-row e = none-written (λ r g. writes r g ∙ ap (λ p. cond (is_handle r p && is_handle g v.col) (Some value) None) e)

    no-col : v.col ≡ None → AckedUnits doc.cells
    no-col e = none-written (λ r g. writes r g ∙ ap (λ p. cond (is_handle r v.row && is_handle g p) (Some value) None) e ∙ never (is_handle r v.row))
      where
        never : (b : Bool) → cond (b && false) (Some value) None ≡ None
        never true = refl
        never false = refl

    both : (a b : ElementId) (x y : ℕ) → v.row ≡ Some x → v.col ≡ Some y → 1 ≤ len (has_id a) doc.rows.items → 1 ≤ len (has_id b) doc.cols.items
        → IsNamedBefore k (Some a) → IsNamedBefore k (Some b) → rank (has_id a) (λ _. true) doc.rows.items ≡ rank (has_handle x) (λ _. true) (units_of old.rows)
        → rank (has_id b) (λ _. true) doc.cols.items ≡ rank (has_handle y) (λ _. true) (units_of old.cols)
        → AckedUnits (write_cell (record { row = a; col = b; value = value }) doc.cells)
    both a b x y e f there here before other p q =
        later-cells last k s c doc h.named.rows h.named.cols (units_of old.rows) (units_of old.cols) old.cells new.cells
        (write_cell (record { row = a; col = b; value = value }) doc.cells) hu
        (MeetsAt a x) (MeetsAt b y) (meet-at a x h.named.rows.once sound.rows.proper.once (rows-beside hu) p) (meet-at b y h.named.cols.once sound.cols.proper.once hu.cols q)
        (λ u w r g l m t z g'.
        value-write (acked_id k doc.rows.made u) (acked_id k doc.cols.made w) (record { row = a; col = b; value = value }) doc.cells
        ∙ ap (λ d. cond (d && same_id (acked_id k doc.cols.made w) b) (value_unless_null value) (cell_value (acked_id k doc.rows.made u) (acked_id k doc.cols.made w) doc.cells))
        (same_id-turn (acked_id k doc.rows.made u) a
        ∙ old-same inserts_rows last k s c (record { stage = k; sub_operation = o; names = n }) us doc.rows refl h.named.rows h.named.rise h.named.own.rows a there before u l ∙ t)
        ∙ ap (λ d. cond (nat_eq r x && d) (value_unless_null value) (cell_value (acked_id k doc.rows.made u) (acked_id k doc.cols.made w) doc.cells))
        (same_id-turn (acked_id k doc.cols.made w) b
        ∙ old-same inserts_cols last k s c (record { stage = k; sub_operation = o; names = n }) us doc.cols refl h.named.cols h.named.rise h.named.own.cols b here other w m ∙ z)
        ∙ ap (cond (nat_eq r x && nat_eq g y) (value_unless_null value)) (renamed-value u w ∙ g')
        ∙ sym (pends r g (cond (nat_eq r x && nat_eq g y) (Some value) None)
        (writes r g ∙ ap (λ d. cond (is_handle r d && is_handle g v.col) (Some value) None) e ∙ ap (λ d. cond (nat_eq r x && is_handle g d) (Some value) None) f)
        ∙ value-written value (nat_eq r x && nat_eq g y) (cell_at old.cells r g).acked))

    some-write : (a b : Option ElementId) (x y : Option ℕ) → v.row ≡ x → v.col ≡ y → StandsIn doc.rows.items a → StandsIn doc.cols.items b
        → IsNamedBefore k a → IsNamedBefore k b
        → place_in_list doc.rows.items a ≡ place_of_handle old.rows x → place_in_list doc.cols.items b ≡ place_of_handle old.cols y
        → AckedUnits (write_named_cell a b value doc.cells)
    some-write None b x y e f t z before other p q = no-row (e ∙ none-placed old.rows x p)
    some-write (Some a) None x y e f t z before other p q = no-col (f ∙ none-placed old.cols y q)
    some-write (Some a) (Some b) None y e f t z before other p q = (cc)
    some-write (Some a) (Some b) (Some x) None e f t z before other p q = (cc)
    some-write (Some a) (Some b) (Some x) (Some y) e f t z before other p q = both a b x y e f t z before other (some-rank p) (some-rank q)

  cells-acked : (p : SubOperation) → AreThere doc p n → FrontWrites p n doc old.rows old.cols (acked_stage k old.stages.items)
      → (p ≡ o) → AckedUnits (cells_after_stage p n doc.cells)
  cells-acked (OnText op) t f e = none-written f
  cells-acked (OnIntervals op) t f e = none-written f
  cells-acked (OnGrid (SpliceIn list p count)) t f e = none-written f
  cells-acked (OnGrid (SpliceOut list p q)) t f e = none-written f
  cells-acked (OnGrid (Set i j value)) t f e =
      let before = subst (λ q. AreNamedBefore k q n) (sym e) h.named.stages.0.1 in
      some-write value i j f.0 f.1.0 f.1.1.0 n.first n.second f.0.row f.0.col refl refl t.0 t.1 before.0 before.1 f.1.1.1.0 f.1.1.1.1

  -- the document after it
  abbrev later : Document
  later = with_slid_ends (record doc {
    text = acked_list k s c doc.text;
    rows = acked_list k s c doc.rows;
    cols = acked_list k s c doc.cols;
    intervals = intervals_after_stage o n doc.intervals;
    cells = cells_after_stage o n doc.cells;
  })

  later-units : HoldsUnits (acked_list k s c doc.rows).items (acked_list k s c doc.cols).items (cells_after_stage o n doc.cells)
      (units_of new.rows) (units_of new.cols) new.cells
  later-units = subst (λ es. HoldsUnits (acked_list k s c doc.rows).items (acked_list k s c doc.cols).items (cells_after_stage o n doc.cells) es (units_of new.cols) new.cells)
      (sym acks.rows.units)
      (subst (λ gs. HoldsUnits (acked_list k s c doc.rows).items (acked_list k s c doc.cols).items (cells_after_stage o n doc.cells)
      (map (tree.acked_element k s c None) (units_of old.rows)) gs new.cells)
      (sym acks.cols.units)
      (cells-acked o h.named.stages.0.0 (front-writes last k o n doc us old.rows old.cols old.stages.items h.named.rise.1 h.holds.stages) refl))

  rows-renamed : Renames (acked_id k (made_before doc o)) doc.rows.items (units_of old.rows) (acked_list k s c doc.rows).items (units_of new.rows)
  rows-renamed a r there e = subst (λ es. rank (has_id (acked_id k (made_before doc o) a)) (λ _. true) (acked_list k s c doc.rows).items ≡ rank (has_handle r) (λ _. true) es) (sym acks.rows.units)
      (subst (λ b. rank (has_id b) (λ _. true) (acked_list k s c doc.rows).items ≡ rank (has_handle r) (λ _. true) (map (tree.acked_element k s c None) (units_of old.rows)))
      (rows-name last k doc o h.named.rows no-rows a there)
      (meets-acked k s c last doc.rows h.named.rows a r there sound.rows.proper.once (rows-beside hu) e))

  cols-renamed : Renames (acked_id k (made_before doc o)) doc.cols.items (units_of old.cols) (acked_list k s c doc.cols).items (units_of new.cols)
  cols-renamed a r there e = subst (λ es. rank (has_id (acked_id k (made_before doc o) a)) (λ _. true) (acked_list k s c doc.cols).items ≡ rank (has_handle r) (λ _. true) es) (sym acks.cols.units)
      (subst (λ b. rank (has_id b) (λ _. true) (acked_list k s c doc.cols).items ≡ rank (has_handle r) (λ _. true) (map (tree.acked_element k s c None) (units_of old.cols)))
      (cols-name last k doc o h.named.cols no-cols a there)
      (meets-acked k s c last doc.cols h.named.cols a r there sound.cols.proper.once hu.cols e))

  pub acked-held : HoldsGrid (grid_state new 0 true) later (map (renamed_stage (acked_id k (made_before doc o))) us)
  acked-held = record {
    rows = beside-units (rows-beside later-units);
    cols = beside-units later-units.cols;
    rows_made = ap (λ m. doc.rows.made + m) (rows-counted doc k o counted no-rows) ∙ ap (λ m. m + rows_put_of o) h.holds.rows_made
        ∙ ap (λ m. old.rows_made + m) (sym at-front.rows_put) ∙ sym acks.rows_made;
    cols_made = ap (λ m. doc.cols.made + m) (cols-counted doc k o counted no-cols) ∙ ap (λ m. m + cols_put_of o) h.holds.cols_made
        ∙ ap (λ m. old.cols_made + m) (sym at-front.cols_put) ∙ sym acks.cols_made;
    cells = units-held later new.rows new.cols new.cells later-units;
    stages = stages-renamed (acked_id k (made_before doc o)) doc later old.rows old.cols new.rows new.cols rows-renamed cols-renamed us (after_stage k old.stages.items)
        h.named.stages.1 at-front.rest ∙ ap (map (shown_stage new.rows new.cols)) (sym acks.stages);
  }
