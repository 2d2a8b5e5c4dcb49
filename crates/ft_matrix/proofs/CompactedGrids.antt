-- A grid of which compaction takes rows and columns out: it stays sound, and holds what is kept of each document whose part it held.
use Rattle.std.proofs.Common.{◌≡◌, ℕ, suc, ◌+◌, ◌≤◌, All, Bool, true, false, cond, not, ◌&&◌, ◌||◌, nat_eq}
use Rattle.std.proofs.Common.{List, [], ◌∷◌, ◌++◌, Option, Some, None, refl, sym, ◌∙◌, ap, subst, map, arith}
use Rattle.std.specs.List.{AllByRecursion, list_any}
use Rattle.std.proofs.lemmas.Bool.Decides.{nat_tests}
use Rattle.std.proofs.lemmas.List.Elements.{All-from_recursion, recursion_from_All}
use Rattle.ft_base.specs.declared.stamps.Stamp.{Stamp}
use Rattle.ft_base.specs.declared.stamps.Stamp.TheVariants.{Acked, Local}
use Rattle.ft_base.specs.Scan.{len, one_more_if, rank}
use Rattle.ft_op.specs.declared.operations.CellOp.{CellOp}
use Rattle.ft_op.specs.declared.operations.CellOp.TheVariants.{SpliceIn, SpliceOut, Set}
use Rattle.ft_props.specs.Properties.{ValueBytes}
use Rattle.ft_props.specs.Compaction.{KeepsList, has_collectable_removal, is_before_pending, with_universal_insertion}
use Rattle.ft_props.specs.Element.{ElementContent, ElementId, GridUnit, ListElement, NamelessElement, has_id, id, is_named_by, nameless, removal_stamp, same_id}
use Rattle.ft_props.specs.Steps.{Sequence}
use Rattle.ft_op.specs.Operation.{OnGrid, OnIntervals, OnText, SubOperation}
use Rattle.ft_op.specs.Intervals.{NamedElements}
use Rattle.ft_op.specs.Cells.{cell_value}
use Rattle.ft_op.specs.declared.operations.Target.TheVariants.{Rows, Cols}
use Rattle.ft_op.specs.Document.{Document}
use Rattle.ft_op.specs.Stages.{Stage}
use Rattle.ft_msg.specs.Compacted.{stage_holds_col, stage_holds_row}
use Rattle.ft_msg.specs.Indexed.{IndexedStage, place_in_list}
use Rattle.ft_tree_leaves.specs.Elements.{TreeElement, universal_stamps}
use Rattle.ft_tree.specs.State.{TreeState}
use Rattle.ft_perm.specs.Handles.{HandleRun}
use Rattle.ft_perm.specs.Vectors.{IsProper, VectorState, in_use, vector_elements}
use Rattle.ft_cells.specs.CellTables.{CellState, cell_at, empty_cell}
use Rattle.ft_zamboni.specs.Scours.{is_collectable}
use Rattle.ft_laws_agreement.proofs.SlidEnds.{Once, once-tail, same_id-eq, same_id-refl}
use Rattle.ft_laws_names.specs.GridFacts.{AreFreeFrom, begins_pending, grid_stages, is_place}
use Rattle.ft_laws_names.specs.WellNamed.{IsWellNumbered}
use Rattle.ft_laws_names.proofs.Beside.{Beside, beside-more, ends, next}
use Rattle.ft_named.proofs.Bares.{from-bare}
use Rattle.ft_named.proofs.CompactedSteps.{AreToGo, Compacts, KeepsSome, compacts-all, compacts-keeps, universal-id}
use Rattle.ft_named.proofs.CompactedSteps.{none as kept_none, same as kept_same, universal as kept_universal, collected as kept_collected}
use Rattle.ft_matrix.specs.declared.grid.Grid.{Grid}
use Rattle.ft_matrix.specs.declared.stages.GridStage.{GridStage}
use Rattle.ft_matrix.specs.Applied.{Holds}
use Rattle.ft_matrix.specs.Compacted.{CompactsGrid, FreesUnits, ScoursUnits, is_in_runs}
use Rattle.ft_matrix.specs.Conditions.{AreFreeUnits, HasNoTombstone, HoldsKept}
use Rattle.ft_matrix.specs.GridStates.{grid_state, shown_stage}
use Rattle.ft_matrix.specs.HoldsGrid.{HoldsGrid}
use Rattle.ft_matrix.specs.Sound.{ArePending, IsSound, IsSoundVector, StagesRise, is_handle, write_of, writes_to}
use Rattle.ft_matrix.specs.Units.{acked_value, has_handle, place_of_handle, shown_unit, units_of}
use Rattle.ft_matrix.proofs.PendingStages.{left-pending}
use Rattle.ft_matrix.proofs.Effects.{units}
use Rattle.ft_matrix.proofs.Freed.{none-left, none-right}
use Rattle.ft_matrix.proofs.HeldGrids.{HoldsUnits, Moves, RowHolds, handle_value, restate, rows-beside, stages-move, step-moves, units-held}
use Rattle.ft_matrix.proofs.ScouredUnits.{are-gone, place-free, same-number, second, taken-goes}
use Rattle.ft_matrix.proofs.Writes.{one-more, some-more}
use Rattle.ft_matrix.proofs.UnitLists.{BesideUnits, HandleNamed, beside-units, shown-stamps}

-- ---- which named units may go

-- what a unit is to the document
abbrev pub grid_content : ℕ → ElementContent
grid_content h = GridUnit

-- places in the whole list are those in what is left of it from i on
abbrev AtFrom : ℕ → List ListElement → List ListElement → Type 0
AtFrom i whole xs = (a : ElementId) → 1 ≤ len (has_id a) xs → rank (has_id a) (λ _. true) whole ≡ i + rank (has_id a) (λ _. true) xs

at-tail : (i : ℕ) (whole : List ListElement) (e : ListElement) (xs : List ListElement) → Once (e ∷ xs) → AtFrom i whole (e ∷ xs) → AtFrom (i + 1) whole xs
at-tail i whole e xs once f a l =
    f a (some-more (has_id a e) (len (has_id a) xs) l) ∙ step (has_id a e) (once a)
  where
    step : (b : Bool) → one_more_if b (len (has_id a) xs) ≤ 1 → i + cond b 0 (suc (rank (has_id a) (λ _. true) xs)) ≡ i + 1 + rank (has_id a) (λ _. true) xs
    step true o = absurd (omega (arith, o, l))
    step false o = omega arith

at-head : (i : ℕ) (whole : List ListElement) (e : ListElement) (xs : List ListElement) → AtFrom i whole (e ∷ xs) → rank (has_id (id e)) (λ _. true) whole ≡ i
at-head i whole e xs f =
    f (id e) (one-more (has_id (id e) e) (len (has_id (id e)) xs) (same_id-refl (id e)))
    ∙ ap (λ b. i + cond b 0 (suc (rank (has_id (id e)) (λ _. true) xs))) (same_id-refl (id e)) ∙ plus-none i
  where
    plus-none : (n : ℕ) → n + 0 ≡ n
    plus-none n = omega arith

-- a removal at or below the floor is sequenced
gone-acked : (floor : ℕ) (ds : List Stamp) (o : Option ℕ) → has_collectable_removal floor (ds ++ removal_stamp o) ≡ true
    → has_collectable_removal floor ds ≡ true
gone-acked floor [] None h = cc h
gone-acked floor [] (Some k) h = cc h
gone-acked floor (Acked s c ∷ ds) o h = h
gone-acked floor (Local k ∷ ds) o h = cc h

begins-same : (xs : List ListElement) → begins_pending (map nameless xs) ≡ is_before_pending xs
begins-same [] = refl
begins-same (e ∷ xs) = refl

module _ (floor : ℕ) (held : ElementId → Bool) (named : List (Option ℕ)) (whole : List ListElement)
    (unheld : (a : ElementId) → list_any (is_place (rank (has_id a) (λ _. true) whole)) named ≡ false → held a ≡ false) where
  units-to-go : (i : ℕ) (xs : List ListElement) → Once xs → AtFrom i whole xs → AreFreeFrom floor named i (map nameless xs) → AreToGo grid_content floor held xs
  units-to-go i [] once f free = tt
  units-to-go i (e ∷ xs) once f free = (
    λ h. record {
      is = ap (λ b. b && has_collectable_removal floor e.dels) (free.0 h).insertion ∙ gone-acked floor e.dels e.removal_stage h;
      name = unheld (id e) (ap (λ n. list_any (is_place n) named) (at-head i whole e xs f) ∙ (free.0 h).name);
      next = sym (begins-same xs) ∙ (free.0 h).next;
    },
    units-to-go (i + 1) xs (once-tail e xs once) (at-tail i whole e xs once f) free.1,
  )

-- ---- names at places that no stage has

unnamed : (xs : List ListElement) (a : ElementId) (o : Option ElementId)
    → is_place (rank (has_id a) (λ _. true) xs) (place_in_list xs o) ≡ false → is_named_by a o ≡ false
unnamed xs a None h = refl
unnamed xs a (Some b) h = step (same_id a b) refl
  where
    step : (c : Bool) → same_id a b ≡ c → c ≡ false
    step false e = refl
    step true e =
        let same = same_id-eq a b e in
        cc (sym (same-number (rank (has_id a) (λ _. true) xs)) ∙ ap (λ d. nat_eq (rank (has_id a) (λ _. true) xs) (rank (has_id d) (λ _. true) xs)) same ∙ h)

row-unheld : (doc : Document) (a : ElementId) (ts : List Stage)
    → list_any (is_place (rank (has_id a) (λ _. true) doc.rows.items)) (map (λ (t : IndexedStage). t.places.first) (grid_stages doc ts)) ≡ false
    → list_any (stage_holds_row a) ts ≡ false
row-unheld doc a [] h = refl
row-unheld doc a (t ∷ ts) h = step t.stage t.sub_operation t.names h (λ g. row-unheld doc a ts g)
  where
    step : (k : ℕ) (o : SubOperation) (n : NamedElements)
        → list_any (is_place (rank (has_id a) (λ _. true) doc.rows.items))
        (map (λ (u : IndexedStage). u.places.first) (grid_stages doc (record { stage = k; sub_operation = o; names = n } ∷ ts))) ≡ false
        → (list_any (is_place (rank (has_id a) (λ _. true) doc.rows.items)) (map (λ (u : IndexedStage). u.places.first) (grid_stages doc ts)) ≡ false
        → list_any (stage_holds_row a) ts ≡ false)
        → stage_holds_row a (record { stage = k; sub_operation = o; names = n }) || list_any (stage_holds_row a) ts ≡ false
    step k (OnText op) n g ih = ih g
    step k (OnIntervals op) n g ih = ih g
    step k (OnGrid (SpliceIn target p count)) n g ih = ih (none-right _ _ g)
    step k (OnGrid (SpliceOut target p q)) n g ih = ih (none-right _ _ g)
    step k (OnGrid (Set i j value)) n g ih =
        ap (λ b. b || list_any (stage_holds_row a) ts) (unnamed doc.rows.items a n.first (none-left _ _ g)) ∙ ih (none-right _ _ g)

col-unheld : (doc : Document) (a : ElementId) (ts : List Stage)
    → list_any (is_place (rank (has_id a) (λ _. true) doc.cols.items)) (map (λ (t : IndexedStage). t.places.second) (grid_stages doc ts)) ≡ false
    → list_any (stage_holds_col a) ts ≡ false
col-unheld doc a [] h = refl
col-unheld doc a (t ∷ ts) h = step t.stage t.sub_operation t.names h (λ g. col-unheld doc a ts g)
  where
    step : (k : ℕ) (o : SubOperation) (n : NamedElements)
        → list_any (is_place (rank (has_id a) (λ _. true) doc.cols.items))
        (map (λ (u : IndexedStage). u.places.second) (grid_stages doc (record { stage = k; sub_operation = o; names = n } ∷ ts))) ≡ false
        → (list_any (is_place (rank (has_id a) (λ _. true) doc.cols.items)) (map (λ (u : IndexedStage). u.places.second) (grid_stages doc ts)) ≡ false
        → list_any (stage_holds_col a) ts ≡ false)
        → stage_holds_col a (record { stage = k; sub_operation = o; names = n }) || list_any (stage_holds_col a) ts ≡ false
    step k (OnText op) n g ih = ih g
    step k (OnIntervals op) n g ih = ih g
    step k (OnGrid (SpliceIn target p count)) n g ih = ih (none-right _ _ g)
    step k (OnGrid (SpliceOut target p q)) n g ih = ih (none-right _ _ g)
    step k (OnGrid (Set i j value)) n g ih =
        ap (λ b. b || list_any (stage_holds_col a) ts) (unnamed doc.cols.items a n.second (none-left _ _ g)) ∙ ih (none-right _ _ g)

-- ---- a list that is kept

module _ (floor : ℕ) (held : ElementId → Bool) (P : ElementId → ℕ → Type 0) where
  -- what held of name and handle at each place still holds
  carried : {ms : List (Bool × TreeElement ℕ)} {es : List ListElement} {xs : List (TreeElement ℕ)} {ks : List ListElement}
      → Compacts grid_content floor held ms es xs ks
      → BesideUnits (HandleNamed P) es (map second ms) → BesideUnits (HandleNamed P) ks xs
  carried kept_none b = b
  carried (kept_same q h) (next u us) = next u (carried h us)
  carried (kept_universal {x = x} {e = e} q l h) (next u us) = next (
    record { same = shown-stamps universal_stamps e (with_universal_insertion e) x refl u.0; even = u.0.even },
    subst (λ a. P a x.unit) (sym (universal-id floor e l)) u.1,
  ) (carried h us)
  carried (kept_collected c n b h) (next u us) = carried h us

-- what is kept of a list beside the units that are left: what held of name and handle at each place still holds
pub record KeptUnits (floor last : ℕ) (held : ElementId → Bool) (old new : VectorState) (list : Sequence) : Type 1 where
  pub items : List ListElement
  pub keeps : KeepsList floor held (record list { items = items }) list
  pub carries : (P : ElementId → ℕ → Type 0) → BesideUnits (HandleNamed P) list.items (units_of old) → BesideUnits (HandleNamed P) items (units_of new)

module _ (floor last : ℕ) (runs : List HandleRun) (old new : VectorState) (s : ScoursUnits floor runs old new) (list : Sequence) (n : IsWellNumbered last list)
    (b : map nameless list.items ≡ map shown_unit (units_of old)) (named : List (Option ℕ)) (free : AreFreeFrom floor named 0 (map shown_unit (units_of old)))
    (held : ElementId → Bool) (unheld : (a : ElementId) → list_any (is_place (rank (has_id a) (λ _. true) list.items)) named ≡ false → held a ≡ false) where
  some-kept : KeepsSome grid_content floor held s.marked list.items (units_of new)
  some-kept = compacts-all grid_content floor held s.marked s.may list.items
      (from-bare grid_content (map second s.marked) list.items (ap (map shown_unit) s.all ∙ sym b))
      (units-to-go floor held named list.items unheld 0 list.items n.once at-first (subst (AreFreeFrom floor named 0) (sym b) free)) (units_of new) s.written
    where
      at-first : AtFrom 0 list.items list.items
      at-first a l = plus-none (rank (has_id a) (λ _. true) list.items)
        where
          plus-none : (m : ℕ) → m ≡ 0 + m
          plus-none m = omega arith

  pub kept-units : KeptUnits floor last held old new list
  kept-units = record {
    items = some-kept.0;
    keeps = record { items = compacts-keeps grid_content floor held some-kept.1; made = refl };
    carries = λ P h. carried floor held P some-kept.1 (subst (BesideUnits (HandleNamed P) list.items) (sym s.all) h);
  }

-- ---- stages that name no handle that goes

handle-unplaced : (v : VectorState) (h : ℕ) (o : Option ℕ)
    → is_place (rank (has_handle h) (λ _. true) (units_of v)) (place_of_handle v o) ≡ false → is_handle h o ≡ false
handle-unplaced v h None e = refl
handle-unplaced v h (Some x) e = step (nat_eq h x) refl
  where
    step : (c : Bool) → nat_eq h x ≡ c → c ≡ false
    step false g = refl
    step true g =
        let same : h ≡ x = grind (arith, nat_tests) in
        cc (sym (same-number (rank (has_handle h) (λ _. true) (units_of v)))
        ∙ ap (λ d. nat_eq (rank (has_handle h) (λ _. true) (units_of v)) (rank (has_handle d) (λ _. true) (units_of v))) same ∙ e)

module _ (rows cols : VectorState) (h g : ℕ) where
  row-unwritten : (ts : List GridStage)
      → list_any (is_place (rank (has_handle h) (λ _. true) (units_of rows))) (map (λ (t : IndexedStage). t.places.first)
      (map (shown_stage rows cols) ts)) ≡ false
      → writes_to h g ts ≡ []
  row-unwritten [] e = refl
  row-unwritten (t ∷ ts) e =
      ap (λ ws. ws ++ writes_to h g ts) (by t.op (handle-unplaced rows h t.row (none-left _ _ e))) ∙ row-unwritten ts (none-right _ _ e)
    where
      by : (op : CellOp) → is_handle h t.row ≡ false → write_of h g (record t { op = op }) ≡ []
      by (SpliceIn target p count) f = refl
      by (SpliceOut target p q) f = refl
      by (Set i j value) f = ap (λ b. cond (b && is_handle g t.col) ((t.stage, value) ∷ []) []) f

  col-unwritten : (ts : List GridStage)
      → list_any (is_place (rank (has_handle g) (λ _. true) (units_of cols))) (map (λ (t : IndexedStage). t.places.second)
      (map (shown_stage rows cols) ts)) ≡ false
      → writes_to h g ts ≡ []
  col-unwritten [] e = refl
  col-unwritten (t ∷ ts) e =
      ap (λ ws. ws ++ writes_to h g ts) (by t.op (handle-unplaced cols g t.col (none-left _ _ e))) ∙ col-unwritten ts (none-right _ _ e)
    where
      never : (b : Bool) → b && false ≡ false
      never true = refl
      never false = refl

      by : (op : CellOp) → is_handle g t.col ≡ false → write_of h g (record t { op = op }) ≡ []
      by (SpliceIn target p count) f = refl
      by (SpliceOut target p q) f = refl
      by (Set i j value) f = ap (λ b. cond b ((t.stage, value) ∷ []) []) (ap (λ b. is_handle h t.row && b) f ∙ never (is_handle h t.row))

-- ---- the grid

sound-again : (v w : VectorState) → IsSoundVector v → w.tree ≡ v.tree → w.next ≡ v.next → IsProper w → IsSoundVector w
sound-again v w s tree after p = record {
  usable = ap (λ (t : TreeState HandleRun). t.usable) tree ∙ s.usable;
  refs = (subst (λ t. IsSoundVector (record v { tree = t })) (sym tree) s).refs;
  proper = p;
  fresh = fresh (ap (λ (t : TreeState HandleRun). t.made) tree) s.fresh;
  plain = (subst (λ t. IsSoundVector (record v { tree = t })) (sym tree) s).plain;
  staged = (subst (λ t. IsSoundVector (record v { tree = t })) (sym tree) s).staged;
}
  where
    fresh : w.tree.made ≡ v.tree.made → v.next ≤ v.tree.made → w.next ≤ w.tree.made
    fresh e l = omega (arith, e, l, after)

-- each second element has it too
beside-also : {A B : Type 0} {Q : A → B → Type 0} (P : B → Type 0) {xs : List A} {ys : List B} → AllByRecursion P ys → Beside A B Q xs ys
    → Beside A B (λ x y. Q x y × P y) xs ys
beside-also P a ends = ends
beside-also P a (next q qs) = next (q, a.0) (beside-also P a.1 qs)

empty-by : (u r c : Bool) (cell : CellState) → u && not r ≡ false → (u ≡ false → cell ≡ empty_cell) → cond c empty_cell (cond r empty_cell cell) ≡ empty_cell
empty-by u r true cell h f = refl
empty-by u true false cell h f = refl
empty-by true false false cell h f = cc h
empty-by false false false cell h f = f refl

empty-col : (u r c : Bool) (cell : CellState) → u && not c ≡ false → (u ≡ false → cell ≡ empty_cell) → cond c empty_cell (cond r empty_cell cell) ≡ empty_cell
empty-col u r true cell h f = refl
empty-col u true false cell h f = refl
empty-col true false false cell h f = cc h
empty-col false false false cell h f = f refl

pending-by : (r c : Bool) (cell : CellState) (ws : List (ℕ × ValueBytes)) → cell.pending ≡ ws → (r ≡ true → ws ≡ []) → (c ≡ true → ws ≡ [])
    → (cond c empty_cell (cond r empty_cell cell)).pending ≡ ws
pending-by r true cell ws e f g = sym (g refl)
pending-by true false cell ws e f g = sym (f refl)
pending-by false false cell ws e f g = e

map-all : {A B : Type 0} (P : A → Type 0) (Q : B → Type 0) (f : A → B) → ((x : A) → P x → Q (f x))
    → (xs : List A) → AllByRecursion P xs → AllByRecursion Q (map f xs)
map-all P Q f h [] a = a
map-all P Q f h (x ∷ xs) a = (h x a.0, map-all P Q f h xs a.1)

module _ (floor : ℕ) (rr rc : List HandleRun) (old mid half new : Grid) (sound : IsSound old) (free : AreFreeUnits floor (grid_state old 0 true))
    (same : mid ≡ record old { rows = mid.rows; cols = mid.cols }) (sr : ScoursUnits floor rr old.rows mid.rows) (sc : ScoursUnits floor rc old.cols mid.cols)
    (vr : IsSoundVector mid.rows) (vc : IsSoundVector mid.cols) (fr : FreesUnits Rows (is_in_runs rr) mid half) (fc : FreesUnits Cols (is_in_runs rc) half new) where
  rows-same : new.rows ≡ half.rows
  rows-same = ap (λ (x : Grid). x.rows) fc.rest

  cols-same : half.cols ≡ mid.cols
  cols-same = ap (λ (x : Grid). x.cols) fr.rest

  rows-tree : new.rows.tree ≡ mid.rows.tree
  rows-tree = ap (λ (v : VectorState). v.tree) rows-same ∙ fr.tree

  cols-tree : new.cols.tree ≡ mid.cols.tree
  cols-tree = fc.tree ∙ ap (λ (v : VectorState). v.tree) cols-same

  items-same : new.stages.items ≡ old.stages.items
  items-same = ap (λ (x : Grid). x.stages.items) fc.rest ∙ ap (λ (x : Grid). x.stages.items) fr.rest ∙ ap (λ (x : Grid). x.stages.items) same

  cells-now : (r c : ℕ) → cell_at new.cells r c ≡ cond (is_in_runs rc c) empty_cell (cond (is_in_runs rr r) empty_cell (cell_at old.cells r c))
  cells-now r c = fc.cells r c ∙ ap (cond (is_in_runs rc c) empty_cell) (fr.cells r c
      ∙ ap (cond (is_in_runs rr r) empty_cell) (ap (λ (x : Grid). cell_at x.cells r c) same))

  rows-use : (h : ℕ) → in_use new.rows h ≡ (in_use old.rows h && not (is_in_runs rr h))
  rows-use h = ap (λ v. in_use v h) rows-same ∙ fr.used h ∙ ap (λ b. b && not (is_in_runs rr h)) (sr.used h)

  cols-use : (h : ℕ) → in_use new.cols h ≡ (in_use old.cols h && not (is_in_runs rc h))
  cols-use h = fc.used h ∙ ap (λ b. b && not (is_in_runs rc h)) (ap (λ v. in_use v h) cols-same ∙ sc.used h)

  -- no stage writes to a cell of a row that goes
  row-writes : (r c : ℕ) → is_in_runs rr r ≡ true → writes_to r c old.stages.items ≡ []
  row-writes r c e = row-unwritten old.rows old.cols r c old.stages.items (ap (λ n. list_any (is_place n) named) (at-list sr.marked (units_of old.rows) sr.all)
      ∙ place-free r floor named 0 sr.marked sr.may (subst (λ es. len (has_handle r) es ≤ 1) (sym sr.all) (sound.rows.proper.once r))
      (taken-goes floor rr old.rows mid.rows sr sound.rows.proper r e) (subst (λ es. AreFreeFrom floor named 0 (map shown_unit es)) (sym sr.all) free.rows))
    where
      named : List (Option ℕ)
      named = map (λ (t : IndexedStage). t.places.first) (map (shown_stage old.rows old.cols) old.stages.items)

      at-list : (ms : List (Bool × TreeElement ℕ)) (es : List (TreeElement ℕ)) → map second ms ≡ es
          → rank (has_handle r) (λ _. true) es ≡ 0 + rank (has_handle r) (λ _. true) (map second ms)
      at-list ms es g = ap (rank (has_handle r) (λ _. true)) (sym g) ∙ plus-none (rank (has_handle r) (λ _. true) (map second ms))
        where
          plus-none : (m : ℕ) → m ≡ 0 + m
          plus-none m = omega arith

  col-writes : (r c : ℕ) → is_in_runs rc c ≡ true → writes_to r c old.stages.items ≡ []
  col-writes r c e = col-unwritten old.rows old.cols r c old.stages.items (ap (λ n. list_any (is_place n) named) (at-list sc.marked (units_of old.cols) sc.all)
      ∙ place-free c floor named 0 sc.marked sc.may (subst (λ es. len (has_handle c) es ≤ 1) (sym sc.all) (sound.cols.proper.once c))
      (taken-goes floor rc old.cols mid.cols sc sound.cols.proper c e) (subst (λ es. AreFreeFrom floor named 0 (map shown_unit es)) (sym sc.all) free.cols))
    where
      named : List (Option ℕ)
      named = map (λ (t : IndexedStage). t.places.second) (map (shown_stage old.rows old.cols) old.stages.items)

      at-list : (ms : List (Bool × TreeElement ℕ)) (es : List (TreeElement ℕ)) → map second ms ≡ es
          → rank (has_handle c) (λ _. true) es ≡ 0 + rank (has_handle c) (λ _. true) (map second ms)
      at-list ms es g = ap (rank (has_handle c) (λ _. true)) (sym g) ∙ plus-none (rank (has_handle c) (λ _. true) (map second ms))
        where
          plus-none : (m : ℕ) → m ≡ 0 + m
          plus-none m = omega arith

  pub compacted-sound : IsSound new
  compacted-sound = record {
    rows = subst IsSoundVector (sym rows-same) (sound-again mid.rows half.rows vr fr.tree fr.next fr.proper);
    cols = sound-again mid.cols new.cols vc cols-tree (fc.next ∙ ap (λ (v : VectorState). v.next) cols-same) fc.proper;
    floors = ap (λ (t : TreeState HandleRun). t.floor) cols-tree ∙ sc.floor ∙ sym sr.floor ∙ sym (ap (λ (t : TreeState HandleRun). t.floor) rows-tree);
    held = record {
      rows = λ r c u. cells-now r c ∙ empty-by (in_use old.rows r) (is_in_runs rr r) (is_in_runs rc c) (cell_at old.cells r c) (sym (rows-use r) ∙ u) (sound.held.rows r c);
      cols = λ r c u. cells-now r c ∙ empty-col (in_use old.cols c) (is_in_runs rr r) (is_in_runs rc c) (cell_at old.cells r c) (sym (cols-use c) ∙ u) (sound.held.cols r c);
    };
    writes = λ r c. ap (λ (x : CellState). x.pending) (cells-now r c)
        ∙ pending-by (is_in_runs rr r) (is_in_runs rc c) (cell_at old.cells r c) (writes_to r c old.stages.items) (sound.writes r c) (row-writes r c) (col-writes r c)
        ∙ ap (writes_to r c) (sym items-same);
    rise = subst (StagesRise 0) (sym items-same) sound.rise;
    pending_rows = again new.rows mid.rows rows-tree (left-pending old.stages.items floor rr old.rows mid.rows sr sound.pending_rows);
    pending_cols = again new.cols mid.cols cols-tree (left-pending old.stages.items floor rc old.cols mid.cols sc sound.pending_cols);
  }
    where
      again : (v w : VectorState) → v.tree ≡ w.tree → ArePending old.stages.items (units_of w) → ArePending new.stages.items (units_of v)
      again v w e p = subst (λ ts. ArePending ts (units_of v)) (sym items-same) (subst (ArePending old.stages.items) (sym (ap (λ x. vector_elements x) e)) p)

  pub compacted-floor : new.rows.tree.floor ≡ floor
  compacted-floor = ap (λ (t : TreeState HandleRun). t.floor) rows-tree ∙ sr.floor

  -- none left that was removed at or below the floor
  pub compacted-none : All (λ (e : TreeElement ℕ). is_collectable floor e.stamps ≡ false) (units_of mid.rows)
      → All (λ (e : TreeElement ℕ). is_collectable floor e.stamps ≡ false) (units_of mid.cols)
      → HasNoTombstone floor (grid_state new 0 true)
  compacted-none a b = record { rows = shown mid.rows new.rows rows-tree a; cols = shown mid.cols new.cols cols-tree b }
    where
      shown : (v w : VectorState) → w.tree ≡ v.tree → All (λ (e : TreeElement ℕ). is_collectable floor e.stamps ≡ false) (units_of v)
          → All (λ (e : NamelessElement). has_collectable_removal floor e.stamps.dels ≡ false) (map shown_unit (units_of w))
      shown v w t h = All-from_recursion (λ (e : NamelessElement). has_collectable_removal floor e.stamps.dels ≡ false) (map shown_unit (units_of w))
          (map-all (λ (e : TreeElement ℕ). is_collectable floor e.stamps ≡ false) (λ (e : NamelessElement). has_collectable_removal floor e.stamps.dels ≡ false)
          shown_unit (λ e g. g) (units_of w)
          (subst (λ (x : TreeState HandleRun). AllByRecursion (λ (e : TreeElement ℕ). is_collectable floor e.stamps ≡ false) (vector_elements x)) (sym t)
          (recursion_from_All (λ (e : TreeElement ℕ). is_collectable floor e.stamps ≡ false) (units_of v) h)))

  module _ (last : ℕ) (doc : Document) (stages : List Stage) (h : Holds last old doc stages)
      (gone-rows : All (λ (e : TreeElement ℕ). is_in_runs rr e.unit ≡ false) (units_of mid.rows))
      (gone-cols : All (λ (e : TreeElement ℕ). is_in_runs rc e.unit ≡ false) (units_of mid.cols)) where
    hu : HoldsUnits doc.rows.items doc.cols.items doc.cells (units_of old.rows) (units_of old.cols) old.cells
    hu = units last old doc stages sound h

    unheld-row : (a : ElementId)
        → list_any (is_place (rank (has_id a) (λ _. true) doc.rows.items))
        (map (λ (t : IndexedStage). t.places.first) (map (shown_stage old.rows old.cols) old.stages.items)) ≡ false
        → list_any (stage_holds_row a) stages ≡ false
    unheld-row a e = row-unheld doc a stages
        (ap (λ ss. list_any (is_place (rank (has_id a) (λ _. true) doc.rows.items)) (map (λ (t : IndexedStage). t.places.first) ss)) h.holds.stages ∙ e)

    unheld-col : (a : ElementId)
        → list_any (is_place (rank (has_id a) (λ _. true) doc.cols.items))
        (map (λ (t : IndexedStage). t.places.second) (map (shown_stage old.rows old.cols) old.stages.items)) ≡ false
        → list_any (stage_holds_col a) stages ≡ false
    unheld-col a e = col-unheld doc a stages
        (ap (λ ss. list_any (is_place (rank (has_id a) (λ _. true) doc.cols.items)) (map (λ (t : IndexedStage). t.places.second) ss)) h.holds.stages ∙ e)

    kr : KeptUnits floor last (λ i. list_any (stage_holds_row i) stages) old.rows mid.rows doc.rows
    kr = kept-units floor last rr old.rows mid.rows sr doc.rows h.named.rows h.holds.rows
        (map (λ (t : IndexedStage). t.places.first) (map (shown_stage old.rows old.cols) old.stages.items)) free.rows
        (λ i. list_any (stage_holds_row i) stages) unheld-row

    kc : KeptUnits floor last (λ i. list_any (stage_holds_col i) stages) old.cols mid.cols doc.cols
    kc = kept-units floor last rc old.cols mid.cols sc doc.cols h.named.cols h.holds.cols
        (map (λ (t : IndexedStage). t.places.second) (map (shown_stage old.rows old.cols) old.stages.items)) free.cols
        (λ i. list_any (stage_holds_col i) stages) unheld-col

    value-kept : (r c : ℕ) → is_in_runs rr r ≡ false → is_in_runs rc c ≡ false → handle_value old.cells r c ≡ handle_value new.cells r c
    value-kept r c e f = sym (ap acked_value (cells-now r c ∙ ap (λ b. cond b empty_cell (cond (is_in_runs rr r) empty_cell (cell_at old.cells r c))) f
        ∙ ap (λ b. cond b empty_cell (cell_at old.cells r c)) e))

    row-kept : (a : ElementId) (r : ℕ) → RowHolds doc.cols.items (units_of old.cols) doc.cells old.cells a r → is_in_runs rr r ≡ false
        → RowHolds kc.items (units_of mid.cols) doc.cells new.cells a r
    row-kept a r q e = beside-more (λ y d z. (z.0.0, z.0.1 ∙ value-kept r d.unit e z.1))
        (beside-also (λ (d : TreeElement ℕ). is_in_runs rc d.unit ≡ false)
        (recursion_from_All (λ (d : TreeElement ℕ). is_in_runs rc d.unit ≡ false) (units_of mid.cols) gone-cols)
        (kc.carries (λ b g. cell_value a b doc.cells ≡ handle_value old.cells r g) q))

    mid-units : HoldsUnits kr.items kc.items doc.cells (units_of mid.rows) (units_of mid.cols) new.cells
    mid-units = record {
      rows = beside-more (λ x e q. (q.0.0, row-kept (id x) e.unit q.0.1 q.1))
          (beside-also (λ (e : TreeElement ℕ). is_in_runs rr e.unit ≡ false)
          (recursion_from_All (λ (e : TreeElement ℕ). is_in_runs rr e.unit ≡ false) (units_of mid.rows) gone-rows)
          (kr.carries (RowHolds doc.cols.items (units_of old.cols) doc.cells old.cells) hu.rows));
      cols = beside-more (λ x e q. q.0) (kc.carries (λ a g. Unit {0}) (beside-more (λ x e u. (u, tt)) hu.cols));
    }

    new-units : HoldsUnits kr.items kc.items doc.cells (units_of new.rows) (units_of new.cols) new.cells
    new-units = subst (λ t. HoldsUnits kr.items kc.items doc.cells (vector_elements t) (units_of new.cols) new.cells) (sym rows-tree)
        (subst (λ t. HoldsUnits kr.items kc.items doc.cells (units_of mid.rows) (vector_elements t) new.cells) (sym cols-tree) mid-units)

    rows-move : Moves doc.rows.items (units_of old.rows) kr.items (units_of new.rows)
    rows-move = subst (λ t. Moves doc.rows.items (units_of old.rows) kr.items (vector_elements t)) (sym rows-tree)
        (step-moves last doc.rows old.rows mid.rows kr.items h.named.rows sound.rows.proper (rows-beside hu) (record { carries = λ P f b. kr.carries P b }))

    cols-move : Moves doc.cols.items (units_of old.cols) kc.items (units_of new.cols)
    cols-move = subst (λ t. Moves doc.cols.items (units_of old.cols) kc.items (vector_elements t)) (sym cols-tree)
        (step-moves last doc.cols old.cols mid.cols kc.items h.named.cols sound.cols.proper hu.cols (record { carries = λ P f b. kc.carries P b }))

    -- the document that is kept
    abbrev kept_document : Document
    kept_document = record doc { rows = record (doc.rows) { items = kr.items }; cols = record (doc.cols) { items = kc.items } }

    kept-held : HoldsGrid (grid_state new 0 true) kept_document stages
    kept-held = record {
      rows = beside-units (rows-beside new-units);
      cols = beside-units new-units.cols;
      rows_made = h.holds.rows_made ∙ sym (ap (λ (x : Grid). x.rows_made) fc.rest ∙ ap (λ (x : Grid). x.rows_made) fr.rest ∙ ap (λ (x : Grid). x.rows_made) same);
      cols_made = h.holds.cols_made ∙ sym (ap (λ (x : Grid). x.cols_made) fc.rest ∙ ap (λ (x : Grid). x.cols_made) fr.rest ∙ ap (λ (x : Grid). x.cols_made) same);
      cells = units-held kept_document new.rows new.cols new.cells new-units;
      stages = stages-move doc kept_document old.rows old.cols new.rows new.cols rows-move cols-move stages old.stages.items h.named.stages h.holds.stages
          ∙ ap (map (shown_stage new.rows new.cols)) (sym items-same);
    }

    pub compacted-kept : HoldsKept floor (grid_state new 0 true) doc stages
    compacted-kept = record { kept = kept_document; keeps = record { rows = kr.keeps; cols = kc.keeps; rest = refl }; holds = kept-held }

pub compacts-grid : (floor : ℕ) (rr rc : List HandleRun) (old mid half new : Grid) → IsSound old → AreFreeUnits floor (grid_state old 0 true)
    → mid ≡ record old { rows = mid.rows; cols = mid.cols } → ScoursUnits floor rr old.rows mid.rows → ScoursUnits floor rc old.cols mid.cols
    → IsSoundVector mid.rows → IsSoundVector mid.cols → FreesUnits Rows (is_in_runs rr) mid half → FreesUnits Cols (is_in_runs rc) half new
    → CompactsGrid floor old new
compacts-grid floor rr rc old mid half new sound free same sr sc vr vc fr fc = record {
  sound = compacted-sound floor rr rc old mid half new sound free same sr sc vr vc fr fc;
  floor = compacted-floor floor rr rc old mid half new sound free same sr sc vr vc fr fc;
  kept = λ last doc stages h. compacted-kept floor rr rc old mid half new sound free same sr sc vr vc fr fc last doc stages h
      (are-gone floor rr old.rows mid.rows sr sound.rows.proper).gone (are-gone floor rc old.cols mid.cols sc sound.cols.proper).gone;
}

-- the given stage and use are no part of it
pub restate-kept : (floor : ℕ) (g : Grid) (n m : ℕ) (b c : Bool) (doc : Document) (stages : List Stage) → HoldsKept floor (grid_state g n b) doc stages
    → HoldsKept floor (grid_state g m c) doc stages
restate-kept floor g n m b c doc stages h = record { kept = h.kept; keeps = h.keeps; holds = restate g n m b c h.kept stages h.holds }
